use Rattle.std.proofs.Common.{◌≡◌, map, take}
use Rattle.xm_explanations.specs.Explained.{bytes_read}
use Rattle.xm_explanations.specs.declared.read_files.ReadFile.{ReadFile}
use Rattle.xm_explanations.proofs.running.texts_of.Given as goal

abbrev pub invariant-loop-file : goal.invariant-loop-file
invariant-loop-file l = map (λ t. t.now) l.texts.items ≡ map (λ (file : ReadFile). bytes_read file.text) (take l.file-index l.files)
