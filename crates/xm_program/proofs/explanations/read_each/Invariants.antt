use Rattle.std.proofs.Common.{◌≡◌, ◌≤◌, length, map, take}
use Rattle.xm_explanations.specs.declared.read_files.ReadFile.{ReadFile}
use Rattle.xm_program.proofs.explanations.read_each.Given as goal

abbrev pub invariant-loop-path : goal.invariant-loop-path
invariant-loop-path g l = record {
  sized : length l.files.items ≡ l.path-index;
  few : length l.path-items ≤ 256;
  so_far : map (λ (file : ReadFile). file.path.now) l.files.items ≡ map (λ s. s.now) (take l.path-index l.path-items);
}
