use Rattle.std.proofs.Common.{◌≡◌, ℕ, ◌<◌, length, get_or}
use Rattle.xm_files.specs.InParts.{PartGives, LinesGive, last_bytes}
use Rattle.xm_files.specs.declared.file_parts.FilePart.{FilePart}
use Rattle.xm_files.proofs.file_parts.FileParts.read.Given as goal

abbrev pub invariant-loop-part : goal.invariant-loop-part
invariant-loop-part g l = record {
  parts : (k : ℕ) (d : FilePart) → k < length l.part-items → PartGives l.names l.config l.fn.format l.text (get_or l.part-items k d);
  lines : LinesGive l.names l.config l.fn.format l.text l.first (last_bytes l.left l.text) l.line l.batch.rows;
  earlier : l.batch.earlier ≡ l.initial.batch.earlier;
}
