use Rattle.std.proofs.Common.{◌≡◌, length}
use Rattle.xm_files.proofs.InParts.{LinesRead}
use Rattle.xm_files.specs.Plain.{IsBehind, rest_of}
use Rattle.xm_files.proofs.file_parts.add_lines_to.Given as goal

abbrev pub invariant-loop-batch : goal.invariant-loop-batch
invariant-loop-batch l = record {
  read : LinesRead l.names l.config l.fn.format l.text l.first (rest_of l.marks) l.line l.batch.rows;
  text : l.marks.text ≡ l.text;
  behind : IsBehind 10 l.marks;
  format : l.fields.format ≡ l.fn.format;
}

abbrev pub decreases-loop-batch : goal.decreases-loop-batch
decreases-loop-batch l = length (rest_of l.marks)
