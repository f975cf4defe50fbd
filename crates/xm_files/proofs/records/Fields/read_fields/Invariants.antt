use Rattle.std.proofs.Common.{◌≡◌, length, map}
use Rattle.xm_files.proofs.Formats.{Begun, text_of}
use Rattle.xm_files.specs.Plain.{rest_of}
use Rattle.xm_files.specs.Rows.{HasNoOthers, columns_of}
use Rattle.xm_files.proofs.records.Fields.read_fields.Given as goal

abbrev pub invariant-loop-place : goal.invariant-loop-place
invariant-loop-place l = record {
  text : l.line.text ≡ l.fn.line.text;
  format : l.self-inside.format ≡ l.fn.format;
  size : length l.self-inside.texts ≡ 13;
  others : HasNoOthers (columns_of l.fn.format) (map text_of l.self-inside.texts);
  read : Begun l.fn.format (rest_of l.fn.line) l.self-inside.texts l.place (rest_of l.line);
}
