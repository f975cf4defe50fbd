use Rattle.std.proofs.Common.{◌≡◌, length, map, take}
use Rattle.csv.specs.Records.{fields_of}
use Rattle.xm_files.proofs.Formats.{in_order, text_of}
use Rattle.xm_files.specs.Rows.{HasNoOthers, columns_of}
use Rattle.xm_files.proofs.records.Fields.of.Given as goal

abbrev pub invariant-loop-place : goal.invariant-loop-place
invariant-loop-place l = record {
  size : length l.texts ≡ 13;
  others : HasNoOthers (columns_of l.format) (map text_of l.texts);
  read : in_order (take l.place (columns_of l.format)) l.texts ≡ take l.place (fields_of l.row);
}
