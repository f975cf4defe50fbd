use Rattle.std.proofs.Common.{◌≡◌, ◌≤◌, ◌-◌, All, length}
use Rattle.xm_csv_mistakes.specs.declared.found.FoundRecord.{FoundRecord}
use Rattle.xm_csv_mistakes.proofs.found.find_records.Given as goal

abbrev pub invariant-loop-number : goal.invariant-loop-number
invariant-loop-number l = record {
  each : length l.found.items ≡ l.number-index;
  files : All (λ (place : FoundRecord). place.file ≤ length l.files - 1) l.found.items;
}
