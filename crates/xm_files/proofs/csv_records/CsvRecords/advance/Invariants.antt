use Rattle.std.proofs.Common.{◌-◌, ◌≤◌}
use Rattle.xm_files.proofs.Advances.{IsAdvanced}
use Rattle.xm_files.proofs.csv_records.CsvRecords.advance.Given as goal

abbrev pub invariant-records : goal.invariant-records
invariant-records l = record {
  advanced : IsAdvanced l.initial.self l.self;
  within : l.self.line ≤ l.line;
}

abbrev pub decreases-records : goal.decreases-records
decreases-records l = l.line - l.self.line
