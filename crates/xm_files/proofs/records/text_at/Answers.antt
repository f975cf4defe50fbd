use Rattle.csv.specs.Records.{fields_of}
use Rattle.xm_files.proofs.CsvFields.{no-field, some-field}
use Rattle.xm_files.proofs.records.text_at.Goals as goal

pub returns-in-Some : goal.returns-in-Some
returns-in-Some c = some-field (fields_of c.args.row.now) c.args.place c.in-Some.text.now c.in-Some.ensures.value

pub returns-in-None : goal.returns-in-None
returns-in-None c = no-field (fields_of c.args.row.now) c.args.place c.in-None.ensures.value
