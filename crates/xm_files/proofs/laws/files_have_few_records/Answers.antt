use Rattle.xm_files.proofs.FewRecords.{few-records-in}
use Rattle.xm_files.proofs.laws.files_have_few_records.Goals as goal

pub returns : goal.returns
returns c = few-records-in
