use Rattle.xm_files.proofs.CutFiles.{lone-fault, lone-rows}
use Rattle.xm_files.proofs.laws.a_lone_file_is_a_day.Goals as goal

pub returns-clause-rows : goal.returns-clause-rows
returns-clause-rows c = lone-rows

pub returns-clause-fault : goal.returns-clause-fault
returns-clause-fault c = lone-fault
