use Rattle.xm_files.proofs.LaterFiles.{later-file, own-file}
use Rattle.xm_files.proofs.laws.later_files_give_what_they_give_alone.Goals as goal

pub returns-clause-same : goal.returns-clause-same
returns-clause-same c = later-file

pub returns-clause-fault : goal.returns-clause-fault
returns-clause-fault c = own-file
