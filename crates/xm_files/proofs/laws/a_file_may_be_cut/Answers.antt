use Rattle.xm_files.proofs.CutFiles.{cut-file}
use Rattle.xm_files.proofs.laws.a_file_may_be_cut.Goals as goal

pub returns : goal.returns
returns c = cut-file
