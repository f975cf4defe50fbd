use Rattle.xm_files.proofs.RowLines.{lines-within}
use Rattle.xm_files.proofs.laws.rows_stand_in_their_file.Goals as goal

pub returns : goal.returns
returns c = lines-within
