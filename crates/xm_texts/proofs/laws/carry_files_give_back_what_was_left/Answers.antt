use Rattle.xm_texts.proofs.CarriedBack.{carried-back}
use Rattle.xm_texts.proofs.laws.carry_files_give_back_what_was_left.Goals as goal

pub returns : goal.returns
returns c = carried-back
