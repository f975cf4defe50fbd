use Rattle.xm_board.proofs.OwnEntries.{apart}
use Rattle.xm_board.proofs.laws.watches_of_two_numbers_share_no_own_entry.Goals as goal

pub returns : goal.returns
returns c = apart
