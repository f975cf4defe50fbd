use Rattle.std.proofs.Common.{rules}
use Rattle.xm_board.specs.Published.{IsPublished, words_of}
use Rattle.xm_board.proofs.Steps.{pen_shares, pen_shares_last}
use Rattle.xm_board.proofs.board.Board.share.Goals as goal

pub split_seat-requires : goal.split_seat-requires
split_seat-requires g c = (search rules, search rules, pen_shares_last IsPublished words_of 7 _ _ c.requires.1)

pub split_seat-requires-else-own : goal.split_seat-requires-else-own
split_seat-requires-else-own g c = (search rules, search rules, pen_shares IsPublished words_of 7 _ _ c.requires.1)
