use Rattle.std.proofs.Common.{rules}
use Rattle.xm_board.specs.Published.{IsPublished, words_of}
use Rattle.xm_board.proofs.Steps.{makes_watch}
use Rattle.xm_board.proofs.board.Board.make_watch.Goals as goal

pub split_seat-seat-requires : goal.split_seat-seat-requires
split_seat-seat-requires g c = (search rules, search rules, makes_watch IsPublished words_of 7 _ _ c.requires.seat.1)
