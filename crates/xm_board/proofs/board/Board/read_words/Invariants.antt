use Rattle.std.proofs.Common.{◌≡◌, length}
use Rattle.xm_board.specs.Published.{words_of}
use Rattle.xm_board.specs.Rule.{AreReadWords}
use Rattle.xm_board.specs.declared.seats.Role.TheVariants.{Watch}
use Rattle.xm_board.proofs.board.Board.read_words.Given as goal

abbrev pub invariant-loop-i : goal.invariant-loop-i
invariant-loop-i g l = (l.seat.table_id ≡ l.initial.seat.table_id) × (l.seat.me.0.role ≡ Watch) × (length l.words ≡ 7) × AreReadWords words_of l.i l.words l.initial.seat.me.0 l.seat.me.0
