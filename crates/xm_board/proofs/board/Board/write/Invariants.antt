use Rattle.std.proofs.Common.{◌≡◌}
use Rattle.xm_board.specs.Journals.{grown}
use Rattle.xm_board.specs.Rule.{with_stage}
use Rattle.xm_board.specs.declared.seats.Stage.TheVariants.{Writing}
use Rattle.xm_board.proofs.board.Board.write.Given as goal

abbrev pub invariant-loop-i : goal.invariant-loop-i
invariant-loop-i g l = (l.seat.table_id ≡ l.fn.seat.table_id) × (l.seat.me.0 ≡ with_stage l.fn.seat.me.0 (Writing (grown l.fn.seat.me.0.seen l.fn.entry) l.i))
