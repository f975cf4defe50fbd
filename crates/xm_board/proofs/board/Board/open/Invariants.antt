use Rattle.std.proofs.Common.{◌≡◌, ℕ, [], length, Some}
use Rattle.std.specs.Prelude.{slice_get, vec_len, vec_capacity}
use Rattle.xm_board.specs.Rule.{numbered}
use Rattle.xm_board.specs.Journals.{opening_of, known_by}
use Rattle.xm_board.specs.declared.watch.Known.{Known}
use Rattle.xm_board.proofs.board.Board.open.Given as goal

abbrev pub invariant-loop-number : goal.invariant-loop-number
invariant-loop-number g l =
    (l.seat.table_id ≡ g.N.BoardNaming.table) × (l.seat.me.0 ≡ numbered l.fn.opened.settings l.number) × (vec_capacity l.row ≡ l.fn.watches) × (vec_len l.row ≡ l.number) × (length l.row.items ≡ l.number)
    × ((k : ℕ) (w : Known) → slice_get l.row.items k ≡ Some w → w ≡ known_by k (opening_of l.fn.opened.settings) [])
