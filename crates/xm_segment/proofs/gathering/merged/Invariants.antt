use Rattle.std.proofs.Common.{◌≡◌, ◌+◌, ◌≤◌, length}
use Rattle.std.specs.Vec.Iter.{into_iter_items}
use Rattle.xm_segment.proofs.Telling.{EachIn}
use Rattle.xm_segment.specs.Gathering.{all_sums, sums_from}
use Rattle.xm_segment.specs.Ledgers.{FitLanes}
use Rattle.xm_segment.specs.Seats.{SeatView}
use Rattle.xm_segment.specs.Unlocked.{ArePartsIn}
use Rattle.xm_segment.proofs.gathering.merged.Given as goal

abbrev pub invariant-loop-seat : goal.invariant-loop-seat
invariant-loop-seat g l =
    let left = into_iter_items l.seat-iterator in
    record {
      sums : sums_from l.all.sums left ≡ all_sums l.fn.seats.items;
      parts : l.all.parts + length left ≡ 1 + length l.fn.seats.items;
      apart : l.all.parts ≤ g.S.Naming.workers + 1;
      fit : FitLanes g.S.Naming.settings l.all.sums;
      lanes : l.lanes ≡ l.initial.lanes;
      told : EachIn (λ (seat : SeatView). ArePartsIn l.initial.lanes seat.row.watches) left → EachIn (λ (seat : SeatView). ArePartsIn l.initial.lanes seat.row.watches) l.fn.seats.items;
    }
