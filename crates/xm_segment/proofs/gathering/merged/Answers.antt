use Rattle.std.proofs.Common.{rules, ◌≡◌, ◌+◌, ◌∷◌, ◌∙◌, [], List, Option, ap, arith, length, sym, subst}
use Rattle.std.specs.Vec.Iter.{into_iter_items}
use Rattle.xm_board.specs.declared.journal.NumberedJournal.{NumberedJournal}
use Rattle.xm_segment.proofs.Lanes.{added-fit, nothing-fits, nothing-there}
use Rattle.xm_segment.proofs.Telling.{EachIn, each-at, none-there}
use Rattle.xm_segment.specs.Gathering.{sums_from}
use Rattle.xm_segment.specs.Ledgers.{FitLanes, SharedRow, Sums, added, nothing_counted}
use Rattle.xm_segment.specs.Seats.{SeatView}
use Rattle.xm_segment.specs.Unlocked.{ArePartsIn}
use Rattle.xm_segment.specs.Watches.{RowView}
use Rattle.xm_segment.proofs.gathering.merged.Goals as goal

pub loop-seat-init : goal.loop-seat-init
loop-seat-init g c =
    let settings = g.S.Naming.settings in
    let left : into_iter_items c.into_iter-seat-iterator.result ≡ c.args.seats.items = search rules in
    let parts = ap (λ (r : SharedRow). r.parts) c.requires.own in
    let sums = ap (λ (r : SharedRow). r.sums) c.requires.own in
    record {
      sums = (λ i. sums_from (sums i) (left i));
      parts = (λ i. parts i + length (left i));
      apart = omega (arith, parts);
      fit = subst (FitLanes settings) (sym sums) (nothing-fits settings nothing_counted nothing-there c.requires.few);
      lanes = search rules;
      told = λ each. subst (EachIn (λ (seat : SeatView). ArePartsIn c.args.lanes.now seat.row.watches)) left each;
    }

pub loop-seat-preserved : goal.loop-seat-preserved
loop-seat-preserved g c =
    let settings = g.S.Naming.settings in
    let was = c.loop-seat.invariant in
    let given = c.into_parts-shares.ensures in
    let left : into_iter_items c.loop-seat.seat-iterator ≡ c.in-Some.seat ∷ into_iter_items c.next.new.self = search rules in
    let mine = ap (λ (r : SharedRow). r.sums) given.shares in
    let one = ap (λ (r : SharedRow). r.parts) given.shares in
    let merged = ap (λ (r : SharedRow). r.sums) c.merge.ensures.merged ∙ ap (added c.loop-seat.all.sums) mine in
    let parts = ap (λ (r : SharedRow). r.parts) c.merge.ensures.merged in
    let row = ap (λ (r : RowView). r.watches) given.row in
    let told : ArePartsIn c.args.lanes.now c.in-Some.seat.row.watches = subst (λ (js : List (Option NumberedJournal)). ArePartsIn js c.in-Some.seat.row.watches) was.lanes (subst (ArePartsIn c.loop-seat.lanes) row c.tell.ensures.parts) in
    record {
      sums = ap (λ (ss : List Sums). sums_from ss (into_iter_items c.next.new.self)) merged ∙ sym (ap (sums_from c.loop-seat.all.sums) left) ∙ was.sums;
      parts = omega (arith, parts, one, ap (λ (ss : List SeatView). length ss) left, was.parts);
      apart = c.merge.ensures.apart;
      fit = subst (FitLanes settings) (sym merged) (added-fit settings c.loop-seat.all.sums c.in-Some.seat.sums was.fit given.fit);
      lanes = c.tell.ensures.same ∙ was.lanes;
      told = λ each. was.told (subst (EachIn (λ (seat : SeatView). ArePartsIn c.args.lanes.now seat.row.watches)) (sym left) (told, each));
    }

pub returns-clause-parts : goal.returns-clause-parts
returns-clause-parts g c = λ i seat at.
    let part : SeatView → Type 0 = λ s. ArePartsIn c.args.lanes.now s.row.watches in
    let left = into_iter_items c.loop-seat.seat-iterator in
    let none : length left ≡ 0 = search (rules, arith) in
    let empty : left ≡ [] = none-there left none in
    each-at part c.args.seats.items (c.loop-seat.invariant.told (subst (EachIn part) (sym empty) tt)) i seat at
