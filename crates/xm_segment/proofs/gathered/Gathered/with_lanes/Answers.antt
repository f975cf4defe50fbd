use Rattle.std.proofs.Common.{◌∙◌, List, Option, ap, map, sym, subst}
use Rattle.xm_board.specs.declared.journal.NumberedJournal.{NumberedJournal}
use Rattle.xm_segment.proofs.Telling.{parts-in, rows-told}
use Rattle.xm_segment.specs.Gathering.{EachGathered}
use Rattle.xm_segment.specs.Ledgers.{SharedRow, Sums}
use Rattle.xm_segment.specs.Unlocked.{ArePartsIn, journals_in, told_by}
use Rattle.xm_segment.proofs.gathered.Gathered.with_lanes.Goals as goal

pub returns-clause-all : goal.returns-clause-all
returns-clause-all g c =
    let sums = ap (λ (r : SharedRow). r.sums) c.merged-shares.ensures.all in
    (subst (λ (ss : List Sums). EachGathered g.S.Naming.settings ss c.with_desks.result.desks.items) sums c.with_desks.ensures.each, c.merged-shares.ensures.fit)

pub returns-clause-history : goal.returns-clause-history
returns-clause-history g c =
    let settings = g.S.Naming.settings in
    let lanes = c.tell_all.new.lanes in
    let filled = c.with_desks.ensures.filled in
    let told = c.tell_all.ensures.lanes in
    let merged = c.merged-shares.ensures.lanes in
    record {
      journals = journals_in lanes;
      published = sym c.with_desks.ensures.desks;
      of_seats = λ i seat at. parts-in 0 settings lanes seat.row.watches filled (subst (λ (js : List (Option NumberedJournal)). ArePartsIn js seat.row.watches) (sym (told ∙ merged)) (c.merged-shares.ensures.parts i seat at));
      of_rows = λ i row at. parts-in 0 settings lanes row.watches filled (subst (λ (js : List (Option NumberedJournal)). ArePartsIn js row.watches) (sym told) (c.tell_all.ensures.parts i row at));
    }

pub returns-clause-told : goal.returns-clause-told
unfolding returns-clause-history
returns-clause-told g c =
    let lanes = c.tell_all.new.lanes in
    let same = c.tell_all.ensures.lanes in
    record {
      history = returns-clause-history g c;
      told = c.tell_all.ensures.told ∙ ap (λ (js : List (Option NumberedJournal)). map (told_by js) c.args.rows.now) (sym same)
          ∙ rows-told g.S.Naming.settings lanes c.args.rows.now c.with_desks.ensures.filled (λ i row at. subst (λ (js : List (Option NumberedJournal)). ArePartsIn js row.watches) (sym same) (c.tell_all.ensures.parts i row at));
    }
