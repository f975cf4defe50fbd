use Rattle.std.proofs.Common.{◌<◌, ◌≤◌, ◌∙◌, List, Option, ap, arith, get_or, length, subst, sym}
use Rattle.std.specs.Prelude.{slice_set}
use Rattle.std.proofs.lemmas.List.{take_all}
use Rattle.std.proofs.lemmas.List.Edits.{map_over_more}
use Rattle.xm_board.specs.declared.journal.NumberedJournal.{NumberedJournal}
use Rattle.xm_segment.proofs.Telling.{EachIn, each-at, each-more, still-there}
use Rattle.xm_segment.specs.Unlocked.{ArePartsIn, told_by}
use Rattle.xm_segment.specs.Watches.{RowView}
use Rattle.xm_segment.proofs.gathering.tell_all.Goals as goal

pub loop-row-preserved : goal.loop-row-preserved
loop-row-preserved g c =
    let at = c.loop-row in
    let was = at.invariant in
    let i = at.row-index in
    let row = c.row-item.result in
    let rows = c.args.rows.now in
    let tell = told_by c.args.lanes.now in
    let part : RowView → Type 0 = λ r. ArePartsIn c.args.lanes.now r.watches in
    let within : i < length rows = omega arith in
    let same = still-there tell rows at.rows i row within was.told in
    let told = c.tell.ensures.told ∙ (λ k. told_by (was.lanes k) (sym c.row-item.is k)) in
    record {
      lanes = c.tell.ensures.same ∙ was.lanes;
      parts = each-more part rows i row within was.parts (subst part same (subst (λ (js : List (Option NumberedJournal)). ArePartsIn js (get_or at.rows i row).watches) was.lanes c.tell.ensures.parts));
      told = ap (λ (r : RowView). slice_set at.rows i r) told ∙ map_over_more tell rows at.rows i row within was.told c.row-item.is;
    }

pub returns-clause-parts : goal.returns-clause-parts
returns-clause-parts g c =
    let part : RowView → Type 0 = λ r. ArePartsIn c.args.lanes.now r.watches in
    let all : length c.args.rows.now ≤ c.loop-row.row-index = omega arith in
    each-at part c.args.rows.now (subst (EachIn part) (take_all c.loop-row.row-index c.args.rows.now all) c.loop-row.invariant.parts)
