use Rattle.std.proofs.Common.{rules, ◌≡◌, ◌++◌, ◌∷◌, [], Bool, true, false, is_some, ap, sym, ◌∙◌}
use Rattle.xm_texts.proofs.Then.{ok-then}
use Rattle.xm_threads.proofs.Merging.{kept-own, kept-unasked, lane-answered}
use Rattle.xm_threads.specs.KeptRows.{KeptRow}
use Rattle.xm_threads.specs.Lanes.{LaneView, asks_any, if_asked, lane_after, own_kept}
use Rattle.xm_threads.proofs.lanes.DeskLane.answer_and_keep.Goals as goal

pub returns : goal.returns
returns c =
    let old = c.self.inside in
    let names = c.args.names.now in
    let row = c.args.row.now in
    let next = c.answer.new.self in
    let did = c.in_ok-answer.ensures in
    let l : LaneView = record { asked = old.asked; journal = old.desk; kept = old.kept; lacks_memory = is_some old.wanting } in
    let asks : asks_any old.asked ≡ true = ap (λ (v : LaneView). asks_any v.asked) c.self.view_is ∙ c.requires in
    let none : old.asked.events ≡ false = search rules in
    ok-then c.push.result c.push.ensures
    (λ pushed.
    lane-answered names row l next c.push.new.self did.after
    (pushed
    ∙ ap (λ (kept : KeptRow). old.kept ++ kept ∷ [])
    (kept-own old.asked names row old.desk next _ old.shown c.show.new.shown [] did.answer did.after c.self.invariant c.show.ensures
    (kept-unasked old.asked.events [] _ none))
    ∙ sym (ap (λ (b : Bool). old.kept ++ if_asked b (own_kept old.asked names old.desk row ∷ [])) asks))
    ∙ ap (λ (v : LaneView). lane_after names v row) c.self.view_is)
