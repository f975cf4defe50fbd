use Rattle.std.proofs.Common.{◌≡◌, ◌++◌, ◌∷◌, [], Bool, true, is_some, ℕ, List, Some, ap, sym, ◌∙◌}
use Rattle.xm_config.specs.Day.{answer_on}
use Rattle.xm_rules.specs.Step.{replay}
use Rattle.xm_texts.proofs.Then.{ok-then}
use Rattle.xm_texts.specs.RowEvents.{row_events}
use Rattle.xm_threads.proofs.Merging.{asks-events, kept-own, lane-answered}
use Rattle.xm_threads.specs.KeptRows.{KeptRow}
use Rattle.xm_threads.specs.Lanes.{LaneView, asks_any, if_asked, lane_after, own_kept}
use Rattle.xm_threads.proofs.lanes.DeskLane.answer_with_events.Goals as goal

pub returns : goal.returns
returns c =
    let old = c.self.inside in
    let names = c.args.names.now in
    let row = c.args.row.now in
    let next = c.take_told-answer.new.desk in
    let did = c.in_ok-answer.ensures in
    let l : LaneView = record { asked = old.asked; journal = old.desk; kept = old.kept; lacks_memory = is_some old.wanting } in
    let asks : asks_any old.asked ≡ true = asks-events old.asked (ap (λ (v : LaneView). v.asked.events) c.self.view_is ∙ c.requires) in
    let lines = row_events names row (answer_on row (Some (replay old.desk))) (Some (replay old.desk)) in
    ok-then c.push.result c.push.ensures
    (λ pushed.
    lane-answered names row l next c.push.new.self did.after
    (pushed
    ∙ ap (λ (kept : KeptRow). old.kept ++ kept ∷ [])
    (kept-own old.asked names row old.desk next _ old.shown c.show.new.shown _ did.answer did.after c.self.invariant c.show.ensures
    (ap (if_asked old.asked.events) (c.as_slice.ensures.value ∙ did.told ∙ ap (λ (text : List ℕ). text ++ lines) c.clear.ensures.items)))
    ∙ sym (ap (λ (b : Bool). old.kept ++ if_asked b (own_kept old.asked names old.desk row ∷ [])) asks))
    ∙ ap (λ (v : LaneView). lane_after names v row) c.self.view_is)

pub invariant_of-self-2 : goal.invariant_of-self-2
invariant_of-self-2 c = c.show.ensures

pub invariant_of-self : goal.invariant_of-self
invariant_of-self c = c.show.ensures
