use Rattle.std.proofs.Common.{rules, ◌≡◌, ◌++◌, ◌∷◌, [], All, List, false, ap, append_assoc, map, sym, subst, ◌∙◌}
use Rattle.std.specs.Vec.Iter.{into_iter_items}
use Rattle.std.proofs.lemmas.List.Elements.{All-cons}
use Rattle.xm_threads.specs.Lanes.{LaneView}
use Rattle.xm_rules.specs.Step.{Journal}
use Rattle.xm_threads.proofs.lanes.into_desks.Goals as goal

pub loop-lane-preserved : goal.loop-lane-preserved
loop-lane-preserved c =
    let rest = into_iter_items c.next.new.self in
    let lane = c.in-Some.lane in
    let desk = c.in_ok-into_desk.field-0 in
    let desks = c.loop-lane.desks.items in
    let left : into_iter_items c.loop-lane.lane-iterator ≡ lane ∷ rest = search rules in
    let pushed : c.push.new.self.items ≡ desks ++ desk ∷ [] = search rules in
    let journals = (λ (ls : List LaneView). map (λ (l : LaneView). l.journal) ls) in
    record {
      desks =
          ap (λ (ds : List Journal). ds ++ journals rest) pushed ∙ append_assoc desks (desk ∷ []) (journals rest)
          ∙ ap (λ (j : Journal). desks ++ j ∷ journals rest) c.in_ok-into_desk.ensures.desk ∙ ap (λ (ls : List LaneView). desks ++ journals ls) (sym left) ∙ c.loop-lane.invariant.desks;
      had_memory = λ all. c.loop-lane.invariant.had_memory (subst (All (λ (l : LaneView). l.lacks_memory ≡ false)) (sym left) (All-cons (λ (l : LaneView). l.lacks_memory ≡ false) lane rest c.in_ok-into_desk.ensures.had_memory all));
    }
