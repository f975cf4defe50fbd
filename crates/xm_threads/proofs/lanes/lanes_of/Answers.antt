use Rattle.std.proofs.Common.{rules, ◌≡◌, ◌++◌, ◌∷◌, [], List, ap, append_assoc, map, sym, ◌∙◌}
use Rattle.std.specs.Vec.Iter.{into_iter_items}
use Rattle.xm_threads.specs.Lanes.{LaneView, fresh_lane}
use Rattle.xm_rules.specs.Step.{Journal}
use Rattle.xm_threads.proofs.lanes.lanes_of.Goals as goal

pub loop-desk-preserved : goal.loop-desk-preserved
loop-desk-preserved c =
    let rest = into_iter_items c.next.new.self in
    let lanes = c.loop-desk.lanes.items in
    let left : into_iter_items c.loop-desk.desk-iterator ≡ c.in-Some.desk ∷ rest = search rules in
    let pushed : c.push.new.self.items ≡ lanes ++ c.of.result ∷ [] = search rules in
    ap (λ (ls : List LaneView). ls ++ map (fresh_lane c.args.asked) rest) pushed ∙ append_assoc lanes (c.of.result ∷ []) (map (fresh_lane c.args.asked) rest)
    ∙ ap (λ (l : LaneView). lanes ++ l ∷ map (fresh_lane c.args.asked) rest) c.of.ensures ∙ ap (λ (js : List Journal). lanes ++ map (fresh_lane c.args.asked) js) (sym left) ∙ c.loop-desk.invariant
