use Rattle.std.proofs.Common.{rules, ◌≡◌, ◌++◌, ◌∷◌, [], List, Box, Global, ap, append_assoc, map, ◌∙◌, sym}
use Rattle.std.specs.Vec.Iter.{into_iter_items}
use Rattle.std.proofs.lemmas.List.{map-append}
use Rattle.xm_rules.specs.Step.{Journal}
use Rattle.xm_segment.proofs.opened.boxed.Goals as goal

pub loop-desk-preserved : goal.loop-desk-preserved
loop-desk-preserved c =
    let value : Box Journal Global → Journal = λ desk. desk.value in
    let boxes = c.loop-desk.boxes.items in
    let place = c.in_ok-place.place in
    let rest = into_iter_items c.next.new.self in
    let left : into_iter_items c.loop-desk.desk-iterator ≡ c.in-Some.desk ∷ rest = search rules in
    let pushed : c.push_reserved.new.self.items ≡ boxes ++ place ∷ [] = search rules in
    let held : place.value ≡ c.in-Some.desk = search rules in
    record {
      all = ap (λ (bs : List (Box Journal Global)). map value bs ++ rest) pushed ∙ ap (λ (ds : List Journal). ds ++ rest) (map-append value boxes (place ∷ []))
          ∙ append_assoc (map value boxes) (place.value ∷ []) rest ∙ ap (λ (desk : Journal). map value boxes ++ desk ∷ rest) held
          ∙ ap (λ (ds : List Journal). map value boxes ++ ds) (sym left) ∙ c.loop-desk.invariant.all;
      room = search rules;
    }
