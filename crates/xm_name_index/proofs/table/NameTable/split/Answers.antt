use Rattle.std.proofs.Common.{rules, ◌≡◌, ◌+◌, ◌++◌, ◌∷◌, [], List, length, subst, sym, ap, ◌∙◌}
use Rattle.xm_name_index.specs.Tables.{TableView}
use Rattle.xm_name_index.specs.declared.slot.Slot.{Slot}
use Rattle.xm_name_index.proofs.Splitting.{AreParts, more-parts, split-keys, split-placed}
use Rattle.xm_name_index.proofs.table.NameTable.split.Goals as goal

pub loop-index-preserved : goal.loop-index-preserved
loop-index-preserved g c =
    let t : TableView = record { buckets = c.self.inside.buckets.items; seed = c.self.inside.seed.value } in
    let old = c.loop-index.buckets.items in
    let items : c.push_reserved-in-loop-index.new.self.items ≡ (old ++ c.part.result ∷ []) ++ c.part-in-loop-index.result ∷ [] =
    c.push_reserved-in-loop-index.ensures.items ∙ ap (λ (l : List (List Slot)). l ++ c.part-in-loop-index.result ∷ []) c.push_reserved.ensures.items in
    record {
      parts = subst (λ (l : List (List Slot)). AreParts t l (c.loop-index.index + 1)) (sym items)
          (more-parts t old c.loop-index.index c.part.result c.part-in-loop-index.result c.loop-index.invariant.parts (rw (← c.self.view_is) at c.part.ensures) (rw (← c.self.view_is) at c.part-in-loop-index.ensures));
      room = search rules;
    }

pub invariant_of-self : goal.invariant_of-self
invariant_of-self g c =
    let t : TableView = record { buckets = c.self.inside.buckets.items; seed = c.self.inside.seed.value } in
    let some = rw (← c.self.view_is) at c.requires.few in
    let all : c.loop-index.index ≡ length t.buckets = search rules in
    split-placed t c.loop-index.buckets.items (subst (AreParts t c.loop-index.buckets.items) all c.loop-index.invariant.parts) some

pub returns-clause-keys : goal.returns-clause-keys
returns-clause-keys g c r =
    let t : TableView = record { buckets = c.self.inside.buckets.items; seed = c.self.inside.seed.value } in
    let some = rw (← c.self.view_is) at c.requires.few in
    let all : c.loop-index.index ≡ length t.buckets = search rules in
    rw (← c.self.view_is)
    (split-keys t c.loop-index.buckets.items (subst (AreParts t c.loop-index.buckets.items) all c.loop-index.invariant.parts) r)
