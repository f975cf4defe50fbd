use Rattle.std.proofs.Common.{rules, ◌≡◌, ℕ, ◌+◌, ◌++◌, List, [], ◌∷◌, Some, take, slice_get, sym, ap, ◌∙◌}
use Rattle.std.proofs.lemmas.List.{append_assoc}
use Rattle.xm_name_index.proofs.Listed.{taken-more}
use Rattle.xm_name_index.proofs.member_names.list_rest.Goals as goal

pub loop-index-preserved : goal.loop-index-preserved
loop-index-preserved g c =
    let rest = c.args.rest.now.entries in
    let own : ℕ × ℕ = (c.unwrap.result.0.now, c.unwrap.result.1.now) in
    let here : slice_get rest c.loop-index.index ≡ Some own = search rules in
    let taken = taken-more rest c.loop-index.index own here in
    let pushed : c.push.new.self.items ≡ c.loop-index.names.items ++ own ∷ [] = search rules in
    pushed ∙ ap (λ (l : List (ℕ × ℕ)). l ++ own ∷ []) c.loop-index.invariant ∙ append_assoc c.args.names.now.items (take c.loop-index.index rest) (own ∷ [])
    ∙ ap (λ (l : List (ℕ × ℕ)). c.args.names.now.items ++ l) (sym taken)
