use Rattle.std.proofs.Common.{is_lt, rules}
use Rattle.std.proofs.lemmas.List.Sorted.{answers_always}
use Rattle.xm_rules.proofs.DistinctNames.{answered, name_cmp}
use Rattle.xm_rules.proofs.carried.are_distinct.Goals as goal

pub returns : goal.returns
returns c =
    let told = c.is_sorted_by.ensures.cases (λ a b. is_lt (name_cmp a b)) (answers_always _ _ _ (λ f a r g called. search rules)) in
    answered c.args.names.now c.sort_unstable.new.self c.sort_unstable.ensures.permutation c.sort_unstable.ensures.sorted c.is_sorted_by.result told
