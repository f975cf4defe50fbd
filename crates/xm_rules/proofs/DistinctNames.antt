-- Names of which none stands twice, told from the same names in order.
use Rattle.std.proofs.Common.{◌≡◌, ℕ, ◌+◌, ◌<◌, Bool, true, false, not, ◌&&◌, List, [], ◌∷◌, length, get_or, IsPermutation, IsSorted, Ordering, Less, Equal, Greater, nat_cmp, is_lt, refl, sym, ap₂, ◌∙◌, arith}
use Rattle.std.specs.Cmp.{IsTotalOrder}
use Rattle.std.specs.List.{AllByRecursion, IsAllAdjacentAnswer, IsDistinct, list_any}
use Rattle.std.specs.Ordering.{on, then_cmp}
use Rattle.std.proofs.lemmas.Bool.{and_from, and_parts, false_from_ne_true, not-true, not_from_false, or_from, or_parts, true≢false}
use Rattle.std.proofs.lemmas.Bool.Decides.{nat_tests}
use Rattle.std.proofs.lemmas.Cmp.{nat_cmp_total, nat_eq_equiv, on_total, then_total}
use Rattle.std.proofs.lemmas.List.Sorted.{IsPermutation-sym}
use Rattle.std.proofs.lemmas.Map.Keys.{IsDistinct-IsPermutation, IsDistinct-cons, IsDistinct-from_apart, IsDistinct-head, IsDistinct-tail, Less-from_sorted, apart_from_distinct, sorted_from_all_adjacent}
use Rattle.xm_rules.specs.Entries.{are_distinct, is_same_name}

-- ---- the definition, and the library's relation

none_passes : {X : Type 0} (p : X → Bool) (xs : List X) → AllByRecursion (λ x. p x ≡ false) xs → list_any p xs ≡ false
none_passes p [] h = refl
none_passes p (x ∷ xs) h = or_from (p x) (list_any p xs) h.0 (none_passes p xs h.1)

each_fails : {X : Type 0} (p : X → Bool) (xs : List X) → list_any p xs ≡ false → AllByRecursion (λ x. p x ≡ false) xs
each_fails p [] h = tt
each_fails p (x ∷ xs) h =
    let parts = or_parts (p x) (list_any p xs) h in
    (parts.0, each_fails p xs parts.1)

distinct : (ns : List (ℕ × ℕ)) → IsDistinct is_same_name ns → are_distinct ns ≡ true
distinct [] h = refl
distinct (n ∷ ns) h =
    and_from (not (list_any (is_same_name n) ns)) (are_distinct ns)
    (not_from_false (list_any (is_same_name n) ns) (none_passes (is_same_name n) ns (IsDistinct-head is_same_name n ns h))) (distinct ns (IsDistinct-tail is_same_name n ns h))

IsDistinct-from : (ns : List (ℕ × ℕ)) → are_distinct ns ≡ true → IsDistinct is_same_name ns
unfolding IsDistinct
IsDistinct-from [] h = tt
IsDistinct-from (n ∷ ns) h =
    let parts = and_parts (not (list_any (is_same_name n) ns)) (are_distinct ns) h in
    IsDistinct-cons is_same_name n ns (each_fails (is_same_name n) ns (not-true (list_any (is_same_name n) ns) parts.0)) (IsDistinct-from ns parts.1)

same-flips : (a b : ℕ × ℕ) → is_same_name a b ≡ is_same_name b a
same-flips a b = ap₂ (λ (x y : Bool). x && y) (nat_eq_equiv.symm b.0 a.0) (nat_eq_equiv.symm b.1 a.1)

-- ---- names in order

-- by member, then by reference
abbrev pub name_cmp : ℕ × ℕ → ℕ × ℕ → Ordering
name_cmp = then_cmp (on (λ (n : ℕ × ℕ). n.0) nat_cmp) (on (λ (n : ℕ × ℕ). n.1) nat_cmp)

name_cmp-total : IsTotalOrder name_cmp
name_cmp-total = then_total (on_total (λ (n : ℕ × ℕ). n.0) nat_cmp_total) (on_total (λ (n : ℕ × ℕ). n.1) nat_cmp_total)

less-apart : (a b : ℕ × ℕ) → name_cmp a b ≡ Less → is_same_name a b ≡ false
less-apart a b h = grind (arith, nat_tests)

neither-same : (a b : ℕ × ℕ) → is_lt (name_cmp b a) ≡ false → is_lt (name_cmp a b) ≡ false → is_same_name a b ≡ true
neither-same a b h k = grind (arith, nat_tests)

is_lt-less : (o : Ordering) → true ≡ is_lt o → o ≡ Less
is_lt-less Less h = refl
is_lt-less Equal h = cc
is_lt-less Greater h = cc

-- names, and the same in order: they differ just where each is below the next
module _ (given ns : List (ℕ × ℕ)) (moved : IsPermutation given ns) where
  rising : ((k : ℕ) (d : ℕ × ℕ) → k + 1 < length ns → true ≡ is_lt (name_cmp (get_or ns k d) (get_or ns (k + 1) d))) → are_distinct given ≡ true
  rising h =
      let apart : (i j : ℕ) (d : ℕ × ℕ) → i < j → j < length ns → is_same_name (get_or ns i d) (get_or ns j d) ≡ false =
      λ i j d less within.
      let up = sorted_from_all_adjacent name_cmp-total ns d (λ k more. is_lt-less (name_cmp (get_or ns k d) (get_or ns (k + 1) d)) (h k d more)) in
      less-apart (get_or ns i d) (get_or ns j d) (Less-from_sorted name_cmp ns i j d up less within) in
      distinct given (IsDistinct-IsPermutation is_same_name same-flips ns given (IsPermutation-sym given ns moved) (IsDistinct-from_apart is_same_name ns apart))

  tied : IsSorted name_cmp ns → (k : ℕ) → k + 1 < length ns → ((d : ℕ × ℕ) → false ≡ is_lt (name_cmp (get_or ns k d) (get_or ns (k + 1) d))) → are_distinct given ≡ false
  tied up k more h = false_from_ne_true (are_distinct given) (λ all.
      let d : ℕ × ℕ = (0, 0) in
      let a = get_or ns k d in
      let b = get_or ns (k + 1) d in
      let apart = apart_from_distinct is_same_name ns k (k + 1) d (IsDistinct-IsPermutation is_same_name same-flips given ns moved (IsDistinct-from given all)) (omega arith) more in
      true≢false (sym (neither-same a b (up k d (omega arith) more) (sym (h d))) ∙ apart))

  pub answered : IsSorted name_cmp ns → (r : Bool) → IsAllAdjacentAnswer (λ a b t. t ≡ is_lt (name_cmp a b)) ns r → r ≡ are_distinct given
  answered up true h = sym (rising h)
  answered up false h = sym (tied up h.0 h.1 h.2)
