-- How the keys without an entry are kept while entries come and go.
use Rattle.std.proofs.Common.{◌≡◌, ◌≢◌, ℕ, ◌+◌, ◌<◌, ◌≤◌, List, [], ◌∷◌, ◌++◌, length, get_or, set, Contains, count_by, cond, Option, Some, None, is_some, IsSome, refl, sym, ap, subst, ◌∙◌, arith, length-set}
use Rattle.std.specs.List.{All}
use Rattle.std.proofs.lemmas.List.{get_or-set_same, get_or-set_other, get_or_past}
use Rattle.std.proofs.lemmas.List.Elements.{All-contains, All-head, All-pop, All-push, All-tail, Contains-get_or, Contains-push}
use Rattle.std.proofs.lemmas.List.Sums.{sum_by-set}
use Rattle.xm_slots.specs.Vacancies.{IsVacant}
use Rattle.xm_slots.proofs.Distinct.{distinct-front, distinct-push}
use Rattle.xm_queues.specs.Keys.{AreDistinct}

abbrev one_if : {T : Type 0} → Option T → ℕ
one_if o = cond (is_some o) 1 0

-- one entry more or less under a key
count-set : {T : Type 0} (es : List (Option T)) (key : ℕ) (slot : Option T) → key < length es
    → count_by is_some (set es key slot) + one_if (get_or es key None) ≡ count_by is_some es + one_if slot
count-set es key slot within = sum_by-set one_if es key slot None within

pub within-there : {T : Type 0} (es : List (Option T)) (key : ℕ) → IsSome (get_or es key None) → key < length es
within-there es key there = grind (arith, get_or_past)

none-there : {T : Type 0} (o : Option T) → o ≡ None → IsSome o → ⊥
none-there None e there = absurd (cc)
none-there (Some x) e there = absurd (cc)

module _ {T : Type 0} (es : List (Option T)) where
  -- what stays without an entry where another key's slot changes
  still-vacant : (key other : ℕ) (slot : Option T) → other ≢ key → IsVacant es other → IsVacant (set es key slot) other
  still-vacant key other slot apart v =
      record {
        within = omega (arith, v.within, length-set es key slot);
        empty = get_or-set_other es key other slot None apart ∙ v.empty;
      }

  others-vacant : (ks : List ℕ) (key : ℕ) (slot : Option T) → (Contains ks key → ⊥) → All (IsVacant es) ks → All (IsVacant (set es key slot)) ks
  others-vacant ks key slot absent all =
      λ i d lt.
      (let at = Contains-get_or ks i d lt in
      still-vacant key (get_or ks i d) slot (λ same. absent (subst (λ (n : ℕ). Contains ks n) same at)) (all i d lt))

  module _ (ks : List ℕ) (key : ℕ) where
    -- the key that came back last takes an entry
    module _ (all : All (IsVacant es) (ks ++ key ∷ [])) (d : AreDistinct (ks ++ key ∷ [])) where
      pub filled-vacancies : (e : T) → All (IsVacant (set es key (Some e))) ks
      filled-vacancies e = others-vacant ks key (Some e) (distinct-front ks key d).1 (All-pop (IsVacant es) (ks ++ key ∷ []) ks (Some key) refl all).0

      pub filled-distinct : AreDistinct ks
      filled-distinct = (distinct-front ks key d).0

      pub filled-count : (e : T) → count_by is_some (set es key (Some e)) ≡ count_by is_some es + 1
      filled-count e =
          let v = All-contains (IsVacant es) (ks ++ key ∷ []) key all (Contains-push ks key) in
          let none = ap one_if v.empty in
          omega (arith, none, count-set es key (Some e) v.within)

    -- the entry of a key leaves
    module _ (all : All (IsVacant es) ks) (d : AreDistinct ks) (there : IsSome (get_or es key None)) where
      absent : Contains ks key → ⊥
      absent at = none-there (get_or es key None) (All-contains (IsVacant es) ks key all at).empty there

      pub left-vacancies : All (IsVacant (set es key None)) (ks ++ key ∷ [])
      left-vacancies =
          let within = within-there es key there in
          All-push (IsVacant (set es key None)) ks key (others-vacant ks key None absent all) (record {
            within = omega (arith, within, length-set es key None);
            empty = get_or-set_same es key None None within;
          })

      pub left-distinct : AreDistinct (ks ++ key ∷ [])
      left-distinct = distinct-push key ks d absent

-- one entry fewer
pub left-count : {T : Type 0} (es : List (Option T)) (key : ℕ) → IsSome (get_or es key None) → count_by is_some (set es key None) + 1 ≡ count_by is_some es
left-count {T} es key there = counted (get_or es key None) refl there
  where
    counted : (o : Option T) → get_or es key None ≡ o → IsSome o → count_by is_some (set es key None) + 1 ≡ count_by is_some es
    counted None e h = absurd (none-there {T = T} None refl h)
    counted (Some x) e h =
        let one = ap one_if e in
        omega (arith, one, count-set es key None (within-there es key there))

-- different keys with entries are no more than the entries
pub keys-within : {T : Type 0} (ks : List ℕ) (es : List (Option T)) → AreDistinct ks → All (λ (k : ℕ). IsSome (get_or es k None)) ks → length ks ≤ count_by is_some es
keys-within [] es d there = omega arith
keys-within (k ∷ ks) es d there =
    let less = left-count es k (All-head (λ (j : ℕ). IsSome (get_or es j None)) k ks there) in
    let rest = keys-within ks (set es k None) d.1 still in
    omega (arith, less, rest)
  where
    still : All (λ (j : ℕ). IsSome (get_or (set es k None) j None)) ks
    still i e lt =
        let j = get_or ks i e in
        let apart : j ≢ k = λ same. d.0 (subst (λ (n : ℕ). Contains ks n) same (Contains-get_or ks i e lt)) in
        subst IsSome (sym (get_or-set_other es k j None None apart)) (All-tail (λ (j : ℕ). IsSome (get_or es j None)) k ks there i e lt)
