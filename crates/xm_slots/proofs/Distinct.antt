-- Different keys, of which one joins or leaves last.
use Rattle.std.proofs.Common.{◌≡◌, ℕ, List, [], ◌∷◌, ◌++◌, Contains, sym, subst, ◌⊎◌, inl, inr}
use Rattle.std.proofs.lemmas.List.Elements.{Contains-append_left, Contains-push}
use Rattle.xm_queues.specs.Keys.{AreDistinct}
use Rattle.xm_slots.proofs.Members.{Contains-cases, Contains-here, Contains-none, Contains-there}

Contains-end : (x y : ℕ) (ks : List ℕ) → Contains (ks ++ y ∷ []) x → Contains ks x ⊎ (x ≡ y)
Contains-end x y [] c = end_by (Contains-cases y [] x c)
  where
    end_by : (y ≡ x) ⊎ Contains [] x → Contains [] x ⊎ (x ≡ y)
    end_by (inl e) = inr (sym e)
    end_by (inr n) = inl n
Contains-end x y (k ∷ ks) c = end_by (λ n. Contains-end x y ks n) (Contains-cases k (ks ++ y ∷ []) x c)
  where
    end_by : (Contains (ks ++ y ∷ []) x → Contains ks x ⊎ (x ≡ y)) → (k ≡ x) ⊎ Contains (ks ++ y ∷ []) x → Contains (k ∷ ks) x ⊎ (x ≡ y)
    end_by more (inl e) = inl (subst (λ (n : ℕ). Contains (k ∷ ks) n) e (Contains-here k ks))
    end_by more (inr n) = one_by (more n)
      where
        one_by : Contains ks x ⊎ (x ≡ y) → Contains (k ∷ ks) x ⊎ (x ≡ y)
        one_by (inl m) = inl (Contains-there k ks x m)
        one_by (inr e) = inr e

-- keys stay different
pub distinct-push : (key : ℕ) (ks : List ℕ) → AreDistinct ks → (Contains ks key → ⊥) → AreDistinct (ks ++ key ∷ [])
distinct-push key [] d out = (λ c. Contains-none key c, tt)
distinct-push key (k ∷ ks) d out =
    (λ c. in_by (Contains-end k key ks c), distinct-push key ks d.1 (λ c. out (Contains-there k ks key c)))
  where
    in_by : Contains ks k ⊎ (k ≡ key) → ⊥
    in_by (inl c) = d.0 c
    in_by (inr e) = out (subst (λ (n : ℕ). Contains (k ∷ ks) n) e (Contains-here k ks))

-- the last of different keys stands nowhere before, and the others are different
pub distinct-front : (ks : List ℕ) (key : ℕ) → AreDistinct (ks ++ key ∷ []) → AreDistinct ks × (Contains ks key → ⊥)
distinct-front [] key d = (tt, λ at. Contains-none key at)
distinct-front (k ∷ ks) key d =
    let rest = distinct-front ks key d.1 in
    ((λ at. d.0 (Contains-append_left ks (key ∷ []) k at), rest.0), λ at. here_or_later (Contains-cases k ks key at) rest.1)
  where
    here_or_later : (k ≡ key) ⊎ Contains ks key → (Contains ks key → ⊥) → ⊥
    here_or_later (inl same) absent = d.0 (subst (λ (n : ℕ). Contains (ks ++ key ∷ []) n) (sym same) (Contains-push ks key))
    here_or_later (inr later) absent = absent later
