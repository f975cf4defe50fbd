-- The numbers of entries rise while entries join and leave.
use Rattle.std.proofs.Common.{◌≡◌, ℕ, ◌+◌, ◌≤◌, Bool, true, false, ◌&&◌, if◌then◌else◌, List, [], ◌∷◌, ◌++◌, filter, arith}
use Rattle.std.specs.Prelude.{nat_le}
use Rattle.std.proofs.lemmas.Bool.{and_parts, leb-true}
use Rattle.std.proofs.lemmas.Bool.Decides.{nat_tests}
use Rattle.xm_slots.specs.Listing.{rises}
use Rattle.xm_slots.specs.declared.listing.Listed.{Listed}

module _ {I : Type 0} where
  pub rises-push : (l : ℕ) (xs : List (Listed I)) (x : Listed I) → rises l xs x.time ≡ true → rises l (xs ++ x ∷ []) (x.time + 1) ≡ true
  rises-push l [] x h = last l x.time h
    where
      last : (l t : ℕ) → nat_le l t ≡ true → (nat_le l t && nat_le (t + 1) (t + 1)) ≡ true
      last l t h = grind (arith, nat_tests)
  rises-push l (y ∷ xs) x h =
      let parts = and_parts (nat_le l y.time) (rises (y.time + 1) xs x.time) h in
      (λ i. parts.0 i && rises-push (y.time + 1) xs x parts.1 i)

  lower : (l m : ℕ) (xs : List (Listed I)) (high : ℕ) → l ≤ m → rises m xs high ≡ true → rises l xs high ≡ true
  lower l m [] high le h = grind (arith, nat_tests)
  lower l m (x ∷ xs) high le h =
      let parts = and_parts (nat_le m x.time) (rises (x.time + 1) xs high) h in
      (λ i. below l m x.time le parts.0 i && parts.1 i)
    where
      below : (l m n : ℕ) → l ≤ m → nat_le m n ≡ true → nat_le l n ≡ true
      below l m n le h = grind (arith, nat_tests)

  pub rises-kept : (p : Listed I → Bool) (l : ℕ) (xs : List (Listed I)) (high : ℕ) → rises l xs high ≡ true → rises l (filter p xs) high ≡ true
  rises-kept p l [] high h = h
  rises-kept p l (x ∷ xs) high h =
      let parts = and_parts (nat_le l x.time) (rises (x.time + 1) xs high) h in
      kept_if (p x) parts.0 (leb-true l x.time parts.0) (rises-kept p (x.time + 1) xs high parts.1)
    where
      kept_if : (b : Bool) → nat_le l x.time ≡ true → l ≤ x.time → rises (x.time + 1) (filter p xs) high ≡ true → rises l (if b then x ∷ filter p xs else filter p xs) high ≡ true
      kept_if true at le rest = (λ i. at i && rest i)
      kept_if false at le rest = lower l (x.time + 1) (filter p xs) high (omega arith) rest
