-- A table of names, as the split of its buckets leaves it.
use Rattle.std.proofs.Common.{◌≡◌, ℕ, ◌+◌, ◌*◌, ◌/◌, ◌^◌, Bool, true, false, ◌==◌, ◌<◌, ◌≤◌, if◌then◌else◌, nat_lt, List, length, Some, None, IsSome, slice_get, refl, sym, subst, ap, ◌∙◌, ◌⊎◌, inl, inr, arith, eqb-true, eq-eqb, length-append, ◌++◌, ◌∷◌, [], zero, suc}
use Rattle.std.proofs.Math.Nat.{mul_left_comm}
use Rattle.std.proofs.lemmas.Bool.Decides.{nat_tests}
use Rattle.xm_name_index.specs.Buckets.{key_in}
use Rattle.xm_name_index.specs.Tables.{IsPlaced, TableView, hash, home, home_among, key_in_bucket, key_at, table_key}
use Rattle.xm_name_index.specs.declared.slot.Slot.{Slot}
use Rattle.xm_name_index.proofs.Placed.{differs, no-bucket}

-- a number is even or odd
pub parity : (n h : ℕ) → n / 2 ≡ h → (n ≡ 2 * h) ⊎ (n ≡ 2 * h + 1)
parity n h e = by (n == 2 * h) refl
  where
    by : (b : Bool) → (n == 2 * h) ≡ b → (n ≡ 2 * h) ⊎ (n ≡ 2 * h + 1)
    by true even = inl (eqb-true n (2 * h) even)
    by false odd = (let d = differs n (2 * h) odd in inr (omega arith))

-- ---- an element that comes last
module _ {X : Type 0} where
  get-kept : (xs : List X) (y : X) (i : ℕ) → i < length xs → slice_get (xs ++ y ∷ []) i ≡ slice_get xs i
  get-kept [] y i within = absurd (omega arith)
  get-kept (x ∷ xs) y zero within = refl
  get-kept (x ∷ xs) y (suc i) within = get-kept xs y i (omega arith)

  get-last : (xs : List X) (y : X) → slice_get (xs ++ y ∷ []) (length xs) ≡ Some y
  get-last [] y = refl
  get-last (x ∷ xs) y = get-last xs y

-- a share of twice as many is in the first or the second half of that of so many
half : (n : ℕ) → 2 * n / 2 ^ 32 / 2 ≡ n / 2 ^ 32
half n = omega arith

module _ (t : TableView) where
  -- where references are at home among twice as many buckets
  abbrev pub split_home : ℕ → ℕ
  split_home = home_among t.seed (2 * length t.buckets)

  pub home-half : (r : ℕ) → split_home r / 2 ≡ home t r
  unfolding home
  home-half r = ap (λ (n : ℕ). n / 2 ^ 32 / 2) (mul_left_comm (hash t.seed r) 2 (length t.buckets)) ∙ half (hash t.seed r * length t.buckets)

  -- the bucket at an index has the names of another that are at home there
  abbrev pub IsPart : List (List Slot) → ℕ → ℕ → Type 0
  IsPart new i j = (r : ℕ) → key_in_bucket r (slice_get new j) ≡ (if split_home r == j then key_at t i r else None)

  pub record AreParts (new : List (List Slot)) (n : ℕ) : Type 0 where
    pub len : length new ≡ 2 * n
    pub even : (i : ℕ) → i < n → IsPart new i (2 * i)
    pub odd : (i : ℕ) → i < n → IsPart new i (2 * i + 1)

  module _ (new : List (List Slot)) (p : AreParts new (length t.buckets)) where
    abbrev pub split_table : TableView
    split_table = record { buckets = new; seed = t.seed }

    split-home : (r : ℕ) → home split_table r ≡ split_home r
    unfolding home
    split-home r = ap (λ (n : ℕ). home_among t.seed n r) p.len

    own-part : (i j r : ℕ) → IsPart new i j → split_home r ≡ j → key_at split_table j r ≡ key_at t i r
    own-part i j r part at = part r ∙ ap (λ (b : Bool). if b then key_at t i r else None) (eq-eqb (split_home r) j at)

    key-within : (i r : ℕ) → home t r ≡ i → i < length t.buckets → (split_home r ≡ 2 * i) ⊎ (split_home r ≡ 2 * i + 1) → key_at split_table (split_home r) r ≡ key_at t i r
    key-within i r is within (inl at) = ap (λ (j : ℕ). key_at split_table j r) at ∙ own-part i (2 * i) r (p.even i within) at
    key-within i r is within (inr at) = ap (λ (j : ℕ). key_at split_table j r) at ∙ own-part i (2 * i + 1) r (p.odd i within) at

    key-past : (i r : ℕ) → length t.buckets ≤ i → (split_home r ≡ 2 * i) ⊎ (split_home r ≡ 2 * i + 1) → key_at split_table (split_home r) r ≡ key_at t i r
    key-past i r past (inl at) = no-bucket r new (split_home r) (omega (arith, p.len)) ∙ sym (no-bucket r t.buckets i past)
    key-past i r past (inr at) = no-bucket r new (split_home r) (omega (arith, p.len)) ∙ sym (no-bucket r t.buckets i past)

    pub split-keys : (r : ℕ) → table_key split_table r ≡ table_key t r
    split-keys r = ap (λ (i : ℕ). key_at split_table i r) (split-home r) ∙ by (nat_lt (home t r) (length t.buckets)) refl
      where
        either : (split_home r ≡ 2 * home t r) ⊎ (split_home r ≡ 2 * home t r + 1)
        either = parity (split_home r) (home t r) (home-half r)

        by : (b : Bool) → nat_lt (home t r) (length t.buckets) ≡ b → key_at split_table (split_home r) r ≡ table_key t r
        by true is = key-within (home t r) r refl (grind (arith, nat_tests, is)) either
        by false isnt = key-past (home t r) r (grind (arith, nat_tests, isnt)) either

    part-home : (i j r : ℕ) (b : Bool) → (split_home r == j) ≡ b → IsSome (if b then key_at t i r else None) → split_home r ≡ j
    part-home i j r true at some = eqb-true (split_home r) j at
    part-home i j r false elsewhere some = absurd (cc)

    at-home : (i j r : ℕ) → i < length t.buckets → (j ≡ 2 * i) ⊎ (j ≡ 2 * i + 1) → IsSome (key_at split_table j r) → split_home r ≡ j
    at-home i j r within (inl even) some =
        part-home i (2 * i) r (split_home r == 2 * i) refl (subst IsSome (p.even i within r) (subst (λ (n : ℕ). IsSome (key_at split_table n r)) even some)) ∙ sym even
    at-home i j r within (inr odd) some =
        part-home i (2 * i + 1) r (split_home r == 2 * i + 1) refl (subst IsSome (p.odd i within r) (subst (λ (n : ℕ). IsSome (key_at split_table n r)) odd some)) ∙ sym odd

    none-past : (j r : ℕ) → length new ≤ j → IsSome (key_at split_table j r) → split_home r ≡ j
    none-past j r past some = absurd (let none = no-bucket r new j past in (let h = subst IsSome none some in cc))

    pub split-placed : length t.buckets ≤ 2 ^ 31 → IsPlaced split_table 0
    split-placed few = record {
      few = omega (arith, p.len, few);
      home = λ j r some. split-home r ∙ by j r some (nat_lt j (length new)) refl;
      empty = λ j r before. absurd (omega arith);
    }
      where
        by : (j r : ℕ) → IsSome (key_at split_table j r) → (b : Bool) → nat_lt j (length new) ≡ b → split_home r ≡ j
        by j r some true is = at-home (j / 2) j r (let w : j < length new = grind (arith, nat_tests, is) in omega (arith, p.len)) (parity j (j / 2) refl) some
        by j r some false isnt = none-past j r (grind (arith, nat_tests, isnt)) some

  -- ---- two buckets more
  module _ (new : List (List Slot)) (n : ℕ) (a b : List Slot) (p : AreParts new n) where
    abbrev pub longer : List (List Slot)
    longer = (new ++ a ∷ []) ++ b ∷ []

    longer-len : length longer ≡ 2 * (n + 1)
    longer-len = omega (arith, p.len, length-append new (a ∷ []), length-append (new ++ a ∷ []) (b ∷ []))

    kept : (j : ℕ) → j < length new → slice_get longer j ≡ slice_get new j
    kept j within = get-kept (new ++ a ∷ []) b j (omega (arith, within, length-append new (a ∷ []))) ∙ get-kept new a j within

    first-new : slice_get longer (2 * n) ≡ Some a
    first-new = get-kept (new ++ a ∷ []) b (2 * n) (omega (arith, p.len, length-append new (a ∷ []))) ∙ ap (slice_get (new ++ a ∷ [])) (sym p.len) ∙ get-last new a

    second-new : slice_get longer (2 * n + 1) ≡ Some b
    second-new = ap (slice_get longer) (omega (arith, p.len, length-append new (a ∷ []))) ∙ get-last (new ++ a ∷ []) b

    pub more-parts : ((r : ℕ) → key_in r a ≡ (if split_home r == 2 * n then key_at t n r else None))
        → ((r : ℕ) → key_in r b ≡ (if split_home r == 2 * n + 1 then key_at t n r else None)) → AreParts longer (n + 1)
    more-parts ea eb = record {
      len = longer-len;
      even = λ i within. even-if i (nat_lt i n) refl within;
      odd = λ i within. odd-if i (nat_lt i n) refl within;
    }
      where
        even-if : (i : ℕ) (c : Bool) → nat_lt i n ≡ c → i < n + 1 → IsPart longer i (2 * i)
        even-if i true is within r = (let w : i < n = grind (arith, nat_tests, is) in ap (key_in_bucket r) (kept (2 * i) (omega (arith, w, p.len))) ∙ p.even i w r)
        even-if i false isnt within r =
            (let w : n ≡ i = grind (arith, nat_tests, isnt, within) in subst (λ (m : ℕ). key_in_bucket r (slice_get longer (2 * m)) ≡ (if split_home r == 2 * m then key_at t m r else None)) w (ap (key_in_bucket r) first-new ∙ ea r))

        odd-if : (i : ℕ) (c : Bool) → nat_lt i n ≡ c → i < n + 1 → IsPart longer i (2 * i + 1)
        odd-if i true is within r = (let w : i < n = grind (arith, nat_tests, is) in ap (key_in_bucket r) (kept (2 * i + 1) (omega (arith, w, p.len))) ∙ p.odd i w r)
        odd-if i false isnt within r =
            (let w : n ≡ i = grind (arith, nat_tests, isnt, within) in subst (λ (m : ℕ). key_in_bucket r (slice_get longer (2 * m + 1)) ≡ (if split_home r == 2 * m + 1 then key_at t m r else None)) w (ap (key_in_bucket r) second-new ∙ eb r))

  -- no bucket yet
  pub no-parts : AreParts [] 0
  no-parts = record { len = refl; even = λ i within. absurd (omega arith); odd = λ i within. absurd (omega arith) }
