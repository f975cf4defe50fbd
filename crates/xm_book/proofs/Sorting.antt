-- What is put in order: the greatest comes last.
use Rattle.std.proofs.Common.{◌≡◌, ℕ, ◌<◌, Bool, true, false, if◌then◌else◌, List, [], ◌∷◌, ◌++◌, map, Contains, refl, ap, ◌∙◌, arith}
use Rattle.std.specs.Prelude.{nat_le}
use Rattle.std.proofs.lemmas.Bool.Decides.{nat_tests}
use Rattle.xm_slots.proofs.Members.{Contains-here, Contains-there}
use Rattle.xm_rules.specs.Priority.{insert_in_order, sorted, in_order}

module _ {A : Type 0} where
  -- below a number
  abbrev pub Below : ℕ → List (ℕ × A) → Type 0
  Below n xs = (x : ℕ × A) → Contains xs x → x.0 < n

  pub below_tail : (n : ℕ) (x : ℕ × A) (xs : List (ℕ × A)) → Below n (x ∷ xs) → Below n xs
  below_tail n x xs h y at = h y (Contains-there x xs y at)

  last_if : (e y : ℕ × A) (ys zs : List (ℕ × A)) (b : Bool) → nat_le e.0 y.0 ≡ b → y.0 < e.0 → zs ≡ ys ++ e ∷ []
      → (if b then e ∷ y ∷ ys else y ∷ zs) ≡ y ∷ (ys ++ e ∷ [])
  last_if e y ys zs true h l i = absurd (let f : nat_le e.0 y.0 ≡ false = grind (arith, nat_tests) in cc)
  last_if e y ys zs false h l i = ap (λ (ts : List (ℕ × A)). y ∷ ts) i

  abbrev AllBelow : ℕ → List (ℕ × A) → Type 0
  AllBelow n [] = Unit {0}
  AllBelow n (x ∷ xs) = (x.0 < n) × AllBelow n xs

  insert_last : (e : ℕ × A) (ys : List (ℕ × A)) → AllBelow e.0 ys → insert_in_order e ys ≡ ys ++ e ∷ []
  insert_last e [] h = refl
  insert_last e (y ∷ ys) h = last_if e y ys (insert_in_order e ys) (nat_le e.0 y.0) refl h.0 (insert_last e ys h.1)

  before_if : (e x y : ℕ × A) (ys zs ts : List (ℕ × A)) (b : Bool) → zs ≡ ts ++ e ∷ []
      → (if b then x ∷ y ∷ (ys ++ e ∷ []) else y ∷ zs) ≡ (if b then x ∷ y ∷ ys else y ∷ ts) ++ e ∷ []
  before_if e x y ys zs ts true i = refl
  before_if e x y ys zs ts false i = ap (λ (us : List (ℕ × A)). y ∷ us) i

  before_end : (e x : ℕ × A) (b : Bool) → nat_le x.0 e.0 ≡ b → x.0 < e.0 → (if b then x ∷ e ∷ [] else e ∷ x ∷ []) ≡ x ∷ e ∷ []
  before_end e x true h l = refl
  before_end e x false h l = absurd (let f : nat_le x.0 e.0 ≡ true = grind (arith, nat_tests) in cc)

  insert_before : (e x : ℕ × A) (ys : List (ℕ × A)) → x.0 < e.0 → insert_in_order x (ys ++ e ∷ []) ≡ insert_in_order x ys ++ e ∷ []
  insert_before e x [] h = before_end e x (nat_le x.0 e.0) refl h
  insert_before e x (y ∷ ys) h = before_if e x y ys (insert_in_order x (ys ++ e ∷ [])) (insert_in_order x ys) (nat_le x.0 y.0) (insert_before e x ys h)

  inserted_below : (n : ℕ) (x y : ℕ × A) (ys zs : List (ℕ × A)) (b : Bool) → x.0 < n → y.0 < n → AllBelow n ys → AllBelow n zs
      → AllBelow n (if b then x ∷ y ∷ ys else y ∷ zs)
  inserted_below n x y ys zs true h i l k = (h, (i, l))
  inserted_below n x y ys zs false h i l k = (i, k)

  insert_below : (n : ℕ) (x : ℕ × A) (ys : List (ℕ × A)) → x.0 < n → AllBelow n ys → AllBelow n (insert_in_order x ys)
  insert_below n x [] h l = (h, tt)
  insert_below n x (y ∷ ys) h l = inserted_below n x y ys (insert_in_order x ys) (nat_le x.0 y.0) h l.0 l.1 (insert_below n x ys h l.1)

  sorted_below : (n : ℕ) (xs : List (ℕ × A)) → Below n xs → AllBelow n (sorted xs)
  sorted_below n [] h = tt
  sorted_below n (x ∷ xs) h = insert_below n x (sorted xs) (h x (Contains-here x xs)) (sorted_below n xs (below_tail n x xs h))

  sorted_last : (e : ℕ × A) (xs ys : List (ℕ × A)) → Below e.0 (xs ++ ys) → sorted (xs ++ e ∷ ys) ≡ sorted (xs ++ ys) ++ e ∷ []
  sorted_last e [] ys h = insert_last e (sorted ys) (sorted_below e.0 ys h)
  sorted_last e (x ∷ xs) ys h =
      ap (insert_in_order x) (sorted_last e xs ys (below_tail e.0 x (xs ++ ys) h)) ∙ insert_before e x (sorted (xs ++ ys)) (h x (Contains-here x (xs ++ ys)))

  seconds : (xs : List (ℕ × A)) (e : ℕ × A) → map (λ (x : ℕ × A). x.1) (xs ++ e ∷ []) ≡ map (λ (x : ℕ × A). x.1) xs ++ e.1 ∷ []
  seconds [] e = refl
  seconds (x ∷ xs) e = ap (λ (l : List A). x.1 ∷ l) (seconds xs e)

  pub in_order_last : (e : ℕ × A) (xs ys : List (ℕ × A)) → Below e.0 (xs ++ ys) → in_order (xs ++ e ∷ ys) ≡ in_order (xs ++ ys) ++ e.1 ∷ []
  in_order_last e xs ys h = ap (map (λ (x : ℕ × A). x.1)) (sorted_last e xs ys h) ∙ seconds (sorted (xs ++ ys)) e
