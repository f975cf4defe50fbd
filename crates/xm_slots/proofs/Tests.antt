-- What is found in a list, and what of it passes a test.
use Rattle.std.proofs.Common.{◌≡◌, ◌≤◌, Bool, true, false, not, ◌||◌, if◌then◌else◌, List, [], ◌∷◌, length, filter, find, Contains, Some, None, refl, sym, ◌∙◌, arith}
use Rattle.std.specs.List.{All, list_any}
use Rattle.std.proofs.lemmas.Bool.{false≢true, or_parts}
use Rattle.std.proofs.lemmas.List.Elements.{All-head, All-tail}
use Rattle.std.proofs.lemmas.List.Sums.{count_by-le-length, length-filter}
use Rattle.xm_slots.proofs.Members.{Contains-here, Contains-there}

pub none-found : {X : Type 0} (p : X → Bool) (xs : List X) → find p xs ≡ None → list_any p xs ≡ false
none-found p [] h = refl
none-found {X} p (x ∷ xs) h = none_if (p x) (none-found p xs) h
  where
    none_if : (b : Bool) → (find p xs ≡ None → list_any p xs ≡ false) → (if b then Some x else find p xs) ≡ None → (b || list_any p xs) ≡ false
    none_if true rest e = absurd (cc)
    none_if false rest e = rest e

pub some-found : {X : Type 0} (p : X → Bool) (xs : List X) (x : X) → find p xs ≡ Some x → list_any p xs ≡ true
some-found p [] x h = absurd (cc)
some-found {X} p (y ∷ xs) x h = some_if (p y) (some-found p xs x) h
  where
    some_if : (b : Bool) → (find p xs ≡ Some x → list_any p xs ≡ true) → (if b then Some y else find p xs) ≡ Some x → (b || list_any p xs) ≡ true
    some_if true rest e = refl
    some_if false rest e = rest e

pub filter-same : {X : Type 0} (p q : X → Bool) (xs : List X) → All (λ x. p x ≡ q x) xs → filter p xs ≡ filter q xs
filter-same p q [] h = refl
filter-same p q (x ∷ xs) h =
    (λ i. if All-head (λ x. p x ≡ q x) x xs h i then x ∷ filter-same p q xs (All-tail (λ x. p x ≡ q x) x xs h) i else filter-same p q xs (All-tail (λ x. p x ≡ q x) x xs h) i)

pub any-kept : {X : Type 0} (q p : X → Bool) (xs : List X) → list_any q xs ≡ false → list_any q (filter p xs) ≡ false
any-kept q p [] h = refl
any-kept {X} q p (x ∷ xs) h = kept_if (p x) parts.0 (any-kept q p xs parts.1)
  where
    parts : (q x ≡ false) × (list_any q xs ≡ false)
    parts = or_parts (q x) (list_any q xs) h

    kept_if : (b : Bool) → q x ≡ false → list_any q (filter p xs) ≡ false → list_any q (if b then x ∷ filter p xs else filter p xs) ≡ false
    kept_if true at rest = (λ i. at i || rest i)
    kept_if false at rest = rest

pub length-kept : {X : Type 0} (p : X → Bool) (xs : List X) → length (filter p xs) ≤ length xs
length-kept p xs = omega (arith, length-filter p xs, count_by-le-length p xs)

pub find-filter : {X : Type 0} (p q : X → Bool) (b : Bool) (xs : List X) → ((x : X) → Contains xs x → q x ≡ true → p x ≡ b) → find q (filter p xs) ≡ (if b then find q xs else None)
find-filter p q true [] h = refl
find-filter p q false [] h = refl
find-filter {X} p q b (x ∷ xs) h = found_if b (q x) (p x) refl refl (h x (Contains-here x xs)) (find-filter p q b xs (λ y at. h y (Contains-there x xs y at)))
  where
    found_if : (b c d : Bool) → q x ≡ c → p x ≡ d → (q x ≡ true → p x ≡ b) → find q (filter p xs) ≡ (if b then find q xs else None) → find q (filter p (x ∷ xs)) ≡ (if b then find q (x ∷ xs) else None)
    found_if true true true ec ed h rest = rw (ed, ec) refl
    found_if false true false ec ed h rest = rw ed rest
    found_if true true false ec ed h rest = absurd (false≢true (sym ed ∙ h ec))
    found_if false true true ec ed h rest = absurd (false≢true (sym (h ec) ∙ ed))
    found_if b false true ec ed h rest = rw (ed, ec) rest
    found_if b false false ec ed h rest = rw (ed, ec) rest

-- ---- nothing has the name
pub keep-all : {X : Type 0} (p : X → Bool) (xs : List X) → list_any p xs ≡ false → filter (λ x. not (p x)) xs ≡ xs
keep-all p [] h = refl
keep-all p (x ∷ xs) h =
    let parts = or_parts (p x) (list_any p xs) h in
    (λ i. if not (parts.0 i) then x ∷ keep-all p xs parts.1 i else keep-all p xs parts.1 i)

pub some_none : {X : Type 0} {x : X} → Some x ≡ None → ⊥
some_none h = cc

pub same_some : {X : Type 0} {x y : X} → Some x ≡ Some y → x ≡ y
same_some h = cc
