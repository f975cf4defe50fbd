-- Look-ups among names.
use Rattle.std.proofs.Common.{◌≡◌, ℕ, ◌+◌, ◌≤◌, suc, Bool, true, false, not, ◌||◌, cond, List, [], ◌∷◌, length, map, Some, None, Result, Ok, Err, IfOk, String, Global, string_bytes, refl, sym, ap, ◌∙◌, arith, nat_lt}
use Rattle.std.proofs.Math.Logic.{∥∥₁_elim}
use Rattle.std.proofs.lemmas.Bool.{or_parts}
use Rattle.std.proofs.lemmas.Bool.Decides.{nat_tests}
use Rattle.std.proofs.lemmas.List.{length-map}
use Rattle.std.proofs.lemmas.Slice.Eq.{bytes_eq-Decides}
use Rattle.std.specs.List.{list_any, prefix_len, position_or_len, position}
use Rattle.std.specs.Result.{is_err}
use Rattle.std.specs.Str.{bytes_eq, IsUtf8}

prefix_len-map : {A B : Type 0} (p : B → Bool) (f : A → B) (xs : List A) → prefix_len p (map f xs) ≡ prefix_len (λ x. p (f x)) xs
prefix_len-map p f [] = refl
prefix_len-map p f (x ∷ xs) = ap (λ n. cond (p (f x)) (1 + n) 0) (prefix_len-map p f xs)

-- a place among the images of a list is a place in the list
pub position-map : {A B : Type 0} (p : B → Bool) (f : A → B) (xs : List A) → position p (map f xs) ≡ position (λ x. p (f x)) xs
position-map p f xs = rw (prefix_len-map (λ x. not (p x)) f xs, length-map xs f) refl

pub list_any-map : {A B : Type 0} (p : B → Bool) (f : A → B) (xs : List A) → list_any p (map f xs) ≡ list_any (λ x. p (f x)) xs
list_any-map p f [] = refl
list_any-map p f (x ∷ xs) = ap (λ b. p (f x) || b) (list_any-map p f xs)

-- a result that is no error has what holds of an `Ok`
pub not_err : {T E : Type 0} {P : Type 0} (r : Result T E) → false ≡ is_err r → IfOk r (λ _. P) → P
not_err (Ok x) e h = h
not_err (Err y) e h = cc

differs : (bytes : List ℕ) (key : String Global) (b : Bool) → bytes_eq bytes (string_bytes key) ≡ b → ¬ (IsUtf8 bytes) → b ≡ false
differs bytes key false e lacks = refl
differs bytes key true e lacks =
    let same : bytes ≡ string_bytes key = (bytes_eq-Decides bytes (string_bytes key)).0 e in
    absurd (∥∥₁_elim key.ok (λ x. absurd x) (λ text. lacks (rw same text)))

-- bytes that are no text are no text's
none_equal : (bytes : List ℕ) (keys : List (String Global)) → ¬ (IsUtf8 bytes) → list_any (λ key. bytes_eq bytes (string_bytes key)) keys ≡ false
none_equal bytes [] lacks = refl
none_equal bytes (key ∷ keys) lacks = rw (differs bytes key _ refl lacks, none_equal bytes keys lacks) refl

-- where none passes, no place comes before the end
pub none-prefix : {A : Type 0} (p : A → Bool) (xs : List A) → list_any p xs ≡ false → prefix_len (λ x. not (p x)) xs ≡ length xs
none-prefix p [] none = refl
none-prefix p (x ∷ xs) none =
    let parts = or_parts (p x) (list_any p xs) none in
    rw (parts.0, none-prefix p xs parts.1) (omega arith)

-- a list in which none passes has no place
pub no-position : {A : Type 0} (p : A → Bool) (xs : List A) → list_any p xs ≡ false → position p xs ≡ None
no-position p xs none =
    let past : nat_lt (length xs) (length xs) ≡ false = grind (arith, nat_tests) in
    rw (none-prefix p xs none, past) refl

-- bytes that are no text have no place among texts
pub no_text : (bytes : List ℕ) (keys : List (String Global)) → ¬ (IsUtf8 bytes) → position (bytes_eq bytes) (map string_bytes keys) ≡ None
no_text bytes keys lacks = position-map (bytes_eq bytes) string_bytes keys ∙ no-position (λ key. bytes_eq bytes (string_bytes key)) keys (none_equal bytes keys lacks)

within-if : (t : Bool) (n m : ℕ) → n ≤ m → cond t (1 + n) 0 ≤ suc m
within-if true n m h = omega arith
within-if false n m h = omega arith

pub prefix-within : {A : Type 0} (p : A → Bool) (xs : List A) → prefix_len p xs ≤ length xs
prefix-within p [] = omega arith
prefix-within p (x ∷ xs) = within-if (p x) (prefix_len p xs) (length xs) (prefix-within p xs)

no-place : (t : Bool) (n m : ℕ) → nat_lt n m ≡ t → n ≤ m → cond t (Some n) None ≡ None → m ≡ n
no-place true n m e h none = cc
no-place false n m e h none = grind (arith, nat_tests)

-- where none passes, the place is the length
pub position-None : {A : Type 0} (p : A → Bool) (xs : List A) → None ≡ position p xs → length xs ≡ position_or_len p xs
position-None p xs e = no-place (nat_lt (position_or_len p xs) (length xs)) (position_or_len p xs) (length xs) refl (prefix-within (λ x. not (p x)) xs) (sym e)
