-- Entries of a map, as a call leaves them.
use Rattle.std.proofs.Common.{◌≡◌, ℕ, Bool, true, false, cond, List, [], ◌∷◌, ◌++◌, Option, Some, None, IfNone, IfSome, Result, Ok, Err, OnErr, OnOk, nat_eq, eq-eqb, refl, sym}
use Rattle.std.proofs.lemmas.Option.{none-some}
use Rattle.std.specs.Map.{lookup}
use Rattle.std.specs.Option.{option_to_list}

-- ---- the last entry of keys that are distinct

past : (b : Bool) (x v : ℕ) (o o' : Option ℕ) → cond b (Some x) o ≡ None → (o ≡ None → o' ≡ Some v) → cond b (Some x) o' ≡ Some v
past true x v o o' none later = absurd (none-some x (sym none))
past false x v o o' none later = later none

found_last : (k v : ℕ) (es : List (ℕ × ℕ)) → lookup (nat_eq k) es ≡ None → lookup (nat_eq k) (es ++ (k, v) ∷ []) ≡ Some v
found_last k v [] none = rw (eq-eqb k k refl) refl
found_last k v (e ∷ es) none =
    past (nat_eq k e.0) e.1 v (lookup (nat_eq k) es) (lookup (nat_eq k) (es ++ (k, v) ∷ [])) none (found_last k v es)

pub popped_key : (old new : List (ℕ × ℕ)) (popped : Option (ℕ × ℕ)) → old ≡ new ++ option_to_list popped → IfSome popped (λ p. lookup (nat_eq p.0) new ≡ None) → IfSome popped (λ p. lookup (nat_eq p.0) old ≡ Some p.1)
popped_key old new None is absent = tt
popped_key old new (Some p) is absent = rw is (found_last p.0 p.1 new absent)

pub some_gives : {X : Type 0} (o : Option X) (P Q : X → Type 0) → ((x : X) → P x → Q x) → IfSome o P → IfSome o Q
some_gives None P Q gives p = tt
some_gives (Some x) P Q gives p = gives x p

pub none_gives : {X P Q : Type 0} (o : Option X) → (P → Q) → IfNone o P → IfNone o Q
none_gives None gives p = gives p
none_gives (Some x) gives p = tt

pub ok_gives : {X E P Q : Type 0} (r : Result X E) → (P → Q) → OnOk r P → OnOk r Q
ok_gives (Ok x) gives p = gives p
ok_gives (Err e) gives p = tt

pub error_gives : {X E P Q : Type 0} (r : Result X E) → (P → Q) → OnErr r P → OnErr r Q
error_gives (Ok x) gives p = tt
error_gives (Err e) gives p = gives p

-- what holds of both outcomes
pub either : {X E P Q R : Type 0} (r : Result X E) → (P → R) → (Q → R) → OnOk r P → OnErr r Q → R
either (Ok x) ok error p q = ok p
either (Err e) ok error p q = error q
