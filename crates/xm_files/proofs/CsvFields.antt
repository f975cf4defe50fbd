-- The fields of a record that CSV read, one by one.
use Rattle.std.proofs.Common.{◌≡◌, ℕ, Bool, true, false, suc, zero, List, [], ◌∷◌, get_or, length, Option, Some, None, unwrap_or, if◌then◌else◌, ◌==◌, refl, ap, ◌∙◌, arith}
use Rattle.std.proofs.lemmas.Bool.Decides.{nat_tests}
use Rattle.csv.specs.Records.{field_at}

field_at-get_or : (fields : List (List ℕ)) (i : ℕ) → unwrap_or (field_at fields i) [] ≡ get_or fields i []
unfolding field_at
field_at-get_or [] i = refl
field_at-get_or (field ∷ fields) zero = refl
field_at-get_or (field ∷ fields) (suc i) = field_at-get_or fields i

-- a field that is there, and one that isn't
pub some-field : (fields : List (List ℕ)) (i : ℕ) (text : List ℕ) → Some text ≡ field_at fields i → text ≡ get_or fields i []
some-field fields i text e = ap (λ (o : Option (List ℕ)). unwrap_or o []) e ∙ field_at-get_or fields i

pub no-field : (fields : List (List ℕ)) (i : ℕ) → None ≡ field_at fields i → [] ≡ get_or fields i []
no-field fields i e = ap (λ (o : Option (List ℕ)). unwrap_or o []) e ∙ field_at-get_or fields i

pub same-number : (n : ℕ) → (n == n) ≡ true
same-number n = grind (arith, nat_tests)

-- the fields, given that there are as many
pub given : (n : ℕ) (f texts : List (List ℕ)) → length f ≡ n → texts ≡ f → Some texts ≡ (if length f == n then Some f else None)
given n f texts e same = rw (e, same, same-number n) refl

read-if : (n : ℕ) (f texts : List (List ℕ)) (t : Bool) → (length f == n) ≡ t → Some texts ≡ (if t then Some f else None) → (length f ≡ n) × (texts ≡ f)
read-if n f texts true test e = (grind (arith, nat_tests), cc)
read-if n f texts false test e = cc

-- fields that were given are as many
pub given-back : (n : ℕ) (f texts : List (List ℕ)) → Some texts ≡ (if length f == n then Some f else None) → (length f ≡ n) × (texts ≡ f)
given-back n f texts e = read-if n f texts (length f == n) refl e
