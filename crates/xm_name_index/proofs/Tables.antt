-- A member's table that is found by its position, and changed there.
use Rattle.std.proofs.Common.{◌≡◌, ℕ, zero, suc, Bool, true, false, ◌&&◌, ◌==◌, if◌then◌else◌, List, [], ◌∷◌, Option, Some, None, nat_eq, slice_get, position, get_or, length, ◌<◌, IfSome, refl, sym, ap, ◌∙◌, arith, eqb-true}
use Rattle.std.proofs.lemmas.Bool.Decides.{nat_tests}
use Rattle.std.proofs.lemmas.List.Quantifiers.{position-Some}
use Rattle.std.specs.Cmp.{IsEquivalence}
use Rattle.std.specs.Map.{keys_of, values_of}
use Rattle.indexmap.specs.IndexMap.{IndexMap, IsUnique, set_value_at}
use Rattle.indexmap.proofs.CallerLemmas.{updates-with_value_at}
use Rattle.xm_name_index.specs.Names.{NamesOfMember, StandsAt, key_among, key_of, lookup, names_of, reserved, reserved_among}

same_number : IsEquivalence nat_eq
same_number = record { refl = λ x. grind (arith, nat_tests); symm = λ x y. grind (arith, nat_tests); congr = λ x y z e. grind (arith, nat_tests) }

turned : (m n : ℕ) → nat_eq m n ≡ nat_eq n m
turned m n = grind (arith, nat_tests)

some_is : {X : Type 0} (x y : X) → Some x ≡ Some y → x ≡ y
some_is x y e = cc

module _ {X : Type 0} where
  -- what lies at a position
  value_at : (es : List (ℕ × X)) (i k : ℕ) (v : X) → slice_get es i ≡ Some (k, v) → slice_get (values_of es) i ≡ Some v
  value_at [] i k v e = absurd (cc)
  value_at (x ∷ es) zero k v e = ap (λ (y : ℕ × X). Some y.1) (some_is x (k, v) e)
  value_at (x ∷ es) (suc i) k v e = value_at es i k v e

  set_same : (es : List (ℕ × X)) (i k : ℕ) (v : X) → slice_get es i ≡ Some (k, v) → set_value_at es i v ≡ es
  set_same [] i k v e = refl
  set_same (x ∷ es) zero k v e = (let same = some_is x (k, v) e in λ j. (x.0, ap (λ (y : ℕ × X). y.1) (sym same) j) ∷ es)
  set_same (x ∷ es) (suc i) k v e = ap (λ (l : List (ℕ × X)). x ∷ l) (set_same es i k v e)

  -- ---- where a key stands
  key_there : (k : ℕ) (es : List (ℕ × X)) (i d : ℕ) → i < length (keys_of es) → nat_eq k (get_or (keys_of es) i d) ≡ true → (v : X) × (slice_get es i ≡ Some (k, v))
  key_there k [] i d l e = absurd (omega arith)
  key_there k (x ∷ es) zero d l e = (x.1, ap (λ (n : ℕ). let pair : ℕ × X = (n, x.1) in Some pair) (sym (eqb-true k x.0 e)))
  key_there k (x ∷ es) (suc i) d l e = key_there k es i d (omega arith) e

  key_at : (k : ℕ) (es : List (ℕ × X)) (i : ℕ) → position (nat_eq k) (keys_of es) ≡ Some i → (v : X) × (slice_get es i ≡ Some (k, v))
  key_at k es i e = (let at = position-Some (nat_eq k) (keys_of es) i 0 e in key_there k es i 0 at.0 at.1)

pub stands-if : (es : List (ℕ × NamesOfMember)) (member : ℕ) (o : Option ℕ) → o ≡ position (nat_eq member) (keys_of es) → IfSome o (λ i. slice_get (values_of es) i ≡ names_of es member)
    → IfSome o (StandsAt es member)
stands-if es member None is values = tt
stands-if es member (Some i) is values =
    let at = key_at member es i (sym is) in
    record { table = at.0; at = at.1; found = sym values ∙ value_at es i member at.0 at.1 }

module _ {S : Type 0} (m : IndexMap ℕ NamesOfMember S) (member i : ℕ) (s : StandsAt m.entries member i) where
  pub table-is : (x : NamesOfMember) → Some x ≡ slice_get (values_of m.entries) i → x ≡ s.table
  table-is x e = some_is x s.table (e ∙ value_at m.entries i member s.table s.at)

  pub table-at : (k : ℕ) (x : NamesOfMember) → slice_get m.entries i ≡ Some (k, x) → x ≡ s.table
  table-at k x e = ap (λ (y : ℕ × NamesOfMember). y.1) (some_is (k, x) (member, s.table) (sym e ∙ s.at))

  pub unchanged : (x' : NamesOfMember) → x' ≡ s.table → set_value_at m.entries i x' ≡ m.entries
  unchanged x' e = ap (set_value_at m.entries i) e ∙ set_same m.entries i member s.table s.at

  module _ (unique : IsUnique nat_eq m) (x' : NamesOfMember) where
    pub after : (q : ℕ) → names_of (set_value_at m.entries i x') q ≡ (if q == member then Some x' else names_of m.entries q)
    after q =
        (updates-with_value_at m i x' same_number unique member s.table s.at).0 q
        ∙ ap (λ (b : Bool). if b then Some x' else names_of m.entries q) (turned member q)

    own : (q : ℕ) → (q == member) ≡ true → names_of m.entries q ≡ Some s.table
    own q e = ap (names_of m.entries) (eqb-true q member e) ∙ s.found

    -- one reference has another key
    pub lookup-with : (f : ℕ → Bool) (v : Option ℕ) → ((r : ℕ) → key_of r x' ≡ (if f r then v else key_of r s.table))
        → (q r : ℕ) → lookup (set_value_at m.entries i x') q r ≡ (if (q == member) && f r then v else lookup m.entries q r)
    unfolding lookup
    lookup-with f v h q r = ap (key_among r) (after q) ∙ by (q == member) refl
      where
        by : (b : Bool) → (q == member) ≡ b → key_among r (if b then Some x' else names_of m.entries q) ≡ (if b && f r then v else key_among r (names_of m.entries q))
        by true e = h r ∙ ap (λ (o : Option ℕ). if f r then v else o) (sym (ap (key_among r) (own q e)))
        by false e = refl

    pub lookup-same : ((r : ℕ) → key_of r x' ≡ key_of r s.table) → (q r : ℕ) → lookup (set_value_at m.entries i x') q r ≡ lookup m.entries q r
    unfolding lookup
    lookup-same h q r = ap (key_among r) (after q) ∙ by (q == member) refl
      where
        by : (b : Bool) → (q == member) ≡ b → key_among r (if b then Some x' else names_of m.entries q) ≡ key_among r (names_of m.entries q)
        by true e = h r ∙ sym (ap (key_among r) (own q e))
        by false e = refl

    -- of the member other room is reserved
    pub reserved-with : (g : ℕ → ℕ) → x'.reserved ≡ g s.table.reserved → (q : ℕ) → reserved (set_value_at m.entries i x') q ≡ (if q == member then g (reserved m.entries q) else reserved m.entries q)
    unfolding reserved
    reserved-with g h q = ap reserved_among (after q) ∙ by (q == member) refl
      where
        by : (b : Bool) → (q == member) ≡ b → reserved_among (if b then Some x' else names_of m.entries q) ≡ (if b then g (reserved_among (names_of m.entries q)) else reserved_among (names_of m.entries q))
        by true e = h ∙ ap g (sym (ap reserved_among (own q e)))
        by false e = refl

    pub reserved-same : x'.reserved ≡ s.table.reserved → (q : ℕ) → reserved (set_value_at m.entries i x') q ≡ reserved m.entries q
    unfolding reserved
    reserved-same h q = ap reserved_among (after q) ∙ by (q == member) refl
      where
        by : (b : Bool) → (q == member) ≡ b → reserved_among (if b then Some x' else names_of m.entries q) ≡ reserved_among (names_of m.entries q)
        by true e = h ∙ sym (ap reserved_among (own q e))
        by false e = refl

  pub own-key : (r : ℕ) → lookup m.entries member r ≡ key_of r s.table
  unfolding lookup
  own-key r = ap (key_among r) s.found

  pub own-reserved : reserved m.entries member ≡ s.table.reserved
  unfolding reserved
  own-reserved = ap reserved_among s.found
