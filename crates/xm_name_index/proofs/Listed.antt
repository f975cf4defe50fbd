-- The names of a table, listed bucket by bucket.
use Rattle.std.proofs.Common.{◌≡◌, ◌≢◌, get_or, ℕ, ◌+◌, Bool, true, false, ◌==◌, ◌<◌, ◌≤◌, cond, if◌then◌else◌, List, [], ◌∷◌, ◌++◌, find, length, take, slice_get, zero, suc, Option, Some, None, IsSome, nat_eq, nat_lt, refl, sym, subst, ap, ◌∙◌, arith, eqb-true, eq-eqb}
use Rattle.std.specs.List.{AllByRecursion, IsDistinct, flat_map}
use Rattle.std.specs.Map.{keys_of, lookup}
use Rattle.std.proofs.lemmas.Bool.Decides.{nat_tests}
use Rattle.std.proofs.lemmas.Bool.{false≢true}
use Rattle.std.proofs.lemmas.List.{take_more}
use Rattle.std.proofs.lemmas.Option.{none-some}
use Rattle.std.proofs.lemmas.Map.{none_passes_from_lookup}
use Rattle.std.proofs.lemmas.Map.Keys.{IsDistinct-cons, IsDistinct-head, IsDistinct-tail}
use Rattle.xm_name_index.specs.Buckets.{AreNamedApart, has_reference, is_vacant, key_in, slot_name}
use Rattle.xm_name_index.specs.Names.{AreAllNames, first_of, key_among, key_of, names_of, NamesOfMember}
use Rattle.xm_name_index.specs.Names as names
use Rattle.xm_name_index.specs.Tables.{IsPlaced, TableView, home, key_at, table_key}
use Rattle.xm_name_index.specs.declared.slot.Slot.{Slot}
use Rattle.xm_name_index.proofs.Buckets.{no-slot, own-has, vacant-has}
use Rattle.xm_name_index.proofs.Placed.{key-there, no-bucket, some-is, there}

turned : (m n : ℕ) → nat_eq m n ≡ nat_eq n m
turned m n = grind (arith, nat_tests)

module _ {X : Type 0} where
  past-all : (xs : List X) (i : ℕ) → length xs ≤ i → slice_get xs i ≡ None
  past-all [] i past = refl
  past-all (x ∷ xs) zero past = absurd (omega arith)
  past-all (x ∷ xs) (suc i) past = past-all xs i (omega arith)

  pub taken-more : (xs : List X) (i : ℕ) (x : X) → slice_get xs i ≡ Some x → take (i + 1) xs ≡ take i xs ++ x ∷ []
  taken-more xs i x here = by (nat_lt i (length xs)) refl
    where
      by : (b : Bool) → nat_lt i (length xs) ≡ b → take (i + 1) xs ≡ take i xs ++ x ∷ []
      by true less =
          let within : i < length xs = grind (arith, nat_tests, less) in
          take_more xs i x within ∙ ap (λ y. take i xs ++ y ∷ []) (some-is (get_or xs i x) x (sym (there x xs i x within) ∙ here))
      by false more = absurd (let past : length xs ≤ i = grind (arith, nat_tests, more) in none-some x (sym (past-all xs i past) ∙ here))

-- ---- lists of names
pub lookup-append : (r : ℕ) (xs ys : List (ℕ × ℕ)) → lookup (nat_eq r) (xs ++ ys) ≡ first_of (lookup (nat_eq r) xs) (lookup (nat_eq r) ys)
lookup-append r [] ys = refl
lookup-append r (x ∷ xs) ys = by (nat_eq r x.0) (lookup-append r xs ys)
  where
    by : (b : Bool) → lookup (nat_eq r) (xs ++ ys) ≡ first_of (lookup (nat_eq r) xs) (lookup (nat_eq r) ys)
        → cond b (Some x.1) (lookup (nat_eq r) (xs ++ ys)) ≡ first_of (cond b (Some x.1) (lookup (nat_eq r) xs)) (lookup (nat_eq r) ys)
    by true rest = refl
    by false rest = rest

others-append : (k : ℕ) (xs ys : List (ℕ × ℕ)) → AllByRecursion (λ y. nat_eq k y ≡ false) (keys_of xs) → AllByRecursion (λ (e : ℕ × ℕ). nat_eq k e.0 ≡ false) ys
    → AllByRecursion (λ y. nat_eq k y ≡ false) (keys_of (xs ++ ys))
others-append k [] [] a b = tt
others-append k [] (y ∷ ys) a b = (b.0, others-append k [] ys tt b.1)
others-append k (x ∷ xs) ys a b = (a.0, others-append k xs ys a.1 b)

pub distinct-append : (xs ys : List (ℕ × ℕ)) → IsDistinct nat_eq (keys_of xs) → IsDistinct nat_eq (keys_of ys) → ((r : ℕ) → IsSome (lookup (nat_eq r) xs) → lookup (nat_eq r) ys ≡ None)
    → IsDistinct nat_eq (keys_of (xs ++ ys))
distinct-append [] ys d e apart = e
distinct-append (x ∷ xs) ys d e apart =
    IsDistinct-cons nat_eq x.0 (keys_of (xs ++ ys))
    (others-append x.0 xs ys (IsDistinct-head nat_eq x.0 (keys_of xs) d) (none_passes_from_lookup (nat_eq x.0) ys (apart x.0 here)))
    (distinct-append xs ys (IsDistinct-tail nat_eq x.0 (keys_of xs) d) e (λ r some. apart r (later r (nat_eq r x.0) some)))
  where
    here : IsSome (lookup (nat_eq x.0) (x ∷ xs))
    here = subst (λ (b : Bool). IsSome (cond b (Some x.1) (lookup (nat_eq x.0) xs))) (sym (eq-eqb x.0 x.0 refl)) refl

    later : (r : ℕ) (b : Bool) → IsSome (lookup (nat_eq r) xs) → IsSome (cond b (Some x.1) (lookup (nat_eq r) xs))
    later r true some = refl
    later r false some = some

-- ---- the names of a bucket
pub bucket-keyed : (r : ℕ) (slots : List Slot) → lookup (nat_eq r) (flat_map slot_name slots) ≡ key_in r slots
bucket-keyed r [] = refl
bucket-keyed r (x ∷ xs) = by (is_vacant x) refl (bucket-keyed r xs)
  where
    named : (b : Bool) → (x.reference == r) ≡ b → is_vacant x ≡ false → lookup (nat_eq r) (flat_map slot_name xs) ≡ key_in r xs
        → cond (nat_eq r x.reference) (Some x.key) (lookup (nat_eq r) (flat_map slot_name xs)) ≡ key_in r (x ∷ xs)
    named true same is rest = grind (arith, nat_tests, same, is)
    named false other is rest = grind (arith, nat_tests, other, is, rest)

    by : (b : Bool) → is_vacant x ≡ b → lookup (nat_eq r) (flat_map slot_name xs) ≡ key_in r xs
        → lookup (nat_eq r) ((if b then [] else (x.reference, x.key) ∷ []) ++ flat_map slot_name xs) ≡ key_in r (x ∷ xs)
    by true is rest = rest ∙ sym (ap (λ (c : Bool). key_of_found (cond c (Some x) (find (has_reference r) xs))) (vacant-has r x is))
      where
        key_of_found : Option Slot → Option ℕ
        key_of_found None = None
        key_of_found (Some s) = Some s.key
    by false is rest = named (x.reference == r) refl is rest

pub bucket-distinct : (slots : List Slot) → AreNamedApart slots → IsDistinct nat_eq (keys_of (flat_map slot_name slots))
unfolding IsDistinct
bucket-distinct [] apart = tt
bucket-distinct (x ∷ xs) apart = by (is_vacant x) refl (bucket-distinct xs apart.1)
  where
    alone : is_vacant x ≡ false → lookup (nat_eq x.reference) (flat_map slot_name xs) ≡ None
    alone is = bucket-keyed x.reference xs ∙ ap (λ (o : Option Slot). key_found o) (apart.0 x.reference (own-has x is))
      where
        key_found : Option Slot → Option ℕ
        key_found None = None
        key_found (Some s) = Some s.key

    by : (b : Bool) → is_vacant x ≡ b → IsDistinct nat_eq (keys_of (flat_map slot_name xs))
        → IsDistinct nat_eq (keys_of ((if b then [] else (x.reference, x.key) ∷ []) ++ flat_map slot_name xs))
    by true is rest = rest
    by false is rest = distinct-append ((x.reference, x.key) ∷ []) (flat_map slot_name xs) (tt, tt) rest (λ r some. other r some (nat_eq r x.reference) refl)
      where
        other : (r : ℕ) → IsSome (lookup (nat_eq r) ((x.reference, x.key) ∷ [])) → (b : Bool) → nat_eq r x.reference ≡ b → lookup (nat_eq r) (flat_map slot_name xs) ≡ None
        other r some true same = ap (λ (n : ℕ). lookup (nat_eq n) (flat_map slot_name xs)) (eqb-true r x.reference same) ∙ alone is
        other r some false differs = absurd (let none : IsSome (cond false (Some x.key) None) = subst (λ (c : Bool). IsSome (cond c (Some x.key) None)) differs some in cc)

-- ---- the names of a table
-- those of the buckets before this one
pub record AreListed (t : TableView) (n : ℕ) (names : List (ℕ × ℕ)) : Type 0 where
  pub keyed : (r : ℕ) → lookup (nat_eq r) names ≡ (if nat_lt (home t r) n then table_key t r else None)
  pub once : IsDistinct nat_eq (keys_of names)

pub none-listed : (t : TableView) (first : ℕ) → IsPlaced t first → AreListed t first []
unfolding IsDistinct
none-listed t first p = record { keyed = λ r. by r (nat_lt (home t r) first) refl; once = tt }
  where
    by : (r : ℕ) (b : Bool) → nat_lt (home t r) first ≡ b → None ≡ (if b then table_key t r else None)
    by r true less = sym (p.empty (home t r) r (grind (arith, nat_tests, less)))
    by r false more = refl

module _ (t : TableView) (first n : ℕ) (names : List (ℕ × ℕ)) (slots : List Slot) (p : IsPlaced t first) (within : n < length t.buckets) (is : slots ≡ get_or t.buckets n slots)
    (apart : AreNamedApart slots) (listed : AreListed t n names) where
  own : (r : ℕ) → lookup (nat_eq r) (flat_map slot_name slots) ≡ key_at t n r
  own r = bucket-keyed r slots ∙ key-there t n r slots within is

  -- a reference of another bucket has no key in this one
  away : (r : ℕ) → home t r ≢ n → key_at t n r ≡ None
  away r apart = by (key_at t n r) refl
    where
      by : (o : Option ℕ) → key_at t n r ≡ o → o ≡ None
      by None e = refl
      by (Some k) e = absurd (apart (p.home n r (subst IsSome (sym e) refl)))

  keyed-more : (r : ℕ) → lookup (nat_eq r) (names ++ flat_map slot_name slots) ≡ (if nat_lt (home t r) (n + 1) then table_key t r else None)
  keyed-more r =
      lookup-append r names (flat_map slot_name slots) ∙ (λ i. first_of (listed.keyed r i) (own r i))
      ∙ by (nat_lt (home t r) n) (nat_lt (home t r) (n + 1)) refl refl
    where
      none_first : (o : Option ℕ) → first_of o None ≡ o
      none_first None = refl
      none_first (Some k) = refl

      by : (b c : Bool) → nat_lt (home t r) n ≡ b → nat_lt (home t r) (n + 1) ≡ c → first_of (if b then table_key t r else None) (key_at t n r) ≡ (if c then table_key t r else None)
      by true true less less' = ap (first_of (table_key t r)) (away r (λ e. absurd (let l : home t r < n = grind (arith, nat_tests, less) in omega (arith, e)))) ∙ none_first (table_key t r)
      by true false less more' = absurd (false≢true (sym more' ∙ grind (arith, nat_tests, less)))
      by false true more less' =
          let same : home t r ≡ n = (let a : n ≤ home t r = grind (arith, nat_tests, more) in let b : home t r < n + 1 = grind (arith, nat_tests, less') in omega arith) in
          ap (λ (i : ℕ). key_at t i r) (sym same)
      by false false more more' = away r (λ e. absurd (let l : n + 1 ≤ home t r = grind (arith, nat_tests, more') in omega (arith, e)))

  pub more-listed : AreListed t (n + 1) (names ++ flat_map slot_name slots)
  more-listed = record { keyed = keyed-more; once = distinct-append names (flat_map slot_name slots) listed.once (bucket-distinct slots apart) (λ r some. own r ∙ other r some (nat_lt (home t r) n) refl) }
    where
      other : (r : ℕ) → IsSome (lookup (nat_eq r) names) → (b : Bool) → nat_lt (home t r) n ≡ b → key_at t n r ≡ None
      other r some true less = away r (λ e. absurd (let l : home t r < n = grind (arith, nat_tests, less) in omega (arith, e)))
      other r some false more =
          absurd (let none : IsSome (if false then table_key t r else None) = subst (λ (c : Bool). IsSome (if c then table_key t r else None)) more (subst IsSome (listed.keyed r) some) in cc)

pub all-listed : (t : TableView) (n : ℕ) (names : List (ℕ × ℕ)) → length t.buckets ≤ n → AreListed t n names → AreAllNames (table_key t) names
all-listed t n names past listed = record { keyed = λ r. listed.keyed r ∙ by r (nat_lt (home t r) n) refl; once = listed.once }
  where
    by : (r : ℕ) (b : Bool) → nat_lt (home t r) n ≡ b → (if b then table_key t r else None) ≡ table_key t r
    by r true less = refl
    by r false more = sym (no-bucket r t.buckets (home t r) (let w : n ≤ home t r = grind (arith, nat_tests, more) in omega arith))

-- ---- the names of a member
pub with-rest : (n : NamesOfMember) (names : List (ℕ × ℕ)) → AreAllNames (table_key n.table) names → IsDistinct nat_eq (keys_of n.rest) → ((r : ℕ) → IsSome (table_key n.table r) → lookup (nat_eq r) n.rest ≡ None)
    → AreAllNames (λ r. key_of r n) (names ++ n.rest)
with-rest n names all unique apart = record {
  keyed = λ r. lookup-append r names n.rest ∙ ap (λ (o : Option ℕ). first_of o (lookup (nat_eq r) n.rest)) (all.keyed r);
  once = distinct-append names n.rest all.once unique (λ r some. apart r (subst IsSome (all.keyed r) some));
}

pub no-names : (all : List (ℕ × NamesOfMember)) (member : ℕ) → names_of all member ≡ None → AreAllNames (λ r. names.lookup all member r) []
unfolding IsDistinct names.lookup
no-names all member none = record { keyed = λ r. sym (ap (key_among r) none); once = tt }
