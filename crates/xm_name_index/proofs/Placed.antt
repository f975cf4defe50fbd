-- A table of names, as changes of one bucket leave it.
use Rattle.std.proofs.Common.{◌≡◌, ◌≢◌, get_or, ℕ, zero, suc, ◌+◌, ◌^◌, Bool, true, false, ◌==◌, ◌<◌, ◌≤◌, if◌then◌else◌, List, [], ◌∷◌, set, length, Option, Some, None, IsSome, nat_lt, slice_get, refl, sym, subst, ap, ◌∙◌, arith, eqb-true, eq-eqb}
use Rattle.std.proofs.lemmas.Bool.Decides.{nat_tests}
use Rattle.std.proofs.lemmas.Bool.{false≢true}
use Rattle.std.proofs.lemmas.List.{length-set}
use Rattle.xm_name_index.specs.Buckets.{AreNamedApart, Leaves, key_in}
use Rattle.xm_name_index.specs.Names.{Retains}
use Rattle.xm_name_index.specs.Tables.{IsPlaced, TableView, home, home_among, key_in_bucket, key_at, table_key}
use Rattle.xm_name_index.specs.declared.slot.Slot.{Slot}
use Rattle.xm_name_index.proofs.Buckets.{IsByKey, keys-retained}

other : (i h : ℕ) → i ≢ h → (i == h) ≡ false
other i h apart = grind (arith, nat_tests, apart)

pub differs : (n m : ℕ) → (n == m) ≡ false → n ≢ m
differs n m e = grind (arith, nat_tests, e)

same-suc : (i h : ℕ) → (i == h) ≡ (suc i == suc h)
same-suc i h = grind (arith, nat_tests)

-- ---- one element of a list is another
module _ {X : Type 0} (v : X) where
  pub set-at : (xs : List X) (h i : ℕ) → h < length xs → slice_get (set xs h v) i ≡ (if i == h then Some v else slice_get xs i)
  set-at [] h i within = absurd (omega arith)
  set-at (x ∷ xs) zero zero within = refl
  set-at (x ∷ xs) zero (suc i) within = ap (λ (b : Bool). if b then Some v else slice_get xs i) (sym (other (suc i) 0 (omega arith)))
  set-at (x ∷ xs) (suc h) zero within = ap (λ (b : Bool). if b then Some v else Some x) (sym (other 0 (suc h) (omega arith)))
  set-at (x ∷ xs) (suc h) (suc i) within = set-at xs h i (omega arith) ∙ ap (λ (b : Bool). if b then Some v else slice_get xs i) (same-suc i h)

  pub there : (xs : List X) (h : ℕ) (d : X) → h < length xs → slice_get xs h ≡ Some (get_or xs h d)
  there [] h d within = absurd (omega arith)
  there (x ∷ xs) zero d within = refl
  there (x ∷ xs) (suc h) d within = there xs h d (omega arith)

-- the key of an index and a reference is decided by both
pub some-is : {X : Type 0} (x y : X) → Some x ≡ Some y → x ≡ y
some-is x y e = cc

-- the key that the bucket at an index gives
pub key-there : (t : TableView) (h r : ℕ) (old : List Slot) → h < length t.buckets → old ≡ get_or t.buckets h old → key_in r old ≡ key_at t h r
key-there t h r old within is = ap (key_in_bucket r) (ap (λ (b : List Slot). Some b) is ∙ sym (there old t.buckets h old within))

pub no-bucket : (r : ℕ) (bs : List (List Slot)) (h : ℕ) → length bs ≤ h → key_in_bucket r (slice_get bs h) ≡ None
no-bucket r [] h past = refl
no-bucket r (b ∷ bs) zero past = absurd (omega arith)
no-bucket r (b ∷ bs) (suc h) past = no-bucket r bs h (omega arith)

-- a reference without a bucket has no key
pub past-end : (t : TableView) (r h : ℕ) → home t r ≡ h → length t.buckets ≤ h → table_key t r ≡ None
past-end t r h at past = ap (λ (i : ℕ). key_at t i r) at ∙ no-bucket r t.buckets h past

-- to take out what isn't there changes nothing
pub none-taken : (t : TableView) (r0 : ℕ) → table_key t r0 ≡ None → (r : ℕ) → table_key t r ≡ (if r == r0 then None else table_key t r)
none-taken t r0 none r = by (r == r0) refl
  where
    by : (b : Bool) → (r == r0) ≡ b → table_key t r ≡ (if b then None else table_key t r)
    by true same = ap (table_key t) (eqb-true r r0 same) ∙ none
    by false other = refl

-- what a change of the bucket at an index says of the keys
pub bucket-says : (t : TableView) (h r0 : ℕ) (old v : List Slot) (w : Option ℕ) → h < length t.buckets → old ≡ get_or t.buckets h old
    → ((r : ℕ) → key_in r v ≡ (if r == r0 then w else key_in r old)) → (r : ℕ) → key_in r v ≡ (if r == r0 then w else key_at t h r)
bucket-says t h r0 old v w within is says r =
    says r ∙ ap (λ (o : Option ℕ). if r == r0 then w else o) (key-there t h r old within is)

module _ (t : TableView) (h : ℕ) (v : List Slot) where
  abbrev pub with_bucket : TableView
  with_bucket = record t { buckets = set t.buckets h v }

  pub same-home : (r : ℕ) → home with_bucket r ≡ home t r
  unfolding home
  same-home r = ap (λ (n : ℕ). home_among t.seed n r) (length-set t.buckets h v)

  still-few : length t.buckets ≤ 2 ^ 32 → length with_bucket.buckets ≤ 2 ^ 32
  still-few few = subst (λ (n : ℕ). n ≤ 2 ^ 32) (sym (length-set t.buckets h v)) few

  module _ (within : h < length t.buckets) where
    pub bucket-at : (i r : ℕ) → key_at with_bucket i r ≡ (if i == h then key_in r v else key_at t i r)
    bucket-at i r = ap (key_in_bucket r) (set-at v t.buckets h i within) ∙ by (i == h)
      where
        by : (b : Bool) → key_in_bucket r (if b then Some v else slice_get t.buckets i) ≡ (if b then key_in r v else key_at t i r)
        by true = refl
        by false = refl

    -- ---- one reference of the bucket has another key
    module _ (r0 : ℕ) (w : Option ℕ) (at_home : home t r0 ≡ h) (says : (r : ℕ) → key_in r v ≡ (if r == r0 then w else key_at t h r)) where
      key-if : (i r : ℕ) → home t r ≡ i → (b c : Bool) → (i == h) ≡ b → (r == r0) ≡ c → (if b then key_in r v else key_at t i r) ≡ (if c then w else key_at t i r)
      key-if i r is true c same other = says r ∙ ap (λ (d : Bool). if d then w else key_at t h r) other ∙ ap (λ (n : ℕ). if c then w else key_at t n r) (sym (eqb-true i h same))
      key-if i r is false true differs own = absurd (false≢true (sym differs ∙ eq-eqb i h (sym is ∙ ap (home t) (eqb-true r r0 own) ∙ at_home)))
      key-if i r is false false differs other = refl

      pub keys-with : (r : ℕ) → table_key with_bucket r ≡ (if r == r0 then w else table_key t r)
      keys-with r = ap (λ (i : ℕ). key_at with_bucket i r) (same-home r) ∙ bucket-at (home t r) r ∙ key-if (home t r) r refl (home t r == h) (r == r0) refl refl

      module _ (first first' : ℕ) (p : IsPlaced t first) (earlier : first' ≤ first) (filled : h < first' → w ≡ None) where
        home-own : (r : ℕ) (c : Bool) → (r == r0) ≡ c → IsSome (if c then w else key_at t h r) → home t r ≡ h
        home-own r true own some = ap (home t) (eqb-true r r0 own) ∙ at_home
        home-own r false other some = p.home h r some

        home-if : (i r : ℕ) (b : Bool) → (i == h) ≡ b → IsSome (if b then key_in r v else key_at t i r) → home t r ≡ i
        home-if i r true same some = home-own r (r == r0) refl (subst IsSome (says r) some) ∙ sym (eqb-true i h same)
        home-if i r false differs some = p.home i r some

        empty-own : (r : ℕ) (c : Bool) → h < first' → (if c then w else key_at t h r) ≡ None
        empty-own r true before = filled before
        empty-own r false before = p.empty h r (omega arith)

        empty-if : (i r : ℕ) (b : Bool) → (i == h) ≡ b → i < first' → (if b then key_in r v else key_at t i r) ≡ None
        empty-if i r true same before = (let e = eqb-true i h same in says r ∙ empty-own r (r == r0) (omega arith))
        empty-if i r false differs before = p.empty i r (omega arith)

        pub placed-with : IsPlaced with_bucket first'
        placed-with = record {
          few = still-few p.few;
          home = λ i r some. same-home r ∙ home-if i r (i == h) refl (subst IsSome (bucket-at i r) some);
          empty = λ i r before. bucket-at i r ∙ empty-if i r (i == h) refl before;
        }

-- ---- a test takes names out of a bucket
retains-some : (A : ℕ → Bool → Type 0) (o left : Option ℕ) → Retains A o left → IsSome left → IsSome o
retains-some A None left kept some = subst IsSome kept some
retains-some A (Some key) left kept some = refl

retains-none : (A : ℕ → Bool → Type 0) (o left : Option ℕ) → o ≡ None → Retains A o left → left ≡ None
retains-none A None left none kept = kept
retains-none A (Some key) left none kept = absurd (cc)

pub kept-others : (t : TableView) (h : ℕ) (v : List Slot) → h < length t.buckets → (i r : ℕ) → i ≢ h → key_at (with_bucket t h v) i r ≡ key_at t i r
kept-others t h v within i r apart = bucket-at t h v within i r ∙ ap (λ (b : Bool). if b then key_in r v else key_at t i r) (other i h apart)

-- what a test of the names of a bucket leaves of its keys
pub kept-in : (A : ℕ → Bool → Type 0) (t : TableView) (h : ℕ) (old v : List Slot) → h < length t.buckets → old ≡ get_or t.buckets h old → AreNamedApart old → Leaves (IsByKey A) old v → (r : ℕ) → Retains A (key_at t h r) (key_in r v)
kept-in A t h old v within is apart leaves r = subst (λ (o : Option ℕ). Retains A o (key_in r v)) (key-there t h r old within is) (keys-retained A r old v apart leaves)

module _ (A : ℕ → Bool → Type 0) (t : TableView) (h : ℕ) (v : List Slot) (within : h < length t.buckets) (kept : (r : ℕ) → Retains A (key_at t h r) (key_in r v)) where
  fewer-home : (first : ℕ) → IsPlaced t first → (i r : ℕ) (b : Bool) → (i == h) ≡ b → IsSome (if b then key_in r v else key_at t i r) → home t r ≡ i
  fewer-home first p i r true same some = p.home h r (retains-some A (key_at t h r) (key_in r v) (kept r) some) ∙ sym (eqb-true i h same)
  fewer-home first p i r false differs some = p.home i r some

  fewer-empty : (first : ℕ) → IsPlaced t first → (i r : ℕ) (b : Bool) → (i == h) ≡ b → i < first → (if b then key_in r v else key_at t i r) ≡ None
  fewer-empty first p i r true same before = retains-none A (key_at t h r) (key_in r v) (ap (λ (j : ℕ). key_at t j r) (sym (eqb-true i h same)) ∙ p.empty i r before) (kept r)
  fewer-empty first p i r false differs before = p.empty i r before

  pub placed-fewer : (first : ℕ) → IsPlaced t first → IsPlaced (with_bucket t h v) first
  placed-fewer first p = record {
    few = still-few t h v p.few;
    home = λ i r some. same-home t h v r ∙ fewer-home first p i r (i == h) refl (subst IsSome (bucket-at t h v within i r) some);
    empty = λ i r before. bucket-at t h v within i r ∙ fewer-empty first p i r (i == h) refl before;
  }

  pub kept-there : (r : ℕ) → Retains A (key_at t h r) (key_at (with_bucket t h v) h r)
  kept-there r = subst (Retains A (key_at t h r)) (sym (bucket-at t h v within h r ∙ ap (λ (b : Bool). if b then key_in r v else key_at t h r) (eq-eqb h h refl))) (kept r)

-- ---- the test of each bucket
pub record IsTested (A : ℕ → Bool → Type 0) (old new : TableView) (n : ℕ) : Type 0 where
  pub seed : new.seed ≡ old.seed
  pub homes : (r : ℕ) → home new r ≡ home old r
  pub len : length new.buckets ≡ length old.buckets
  pub done : (i r : ℕ) → i < n → Retains A (key_at old i r) (key_at new i r)
  pub left : (i r : ℕ) → n ≤ i → key_at new i r ≡ key_at old i r

pub none-tested : (A : ℕ → Bool → Type 0) (t : TableView) → IsTested A t t 0
none-tested A t = record { seed = refl; homes = λ r. refl; len = refl; done = λ i r before. absurd (omega arith); left = λ i r after. refl }

module _ (A : ℕ → Bool → Type 0) (old mid new : TableView) (n : ℕ) (tested : IsTested A old mid n)
    (there : (r : ℕ) → Retains A (key_at mid n r) (key_at new n r)) (others : (i r : ℕ) → i ≢ n → key_at new i r ≡ key_at mid i r) (homes : (r : ℕ) → home new r ≡ home mid r) (len : length new.buckets ≡ length mid.buckets) (seed : new.seed ≡ mid.seed) where
  done-if : (i r : ℕ) (b : Bool) → (i == n) ≡ b → i < n + 1 → Retains A (key_at old i r) (key_at new i r)
  done-if i r true same up = subst (λ (j : ℕ). Retains A (key_at old j r) (key_at new j r)) (sym (eqb-true i n same)) (subst (λ (o : Option ℕ). Retains A o (key_at new n r)) (tested.left n r (omega arith)) (there r))
  done-if i r false apart up =
      let d = differs i n apart in
      subst (Retains A (key_at old i r)) (sym (others i r d)) (tested.done i r (omega arith))

  pub more-tested : IsTested A old new (n + 1)
  more-tested = record {
    seed = seed ∙ tested.seed;
    homes = λ r. homes r ∙ tested.homes r;
    len = len ∙ tested.len;
    done = λ i r up. done-if i r (i == n) refl up;
    left = λ i r after. others i r (let w : n ≢ i = (λ e. let z : n ≡ i = e in absurd (omega arith)) in λ e. w (sym e)) ∙ tested.left i r (omega arith);
  }

pub all-tested : (A : ℕ → Bool → Type 0) (old new : TableView) (n : ℕ) → length old.buckets ≤ n → IsTested A old new n → (r : ℕ) → Retains A (table_key old r) (table_key new r)
all-tested A old new n past tested r = subst (λ (i : ℕ). Retains A (table_key old r) (key_at new i r)) (sym (tested.homes r)) (by (nat_lt (home old r) n) refl)
  where
    none-kept : (o left : Option ℕ) → o ≡ None → left ≡ None → Retains A o left
    none-kept None left none e = e
    none-kept (Some key) left none e = absurd (cc)

    by : (b : Bool) → nat_lt (home old r) n ≡ b → Retains A (table_key old r) (key_at new (home old r) r)
    by true less = tested.done (home old r) r (grind (arith, nat_tests, less))
    by false more =
        let w : n ≤ home old r = grind (arith, nat_tests, more) in
        none-kept (table_key old r) (key_at new (home old r) r) (no-bucket r old.buckets (home old r) (omega arith)) (no-bucket r new.buckets (home old r) (omega (arith, tested.len)))

-- ---- a look for a name, bucket by bucket
pub none-yet : (t : TableView) (n : ℕ) (old : List Slot) → n < length t.buckets → old ≡ get_or t.buckets n old → ((r : ℕ) → key_in r old ≡ None)
    → ((i r : ℕ) → i < n → key_at t i r ≡ None) → (i r : ℕ) → i < n + 1 → key_at t i r ≡ None
none-yet t n old within is none before i r up = by (nat_lt i n) refl
  where
    by : (b : Bool) → nat_lt i n ≡ b → key_at t i r ≡ None
    by true less = before i r (grind (arith, nat_tests, less))
    by false least = (let same : i ≡ n = grind (arith, nat_tests, least, up) in ap (λ (j : ℕ). key_at t j r) same ∙ sym (key-there t n r old within is) ∙ none r)

pub none-at-all : (t : TableView) (n : ℕ) → length t.buckets ≤ n → ((i r : ℕ) → i < n → key_at t i r ≡ None) → (i r : ℕ) → key_at t i r ≡ None
none-at-all t n past before i r = by (nat_lt i n) refl
  where
    by : (b : Bool) → nat_lt i n ≡ b → key_at t i r ≡ None
    by true less = before i r (grind (arith, nat_tests, less))
    by false more = no-bucket r t.buckets i (let w : n ≤ i = grind (arith, nat_tests, more) in omega arith)

-- what a bucket has, the table has
pub some-of : (t : TableView) (first n r : ℕ) (old : List Slot) → IsPlaced t first → n < length t.buckets → old ≡ get_or t.buckets n old → IsSome (key_in r old) → IsSome (table_key t r)
some-of t first n r old p within is some =
    let there = subst IsSome (key-there t n r old within is) some in
    subst (λ (i : ℕ). IsSome (key_at t i r)) (sym (p.home n r there)) there

-- the first bucket with a name is another one
pub placed-from : (t : TableView) (first first' : ℕ) → IsPlaced t first → ((i r : ℕ) → i < first' → key_at t i r ≡ None) → IsPlaced t first'
placed-from t first first' p before = record { few = p.few; home = p.home; empty = before }
