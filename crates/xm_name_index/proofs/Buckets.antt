-- The names of a bucket, as changes leave them.
use Rattle.std.proofs.Common.{◌≡◌, ℕ, zero, suc, Bool, true, false, ◌==◌, ◌<◌, not, cond, if◌then◌else◌, List, [], ◌∷◌, find, set, length, get_or, Option, Some, None, IsSome, refl, sym, subst, ap, ◌∙◌, arith, eqb-true}
use Rattle.std.specs.Option.{option_map}
use Rattle.std.proofs.lemmas.Bool.Decides.{nat_tests}
use Rattle.std.proofs.lemmas.Bool.{false≢true}
use Rattle.std.proofs.lemmas.Option.{none-some}
use Rattle.xm_name_index.specs.Buckets.{AreNamedApart, IsLeft, Leaves, LeavesSlot, has_reference, is_occupied, is_vacant, key_in}
use Rattle.xm_name_index.specs.Names.{Retains}
use Rattle.xm_name_index.specs.declared.slot.Slot.{Slot}
use Rattle.xm_name_index.specs.declared.slot.TheConstants.{VACANT}

-- a slot without a name has_reference that of no reference
pub vacant-has : (r : ℕ) (s : Slot) → is_vacant s ≡ true → has_reference r s ≡ false
vacant-has r s e = grind (arith, nat_tests, e)

-- a slot with a name has_reference that of its own reference
pub own-has : (s : Slot) → is_vacant s ≡ false → has_reference s.reference s ≡ true
own-has s e = grind (arith, nat_tests, e)

-- a slot that has_reference the name of a reference isn't vacant
has-vacant : (r : ℕ) (s : Slot) → has_reference r s ≡ true → is_vacant s ≡ false
has-vacant r s e = grind (arith, nat_tests, e)

-- and its reference is that one
has-reference : (r : ℕ) (s : Slot) → has_reference r s ≡ true → s.reference ≡ r
has-reference r s e = grind (arith, nat_tests, e)

first-none : (b : Bool) (x : Slot) (o : Option Slot) → cond b (Some x) o ≡ None → b ≡ false
first-none true x o e = absurd (none-some x (sym e))
first-none false x o e = refl

rest-none : (b : Bool) (x : Slot) (o : Option Slot) → cond b (Some x) o ≡ None → o ≡ None
rest-none true x o e = absurd (none-some x (sym e))
rest-none false x o e = e

-- ---- a slot without a name gets one
module _ (reference key : ℕ) (fits : key < VACANT) where
  abbrev pub named : Slot
  named = record { reference = reference; key = key }

  named-has : (r : ℕ) → has_reference r named ≡ (r == reference)
  named-has r = grind (arith, nat_tests, fits)

  -- the first slot is it, or another one that isn't
  past : (r : ℕ) (x : Slot) (b : Bool) → (r == reference) ≡ b → has_reference reference x ≡ false → (o : Option Slot)
      → cond (has_reference r x) (Some x) (if b then Some named else o) ≡ (if b then Some named else cond (has_reference r x) (Some x) o)
  past r x true is none o = ap (λ (c : Bool). cond c (Some x) (Some named)) (ap (λ (n : ℕ). has_reference n x) (eqb-true r reference is) ∙ none)
  past r x false is none o = refl

  pub put-found : (xs : List Slot) (i : ℕ) → i < length xs → is_vacant (get_or xs i named) ≡ true → find (has_reference reference) xs ≡ None → (r : ℕ)
      → find (has_reference r) (set xs i named) ≡ (if r == reference then Some named else find (has_reference r) xs)
  put-found [] i within vacant none r = absurd (omega arith)
  put-found (x ∷ xs) zero within vacant none r =
      ap (λ (b : Bool). cond b (Some named) (find (has_reference r) xs)) (named-has r) ∙ ap (λ (b : Bool). if r == reference then Some named else cond b (Some x) (find (has_reference r) xs)) (sym (vacant-has r x vacant))
  put-found (x ∷ xs) (suc i) within vacant none r =
      ap (λ (o : Option Slot). cond (has_reference r x) (Some x) o) (put-found xs i (omega arith) vacant (rest-none (has_reference reference x) x (find (has_reference reference) xs) none) r)
      ∙ past r x (r == reference) refl (first-none (has_reference reference x) x (find (has_reference reference) xs) none) (find (has_reference r) xs)

  later-apart : (x : Slot) (xs : List Slot) → has_reference reference x ≡ false → (r : ℕ) → has_reference r x ≡ true → find (has_reference r) xs ≡ None → (b : Bool) → (r == reference) ≡ b → (if b then Some named else find (has_reference r) xs) ≡ None
  later-apart x xs isnt r is none true same = absurd (false≢true (sym isnt ∙ ap (λ (n : ℕ). has_reference n x) (sym (eqb-true r reference same)) ∙ is))
  later-apart x xs isnt r is none false differs = none

  pub put-apart : (xs : List Slot) (i : ℕ) → i < length xs → is_vacant (get_or xs i named) ≡ true → find (has_reference reference) xs ≡ None → AreNamedApart xs → AreNamedApart (set xs i named)
  put-apart [] i within vacant none apart = absurd (omega arith)
  put-apart (x ∷ xs) zero within vacant none apart =
      (λ r is. ap (λ (n : ℕ). find (has_reference n) xs) (sym (has-reference r named is)) ∙ rest-none (has_reference reference x) x (find (has_reference reference) xs) none, apart.1)
  put-apart (x ∷ xs) (suc i) within vacant none apart =
      let later = rest-none (has_reference reference x) x (find (has_reference reference) xs) none in (
        λ r is. put-found xs i (omega arith) vacant later r ∙ later-apart x xs (first-none (has_reference reference x) x (find (has_reference reference) xs) none) r is (apart.0 r is) (r == reference) refl,
        put-apart xs i (omega arith) vacant later apart.1,
      )

  pub put-key : (xs : List Slot) (i : ℕ) → i < length xs → is_vacant (get_or xs i named) ≡ true → find (has_reference reference) xs ≡ None → (r : ℕ)
      → key_in r (set xs i named) ≡ (if r == reference then Some key else key_in r xs)
  put-key xs i within vacant none r = ap (option_map (λ (s : Slot). s.key)) (put-found xs i within vacant none r) ∙ by (r == reference)
    where
      by : (b : Bool) → option_map (λ (s : Slot). s.key) (if b then Some named else find (has_reference r) xs) ≡ (if b then Some key else key_in r xs)
      by true = refl
      by false = refl

-- no key, no slot
pub no-slot : (r : ℕ) (xs : List Slot) → key_in r xs ≡ None → find (has_reference r) xs ≡ None
no-slot r xs none = by (find (has_reference r) xs) none
  where
    by : (o : Option Slot) → option_map (λ (s : Slot). s.key) o ≡ None → o ≡ None
    by None e = refl
    by (Some s) e = absurd (none-some s.key (sym e))

-- ---- the names that a test leaves
module _ (P : Slot → Bool → Type 0) where
  -- a slot that was found stays where it passes
  abbrev pub IsFound : Option Slot → Option Slot → Type 0
  IsFound None left = left ≡ None
  IsFound (Some s) left = (stays : Bool) × P s stays × (left ≡ (if stays then Some s else None))

  left-none : (old left : Option Slot) → old ≡ None → IsFound old left → left ≡ None
  left-none None left none h = h
  left-none (Some s) left none h = absurd (none-some s (sym none))

  slot-apart : (r : ℕ) (x y : Slot) (b : Bool) → IsLeft b x y → has_reference r y ≡ true → has_reference r x ≡ true
  slot-apart r x y true left is = ap (has_reference r) (sym left) ∙ is
  slot-apart r x y false left is = absurd (false≢true (sym (vacant-has r y left) ∙ is))

  left-found : (r : ℕ) (x y : Slot) (xs ys : List Slot) (c b : Bool) → has_reference r x ≡ c → (is_vacant x ≡ false → P x b) → IsLeft b x y → (c ≡ true → find (has_reference r) xs ≡ None)
      → IsFound (find (has_reference r) xs) (find (has_reference r) ys) → IsFound (cond c (Some x) (find (has_reference r) xs)) (find (has_reference r) (y ∷ ys))
  left-found r x y xs ys true true is passes left none later = (true, passes (has-vacant r x is), ap (λ (d : Bool). cond d (Some y) (find (has_reference r) ys)) (ap (has_reference r) left ∙ is) ∙ ap (λ (s : Slot). Some s) left)
  left-found r x y xs ys true false is passes left none later =
      (false, passes (has-vacant r x is), ap (λ (d : Bool). cond d (Some y) (find (has_reference r) ys)) (vacant-has r y left) ∙ left-none (find (has_reference r) xs) (find (has_reference r) ys) (none refl) later)
  left-found r x y xs ys false true isnt passes left none later = subst (IsFound (find (has_reference r) xs)) (sym (ap (λ (d : Bool). cond d (Some y) (find (has_reference r) ys)) (ap (has_reference r) left ∙ isnt))) later
  left-found r x y xs ys false false isnt passes left none later = subst (IsFound (find (has_reference r) xs)) (sym (ap (λ (d : Bool). cond d (Some y) (find (has_reference r) ys)) (vacant-has r y left))) later

  pub leaves-found : (r : ℕ) (xs ys : List Slot) → AreNamedApart xs → Leaves P xs ys → IsFound (find (has_reference r) xs) (find (has_reference r) ys)
  leaves-found r [] ys apart h = ap (find (has_reference r)) h
  leaves-found r (x ∷ xs) ys apart h =
      rw h.2 (left-found r x h.0 xs h.1 (has_reference r x) h.3.stays refl h.3.answered h.3.left (apart.0 r) (leaves-found r xs h.1 apart.1 h.4))

  pub leaves-apart : (xs ys : List Slot) → AreNamedApart xs → Leaves P xs ys → AreNamedApart ys
  leaves-apart [] ys apart h = rw h tt
  leaves-apart (x ∷ xs) ys apart h =
      rw h.2 (
        λ r is. left-none (find (has_reference r) xs) (find (has_reference r) h.1) (apart.0 r (slot-apart r x h.0 h.3.stays h.3.left is)) (leaves-found r xs h.1 apart.1 h.4),
        leaves-apart xs h.1 apart.1 h.4,
      )

  pub leaves-four : (xs : List Slot) (d a b c e : Slot) → length xs ≡ 4 → LeavesSlot P (get_or xs 0 d) a → LeavesSlot P (get_or xs 1 d) b → LeavesSlot P (get_or xs 2 d) c → LeavesSlot P (get_or xs 3 d) e
      → Leaves P xs (a ∷ b ∷ c ∷ e ∷ [])
  leaves-four [] d a b c e four h i j k = absurd (omega arith)
  leaves-four (x ∷ []) d a b c e four h i j k = absurd (omega arith)
  leaves-four (x ∷ y ∷ []) d a b c e four h i j k = absurd (omega arith)
  leaves-four (x ∷ y ∷ z ∷ []) d a b c e four h i j k = absurd (omega arith)
  leaves-four (x ∷ y ∷ z ∷ w ∷ []) d a b c e four h i j k = (a, (b ∷ c ∷ e ∷ []), refl, h, (b, (c ∷ e ∷ []), refl, i, (c, (e ∷ []), refl, j, (e, [], refl, k, refl))))
  leaves-four (x ∷ y ∷ z ∷ w ∷ v ∷ vs) d a b c e four h i j k = absurd (omega arith)

-- a test that passes no more
pub leaves-weaker : (P Q : Slot → Bool → Type 0) → ((s : Slot) (b : Bool) → P s b → Q s b) → (xs ys : List Slot) → Leaves P xs ys → Leaves Q xs ys
leaves-weaker P Q gives [] ys h = h
leaves-weaker P Q gives (x ∷ xs) ys h =
    (h.0, h.1, h.2, record { stays = h.3.stays; answered = λ is. gives x h.3.stays (h.3.answered is); left = h.3.left }, leaves-weaker P Q gives xs h.1 h.4)

-- ---- a reference is taken out
some-is : (y z : Slot) → Some y ≡ Some z → y ≡ z
some-is y z h = cc

first-has : (r : ℕ) (x s : Slot) (o : Option Slot) (b : Bool) → has_reference r x ≡ b → cond b (Some x) o ≡ Some s → (o ≡ Some s → has_reference r s ≡ true) → has_reference r s ≡ true
first-has r x s o true is e later = ap (has_reference r) (sym (some-is x s e)) ∙ is
first-has r x s o false is e later = later e

found-has : (r : ℕ) (xs : List Slot) (s : Slot) → find (has_reference r) xs ≡ Some s → has_reference r s ≡ true
found-has r [] s e = absurd (none-some s e)
found-has r (x ∷ xs) s e = first-has r x s (find (has_reference r) xs) (has_reference r x) refl e (found-has r xs s)

-- ---- names stay by their references
module _ (f : ℕ → Bool) where
  abbrev pub IsBy : Slot → Bool → Type 0
  IsBy s stays = stays ≡ f s.reference

  none-both : (b : Bool) (o : Option ℕ) → o ≡ (if b then o else o)
  none-both true o = refl
  none-both false o = refl

  by-name : (s : Slot) (b : Bool) → option_map (λ (t : Slot). t.key) (if b then Some s else None) ≡ (if b then Some s.key else None)
  by-name s true = refl
  by-name s false = refl

  kept-if : (r : ℕ) (old left : Option Slot) → ((s : Slot) → old ≡ Some s → has_reference r s ≡ true) → IsFound IsBy old left
      → option_map (λ (s : Slot). s.key) left ≡ (if f r then option_map (λ (s : Slot). s.key) old else None)
  kept-if r None left there h = ap (option_map (λ (s : Slot). s.key)) h ∙ none-both (f r) None
  kept-if r (Some s) left there h =
      ap (option_map (λ (t : Slot). t.key)) h.2 ∙ by-name s h.0 ∙ ap (λ (b : Bool). if b then Some s.key else None) (h.1 ∙ ap f (has-reference r s (there s refl)))

  -- a reference has_reference its key or none
  pub kept-by : (r : ℕ) (xs ys : List Slot) → AreNamedApart xs → Leaves IsBy xs ys → key_in r ys ≡ (if f r then key_in r xs else None)
  kept-by r xs ys apart h = kept-if r (find (has_reference r) xs) (find (has_reference r) ys) (found-has r xs) (leaves-found IsBy r xs ys apart h)

turned : (b : Bool) (o : Option ℕ) → (if not b then o else None) ≡ (if b then None else o)
turned true o = refl
turned false o = refl

-- a reference that is taken out is found no more, and every other one as before
pub taken : (reference r : ℕ) (xs ys : List Slot) → AreNamedApart xs → Leaves (IsBy (λ n. not (n == reference))) xs ys → key_in r ys ≡ (if r == reference then None else key_in r xs)
taken reference r xs ys apart h = kept-by (λ n. not (n == reference)) r xs ys apart h ∙ turned (r == reference) (key_in r xs)

-- ---- names stay by their keys
module _ (A : ℕ → Bool → Type 0) where
  abbrev pub IsByKey : Slot → Bool → Type 0
  IsByKey s stays = A s.key stays

  keys-if : (old left : Option Slot) → IsFound IsByKey old left → Retains A (option_map (λ (s : Slot). s.key) old) (option_map (λ (s : Slot). s.key) left)
  keys-if None left h = ap (option_map (λ (s : Slot). s.key)) h
  keys-if (Some s) left h = (h.0, h.1, ap (option_map (λ (t : Slot). t.key)) h.2 ∙ by-name (λ n. true) s h.0)

  pub keys-retained : (r : ℕ) (xs ys : List Slot) → AreNamedApart xs → Leaves IsByKey xs ys → Retains A (key_in r xs) (key_in r ys)
  keys-retained r xs ys apart h = keys-if (find (has_reference r) xs) (find (has_reference r) ys) (leaves-found IsByKey r xs ys apart h)

-- ---- any name of a bucket
none-first : (r : ℕ) (x : Slot) (xs : List Slot) (b : Bool) → is_vacant x ≡ b → cond (not b) (Some x) (find is_occupied xs) ≡ None → (find is_occupied xs ≡ None → key_in r xs ≡ None) → key_in r (x ∷ xs) ≡ None
none-first r x xs true is e later = ap (λ (b : Bool). option_map (λ (s : Slot). s.key) (cond b (Some x) (find (has_reference r) xs))) (vacant-has r x is) ∙ later e
none-first r x xs false is e later = absurd (none-some x (sym e))

pub any-none : (r : ℕ) (xs : List Slot) → find is_occupied xs ≡ None → key_in r xs ≡ None
any-none r [] e = refl
any-none r (x ∷ xs) e = none-first r x xs (is_vacant x) refl e (any-none r xs)

key-first : (x : Slot) (o : Option Slot) (b : Bool) → b ≡ true → IsSome (option_map (λ (s : Slot). s.key) (cond b (Some x) o))
key-first x o true is = refl
key-first x o false is = absurd (false≢true is)

key-later : (x : Slot) (o : Option Slot) (b : Bool) → b ≡ false → IsSome (option_map (λ (s : Slot). s.key) o) → IsSome (option_map (λ (s : Slot). s.key) (cond b (Some x) o))
key-later x o true isnt later = absurd (false≢true (sym isnt))
key-later x o false isnt later = later

some-first : (x s : Slot) (xs : List Slot) (b : Bool) → is_vacant x ≡ b → cond (not b) (Some x) (find is_occupied xs) ≡ Some s → (find is_occupied xs ≡ Some s → IsSome (key_in s.reference xs)) → IsSome (key_in s.reference (x ∷ xs))
some-first x s xs true is e later = key-later x (find (has_reference s.reference) xs) (has_reference s.reference x) (vacant-has s.reference x is) (later e)
some-first x s xs false is e later =
    key-first x (find (has_reference s.reference) xs) (has_reference s.reference x) (ap (λ (n : ℕ). has_reference n x) (ap (λ (z : Slot). z.reference) (sym (some-is x s e))) ∙ own-has x is)

pub any-some : (xs : List Slot) (s : Slot) → find is_occupied xs ≡ Some s → IsSome (key_in s.reference xs)
any-some [] s e = absurd (none-some s e)
any-some (x ∷ xs) s e = some-first x s xs (is_vacant x) refl e (any-some xs s)
