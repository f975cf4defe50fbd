-- Journals that begin others, and own entries.
use Rattle.std.proofs.Common.{◌≡◌, ℕ, zero, suc, ◌+◌, ◌-◌, ◌<◌, ◌≤◌, List, [], ◌∷◌, ◌++◌, length, Some, slice_get, refl, ap, sym, ◌∙◌, subst, arith, append_assoc, length-append, add-zero, ◌⊎◌, inl, inr, ⊎_elim, true, false, Bool}
use Rattle.std.proofs.lemmas.List.{append-nil}
use Rattle.std.specs.Prelude.{if◌then◌else◌}
use mathlib.Core.List.{IsPrefix}
use Rattle.xm_board.specs.declared.journal.Entry.{Entry}
use Rattle.xm_board.specs.declared.journal.NumberedJournal.{NumberedJournal}
use Rattle.xm_board.specs.declared.seats.View.{View}
use Rattle.xm_board.specs.declared.seats.Role.TheVariants.{Watch}
use Rattle.xm_board.specs.Journals.{grown, Begins, version_of, Own, last_own_in, last_number_in}
use Rattle.xm_board.specs.Rule.{shared_as}

-- each list begins with itself
pub prefix_self : {A : Type 0} (xs : List A) → IsPrefix xs xs
prefix_self [] = ([], refl)
prefix_self (x ∷ xs) = (let r = prefix_self xs in r.0, ap (λ ys. x ∷ ys) (prefix_self xs).1)

pub prefix_trans : {A : Type 0} (xs ys zs : List A) → IsPrefix xs ys → IsPrefix ys zs → IsPrefix xs zs
prefix_trans xs ys zs p q = (p.0 ++ q.0, sym (append_assoc xs p.0 q.0) ∙ (ap (λ w. w ++ q.0) p.1 ∙ q.1))

-- a beginning as long as the whole is the whole
pub prefix_whole : {A : Type 0} (xs ys : List A) → IsPrefix xs ys → length ys ≤ length xs → xs ≡ ys
prefix_whole [] [] p le = refl
prefix_whole [] (y ∷ ys) p le = absurd (omega arith)
prefix_whole (x ∷ xs) [] p le = absurd (cc (p.1))
prefix_whole (x ∷ xs) (y ∷ ys) p le =
    let rest = prefix_whole xs ys (p.0, cc (p.1)) (omega arith) in cc (p.1, rest)

pub prefix_length : {A : Type 0} (xs ys : List A) → IsPrefix xs ys → length xs ≤ length ys
prefix_length xs ys p = omega (arith, sym (ap length p.1) ∙ length-append xs p.0)

-- what stands in a beginning stands in the whole, at the same place
pub prefix_get : {A : Type 0} (xs ys : List A) (k : ℕ) (x : A) → IsPrefix xs ys → slice_get xs k ≡ Some x → slice_get ys k ≡ Some x
prefix_get [] ys k x p h = absurd cc
prefix_get (y ∷ xs) [] k x p h = absurd (cc (p.1))
prefix_get (y ∷ xs) (z ∷ ys) zero x p h = cc (p.1, h)
prefix_get (y ∷ xs) (z ∷ ys) (suc k) x p h = prefix_get xs ys k x (p.0, cc (p.1)) h

pub begins_self : (j : NumberedJournal) → Begins j j
begins_self j = (refl, prefix_self j.entries)

pub begins_trans : (i j k : NumberedJournal) → Begins i j → Begins j k → Begins i k
begins_trans i j k p q = (p.0 ∙ q.0, prefix_trans i.entries j.entries k.entries p.1 q.1)

pub begins-version : (i j : NumberedJournal) → Begins i j → version_of i ≤ version_of j
begins-version i j p = prefix_length i.entries j.entries p.1

pub begins_whole : (i j : NumberedJournal) → Begins i j → version_of j ≤ version_of i → i ≡ j
begins_whole i j p le =
    let s = p.0 in let e = prefix_whole i.entries j.entries p.1 le in λ k. record { settings = s k; entries = e k }

-- a journal begins the one with an entry more
pub begins_grown : (j : NumberedJournal) (e : Entry) → Begins j (grown j e)
begins_grown j e = (refl, (e ∷ [], refl))

pub version-grown : (j : NumberedJournal) (e : Entry) → version_of (grown j e) ≡ version_of j + 1
version-grown j e = length-append j.entries (e ∷ [])

-- own entries stand in what is seen later
pub own_later : (number : ℕ) (xs ys : List Entry) (from : ℕ) (own_entries : List (ℕ × Entry)) → IsPrefix xs ys → Own number xs from own_entries → Own number ys from own_entries
own_later number xs ys from [] p h = let l = prefix_length xs ys p in omega arith
own_later number xs ys from (m ∷ ms) p h = (h.0, prefix_get xs ys (m.0 - 1) m.1 p h.1, h.2, own_later number xs ys m.0 ms p h.3)

-- one own entry more, behind all that was seen
pub own_push : (number : ℕ) (xs ys : List Entry) (from : ℕ) (own_entries : List (ℕ × Entry)) (e : Entry) → IsPrefix xs ys → length xs < length ys → slice_get ys (length ys - 1) ≡ Some e → e.number ≡ number
    → Own number xs from own_entries → Own number ys from (own_entries ++ (length ys, e) ∷ [])
own_push number xs ys from [] e p more at is h = (omega arith, at, is, omega arith)
own_push number xs ys from (m ∷ ms) e p more at is h = (h.0, prefix_get xs ys (m.0 - 1) m.1 p h.1, h.2, own_push number xs ys m.0 ms e p more at is h.3)

-- the last entry stands at its version
pub stands : (e : Entry) (es : List Entry) (n : ℕ) → (x : Entry) × (last_own_in (e ∷ es) n ≡ (n + length es + 1, x) ∷ []) × (slice_get (e ∷ es) (length es) ≡ Some x) × (last_number_in (e ∷ es) ≡ x.number)
stands e [] n = (e, ap (λ (k : ℕ). (k + 1, e) ∷ []) (sym (add-zero n)), refl, refl)
stands e (f ∷ es) n = let r = stands f es (n + 1) in let k : (n + 1) + length es + 1 ≡ n + suc (length es) + 1 = omega arith in (r.0, r.1 ∙ ap (λ (k : ℕ). (k, r.0) ∷ []) k, r.2, r.3)

pub own_last : (xs : List Entry) → Own (last_number_in xs) xs 0 (last_own_in xs 0)
own_last [] = omega arith
own_last (e ∷ es) =
    let r = stands e es 0 in
    let k : (0 + length es + 1) - 1 ≡ length es = omega arith in
    subst (λ (l : List (ℕ × Entry)). Own (last_number_in (e ∷ es)) (e ∷ es) 0 l) (sym r.1) (omega arith, ap (λ (i : ℕ). slice_get (e ∷ es) i) k ∙ r.2, sym r.3, omega arith)

-- what stands in a list that has one element more
pub get_push : {A : Type 0} (xs : List A) (a : A) (k : ℕ) (b : A) → slice_get (xs ++ a ∷ []) k ≡ Some b → (slice_get xs k ≡ Some b) ⊎ ((k ≡ length xs) × (a ≡ b))
get_push [] a zero b e = inr (refl, cc)
get_push [] a (suc k) b e = absurd (cc)
get_push (x ∷ xs) a zero b e = inl e
get_push (x ∷ xs) a (suc k) b e = ⊎_elim (λ l. inl l) (λ r. inr (ap suc r.0, r.1)) (get_push xs a k b e)

pub shared_is : (own : Bool) (p : View) → ((shared_as own p).role ≡ Watch) × ((shared_as own p).seen ≡ p.seen) × ((shared_as own p).own_entries ≡ (if own then last_own_in p.seen.entries 0 else []))
shared_is true p = (refl, refl, refl)
shared_is false p = (refl, refl, refl)

-- what a watch is told makes its own entries
pub own_told : (own : Bool) (number : ℕ) (xs ys : List Entry) (own_entries : List (ℕ × Entry)) → IsPrefix xs ys → (own ≡ true → (length xs < length ys) × (last_number_in ys ≡ number)) → Own number xs 0 own_entries
    → Own number ys 0 (own_entries ++ (if own then last_own_in ys 0 else []))
own_told false number xs ys own_entries p asked h = subst (Own number ys 0) (sym (append-nil own_entries)) (own_later number xs ys 0 own_entries p h)
own_told true number xs [] own_entries p asked h = let a = asked refl in let l = a.0 in absurd (omega arith)
own_told true number xs (y ∷ ys) own_entries p asked h =
    let a = asked refl in
    let r = stands y ys 0 in
    let k : 0 + length ys + 1 ≡ suc (length ys) = omega arith in
    let back : suc (length ys) - 1 ≡ length ys = omega arith in
    subst (λ (l : List (ℕ × Entry)). Own number (y ∷ ys) 0 (own_entries ++ l)) (sym (r.1 ∙ ap (λ (n : ℕ). (n, r.0) ∷ []) k))
    (own_push number xs (y ∷ ys) 0 own_entries r.0 p a.0 (ap (λ (i : ℕ). slice_get (y ∷ ys) i) back ∙ r.2) (sym r.3 ∙ a.1) h)

-- what a watch is told, by what the pen shares
pub told : (own : Bool) (number : ℕ) (p w e : View) → e ≡ shared_as own p → Begins w.seen p.seen → (own ≡ true → (version_of w.seen < version_of p.seen) × (last_number_in p.seen.entries ≡ number)) → Own number w.seen.entries 0 w.own_entries
    → (e.role ≡ Watch) × (e.seen ≡ p.seen) × (e.own_entries ≡ (if own then last_own_in p.seen.entries 0 else [])) × Own number e.seen.entries 0 (w.own_entries ++ e.own_entries)
told own number p w e is begins asked h =
    let known = shared_is own p in
    let seen : e.seen ≡ p.seen = ap (λ (v : View). v.seen) is ∙ known.1 in
    let own_entries : e.own_entries ≡ (if own then last_own_in p.seen.entries 0 else []) = ap (λ (v : View). v.own_entries) is ∙ known.2 in
    let all = own_told own number w.seen.entries p.seen.entries w.own_entries begins.1 asked h in (
      ap (λ (v : View). v.role) is ∙ known.0,
      seen,
      own_entries,
      subst (λ (z : NumberedJournal × List (ℕ × Entry)). Own number z.0.entries 0 (w.own_entries ++ z.1)) (λ i. (sym seen i, sym own_entries i)) all,
    )

-- the last entry of a journal with one entry more
pub last_own_in-push : (xs : List Entry) (e : Entry) (n : ℕ) → last_own_in (xs ++ e ∷ []) n ≡ (n + length xs + 1, e) ∷ []
last_own_in-push [] e n = ap (λ (k : ℕ). (k + 1, e) ∷ []) (sym (add-zero n))
last_own_in-push (x ∷ []) e n = refl
last_own_in-push (x ∷ y ∷ ys) e n = let k : (n + 1) + length (y ∷ ys) + 1 ≡ n + length (x ∷ y ∷ ys) + 1 = omega arith in last_own_in-push (y ∷ ys) e (n + 1) ∙ ap (λ (k : ℕ). (k, e) ∷ []) k

pub last_number_in-push : (xs : List Entry) (e : Entry) → last_number_in (xs ++ e ∷ []) ≡ e.number
last_number_in-push [] e = refl
last_number_in-push (x ∷ []) e = refl
last_number_in-push (x ∷ y ∷ ys) e = last_number_in-push (y ∷ ys) e
