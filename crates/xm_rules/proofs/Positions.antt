-- The active orders of a side stand at rising places.
use Rattle.std.proofs.Common.{◌≡◌, ℕ, ◌+◌, ◌<◌, zero, suc, Bool, true, false, List, [], ◌∷◌, filter, length, get_or, cond, ap, sym, ◌∙◌, subst, arith}
use Rattle.xm_rules.specs.Active.{Positioned, positioned_from, is_active_on, active}
use Rattle.xm_rules.specs.declared.orders.Order.{Order}
use Rattle.xm_rules.specs.declared.orders.Side.{Side}
use Rattle.xm_rules.specs.declared.phases.Phase.{Phase}

-- each of a list stands later than an order
abbrev pub Later : Positioned → List Positioned → Type 0
Later x [] = Unit {0}
Later x (y ∷ ys) = (x.position < y.position) × Later x ys

abbrev pub Rising : List Positioned → Type 0
Rising [] = Unit {0}
Rising (x ∷ xs) = Later x xs × Rising xs

later_from : (x : Positioned) (n : ℕ) (os : List Order) → x.position < n → Later x (positioned_from n os)
later_from x n [] h = tt
later_from x n (o ∷ os) h = (h, later_from x (n + 1) os (omega arith))

pub rising_from : (n : ℕ) (os : List Order) → Rising (positioned_from n os)
rising_from n [] = tt
rising_from n (o ∷ os) = (later_from (record { position = n; order = o }) (n + 1) os (omega arith), rising_from (n + 1) os)

later_if : (x y : Positioned) (ys : List Positioned) (b : Bool) → x.position < y.position → Later x ys → Later x (cond b (y ∷ ys) ys)
later_if x y ys true h l = (h, l)
later_if x y ys false h l = l

later_kept : (p : Positioned → Bool) (x : Positioned) (ys : List Positioned) → Later x ys → Later x (filter p ys)
later_kept p x [] h = tt
later_kept p x (y ∷ ys) h = later_if x y (filter p ys) (p y) h.0 (later_kept p x ys h.1)

rising_if : (x : Positioned) (xs : List Positioned) (b : Bool) → Later x xs → Rising xs → Rising (cond b (x ∷ xs) xs)
rising_if x xs true h r = (h, r)
rising_if x xs false h r = r

pub rising_kept : (p : Positioned → Bool) (xs : List Positioned) → Rising xs → Rising (filter p xs)
rising_kept p [] h = tt
rising_kept p (x ∷ xs) h = rising_if x (filter p xs) (p x) (later_kept p x xs h.0) (rising_kept p xs h.1)

pub rising_active : (phase : Phase) (side : Side) (orders : List Order) → Rising (active phase side orders)
rising_active phase side orders = rising_kept (is_active_on phase side) (positioned_from 0 orders) (rising_from 0 orders)

later_at : (x : Positioned) (xs : List Positioned) → Later x xs → (k : ℕ) (j : Positioned) → k < length xs → get_or xs k j ≡ j → x.position < j.position
later_at x [] h k j l e = absurd (omega arith)
later_at x (y ∷ ys) h zero j l e = subst (λ (z : Positioned). x.position < z.position) e h.0
later_at x (y ∷ ys) h (suc k) j l e = later_at x ys h.1 k j (omega arith) e

-- at one position stands one order
pub same_at_position : (xs : List Positioned) → Rising xs → (i j : Positioned) (k : ℕ) → k < length xs → get_or xs k i ≡ i → (l : ℕ) → l < length xs → get_or xs l j ≡ j → i.position ≡ j.position → i ≡ j
same_at_position [] r i j k h e l g f same = absurd (omega arith)
same_at_position (x ∷ xs) r i j zero h e zero g f same = sym e ∙ f
same_at_position (x ∷ xs) r i j zero h e (suc l) g f same =
    let late : x.position < j.position = later_at x xs r.0 l j (omega arith) f in
    let at : x.position ≡ i.position = ap (λ (z : Positioned). z.position) e in
    absurd (omega arith)
same_at_position (x ∷ xs) r i j (suc k) h e zero g f same =
    let late : x.position < i.position = later_at x xs r.0 k i (omega arith) e in
    let at : x.position ≡ j.position = ap (λ (z : Positioned). z.position) f in
    absurd (omega arith)
same_at_position (x ∷ xs) r i j (suc k) h e (suc l) g f same = same_at_position xs r.1 i j k (omega arith) e l (omega arith) f same
