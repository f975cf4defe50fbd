-- The units ahead of the orders of a queue.
use Rattle.std.proofs.Common.{◌≡◌, ℕ, ◌+◌, ◌<◌, ◌≤◌, Bool, true, false, if◌then◌else◌, List, [], ◌∷◌, All, Contains, sum_by, refl, ◌⊎◌, inl, inr, arith}
use Rattle.std.proofs.lemmas.Bool.{or_cases}
use Rattle.std.proofs.lemmas.List.Elements.{All-head, All-tail}
use Rattle.xm_rules.specs.Active.{Positioned}
use Rattle.xm_rules.specs.Priority.{is_ahead, before}
use Rattle.xm_rules.specs.declared.orders.Side.{Side}
use Rattle.xm_rules.proofs.Ahead.{not_ahead_of_itself, ahead_one, ahead_on}
use Rattle.xm_rules.proofs.Positions.{Later, Rising}
use Rattle.xm_rules.proofs.Sums.{sum-gap}
use Rattle.xm_rules.proofs.Units.{ApartFrom, Apart}

abbrev pub units : Positioned → ℕ
units i = i.order.rest

pub if_le : (a b : Bool) (n : ℕ) → (a ≡ true → b ≡ true) → (if a then n else 0) ≤ (if b then n else 0)
if_le true true n h = omega arith
if_le true false n h = absurd (let e : false ≡ true = h refl in cc)
if_le false b n h = omega arith

pub if_gap : (a b : Bool) (n : ℕ) → a ≡ false → b ≡ true → (if a then n else 0) + n ≤ (if b then n else 0)
if_gap true b n e f = absurd (cc)
if_gap false true n e f = omega arith
if_gap false false n e f = absurd (cc)

-- the units of an order come before those of each order that it is ahead of
pub gap : (side : Side) (queue : List Positioned) (i j : Positioned) → Contains queue i → is_ahead side i j ≡ true → before side queue i + units i ≤ before side queue j
gap side queue i j at h =
    sum-gap (λ (x : Positioned). if is_ahead side x i then units x else 0) (λ (x : Positioned). if is_ahead side x j then units x else 0) (units i)
    (λ y. if_le (is_ahead side y i) (is_ahead side y j) (units y) (λ e. ahead_on side y i j e h)) queue i
    (if_gap (is_ahead side i i) (is_ahead side i j) (units i) (not_ahead_of_itself side i) h) at.0 at.1 at.2

-- among those that pass a test, as all do that are ahead of one that passes, they end within the units of these
pub within_those : (side : Side) (passes : Positioned → Bool) (queue : List Positioned) (i : Positioned)
    → ((x : Positioned) → is_ahead side x i ≡ true → passes x ≡ true) → passes i ≡ true → Contains queue i
    → before side queue i + units i ≤ sum_by (λ (x : Positioned). if passes x then units x else 0) queue
within_those side passes queue i ahead h at =
    sum-gap (λ (x : Positioned). if is_ahead side x i then units x else 0) (λ (x : Positioned). if passes x then units x else 0) (units i)
    (λ y. if_le (is_ahead side y i) (passes y) (units y) (ahead y)) queue i
    (if_gap (is_ahead side i i) (passes i) (units i) (not_ahead_of_itself side i) h) at.0 at.1 at.2

apart_by : (side : Side) (queue : List Positioned) (i j : Positioned) → Contains queue i → Contains queue j → (is_ahead side i j ≡ true) ⊎ (is_ahead side j i ≡ true)
    → (before side queue i + units i ≤ before side queue j) ⊎ (before side queue j + units j ≤ before side queue i)
apart_by side queue i j at to (inl e) = inl (gap side queue i j at e)
apart_by side queue i j at to (inr e) = inr (gap side queue j i to e)

pub apart_of_positions : (side : Side) (queue : List Positioned) (i j : Positioned) → Contains queue i → Contains queue j → i.position < j.position
    → (before side queue i + units i ≤ before side queue j) ⊎ (before side queue j + units j ≤ before side queue i)
apart_of_positions side queue i j at to h =
    apart_by side queue i j at to (or_cases (is_ahead side i j) (is_ahead side j i) (ahead_one side i j (λ e. omega arith)))

apart_from : (side : Side) (queue : List Positioned) (x : Positioned) (xs : List Positioned) → Contains queue x → All (Contains queue) xs → Later x xs
    → ApartFrom (before side queue) units x xs
apart_from side queue x [] at all late = tt
apart_from side queue x (y ∷ ys) at all late =
    (apart_of_positions side queue x y at (All-head (Contains queue) y ys all) late.0, apart_from side queue x ys at (All-tail (Contains queue) y ys all) late.1)

-- orders of a queue at rising places own no unit twice
pub apart : (side : Side) (queue : List Positioned) (xs : List Positioned) → All (Contains queue) xs → Rising xs → Apart (before side queue) units xs
apart side queue [] all rising = tt
apart side queue (x ∷ xs) all rising =
    (apart_from side queue x xs (All-head (Contains queue) x xs all) (All-tail (Contains queue) x xs all) rising.0, apart side queue xs (All-tail (Contains queue) x xs all) rising.1)
