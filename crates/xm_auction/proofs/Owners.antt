-- Who owns the units of a call: the owner of the next unit has what is left of the best order of its side.
use Rattle.xm_book.specs.Listing.{order_owner, order_reference}
use Rattle.xm_slots.specs.Naming.{have_own_names}
use Rattle.std.proofs.Common.{◌≡◌, ℕ, ◌+◌, ◌-◌, ◌<◌, ◌≤◌, min, Bool, true, false, ◌&&◌, if◌then◌else◌, List, [], ◌∷◌, sum_by, Contains, Some, refl, sym, ap, ◌∙◌, ◌⊎◌, inl, inr, arith}
use Rattle.std.proofs.lemmas.Bool.{and_from, and_parts, or_cases}
use Rattle.std.proofs.lemmas.List.Sums.{sum_by-cons}
use Rattle.xm_book.proofs.Cutting.{IsOther}
use Rattle.xm_book.proofs.Remaining.{best_left, lessened}
use Rattle.xm_book.proofs.Taking.{TakesFrom, taken_is}
use Rattle.xm_book.specs.Queues.{best_order, taken_from_any, taken_from_best}
use Rattle.xm_book.proofs.Joining.{side-itself}
use Rattle.xm_slots.proofs.Members.{Contains-filter, Contains-here, Contains-there, Passes-filter}
use Rattle.xm_rules.specs.Active.{Positioned, is_active, is_active_on, positioned_from}
use Rattle.xm_rules.specs.Allotment.{Uncrossing, allotted, end_unit, first_unit, side_queue, takes_part}
use Rattle.xm_rules.specs.Priority.{is_ahead, without_units}
use Rattle.xm_rules.specs.Sides.{same_side}
use Rattle.xm_rules.specs.declared.orders.Side.{Side}
use Rattle.xm_rules.specs.declared.phases.Phase.{Phase}
use Rattle.xm_rules.specs.declared.phases.Phase.TheVariants.{Call}
use Rattle.xm_rules.proofs.Ahead.{ahead_one}
use Rattle.xm_rules.proofs.Allotments.{allotted_to_side, at_price, kinds_accept, side_is, total}
use Rattle.xm_rules.proofs.Positions.{rising_from, same_at_position}
use Rattle.xm_rules.proofs.Queues.{gap, units}

-- the call with another volume
abbrev pub upto : ℕ → Uncrossing → Uncrossing
upto volume u = record u { volume = volume }

abbrev pub phase_of : Uncrossing → Phase
phase_of u = Call u.auction u.stage

-- the owner of the unit that is next after so many
pub record IsNext (u : Uncrossing) (side : Side) (unit : ℕ) (x : Positioned) : Type 0 where
  pub contained : Contains (side_queue u side) x
  pub accepts : at_price u side x ≡ true
  pub from : first_unit u side x ≤ unit
  pub to : unit < first_unit u side x + units x

pub in_queue : (u : Uncrossing) (side : Side) (i : Positioned) → Contains (side_queue u side) i → Contains (positioned_from 0 u.orders) i
in_queue u side i at = let p = Passes-filter (is_active_on (phase_of u) side) (positioned_from 0 u.orders) i at in p.contains

pub is_on : (u : Uncrossing) (side : Side) (i : Positioned) → Contains (side_queue u side) i → is_active_on (phase_of u) side i ≡ true
is_on u side i at = let p = Passes-filter (is_active_on (phase_of u) side) (positioned_from 0 u.orders) i at in p.passes

side_of_one : (u : Uncrossing) (side : Side) (i : Positioned) → Contains (side_queue u side) i → i.order.side ≡ side
side_of_one u side i at = side_is side i.order.side (and_parts (is_active (phase_of u) i.order.restriction) (same_side side i.order.side) (is_on u side i at)).1

-- what an order of a side is allotted
allotted_in : (u : Uncrossing) (side : Side) (i : Positioned) → Contains (side_queue u side) i
    → allotted u i ≡ (if at_price u side i then min (first_unit u side i + units i) u.volume - first_unit u side i else 0)
allotted_in u side i at =
    ap (λ (s : Side). if takes_part u s i then end_unit u s i - first_unit u s i else 0) (side_of_one u side i at)
    ∙ ap (λ (b : Bool). if b && at_price u side i then end_unit u side i - first_unit u side i else 0) (is_on u side i at)

-- where a sum is greater, one of its terms is
record IsGreater {X : Type 0} (f g : X → ℕ) (xs : List X) : Type 0 where
  pub one : X
  pub contained : Contains xs one
  pub greater : f one < g one

greater_by : {X : Type 0} (f g : X → ℕ) (x : X) (xs : List X) → sum_by f (x ∷ xs) < sum_by g (x ∷ xs) → (sum_by f xs < sum_by g xs → IsGreater f g xs)
    → (f x < g x) ⊎ (g x ≤ f x) → IsGreater f g (x ∷ xs)
greater_by f g x xs h rest (inl l) = record { one = x; contained = Contains-here x xs; greater = l }
greater_by f g x xs h rest (inr l) =
    let r = rest (omega (arith, sum_by-cons f x xs, sum_by-cons g x xs)) in
    record { one = r.one; contained = Contains-there x xs r.one r.contained; greater = r.greater }

less_or_not : (m n : ℕ) → (m < n) ⊎ (n ≤ m)
less_or_not m n = grind arith

greater : {X : Type 0} (f g : X → ℕ) (xs : List X) → sum_by f xs < sum_by g xs → IsGreater f g xs
greater f g [] h = absurd (omega arith)
greater f g (x ∷ xs) h = greater_by f g x xs h (greater f g xs) (less_or_not (f x) (g x))

record Owns (accepts : Bool) (first count unit : ℕ) : Type 0 where
  pub accepted : accepts ≡ true
  pub from : first ≤ unit
  pub to : unit < first + count

owns_if : (accepts : Bool) (first count unit : ℕ) → (if accepts then min (first + count) unit - first else 0) < (if accepts then min (first + count) (unit + 1) - first else 0)
    → Owns accepts first count unit
owns_if true first count unit h = record { accepted = refl; from = omega arith; to = omega arith }
owns_if false first count unit h = absurd (omega arith)

pub record NextOf (u : Uncrossing) (side : Side) (unit : ℕ) : Type 0 where
  pub one : Positioned
  pub is : IsNext u side unit one

-- each unit up to what the side has has an owner
pub next_of : (u : Uncrossing) (side : Side) (unit : ℕ) → unit < total u side → NextOf u side unit
next_of u side unit h =
    let queue = side_queue u side in
    let before_it : sum_by (allotted (upto unit u)) queue ≡ unit = allotted_to_side (upto unit u) side (omega arith) in
    let with_it : sum_by (allotted (upto (unit + 1) u)) queue ≡ unit + 1 = allotted_to_side (upto (unit + 1) u) side (omega arith) in
    let g = greater (allotted (upto unit u)) (allotted (upto (unit + 1) u)) queue (omega arith) in
    let x = g.one in
    let less : (if at_price u side x then min (first_unit u side x + units x) unit - first_unit u side x else 0)
    < (if at_price u side x then min (first_unit u side x + units x) (unit + 1) - first_unit u side x else 0) =
    (let a = allotted_in (upto unit u) side x g.contained in let b = allotted_in (upto (unit + 1) u) side x g.contained in let l = g.greater in omega arith) in
    let o = owns_if (at_price u side x) (first_unit u side x) (units x) unit less in
    record { one = x; is = record { contained = g.contained; accepts = o.accepted; from = o.from; to = o.to } }

-- the units of two orders of a side are apart
pub apart_in : (u : Uncrossing) (side : Side) (x i : Positioned) → Contains (side_queue u side) x → Contains (side_queue u side) i → IsOther x i
    → (first_unit u side i + units i ≤ first_unit u side x) ⊎ (first_unit u side x + units x ≤ first_unit u side i)
apart_in u side x i xt it other = by_ahead (or_cases (is_ahead side i x) (is_ahead side x i) (ahead_one side i x other))
  where
    by_ahead : (is_ahead side i x ≡ true) ⊎ (is_ahead side x i ≡ true) → (first_unit u side i + units i ≤ first_unit u side x) ⊎ (first_unit u side x + units x ≤ first_unit u side i)
    by_ahead (inl e) = inl (gap side (side_queue u side) i x it e)
    by_ahead (inr e) = inr (gap side (side_queue u side) x i xt e)

same_part : (b : Bool) (m n : ℕ) → m ≡ n → ◌≡◌ {A = ℕ} (if b then m else 0) (if b then n else 0)
same_part b m n e = ap (λ (k : ℕ). if b then k else 0) e

apart_parts : (first count other rest unit more : ℕ) → first ≤ unit → unit + more ≤ first + count → (other + rest ≤ first) ⊎ (first + count ≤ other)
    → min (other + rest) (unit + more) - other ≡ min (other + rest) unit - other
apart_parts first count other rest unit more h l (inl a) = omega arith
apart_parts first count other rest unit more h l (inr a) = omega arith

module _ (u : Uncrossing) (side : Side) (unit : ℕ) (x : Positioned) (next : IsNext u side unit x) where
  -- what is ahead of it has all its units
  ahead_has_all : (i : Positioned) → Contains (side_queue u side) i → is_ahead side i x ≡ true → units i ≤ allotted (upto unit u) i
  ahead_has_all i at h =
      let accepted : at_price u side i ≡ true = kinds_accept side i.order.kind i.position x.order.kind x.position u.price h next.accepts in
      let share : allotted (upto unit u) i ≡ min (first_unit u side i + units i) unit - first_unit u side i =
      allotted_in (upto unit u) side i at ∙ ap (λ (b : Bool). if b then min (first_unit u side i + units i) unit - first_unit u side i else 0) accepted in
      let far = gap side (side_queue u side) i x at h in
      let from = next.from in
      omega arith

  -- its own, up to its last unit
  pub own_share : (end : ℕ) → first_unit u side x ≤ end → end ≤ first_unit u side x + units x → allotted (upto end u) x ≡ end - first_unit u side x
  own_share end h l =
      allotted_in (upto end u) side x next.contained
      ∙ ap (λ (b : Bool). if b then min (first_unit u side x + units x) end - first_unit u side x else 0) next.accepts ∙ omega arith

  -- others get none of its units
  others_share : (more : ℕ) → unit + more ≤ first_unit u side x + units x → (i : Positioned) → Contains (side_queue u side) i → IsOther x i
      → allotted (upto (unit + more) u) i ≡ allotted (upto unit u) i
  others_share more l i at other =
      allotted_in (upto (unit + more) u) side i at
      ∙ same_part (at_price u side i) (min (first_unit u side i + units i) (unit + more) - first_unit u side i) (min (first_unit u side i + units i) unit - first_unit u side i)
      (apart_parts (first_unit u side x) (units x) (first_unit u side i) (units i) unit more next.from l (apart_in u side x i next.contained at other))
      ∙ sym (allotted_in (upto unit u) side i at)

-- what each order is allotted where the sides have come to these units
abbrev pub allotted_to : Uncrossing → (Side → ℕ) → Positioned → ℕ
allotted_to u to i = allotted (upto (to i.order.side) u) i

-- one side has come further
abbrev pub raised : Side → ℕ → (Side → ℕ) → Side → ℕ
raised side n to other = if same_side side other then n else to other

on_side : (u : Uncrossing) (to : Side → ℕ) (side : Side) (i : Positioned) → Contains (side_queue u side) i → allotted_to u to i ≡ allotted (upto (to side) u) i
on_side u to side i at = ap (λ (s : Side). allotted (upto (to s) u) i) (side_of_one u side i at)

module _ (u : Uncrossing) (side : Side) (to : Side → ℕ) (x : Positioned) (next : IsNext u side (to side) x) where
  share_now : allotted_to u to x ≡ to side - first_unit u side x
  share_now =
      let h = next.from in let l = next.to in
      on_side u to side x next.contained ∙ own_share u side (to side) x next (to side) (omega arith) (omega arith)

  pub rest_now : units x - allotted_to u to x ≡ first_unit u side x + units x - to side
  rest_now = let h = next.from in let l = next.to in let s = share_now in omega arith

  pub best_now : best_order (phase_of u) side (without_units (allotted_to u to) u.orders) ≡ Some (lessened (allotted_to u to) x)
  best_now =
      best_left (allotted_to u to) (phase_of u) side u.orders (rising_from 0 u.orders) x next.contained
      (let h = next.from in let l = next.to in let s = share_now in omega arith)
      (λ i at h. let all = ahead_has_all u side (to side) x next i at h in let s = on_side u to side i at in omega arith)

  module _ (own : have_own_names order_owner order_reference u.orders ≡ true) (n : ℕ) (some : 0 < n) (within : n ≤ first_unit u side x + units x - to side) where
    not_active : (v : Uncrossing) (i : Positioned) → is_active (phase_of v) i.order.restriction ≡ false → allotted v i ≡ 0
    not_active v i e =
        ap (λ (b : Bool). if (b && same_side i.order.side i.order.side) && at_price v i.order.side i then end_unit v i.order.side i - first_unit v i.order.side i else 0) e

    stays_on : (i : Positioned) → Contains (positioned_from 0 u.orders) i → IsOther x i → same_side side i.order.side ≡ true → (b : Bool) → is_active (phase_of u) i.order.restriction ≡ b
        → allotted (upto (to side + n) u) i ≡ allotted (upto (to side) u) i
    stays_on i at other on true e =
        let l = next.to in
        others_share u side (to side) x next n (omega arith) i
        (Contains-filter (is_active_on (phase_of u) side) (positioned_from 0 u.orders) i (and_from (is_active (phase_of u) i.order.restriction) (same_side side i.order.side) e on) at) other
    stays_on i at other on false e = not_active (upto (to side + n) u) i e ∙ sym (not_active (upto (to side) u) i e)

    stays_by : (i : Positioned) → Contains (positioned_from 0 u.orders) i → IsOther x i → (b : Bool) → same_side side i.order.side ≡ b
        → allotted (upto (if b then to side + n else to i.order.side) u) i ≡ allotted_to u to i
    stays_by i at other true e =
        stays_on i at other e (is_active (phase_of u) i.order.restriction) refl ∙ ap (λ (s : Side). allotted (upto (to s) u) i) (sym (side_is side i.order.side e))
    stays_by i at other false e = refl

    stays : (i : Positioned) → Contains (positioned_from 0 u.orders) i → (i ≡ x → ⊥) → allotted_to u (raised side (to side + n) to) i ≡ allotted_to u to i
    stays i at d =
        let xt = in_queue u side x next.contained in
        stays_by i at (λ e. d (same_at_position (positioned_from 0 u.orders) (rising_from 0 u.orders) i x at.0 at.1 at.2 xt.0 xt.1 xt.2 e)) (same_side side i.order.side) refl

    raised_at : raised side (to side + n) to side ≡ to side + n
    raised_at = ap (λ (b : Bool). if b then to side + n else to side) (side-itself side)

    takes : TakesFrom u.orders (allotted_to u to) (allotted_to u (raised side (to side + n) to)) n x
    takes = record {
      own = own;
      contained = in_queue u side x next.contained;
      some = some;
      within = (let r = rest_now in omega arith);
      of_it =
          (let h = next.from in let l = next.to in let s = share_now in
          on_side u (raised side (to side + n) to) side x next.contained ∙ ap (λ (k : ℕ). allotted (upto k u) x) raised_at
          ∙ own_share u side (to side) x next (to side + n) (omega arith) (omega arith) ∙ omega arith);
      of_others = stays;
    }

    -- the units are taken from the best order
    pub best_taken : taken_from_best (phase_of u) side n (without_units (allotted_to u to) u.orders) ≡ without_units (allotted_to u (raised side (to side + n) to)) u.orders
    best_taken =
        ap (λ o. taken_from_any o n (without_units (allotted_to u to) u.orders)) best_now
        ∙ taken_is u.orders (allotted_to u to) (allotted_to u (raised side (to side + n) to)) n x takes
