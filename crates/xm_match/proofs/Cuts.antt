-- How far a sweep has come: what it has filled is what it fills for an incoming order with fewer units, and the next order is
-- the first of those that it has not reached.
use Rattle.xm_book.specs.Listing.{order_owner, order_reference}
use Rattle.xm_slots.specs.Naming.{have_own_names}
use Rattle.std.proofs.Common.{◌≡◌, ℕ, ◌+◌, ◌-◌, ◌<◌, ◌≤◌, min, Bool, true, false, if◌then◌else◌, List, [], ◌∷◌, filter, sum_by, Contains, refl, sym, ap, subst, ◌⊎◌, inl, inr, arith}
use Rattle.std.specs.List.{list_all}
use Rattle.std.specs.Prelude.{nat_le}
use Rattle.std.proofs.lemmas.Bool.{and_from, and_parts, both_ways, false_from_ne_true}
use Rattle.std.proofs.lemmas.Bool.Decides.{nat_tests}
use Rattle.std.proofs.lemmas.List.Elements.{All-contains_itself}
use Rattle.xm_book.proofs.Firsts.{one_or_ahead}
use Rattle.xm_slots.proofs.Members.{Contains-cases, Contains-filter, Contains-here, Contains-none, Contains-there, Passes-filter}
use Rattle.xm_book.proofs.Naming.{contains_order}
use Rattle.xm_match.proofs.Lists.{all_of_each, all_pass}
use Rattle.xm_rules.specs.Active.{Positioned, is_active_on, positioned_from}
use Rattle.xm_rules.specs.Commands.{is_in_range}
use Rattle.xm_rules.specs.Priority.{is_ahead}
use Rattle.xm_rules.specs.Sweep.{Sweep, ahead_of, fill, filled, is_executable, is_met_inside, other_side, queue, units_before}
use Rattle.xm_rules.specs.declared.orders.Order.{Order}
use Rattle.xm_rules.specs.declared.orders.Side.{Side}
use Rattle.xm_rules.specs.declared.phases.Phase.TheVariants.{Continuous}
use Rattle.xm_rules.proofs.Ahead.{ahead_on, not_ahead_of_itself}
use Rattle.xm_rules.proofs.Positions.{rising_active}
use Rattle.xm_rules.proofs.Queues.{gap, units}
use Rattle.xm_rules.proofs.Ranges.{range_low}
use Rattle.xm_rules.proofs.Sums.{sum-le}

-- ---- one of a list that has none ahead of it
pub record IsLeast (side : Side) (xs : List Positioned) (m : Positioned) : Type 0 where
  pub contained : Contains xs m
  pub none : (i : Positioned) → Contains xs i → is_ahead side i m ≡ false

not_ahead : (side : Side) (x m : Positioned) (xs : List Positioned) (i : Positioned) → (Contains xs i → is_ahead side i m ≡ false) → (x ≡ i) ⊎ Contains xs i → is_ahead side x m ≡ false
    → is_ahead side i m ≡ false
not_ahead side x m xs i rest (inl e) h = subst (λ (z : Positioned). is_ahead side z m ≡ false) e h
not_ahead side x m xs i rest (inr at) h = rest at

least_by : (side : Side) (x m : Positioned) (xs : List Positioned) → IsLeast side xs m → (b : Bool) → is_ahead side x m ≡ b → (l : Positioned) × IsLeast side (x ∷ xs) l
least_by side x m xs least true e = (
  x,
  record {
    contained = Contains-here x xs;
    none = λ i at.
        not_ahead side x x xs i (λ to. false_from_ne_true (is_ahead side i x) (λ h. both_ways (is_ahead side i m) (least.none i to) (ahead_on side i x m h e))) (Contains-cases x xs i at) (not_ahead_of_itself side x);
  },
)
least_by side x m xs least false e = (
  m,
  record { contained = Contains-there x xs m least.contained; none = λ i at. not_ahead side x m xs i (least.none i) (Contains-cases x xs i at) e },
)

pub least_of : (side : Side) (x : Positioned) (xs : List Positioned) → (l : Positioned) × IsLeast side (x ∷ xs) l
least_of side x [] = (
  x,
  record {
    contained = Contains-here x [];
    none = λ i at. not_ahead side x x [] i (λ to. absurd (Contains-none i to)) (Contains-cases x [] i at) (not_ahead_of_itself side x);
  },
)
least_of side x (y ∷ ys) = let l = least_of side y ys in least_by side x l.0 (y ∷ ys) l.1 (is_ahead side x l.0) refl

-- ---- the sweep of an incoming order with another rest
abbrev pub upto : ℕ → Sweep → Sweep
upto rest w = record w { incoming = (let o = w.incoming in record o { rest = rest }) }

-- what a book keeps
pub record IsSound (w : Sweep) : Type 0 where
  pub own : have_own_names order_owner order_reference w.orders ≡ true
  pub rests : list_all (λ (o : Order). is_in_range o.rest) w.orders ≡ true

pub in_list : (w : Sweep) (i : Positioned) → Contains (queue w) i → Contains (positioned_from 0 w.orders) i
in_list w i at = let p = Passes-filter (is_active_on Continuous (other_side w)) (positioned_from 0 w.orders) i at in p.contains

pub some_units : (w : Sweep) → IsSound w → (i : Positioned) → Contains (queue w) i → 0 < units i
some_units w s i at = range_low (units i) (all_pass (λ (o : Order). is_in_range o.rest) w.orders i.order s.rests (contains_order 0 w.orders i (in_list w i at)))

-- two orders are one, or the units of one come before those of the other
pub one_or_apart : (w : Sweep) (x i : Positioned) → Contains (queue w) x → Contains (queue w) i
    → (i ≡ x) ⊎ ((units_before w i + units i ≤ units_before w x) ⊎ (units_before w x + units x ≤ units_before w i))
one_or_apart w x i xt it = by_ahead (one_or_ahead (other_side w) (queue w) (rising_active Continuous (other_side w) w.orders) i x it xt)
  where
    by_ahead : (i ≡ x) ⊎ ((is_ahead (other_side w) i x ≡ true) ⊎ (is_ahead (other_side w) x i ≡ true))
        → (i ≡ x) ⊎ ((units_before w i + units i ≤ units_before w x) ⊎ (units_before w x + units x ≤ units_before w i))
    by_ahead (inl e) = inl e
    by_ahead (inr (inl e)) = inr (inl (gap (other_side w) (queue w) i x it e))
    by_ahead (inr (inr e)) = inr (inr (gap (other_side w) (queue w) x i xt e))

-- ---- which orders may be executed
pub executable_from : (w : Sweep) (i : Positioned) → is_met_inside w i ≡ true
    → ((j : Positioned) → Contains (queue w) j → is_ahead (other_side w) j i ≡ true → is_met_inside w j ≡ true) → is_executable w i ≡ true
executable_from w i met ahead =
    and_from (is_met_inside w i) (list_all (is_met_inside w) (ahead_of w i)) met
    (all_of_each (is_met_inside w) (ahead_of w i) (λ j at.
    let p = Passes-filter (λ (k : Positioned). is_ahead (other_side w) k i) (queue w) j at in
    ahead j p.contains p.passes))

-- where one isn't met inside the ranges, neither it nor an order behind it may be
module _ (w : Sweep) (m : Positioned) (outside : is_met_inside w m ≡ false) where
  pub not_inside : is_executable w m ≡ false
  not_inside =
      false_from_ne_true (is_executable w m)
      (λ e. both_ways (is_met_inside w m) outside (and_parts (is_met_inside w m) (list_all (is_met_inside w) (ahead_of w m)) e).0)

  pub not_behind : Contains (queue w) m → (i : Positioned) → is_ahead (other_side w) m i ≡ true → is_executable w i ≡ false
  not_behind at i h =
      false_from_ne_true (is_executable w i)
      (λ e. both_ways (is_met_inside w m) outside
      (all_pass (is_met_inside w) (ahead_of w i) m (and_parts (is_met_inside w i) (list_all (is_met_inside w) (ahead_of w i)) e).1
      (Contains-filter (λ (j : Positioned). is_ahead (other_side w) j i) (queue w) m h at)))

-- ---- what an order is filled
pub fill_of : (w : Sweep) (t : ℕ) (i : Positioned) → is_executable w i ≡ true → fill (upto t w) i ≡ min (units i) (t - units_before w i)
fill_of w t i e = ap (λ (b : Bool). if b then min (units i) (t - units_before w i) else 0) e

pub fill_none : (w : Sweep) (t : ℕ) (i : Positioned) → is_executable w i ≡ false → fill (upto t w) i ≡ 0
fill_none w t i e = ap (λ (b : Bool). if b then min (units i) (t - units_before w i) else 0) e

none_past : (b : Bool) (n t m : ℕ) → t ≤ m → ◌≡◌ {A = ℕ} (if b then min n (t - m) else 0) 0
none_past true n t m l = omega arith
none_past false n t m l = refl

pub fill_past : (w : Sweep) (t : ℕ) (i : Positioned) → t ≤ units_before w i → fill (upto t w) i ≡ 0
fill_past w t i l = none_past (is_executable w i) (units i) t (units_before w i) l

-- ---- so many units are executed
pub record IsDone (w : Sweep) (done : ℕ) : Type 0 where
  -- the orders that have lost units may be executed
  pub executed : (i : Positioned) → Contains (queue w) i → units_before w i < done → is_executable w i ≡ true
  pub whole : filled (upto done w) ≡ done

-- no order has units before and after so many
pub record IsCut (w : Sweep) (done : ℕ) : Type 0 where
  pub cut : (i : Positioned) → Contains (queue w) i → (units_before w i + units i ≤ done) ⊎ (done ≤ units_before w i)

-- an order whose units come before is filled whole
pub filled_whole : (w : Sweep) (done : ℕ) → IsSound w → IsDone w done → (i : Positioned) → Contains (queue w) i → units_before w i + units i ≤ done → fill (upto done w) i ≡ units i
filled_whole w done s d i at l =
    let some = some_units w s i at in
    let f = fill_of w done i (d.executed i at (omega arith)) in
    omega arith

-- the order whose units come next
pub record IsNext (w : Sweep) (done : ℕ) (m : Positioned) : Type 0 where
  pub contained : Contains (queue w) m
  pub ahead : (i : Positioned) → Contains (queue w) i → is_ahead (other_side w) i m ≡ true → units_before w i + units i ≤ done
  pub at : units_before w m ≡ done

abbrev pub AllDone : Sweep → ℕ → Type 0
AllDone w done = (i : Positioned) → Contains (queue w) i → units_before w i + units i ≤ done

module _ (w : Sweep) (done : ℕ) (s : IsSound w) (d : IsDone w done) (c : IsCut w done) where
  ahead_if : (i m : Positioned) (b : Bool) → is_ahead (other_side w) i m ≡ b → (is_ahead (other_side w) i m ≡ true → units i ≤ fill (upto done w) i)
      → (if b then units i else 0) ≤ fill (upto done w) i
  ahead_if i m true e h = h e
  ahead_if i m false e h = omega arith

  -- what is ahead of an order has no more units than are executed, where each of them is filled whole
  before_within : (m : Positioned) → ((i : Positioned) → Contains (queue w) i → is_ahead (other_side w) i m ≡ true → units_before w i + units i ≤ done) → units_before w m ≤ done
  before_within m ahead =
      let sums : units_before w m ≤ sum_by (fill (upto done w)) (queue w) =
      sum-le (λ (i : Positioned). if is_ahead (other_side w) i m then units i else 0) (fill (upto done w)) (queue w)
      (λ k e l. each _ (All-contains_itself (queue w) k e l)) in
      let all = d.whole in
      omega arith
    where
      each : (i : Positioned) → Contains (queue w) i → (if is_ahead (other_side w) i m then units i else 0) ≤ fill (upto done w) i
      each i at = ahead_if i m (is_ahead (other_side w) i m) refl (λ h. let f = filled_whole w done s d i at (ahead i at h) in omega arith)

  abbrev behind : Positioned → Bool
  behind i = nat_le done (units_before w i)

  is_behind : (i : Positioned) → done ≤ units_before w i → behind i ≡ true
  is_behind i l = grind (arith, nat_tests)

  behind_from : (i : Positioned) → behind i ≡ true → done ≤ units_before w i
  behind_from i e = grind (arith, nat_tests)

  -- all units are done, or there is a next order
  next_from : (xs : List Positioned) → filter behind (queue w) ≡ xs → AllDone w done ⊎ ((m : Positioned) × IsNext w done m)
  next_from [] e = inl (λ i at. by_cut i at (c.cut i at))
    where
      by_cut : (i : Positioned) → Contains (queue w) i → (units_before w i + units i ≤ done) ⊎ (done ≤ units_before w i) → units_before w i + units i ≤ done
      by_cut i at (inl l) = l
      by_cut i at (inr l) = absurd (Contains-none i (subst (λ (ys : List Positioned). Contains ys i) e (Contains-filter behind (queue w) i (is_behind i l) at)))
  next_from (x ∷ xs) e =
      let least = least_of (other_side w) x xs in
      let m = least.0 in
      let p = Passes-filter behind (queue w) m (subst (λ (ys : List Positioned). Contains ys m) (sym e) least.1.contained) in
      let ahead : (i : Positioned) → Contains (queue w) i → is_ahead (other_side w) i m ≡ true → units_before w i + units i ≤ done = λ i at h. by_cut i m at h least.1 (c.cut i at) in
      let within = before_within m ahead in
      let from = behind_from m p.passes in
      inr (m, record { contained = p.contains; ahead = ahead; at = omega arith })
    where
      by_cut : (i m : Positioned) → Contains (queue w) i → is_ahead (other_side w) i m ≡ true → IsLeast (other_side w) (x ∷ xs) m
          → (units_before w i + units i ≤ done) ⊎ (done ≤ units_before w i) → units_before w i + units i ≤ done
      by_cut i m at h least (inl l) = l
      by_cut i m at h least (inr l) =
          absurd (both_ways (is_ahead (other_side w) i m)
          (least.none i (subst (λ (ys : List Positioned). Contains ys i) e (Contains-filter behind (queue w) i (is_behind i l) at))) h)

  pub next_or_all : AllDone w done ⊎ ((m : Positioned) × IsNext w done m)
  next_or_all = next_from (filter behind (queue w)) refl

  -- the next order may be executed where it is met inside the ranges
  pub executable_next : (m : Positioned) → IsNext w done m → is_met_inside w m ≡ true → is_executable w m ≡ true
  executable_next m next met =
      executable_from w m met (λ i at h.
      let l = next.ahead i at h in
      let some = some_units w s i at in
      (and_parts (is_met_inside w i) (list_all (is_met_inside w) (ahead_of w i)) (d.executed i at (omega arith))).0)

  -- an order is past, or it is the next one or behind it
  pub placed : (m : Positioned) → IsNext w done m → (i : Positioned) → Contains (queue w) i → (units_before w i + units i ≤ done) ⊎ ((i ≡ m) ⊎ (is_ahead (other_side w) m i ≡ true))
  placed m next i at = by_ahead (one_or_ahead (other_side w) (queue w) (rising_active Continuous (other_side w) w.orders) i m at next.contained)
    where
      by_ahead : (i ≡ m) ⊎ ((is_ahead (other_side w) i m ≡ true) ⊎ (is_ahead (other_side w) m i ≡ true))
          → (units_before w i + units i ≤ done) ⊎ ((i ≡ m) ⊎ (is_ahead (other_side w) m i ≡ true))
      by_ahead (inl e) = inr (inl e)
      by_ahead (inr (inl h)) = inl (next.ahead i at h)
      by_ahead (inr (inr h)) = inr (inr h)
