-- The units of a lawful journal that accept a price are few.
use Rattle.std.proofs.Common.{◌≡◌, ℕ, ◌+◌, ◌*◌, ◌≤◌, Bool, true, false, if◌then◌else◌, List, [], ◌∷◌, sum_by, refl, arith}
use Rattle.std.proofs.lemmas.List.Sums.{sum_by-cons, sum_by-le-sum_by}
use Rattle.xm_rules.specs.Active.{Positioned, active, is_active_on, positioned_from}
use Rattle.xm_rules.specs.Auction.{accepting}
use Rattle.xm_rules.specs.Orders.{accepts}
use Rattle.xm_rules.specs.Step.{Journal, is_lawful, replay}
use Rattle.xm_rules.specs.declared.carried.TheConstants.{MAX_CARRIED}
use Rattle.xm_rules.specs.declared.orders.Order.{Order}
use Rattle.xm_rules.specs.declared.orders.Side.{Side}
use Rattle.xm_rules.specs.declared.phases.Phase.{Phase}
use Rattle.xm_rules.proofs.CarriedEntries.{carriable-parts}
use Rattle.xm_rules.proofs.DayLimits.{entries_in, kept}
use Rattle.xm_rules.proofs.Journals.{carries}
use Rattle.xm_rules.proofs.Orderings.{sum-filter}
use Rattle.xm_rules.proofs.Queues.{units}
use Rattle.xm_rules.proofs.TimeLists.{rest_of}
use Rattle.xm_ticks.specs.declared.numbers.TheConstants.{MAX_JOURNAL_LIMIT, MAX_QUANTITY}

placed_sum : (n : ℕ) (orders : List Order) → sum_by units (positioned_from n orders) ≡ sum_by rest_of orders
placed_sum n [] = refl
placed_sum n (o ∷ os) = omega (arith, sum_by-cons units (record { position = n; order = o }) (positioned_from (n + 1) os), sum_by-cons rest_of o os, placed_sum (n + 1) os)

if_some : (b : Bool) (n : ℕ) → (if b then n else 0) ≤ n
if_some true n = omega arith
if_some false n = omega arith

-- no more than all rests together
within_rests : (phase : Phase) (orders : List Order) (side : Side) (x : ℕ) → accepting phase orders side x ≤ sum_by rest_of orders
within_rests phase orders side x =
    let all = positioned_from 0 orders in
    let some = sum_by-le-sum_by (λ (i : Positioned). if accepts side i.order.kind x then i.order.rest else 0) units (active phase side orders) (λ i. if_some (accepts side i.order.kind x) (units i)) in
    let of_active = sum-filter units (is_active_on phase side) all in
    let less = sum_by-le-sum_by (λ (i : Positioned). if is_active_on phase side i then units i else 0) units all (λ i. if_some (is_active_on phase side i) (units i)) in
    omega (arith, some, of_active, less, placed_sum 0 orders)

pub few-units : (j : Journal) (side : Side) (x : ℕ) → is_lawful j ≡ true → j.settings.limit ≤ MAX_JOURNAL_LIMIT
    → accepting (replay j).phase (replay j).orders side x ≤ MAX_QUANTITY * (MAX_CARRIED + MAX_JOURNAL_LIMIT)
few-units j side x h few =
    let s = replay j in
    let in_hand = (kept j h).units in
    let carried : entries_in j.settings ≤ MAX_CARRIED = (carriable-parts j.settings (carries j h)).few in
    omega (arith, within_rests s.phase s.orders side x, in_hand, carried, few)
