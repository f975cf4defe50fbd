-- The units in hand: those that rest, those of held stops, and those that were traded. A command brings in no more than its quantity.
use Rattle.std.proofs.Common.{◌≡◌, ℕ, ◌+◌, ◌-◌, ◌≤◌, ◌==◌, min, Bool, true, false, not, ◌&&◌, if◌then◌else◌, List, [], ◌∷◌, count_by, cond, sum_by, Option, Some, None, refl, sym, ap, ◌∙◌, arith}
use Rattle.std.specs.Prelude.{find}
use Rattle.std.proofs.lemmas.List.Sums.{sum_by-append, sum_by-cons, sum_by-le-sum_by, sum_by_push}
use Rattle.xm_rules.specs.Active.{positioned_from, is_active_on}
use Rattle.xm_rules.specs.Allotment.{Uncrossing, allotted, auction_trades, first_unit, side_queue, takes_part}
use Rattle.xm_rules.specs.Auction.{auction_price}
use Rattle.xm_rules.specs.Commands.{outlasts, trigger_of}
use Rattle.xm_rules.specs.Orders.{is_named, is_stop_named, with_rest}
use Rattle.xm_rules.specs.Settling.{come, is_continuous, is_free, is_reached, joined, order_of_stop, reached, released, settle, sweep_of, swept}
use Rattle.xm_rules.specs.State.{State, ranges, ref1}
use Rattle.xm_rules.specs.Step.{act, cancelled, changed, changed_order, come_under, determined, entered, entered_order, keeps_priority, reduced, replaced, stage_after, step, stop_of, traded, uncrossed, uncrossed_at}
use Rattle.xm_rules.specs.Sums.{total_quantity}
use Rattle.xm_rules.specs.Sweep.{is_fillable, rest_after, sweep_trades}
use Rattle.xm_rules.specs.declared.commands.Command.{Command}
use Rattle.xm_rules.specs.declared.commands.Command.TheVariants.{Enter, Change, Cancel, CancelAll, StartOpening, StartIntraday, StartClosing, Uncross, EndDay}
use Rattle.xm_rules.specs.declared.commands.Condition.{Condition}
use Rattle.xm_rules.specs.declared.commands.Condition.TheVariants.{Plain, Ioc, Fok, Boc}
use Rattle.xm_rules.specs.declared.orders.Order.{Order}
use Rattle.xm_rules.specs.declared.orders.Side.TheVariants.{Buy, Sell}
use Rattle.xm_rules.specs.declared.orders.Stop.{Stop}
use Rattle.xm_rules.specs.declared.phases.Auction.{Auction}
use Rattle.xm_rules.specs.declared.phases.CallStage.{CallStage}
use Rattle.xm_rules.specs.declared.phases.Phase.{Phase}
use Rattle.xm_rules.specs.declared.phases.Phase.TheVariants.{Call}
use Rattle.xm_rules.proofs.Allotments.{allotted_to_side, allotted_within, within_side}
use Rattle.xm_rules.proofs.CallTrades.{call_of}
use Rattle.xm_rules.proofs.Orderings.{sum-map}
use Rattle.xm_rules.proofs.Prices.{volume_at_price}
use Rattle.xm_rules.proofs.SettledSums.{part, settle-within, split}
use Rattle.xm_rules.proofs.Sums.{sum-add}
use Rattle.xm_rules.proofs.Sweeps.{list_loses_filled, quantity_of, traded_is_filled}
use Rattle.xm_rules.proofs.TimeLists.{left_and_taken, rest_of}

abbrev pub stop_units : Stop → ℕ
stop_units stop = stop.quantity

abbrev pub in_hand : State → ℕ
in_hand s = sum_by rest_of s.orders + sum_by stop_units s.stops + total_quantity s.trades

-- ---- an order comes in

-- what a sweep trades, the orders lose
swept-keeps : (s : State) (o : Order) → in_hand (swept s o) ≡ in_hand s
swept-keeps s o =
    let w = sweep_of s o in
    omega (arith, list_loses_filled w, traded_is_filled (s.sweeps + 1) w, sum_by-append quantity_of s.trades (sweep_trades (s.sweeps + 1) w))

at_most : (s a b : State) (n : ℕ) (t : Bool) → in_hand a ≤ in_hand s + n → in_hand b ≤ in_hand s + n → in_hand (if t then a else b) ≤ in_hand s + n
at_most s a b n true h i = h
at_most s a b n false h i = i

joined-more : (s : State) (o : Order) → in_hand (joined s o) ≡ in_hand s + o.rest
joined-more s o = omega (arith, sum_by_push rest_of s.orders o)

come-more : (s : State) (o : Order) → in_hand (come s o) ≤ in_hand s + o.rest
come-more s o =
    let w = sweep_of s o in
    let rest : Order = record o { rest = rest_after w } in
    at_most s _ (joined s o) o.rest (is_continuous s.phase && is_free o.restriction)
    (at_most s (swept s o) _ o.rest (rest_after w == 0) (omega (arith, swept-keeps s o)) (omega (arith, swept-keeps s o, joined-more (swept s o) rest)))
    (omega (arith, joined-more s o))

-- ---- settling

released-keeps : (s : State) → in_hand (released s) + sum_by stop_units (reached s) ≡ in_hand s
released-keeps s = omega (arith, split stop_units (is_reached (ref1 s)) s.stops)

pub settle-more : (s : State) → in_hand (settle s []) ≤ in_hand s
settle-more s = settle-within in_hand stop_units (λ s stop. come-more s (order_of_stop stop)) (λ s. omega (arith, released-keeps s)) s

-- ---- the end of a call

owned_at_most : (b : Bool) (first rest volume : ℕ) → (if b then min (first + rest) volume - first else 0) ≤ rest
owned_at_most true first rest volume = omega arith
owned_at_most false first rest volume = omega arith

traded-keeps : (s : State) (u : Uncrossing) → u.orders ≡ s.orders → auction_price (Call u.auction u.stage) u.orders (ref1 s) ≡ Some (u.price, u.volume) → in_hand (traded s u) ≤ in_hand s
traded-keeps s u same e =
    let at = volume_at_price (Call u.auction u.stage) u.orders (ref1 s) u.price u.volume e in
    let buys = within_side u Buy at in
    let sells = within_side u Sell at in
    let took : sum_by (allotted u) (side_queue u Buy) ≤ sum_by (allotted u) (positioned_from 0 u.orders) = part (allotted u) (is_active_on (Call u.auction u.stage) Buy) (positioned_from 0 u.orders) in
    omega (
      arith,
      took,
      allotted_to_side u Buy buys,
      allotted_within (s.sweeps + 1) u buys sells,
      left_and_taken (allotted u) u.orders (λ i. owned_at_most (takes_part u i.order.side i) (first_unit u i.order.side i) i.order.rest u.volume),
      ap (sum_by rest_of) same,
      sum_by-append quantity_of s.trades (auction_trades (s.sweeps + 1) u),
    )

determined-keeps : (s : State) (u : Uncrossing) (next : Option CallStage) → u.orders ≡ s.orders → auction_price (Call u.auction u.stage) u.orders (ref1 s) ≡ Some (u.price, u.volume)
    → in_hand (determined s u next) ≤ in_hand s + 0
determined-keeps s u None same e = omega (arith, traded-keeps s u same e)
determined-keeps s u (Some stage) same e = omega arith

uncrossed-keeps : (s : State) (auction : Auction) (stage : CallStage) (o : Option (ℕ × ℕ)) → auction_price (Call auction stage) s.orders (ref1 s) ≡ o
    → in_hand (uncrossed_at s auction stage o) ≤ in_hand s + 0
uncrossed-keeps s auction stage None e = omega arith
uncrossed-keeps s auction stage (Some priced) e = determined-keeps s (call_of s auction stage priced) (stage_after (ranges s) stage priced.0) refl e

ended-keeps : (s : State) (phase : Phase) → in_hand (uncrossed s phase) ≤ in_hand s + 0
ended-keeps s (Call auction stage) = uncrossed-keeps s auction stage (auction_price (Call auction stage) s.orders (ref1 s)) refl
ended-keeps s _ = omega arith

-- ---- commands

-- no two orders have one name
abbrev pub HaveOwnNames : List Order → Type 0
HaveOwnNames orders = (member reference : ℕ) → count_by (is_named member reference) orders ≤ 1

module _ (p : Order → Bool) (q : ℕ) where
  abbrev some : Order → ℕ
  some o = if p o then q else 0

  never_if : (b : Bool) (n m : ℕ) → cond b 1 0 + n ≡ 0 → m ≡ 0 → (if b then q else 0) + m ≡ 0
  never_if true n m e f = absurd (omega arith)
  never_if false n m e f = omega arith

  never : (os : List Order) → count_by p os ≡ 0 → sum_by some os ≡ 0
  never [] e = refl
  never (o ∷ os) e =
      sum_by-cons some o os
      ∙ never_if (p o) (count_by p os) (sum_by some os) (sym (sum_by-cons (λ x. cond (p x) 1 0) o os) ∙ e)
      (never os (omega (arith, sum_by-cons (λ x. cond (p x) 1 0) o os)))

  once_if : (b : Bool) (n m : ℕ) → cond b 1 0 + n ≤ 1 → (n ≡ 0 → m ≡ 0) → m ≤ q → (if b then q else 0) + m ≤ q
  once_if true n m l none h = let e = none (omega arith) in omega arith
  once_if false n m l none h = omega arith

  once : (os : List Order) → count_by p os ≤ 1 → sum_by some os ≤ q
  once [] l = omega arith
  once (o ∷ os) l =
      let count = sum_by-cons (λ x. cond (p x) 1 0) o os in
      omega (
        arith,
        sum_by-cons some o os,
        once_if (p o) (count_by p os) (sum_by some os) (omega arith) (never os) (once os (omega arith)),
      )

rest_if : (b : Bool) (o : Order) (q : ℕ) → rest_of (if b then record o { rest = q } else o) ≤ o.rest + (if b then q else 0)
rest_if true o q = omega arith
rest_if false o q = omega arith

with_rest-more : (member reference q : ℕ) (os : List Order) → HaveOwnNames os → sum_by rest_of (with_rest member reference q os) ≤ sum_by rest_of os + q
with_rest-more member reference q os own =
    let named = is_named member reference in
    omega (
      arith,
      sum-map rest_of (λ (o : Order). if named o then record o { rest = q } else o) os,
      sum_by-le-sum_by (λ (o : Order). rest_of (if named o then record o { rest = q } else o)) (λ (o : Order). rest_of o + (if named o then q else 0)) os (λ o. rest_if (named o) o q),
      sum-add rest_of (λ (o : Order). if named o then q else 0) os,
      once named q os (own member reference),
    )

cancelled-keeps : (s : State) (member reference : ℕ) → in_hand (cancelled s member reference) ≤ in_hand s
cancelled-keeps s member reference =
    omega (arith, part rest_of (λ (o : Order). not (is_named member reference o)) s.orders, part stop_units (λ (stop : Stop). not (is_stop_named member reference stop)) s.stops)

changed-more : (s : State) (q : ℕ) (limit : Option ℕ) (found : Option Order) → HaveOwnNames s.orders → in_hand (changed s q limit found) ≤ in_hand s + q
changed-more s q limit None own = omega arith
changed-more s q limit (Some o) own =
    at_most s (reduced s q o) (replaced s o (changed_order q limit o)) q (keeps_priority q limit o) (omega (arith, with_rest-more o.member o.reference q s.orders own))
    (omega (arith, come-more (cancelled s o.member o.reference) (changed_order q limit o), cancelled-keeps s o.member o.reference))

condition-more : (condition : Condition) (s : State) (o : Order) → in_hand (come_under condition s o) ≤ in_hand s + o.rest
condition-more Plain s o = come-more s o
condition-more Ioc s o = omega (arith, swept-keeps s o)
condition-more Fok s o = at_most s (come s o) s o.rest (is_fillable (sweep_of s o)) (come-more s o) (omega arith)
condition-more Boc s o = come-more s o

entered-more : (s : State) (condition : Condition) (trigger : Option ℕ) (o : Order) → in_hand (entered s condition trigger o) ≤ in_hand s + o.rest
entered-more s condition None o = condition-more condition s o
entered-more s condition (Some trigger) o = omega (arith, sum_by_push stop_units s.stops (stop_of trigger o))

-- the units that a command brings in at most
abbrev pub brought : Command → ℕ
brought (Enter member reference side kind quantity validity restriction condition) = quantity
brought (Change member reference quantity limit) = quantity
brought _ = 0

act-more : (s : State) (c : Command) → HaveOwnNames s.orders → in_hand (act s c) ≤ in_hand s + brought c
act-more s (Enter member reference side kind quantity validity restriction condition) own =
    entered-more s condition (trigger_of kind) (entered_order member reference side kind quantity validity restriction)
act-more s (Change member reference quantity limit) own = changed-more s quantity limit (find (is_named member reference) s.orders) own
act-more s (Cancel member reference) own = omega (arith, cancelled-keeps s member reference)
act-more s (CancelAll member) own =
    omega (arith, part rest_of (λ (o : Order). not (o.member == member)) s.orders, part stop_units (λ (stop : Stop). not (stop.member == member)) s.stops)
act-more s Uncross own = ended-keeps s s.phase
act-more s EndDay own =
    omega (arith, part rest_of (λ (o : Order). outlasts s.settings.today o.validity) s.orders, part stop_units (λ (stop : Stop). outlasts s.settings.today stop.validity) s.stops)
act-more s StartOpening own = omega arith
act-more s StartIntraday own = omega arith
act-more s StartClosing own = omega arith

pub step-more : (s : State) (c : Command) → HaveOwnNames s.orders → in_hand (step s c) ≤ in_hand s + brought c
unfolding step
step-more s c own = omega (arith, act-more s c own, settle-more (act s c))
