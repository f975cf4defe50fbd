-- What holds of each live order, of each held stop and of each trade of a lawful journal, where it doesn't speak of the rests of
-- orders: what commands bring in has it, and what becomes of that keeps it.
use Rattle.std.proofs.Common.{◌≡◌, ℕ, ◌+◌, ◌-◌, ◌==◌, Bool, true, false, not, ◌&&◌, if◌then◌else◌, cond, List, [], ◌∷◌, All, IfSome, get_or, find, map, Option, Some, None, refl, sym, ap, subst, ◌∙◌}
use Rattle.std.specs.Prelude.{nat_lt}
use Rattle.std.proofs.lemmas.List.Elements.{All-nil, All-cons, All-head, All-tail, All-append, All-filter, All-map, All-push}
use Rattle.xm_rules.specs.Active.{Positioned, positioned_from}
use Rattle.xm_rules.specs.Allotment.{allotted, auction_trades}
use Rattle.xm_rules.specs.Auction.{auction_price}
use Rattle.xm_rules.specs.Commands.{outlasts, trigger_of}
use Rattle.xm_rules.specs.Opening.{are_carriable, is_still_valid, opening}
use Rattle.xm_rules.specs.Orders.{is_named, is_stop_named}
use Rattle.xm_rules.specs.Priority.{without_units}
use Rattle.xm_rules.specs.Refusals.{refusal_of}
use Rattle.xm_rules.specs.Settling.{come, is_continuous, is_free, is_reached, joined, order_of_stop, settle, sweep_of, swept}
use Rattle.xm_rules.specs.State.{State, ranges, ref1}
use Rattle.xm_rules.specs.Step.{Journal, act, cancelled, changed, changed_order, come_under, determined, entered, entered_order, is_lawful, keeps_priority, reduced, replaced, replay, stage_after, step, stop_of, uncrossed, uncrossed_at}
use Rattle.xm_rules.specs.Sweep.{fill, is_fillable, rest_after, sweep_trades}
use Rattle.xm_rules.specs.declared.commands.Command.{Command}
use Rattle.xm_rules.specs.declared.commands.Command.TheVariants.{Enter, Change, Cancel, CancelAll, StartOpening, StartIntraday, StartClosing, Uncross, EndDay}
use Rattle.xm_rules.specs.declared.commands.Condition.{Condition}
use Rattle.xm_rules.specs.declared.commands.Condition.TheVariants.{Plain, Ioc, Fok, Boc}
use Rattle.xm_rules.specs.declared.commands.Kind.{Kind}
use Rattle.xm_rules.specs.declared.orders.Order.{Order}
use Rattle.xm_rules.specs.declared.orders.Restriction.{Restriction}
use Rattle.xm_rules.specs.declared.orders.Side.{Side}
use Rattle.xm_rules.specs.declared.orders.Stop.{Stop}
use Rattle.xm_rules.specs.declared.orders.Trade.{Trade}
use Rattle.xm_rules.specs.declared.orders.Validity.{Validity}
use Rattle.xm_rules.specs.declared.phases.Auction.{Auction}
use Rattle.xm_rules.specs.declared.phases.CallStage.{CallStage}
use Rattle.xm_rules.specs.declared.phases.Phase.{Phase}
use Rattle.xm_rules.specs.declared.phases.Phase.TheVariants.{Call}
use Rattle.xm_rules.specs.declared.settings.DeskSettings.{DeskSettings}
use Rattle.xm_rules.proofs.CallTrades.{call_of}
use Rattle.xm_rules.proofs.Opening.{opening-has}
use Rattle.xm_rules.proofs.Replays.{lawful-has, settle-has}

-- a state of these settings has it
pub record Holds (G : Order → Type 0) (S : Stop → Type 0) (T : Trade → Type 0) (settings : DeskSettings) (s : State) : Type 0 where
  pub same : s.settings ≡ settings
  pub orders : All G s.orders
  pub stops : All S s.stops
  pub trades : All T s.trades

pub record AreKept (G : Order → Type 0) (S : Stop → Type 0) (T : Trade → Type 0) (settings : DeskSettings) : Type 0 where
  pub begins : are_carriable settings ≡ true → All G settings.carried.orders × All S settings.carried.stops
  pub rests : (o : Order) (rest : ℕ) → G o → G (record o { rest = rest })
  pub held : (trigger : ℕ) (o : Order) → G o → S (stop_of trigger o)
  pub comes : (stop : Stop) → S stop → G (order_of_stop stop)
  pub enters : (s : State) (member reference : ℕ) (side : Side) (kind : Kind) (quantity : ℕ) (validity : Validity) (restriction : Restriction) (condition : Condition)
      → s.settings ≡ settings → refusal_of s (Enter member reference side kind quantity validity restriction condition) ≡ None
      → G (entered_order member reference side kind quantity validity restriction)
  pub changes : (s : State) (member reference quantity : ℕ) (limit : Option ℕ) (o : Order) → refusal_of s (Change member reference quantity limit) ≡ None
      → G o → G (changed_order quantity limit o)
  pub sweeps : (s : State) (o : Order) (number : ℕ) → Holds G S T settings s → G o → All T (sweep_trades number (sweep_of s o))
  pub calls : (s : State) (auction : Auction) (stage : CallStage) (priced : ℕ × ℕ) (number : ℕ) → Holds G S T settings s
      → auction_price (Call auction stage) s.orders (ref1 s) ≡ Some priced → All T (auction_trades number (call_of s auction stage priced))

-- of each order it holds at its position
pub placed : (G : Order → Type 0) (k : ℕ) (os : List Order) → All G os → All (λ (i : Positioned). G i.order) (positioned_from k os)
placed G k [] h = All-nil (λ (i : Positioned). G i.order)
placed G k (o ∷ os) h =
    All-cons (λ (i : Positioned). G i.order) (record { position = k; order = o }) (positioned_from (k + 1) os) (All-head G o os h) (placed G (k + 1) os (All-tail G o os h))

module _ (G : Order → Type 0) (S : Stop → Type 0) (T : Trade → Type 0) (settings : DeskSettings) (a : AreKept G S T settings) where
  abbrev Has : State → Type 0
  Has s = Holds G S T settings s

  left : (taken : Positioned → ℕ) (os : List Order) → All G os → All G (without_units taken os)
  left taken os h =
      let lessened = λ (i : Positioned). (let o = i.order in let p : Order = record o { rest = o.rest - taken i } in p) in
      All-filter (λ (o : Order). nat_lt 0 o.rest) G (map lessened (positioned_from 0 os))
      (All-map G lessened (positioned_from 0 os) (λ k d l. (let i = get_or (positioned_from 0 os) k d in a.rests i.order (i.order.rest - taken i) (placed G 0 os h k d l))))

  either : (t : Bool) (s u : State) → Has s → Has u → Has (if t then s else u)
  either true s u h i = h
  either false s u h i = i

  -- ---- orders coming in
  swept-has : (s : State) (o : Order) → G o → Has s → Has (swept s o)
  swept-has s o own k =
      let w = sweep_of s o in
      record {
        same = k.same;
        orders = left (fill w) s.orders k.orders;
        stops = k.stops;
        trades = All-append T s.trades (sweep_trades (s.sweeps + 1) w) k.trades (a.sweeps s o (s.sweeps + 1) k own);
      }

  joined-has : (s : State) (o : Order) → G o → Has s → Has (joined s o)
  joined-has s o own k = record { same = k.same; orders = All-push G s.orders o k.orders own; stops = k.stops; trades = k.trades }

  come-has : (s : State) (o : Order) → G o → Has s → Has (come s o)
  come-has s o own k =
      let n = rest_after (sweep_of s o) in
      let rest : Order = record o { rest = n } in
      let after = swept-has s o own k in
      either (is_continuous s.phase && is_free o.restriction) _ (joined s o)
      (either (n == 0) (swept s o) (joined (swept s o) rest) after (joined-has (swept s o) rest (a.rests o n own) after))
      (joined-has s o own k)

  settled-has : (s : State) → Has s → Has (settle s [])
  settled-has =
      settle-has Has S (λ s stop h. come-has s (order_of_stop stop) (a.comes stop h))
      (λ s k. record { same = k.same; orders = k.orders; stops = All-filter (λ stop. not (is_reached (ref1 s) stop)) S s.stops k.stops; trades = k.trades })
      (λ s k. All-filter (is_reached (ref1 s)) S s.stops k.stops)

  -- ---- commands
  condition-has : (condition : Condition) (s : State) (o : Order) → G o → Has s → Has (come_under condition s o)
  condition-has Plain s o own k = come-has s o own k
  condition-has Ioc s o own k = swept-has s o own k
  condition-has Fok s o own k = either (is_fillable (sweep_of s o)) (come s o) s (come-has s o own k) k
  condition-has Boc s o own k = come-has s o own k

  entered-has : (s : State) (condition : Condition) (trigger : Option ℕ) (o : Order) → G o → Has s → Has (entered s condition trigger o)
  entered-has s condition None o own k = condition-has condition s o own k
  entered-has s condition (Some trigger) o own k =
      record { same = k.same; orders = k.orders; stops = All-push S s.stops (stop_of trigger o) k.stops (a.held trigger o own); trades = k.trades }

  cancelled-has : (s : State) (member reference : ℕ) → Has s → Has (cancelled s member reference)
  cancelled-has s member reference k =
      record {
        same = k.same;
        orders = All-filter (λ (o : Order). not (is_named member reference o)) G s.orders k.orders;
        stops = All-filter (λ (stop : Stop). not (is_stop_named member reference stop)) S s.stops k.stops;
        trades = k.trades;
      }

  found_if : (b : Bool) (o : Order) (found : Option Order) → G o → IfSome found G → IfSome (cond b (Some o) found) G
  found_if true o found h i = h
  found_if false o found h i = i

  found : (p : Order → Bool) (os : List Order) → All G os → IfSome (find p os) G
  found p [] h = tt
  found p (o ∷ os) h = found_if (p o) o (find p os) (All-head G o os h) (found p os (All-tail G o os h))

  rested : (b : Bool) (o : Order) (rest : ℕ) → G o → G (if b then record o { rest = rest } else o)
  rested true o rest h = a.rests o rest h
  rested false o rest h = h

  reduced-has : (s : State) (quantity : ℕ) (o : Order) → Has s → Has (reduced s quantity o)
  reduced-has s quantity o k =
      record {
        same = k.same;
        orders = All-map G (λ (x : Order). if is_named o.member o.reference x then record x { rest = quantity } else x) s.orders
            (λ i d l. (let x = get_or s.orders i d in rested (is_named o.member o.reference x) x quantity (k.orders i d l)));
        stops = k.stops;
        trades = k.trades;
      }

  changed-has : (s : State) (quantity : ℕ) (limit : Option ℕ) (found : Option Order) → ((o : Order) → G o → G (changed_order quantity limit o)) → IfSome found G → Has s
      → Has (changed s quantity limit found)
  changed-has s quantity limit None again own k = k
  changed-has s quantity limit (Some o) again own k =
      either (keeps_priority quantity limit o) (reduced s quantity o) (replaced s o (changed_order quantity limit o)) (reduced-has s quantity o k)
      (come-has (cancelled s o.member o.reference) (changed_order quantity limit o) (again o own) (cancelled-has s o.member o.reference k))

  turned-has : (s : State) (phase : Phase) → Has s → Has (record s { phase = phase })
  turned-has s phase k = record { same = k.same; orders = k.orders; stops = k.stops; trades = k.trades }

  determined-has : (s : State) (auction : Auction) (stage : CallStage) (priced : ℕ × ℕ) (next : Option CallStage)
      → auction_price (Call auction stage) s.orders (ref1 s) ≡ Some priced → Has s → Has (determined s (call_of s auction stage priced) next)
  determined-has s auction stage priced None e k =
      let u = call_of s auction stage priced in
      record {
        same = k.same;
        orders = left (allotted u) s.orders k.orders;
        stops = k.stops;
        trades = All-append T s.trades (auction_trades (s.sweeps + 1) u) k.trades (a.calls s auction stage priced (s.sweeps + 1) k e);
      }
  determined-has s auction stage priced (Some later) e k = turned-has s _ k

  ended-has : (s : State) (auction : Auction) (stage : CallStage) (priced : Option (ℕ × ℕ)) → auction_price (Call auction stage) s.orders (ref1 s) ≡ priced → Has s
      → Has (uncrossed_at s auction stage priced)
  ended-has s auction stage None e k = turned-has s _ k
  ended-has s auction stage (Some priced) e k = determined-has s auction stage priced (stage_after (ranges s) stage priced.0) e k

  uncrossed-has : (s : State) (phase : Phase) → Has s → Has (uncrossed s phase)
  uncrossed-has s (Call auction stage) k = ended-has s auction stage (auction_price (Call auction stage) s.orders (ref1 s)) refl k
  uncrossed-has s _ k = k

  act-has : (s : State) (c : Command) → refusal_of s c ≡ None → Has s → Has (act s c)
  act-has s (Enter member reference side kind quantity validity restriction condition) h k =
      entered-has s condition (trigger_of kind) (entered_order member reference side kind quantity validity restriction)
      (a.enters s member reference side kind quantity validity restriction condition k.same h) k
  act-has s (Change member reference quantity limit) h k =
      changed-has s quantity limit (find (is_named member reference) s.orders) (λ o own. a.changes s member reference quantity limit o h own)
      (found (is_named member reference) s.orders k.orders) k
  act-has s (Cancel member reference) h k = cancelled-has s member reference k
  act-has s (CancelAll member) h k =
      record {
        same = k.same;
        orders = All-filter (λ (o : Order). not (o.member == member)) G s.orders k.orders;
        stops = All-filter (λ (stop : Stop). not (stop.member == member)) S s.stops k.stops;
        trades = k.trades;
      }
  act-has s StartOpening h k = turned-has s _ k
  act-has s StartIntraday h k = turned-has s _ k
  act-has s StartClosing h k = turned-has s _ k
  act-has s Uncross h k = uncrossed-has s s.phase k
  act-has s EndDay h k =
      record {
        same = k.same;
        orders = All-filter (λ (o : Order). outlasts s.settings.today o.validity) G s.orders k.orders;
        stops = All-filter (λ (stop : Stop). outlasts s.settings.today stop.validity) S s.stops k.stops;
        trades = k.trades;
      }

  step-has : (s : State) (c : Command) → refusal_of s c ≡ None → Has s → Has (step s c)
  unfolding step
  step-has s c h k =
      let after = settled-has (act s c) (act-has s c h k) in
      record { same = after.same; orders = after.orders; stops = after.stops; trades = after.trades }

  opening-holds : are_carriable settings ≡ true → Has (opening settings)
  opening-holds h =
      let own = a.begins h in
      opening-has Has settled-has settings (record {
        same = refl;
        orders = All-filter (λ (o : Order). is_still_valid settings.today o.validity) G settings.carried.orders own.0;
        stops = All-filter (λ (stop : Stop). is_still_valid settings.today stop.validity) S settings.carried.stops own.1;
        trades = All-nil T;
      })

  -- every lawful journal of these settings has it
  pub lawful-holds : (j : Journal) → j.settings ≡ settings → is_lawful j ≡ true → Has (replay j)
  lawful-holds j same h =
      lawful-has Has step-has j h
      (λ carriable. subst (λ (d : DeskSettings). Has (opening d)) (sym same) (opening-holds (ap are_carriable (sym same) ∙ carriable)))
