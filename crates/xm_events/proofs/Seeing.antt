-- What is seen of events, one after another.
use Rattle.std.proofs.Common.{◌≡◌, ℕ, zero, suc, ◌+◌, List, [], ◌∷◌, ◌++◌, filter, map, not, append_assoc, append-nil, Bool, true, false, find, is_some, option_map, refl, sym, ap, ◌∙◌, Option, Some, None}
use Rattle.std.specs.List.{list_any}
use Rattle.xm_events.specs.Seen.{Seen, last_seen, latest, nothing_seen, seen_after, seen_of, seen_of_last}
use Rattle.xm_events.specs.Story.{act_events, come_under_events, determined_events, end_events, fills, interrupted_events, interruption, killed_events, leave_events, left_by_sweep, rest_in, settle_events, story, sweep_events}
use Rattle.xm_events.specs.declared.events.Deletion.TheVariants.{EndOfDay}
use Rattle.xm_events.specs.declared.events.Entry.{Entry}
use Rattle.xm_events.specs.declared.events.Entry.TheVariants as entry
use Rattle.xm_events.specs.declared.events.Event.{Event}
use Rattle.xm_events.specs.declared.events.Event.TheVariants.{Accepted, Changed, Filled, Triggered, Cancelled, Deleted, Interrupted, Began}
use Rattle.xm_rules.specs.Commands.{outlasts}
use Rattle.xm_rules.specs.Settling.{sweep_of}
use Rattle.xm_rules.specs.State.{Ranges, State, ranges}
use Rattle.xm_rules.specs.Opening.{opening}
use Rattle.xm_rules.specs.Step.{Journal, act, next_phase, replay, replay_from, step}
use Rattle.xm_rules.specs.declared.commands.Command.{Command}
use Rattle.xm_rules.specs.declared.commands.Condition.TheVariants.{Ioc}
use Rattle.xm_rules.specs.Allotment.{Uncrossing, auction_trades, orders_after_call}
use Rattle.xm_rules.specs.Sweep.{Sweep, rest_after, interrupts_at, is_interrupted, meet_price, queue, sweep_trades}
use Rattle.xm_rules.specs.declared.orders.Order.{Order}
use Rattle.xm_rules.specs.declared.orders.Stop.{Stop}
use Rattle.xm_rules.specs.declared.orders.Trade.{Trade}
use Rattle.xm_rules.specs.declared.phases.Phase.TheVariants.{Ended}

pub seen-append : (seen : Seen) (events more : List Event) → seen_after seen (events ++ more) ≡ seen_after (seen_after seen events) more
seen-append seen [] more = refl
seen-append seen (Accepted entry ∷ events) more = seen-append seen events more
seen-append seen (Changed order ∷ events) more = seen-append seen events more
seen-append seen (Filled side_fill ∷ events) more = seen-append seen events more
seen-append seen (Triggered stop ∷ events) more = seen-append (record seen { triggered = seen.triggered ++ stop ∷ [] }) events more
seen-append seen (Cancelled entry ∷ events) more = seen-append seen events more
seen-append seen (Deleted entry reason ∷ events) more = seen-append seen events more
seen-append seen (Interrupted price range ∷ events) more = seen-append (record seen { interruption = Some price }) events more
seen-append seen (Began phase ∷ events) more = seen-append seen events more

-- fills tell nothing that trades don't
pub fills-unseen : (seen : Seen) (left : ℕ → ℕ → ℕ) (trades : List Trade) (more : List Event) → seen_after seen (fills left trades ++ more) ≡ seen_after seen more
fills-unseen seen left [] more = refl
fills-unseen seen left (t ∷ trades) more = fills-unseen seen left trades more

-- the command behind others is the last one
pub seen-push : (s : State) (commands : List Command) (c : Command) → seen_of_last s (commands ++ c ∷ []) ≡ seen_of (replay_from s commands) c
seen-push s [] c = refl
seen-push s (b ∷ []) c = refl
seen-push s (b ∷ d ∷ commands) c = seen-push (step s b) (d ∷ commands) c

module _ (gone : Entry → Event) (unseen : (seen : Seen) (entry : Entry) (more : List Event) → seen_after seen (gone entry ∷ more) ≡ seen_after seen more) where
  stops-unseen : (seen : Seen) (stops : List Stop) (more : List Event) → seen_after seen (map (λ stop. gone (entry.Stop stop)) stops ++ more) ≡ seen_after seen more
  stops-unseen seen [] more = refl
  stops-unseen seen (stop ∷ stops) more = unseen seen (entry.Stop stop) (map (λ stop. gone (entry.Stop stop)) stops ++ more) ∙ stops-unseen seen stops more

  orders-unseen : (seen : Seen) (orders : List Order) (more : List Event) → seen_after seen (map (λ o. gone (entry.Order o)) orders ++ more) ≡ seen_after seen more
  orders-unseen seen [] more = refl
  orders-unseen seen (o ∷ orders) more = unseen seen (entry.Order o) (map (λ o. gone (entry.Order o)) orders ++ more) ∙ orders-unseen seen orders more

  -- orders and stops that leave tell nothing that the book doesn't
  pub leaving-unseen : (seen : Seen) (orders : List Order) (stops : List Stop) (more : List Event) → seen_after seen (leave_events gone orders stops ++ more) ≡ seen_after seen more
  leaving-unseen seen orders stops more =
      ap (seen_after seen) (append_assoc (map (λ o. gone (entry.Order o)) orders) (map (λ stop. gone (entry.Stop stop)) stops) more)
      ∙ orders-unseen seen orders (map (λ stop. gone (entry.Stop stop)) stops ++ more)
      ∙ stops-unseen seen stops more

pub cancelled-unseen : (seen : Seen) (orders : List Order) (stops : List Stop) → seen_after seen (leave_events Cancelled orders stops) ≡ seen
cancelled-unseen seen orders stops = ap (seen_after seen) (sym (append-nil (leave_events Cancelled orders stops))) ∙ leaving-unseen Cancelled (λ seen entry more. refl) seen orders stops []

pub ending-unseen : (seen : Seen) (s : State) → seen_after seen (end_events s) ≡ seen
ending-unseen seen s = leaving-unseen (λ gone. Deleted gone EndOfDay) (λ seen entry more. refl) seen (filter (λ (o : Order). not (outlasts s.settings.today o.validity)) s.orders) (filter (λ (stop : Stop). not (outlasts s.settings.today stop.validity)) s.stops) (Began Ended ∷ [])

-- what is left of an immediate order is deleted, which tells nothing either
pub killed-unseen : (seen : Seen) (rest : ℕ) (o : Order) → seen_after seen (killed_events rest o) ≡ seen
killed-unseen seen zero o = refl
killed-unseen seen (suc rest) o = refl

-- a sweep is seen by the price that interrupts it
abbrev pub seen_price : Seen → Option ℕ → Seen
seen_price seen price = record seen { interruption = latest seen.interruption price }

interrupted-seen : (seen : Seen) (r : Ranges) (price : Option ℕ) → seen_after seen (interrupted_events r price) ≡ seen_price seen price
interrupted-seen seen r None = refl
interrupted-seen seen r (Some price) = refl

pub sweep-seen : (seen : Seen) (s : State) (o : Order) → seen_after seen (sweep_events s o) ≡ seen_price seen (interruption (sweep_of s o))
sweep-seen seen s o =
    let w = sweep_of s o in
    fills-unseen seen (left_by_sweep w) (sweep_trades (s.sweeps + 1) w) (interrupted_events (ranges s) (interruption w)) ∙ interrupted-seen seen (ranges s) (interruption w)

found_if : {X : Type 0} (p : X → Bool) (x : X) (xs : List X) (b : Bool) → p x ≡ b → list_any p xs ≡ is_some (find p xs) → list_any p (x ∷ xs) ≡ is_some (find p (x ∷ xs))
found_if p x xs true e same = rw e refl
found_if p x xs false e same = rw e same

found : {X : Type 0} (p : X → Bool) (xs : List X) → list_any p xs ≡ is_some (find p xs)
found p [] = refl
found p (x ∷ xs) = found_if p x xs (p x) refl (found p xs)

mapped : {X Y : Type 0} (f : X → Y) (o : Option X) → is_some o ≡ is_some (option_map f o)
mapped f None = refl
mapped f (Some x) = refl

-- a sweep is interrupted where a price interrupts it
pub interrupted-by : (w : Sweep) → is_interrupted w ≡ is_some (interruption w)
interrupted-by w = found (interrupts_at w) (queue w) ∙ mapped (meet_price w) (find (interrupts_at w) (queue w))

-- what is seen of a command is seen of what it does, and then of what settles
pub story-seen : (seen : Seen) (s : State) (c : Command) → seen_after seen (story s c) ≡ seen_after (seen_after seen (act_events s c)) (settle_events (act s c) [])
unfolding story
story-seen seen s c = seen-append seen (act_events s c) (settle_events (act s c) [])

pub last-seen-push : (j : Journal) (c : Command) → last_seen (record j { commands = j.commands ++ c ∷ [] }) ≡ seen_of (replay j) c
unfolding replay
last-seen-push j c = seen-push (opening j.settings) j.commands c

pub immediate-seen : (seen : Seen) (s : State) (o : Order) → seen_after seen (come_under_events Ioc s o) ≡ seen_after seen (sweep_events s o)
immediate-seen seen s o =
    seen-append seen (sweep_events s o) (killed_events (rest_after (sweep_of s o)) o) ∙ killed-unseen (seen_after seen (sweep_events s o)) (rest_after (sweep_of s o)) o

-- a call that trades tells nothing that its trades and its phase don't
pub traded-seen : (seen : Seen) (s : State) (u : Uncrossing) → seen_after seen (determined_events s u None) ≡ seen
traded-seen seen s u = fills-unseen seen (rest_in (orders_after_call u)) (auction_trades (s.sweeps + 1) u) (Began (next_phase u.auction) ∷ [])

pub seen-of : (s : State) (c : Command) → seen_after nothing_seen (story s c) ≡ seen_of s c
unfolding seen_of
seen-of s c = refl
