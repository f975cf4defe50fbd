-- Queues without a stop, and queues that have more room.
use Rattle.std.proofs.Common.{◌≡◌, ℕ, ◌≤◌, List, [], get_or, Option, None, Some, refl, sym, subst, arith}
use Rattle.std.proofs.lemmas.List.Elements.{All-nil}
use Rattle.xm_queues.specs.Queue.{IsQueue, key_limit}
use Rattle.xm_queues.specs.declared.links.Link.{Link}
use Rattle.xm_queues.specs.declared.queues.Ends.{Ends}
use Rattle.xm_rules.specs.declared.orders.Side.{Side}
use Rattle.xm_rules.specs.declared.orders.Stop.{Stop}
use Rattle.xm_slots.specs.Listing.{keys_in, LiesAt}
use Rattle.xm_stops.specs.Queued.{HasItsTrigger, HasRoomFor, HoldsQueue, AreStopsKept, AreStopsQueued, IsStopReady, stops_of_trigger}
use Rattle.xm_slots.specs.Slots.{SlotsView, used}
use Rattle.xm_stops.specs.Triggers.{HasQueueRoom, HasTrigger, queue_of}
use Rattle.xm_slots.specs.declared.listing.Listed.{Listed}
use Rattle.xm_stops.specs.declared.trigger_queues.TriggerQueues.{TriggerQueues}
use Rattle.xm_stops.proofs.Joining.{placed-kept}

pub opened : {A : Type 0} (links : List Link) (triggers : TriggerQueues A) → ((s : Side) (p : ℕ) → queue_of triggers s p ≡ None)
    → AreStopsKept [] None 0 (record { slots = []; capacity = 0 }) links triggers
opened links triggers none = record {
  queued = record {
    lie = All-nil (LiesAt (record { slots = []; capacity = 0 }));
    distinct = tt;
    count = refl;
    placed = All-nil (λ (x : Listed Stop). HasItsTrigger triggers x.item);
    queues = λ s p. subst (λ (l : Option Ends). HoldsQueue links l []) (sym (none s p)) refl;
    fits = omega arith;
  };
  room = tt;
  rise = refl;
}

-- the room for a stop stays where no room was used
pub ready-kept : {A : Type 0} (ready : Option Stop) (adds : ℕ) (entries entries' : SlotsView Stop) (triggers triggers' : TriggerQueues A) → used entries' ≤ used entries → entries.capacity ≤ entries'.capacity
    → ((s : Side) (p : ℕ) → HasTrigger triggers s p → HasTrigger triggers' s p) → ((s : Side) → HasQueueRoom triggers s → HasQueueRoom triggers' s)
    → IsStopReady ready adds entries triggers → IsStopReady ready adds entries' triggers'
ready-kept None adds entries entries' triggers triggers' less more kept rooms h = tt
ready-kept (Some stop) adds entries entries' triggers triggers' less more kept rooms h = record {
  entry = omega (arith, h.entry, less, more);
  trigger = placed-kept triggers triggers' kept stop h.trigger;
  queue = rooms stop.side h.queue;
  number = h.number;
}

module _ {A : Type 0} (xs : List (Listed Stop)) (entries : SlotsView Stop) (links : List Link) (triggers : TriggerQueues A) (capacity : ℕ) (links' : List Link)
    (same : (ends : Ends) (keys : List ℕ) → IsQueue links ends keys → IsQueue links' ends keys) (fits : capacity ≤ key_limit links') (triggers' : TriggerQueues A)
    (queues : (s : Side) (p : ℕ) → queue_of triggers' s p ≡ queue_of triggers s p) (kept : (s : Side) (p : ℕ) → HasTrigger triggers s p → HasTrigger triggers' s p) where
  abbrev roomier : SlotsView Stop
  roomier = record entries { capacity = capacity }

  holds : (l : Option Ends) (ys : List (Listed Stop)) → HoldsQueue links l ys → HoldsQueue links' l ys
  holds None ys h = h
  holds (Some l) ys h = record { queue = same l (keys_in ys) h.queue; some = h.some }

  pub grown-queued : AreStopsQueued xs entries links triggers → AreStopsQueued xs roomier links' triggers'
  grown-queued h = record {
    lie = h.lie;
    distinct = h.distinct;
    count = h.count;
    placed = λ i d lt. placed-kept triggers triggers' kept (get_or xs i d).item (h.placed i d lt);
    queues = λ s p. subst (λ (l : Option Ends). HoldsQueue links' l (stops_of_trigger s p xs)) (sym (queues s p)) (holds (queue_of triggers s p) (stops_of_trigger s p xs) (h.queues s p));
    fits = fits;
  }

-- what there is for the stop that is ready
pub room-for : {A : Type 0} (ready : Option Stop) (stop : Stop) (adds : ℕ) (entries : SlotsView Stop) (triggers : TriggerQueues A) → ready ≡ Some stop → IsStopReady ready adds entries triggers → HasRoomFor stop adds entries triggers
room-for ready stop adds entries triggers e h = subst (λ (r : Option Stop). IsStopReady r adds entries triggers) e h
