-- How the held stops stand in their queues.
use Rattle.std.specs.Prelude.{◌≡◌, ◌<◌, ◌≤◌, ℕ, Bool, true, ◌&&◌, List, [], length, filter, Contains, Option, None, Some}
use Rattle.std.specs.List.{All}
use Rattle.xm_queues.specs.Keys.{AreDistinct}
use Rattle.xm_queues.specs.Queue.{IsQueue, key_limit}
use Rattle.xm_queues.specs.declared.links.Link.{Link}
use Rattle.xm_queues.specs.declared.queues.Ends.{Ends}
use Rattle.xm_rules.specs.Settling.{is_reached}
use Rattle.xm_rules.specs.Sides.{same_side}
use Rattle.xm_rules.specs.declared.orders.Side.{Side}
use Rattle.xm_rules.specs.declared.orders.Stop.{Stop}
use Rattle.xm_slots.specs.Listing.{LiesAt, keys_in, rises}
use Rattle.xm_slots.specs.Slots.{SlotsView, used}
use Rattle.xm_stops.specs.Triggers.{HasQueueRoom, HasTrigger, is_same_place, queue_of}
use Rattle.xm_slots.specs.declared.listing.Listed.{Listed}
use Rattle.xm_stops.specs.declared.trigger_queues.TriggerQueues.{TriggerQueues}
use Rattle.xm_ticks.specs.declared.numbers.TheConstants.{MAX_PRICE}

-- what a caller sees of the queues
pub record QueuedStops : Type 0 where
  -- the stops in order of entry
  pub stops : List (Listed Stop)
  -- the stop for which there is room
  pub ready : Option Stop
  -- how many stops have joined so far
  pub adds : ℕ

abbrev pub is_of_trigger : Side → ℕ → Listed Stop → Bool
is_of_trigger s p x = is_same_place s p x.item.side x.item.trigger

-- the stops of one side and trigger, in order of entry
abbrev pub stops_of_trigger : Side → ℕ → List (Listed Stop) → List (Listed Stop)
stops_of_trigger s p xs = filter (is_of_trigger s p) xs

-- the queue has exactly these stops, of which there is one at least
pub record IsQueueOf (links : List Link) (ends : Ends) (xs : List (Listed Stop)) : Type 0 where
  pub queue : IsQueue links ends (keys_in xs)
  pub some : 0 < length xs

-- there is no queue and no stop, or the queue has exactly these
abbrev pub HoldsQueue : List Link → Option Ends → List (Listed Stop) → Type 0
HoldsQueue links None xs = xs ≡ []
HoldsQueue links (Some ends) xs = IsQueueOf links ends xs

-- a stop's trigger is a price, and has room in the table of its side
pub record HasItsTrigger {A : Type 0} (triggers : TriggerQueues A) (stop : Stop) : Type 0 where
  pub in_range : stop.trigger ≤ MAX_PRICE
  pub room : HasTrigger triggers stop.side stop.trigger

pub record AreStopsQueued {A : Type 0} (xs : List (Listed Stop)) (entries : SlotsView Stop) (links : List Link) (triggers : TriggerQueues A) : Type 0 where
  pub lie : All (LiesAt entries) xs
  pub distinct : AreDistinct (keys_in xs)
  pub count : used entries ≡ length xs
  pub placed : All (λ (x : Listed Stop). HasItsTrigger triggers x.item) xs
  pub queues : (s : Side) (p : ℕ) → HoldsQueue links (queue_of triggers s p) (stops_of_trigger s p xs)
  pub fits : entries.capacity ≤ key_limit links

-- there is room for the stop in all parts, and a number for its entry
pub record HasRoomFor {A : Type 0} (stop : Stop) (adds : ℕ) (entries : SlotsView Stop) (triggers : TriggerQueues A) : Type 0 where
  pub entry : used entries < entries.capacity
  pub trigger : HasItsTrigger triggers stop
  pub queue : HasQueueRoom triggers stop.side
  pub number : adds < 18446744073709551615

abbrev pub IsStopReady : {A : Type 0} → Option Stop → ℕ → SlotsView Stop → TriggerQueues A → Type 0
IsStopReady None adds entries triggers = Unit {0}
IsStopReady (Some stop) adds entries triggers = HasRoomFor stop adds entries triggers

pub record AreStopsKept {A : Type 0} (xs : List (Listed Stop)) (ready : Option Stop) (adds : ℕ) (entries : SlotsView Stop) (links : List Link) (triggers : TriggerQueues A) : Type 0 where
  pub queued : AreStopsQueued xs entries links triggers
  pub room : IsStopReady ready adds entries triggers
  pub rise : rises 0 xs adds ≡ true

-- the last price has reached the stop
abbrev pub has_reached : ℕ → Listed Stop → Bool
has_reached last x = is_reached last x.item

-- and the stop is one of this side
abbrev pub has_reached_on : Side → ℕ → Listed Stop → Bool
has_reached_on side last x = same_side side x.item.side && is_reached last x.item

-- a stop with this key passes a test
pub record IsPassedAt (test : Listed Stop → Bool) (xs : List (Listed Stop)) (key : ℕ) : Type 0 where
  pub listed : Listed Stop
  pub contains : Contains xs listed
  pub key_is : listed.key ≡ key
  pub passes : test listed ≡ true

abbrev pub IsReachedAt : ℕ → List (Listed Stop) → ℕ → Type 0
IsReachedAt last xs key = IsPassedAt (has_reached last) xs key

abbrev pub IsReachedOn : Side → ℕ → List (Listed Stop) → ℕ → Type 0
IsReachedOn side last xs key = IsPassedAt (has_reached_on side last) xs key
