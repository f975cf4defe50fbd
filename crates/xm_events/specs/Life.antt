-- The life of an order: what it is given, what the events take of it, and what is left.
use Rattle.std.specs.Prelude.{ℕ, ◌+◌, ◌&&◌, ◌==◌, if◌then◌else◌, List, [], ◌∷◌, ◌++◌, sum_by, Option, Some, None, option_map, unwrap_or, Bool, false}
use Rattle.xm_events.specs.Story.{party, story}
use Rattle.xm_events.specs.declared.events.Entry.{Entry}
use Rattle.xm_events.specs.declared.events.Entry.TheVariants as entry
use Rattle.xm_events.specs.declared.events.Event.{Event}
use Rattle.xm_events.specs.declared.events.Event.TheVariants.{Filled, Cancelled, Deleted}
use Rattle.xm_events.specs.declared.events.Fill.{Fill}
use Rattle.xm_rules.specs.State.{State}
use Rattle.xm_rules.specs.Step.{step}
use Rattle.xm_rules.specs.declared.commands.Command.{Command}
use Rattle.xm_rules.specs.declared.commands.Command.TheVariants.{Enter, Change}
use Rattle.xm_rules.specs.declared.orders.Order.{Order}
use Rattle.xm_rules.specs.declared.orders.Side.{Side}
use Rattle.xm_rules.specs.declared.orders.Side.TheVariants.{Buy, Sell}
use Rattle.xm_rules.specs.declared.orders.Stop.{Stop}
use Rattle.xm_rules.specs.declared.orders.Trade.{Trade}

abbrev pub units_if : ℕ → ℕ → ℕ → ℕ → ℕ → ℕ
units_if member reference of_member of_reference units = if (of_member == member) && (of_reference == reference) then units else 0

-- the units of an entry, if it has this name
abbrev pub entry_units : ℕ → ℕ → Entry → ℕ
entry_units member reference (entry.Order o) = units_if member reference o.member o.reference o.rest
entry_units member reference (entry.Stop stop) = units_if member reference stop.member stop.reference stop.quantity

-- what an event takes of the order, or the stop, of this name
abbrev pub taken : ℕ → ℕ → Event → ℕ
taken member reference (Filled f) = units_if member reference f.member f.reference f.quantity
taken member reference (Cancelled gone) = entry_units member reference gone
taken member reference (Deleted gone reason) = entry_units member reference gone
taken member reference _ = 0

-- the units of the orders and the stops of this name; no lawful journal has two of them
abbrev pub units_named : State → ℕ → ℕ → ℕ
units_named s member reference =
    sum_by (λ (o : Order). entry_units member reference (entry.Order o)) s.orders + sum_by (λ (stop : Stop). entry_units member reference (entry.Stop stop)) s.stops

-- the units that the order, or the stop, of this name has to begin with: those that a command enters, those to which it changes an
-- order, or else those that are there
abbrev pub given : State → Command → ℕ → ℕ → ℕ
given s (Enter m r side kind quantity validity restriction condition) member reference = units_if member reference m r quantity + units_named s member reference
given s (Change m r quantity limit) member reference = if (m == member) && (r == reference) then quantity else units_named s member reference
given s _ member reference = units_named s member reference

-- what happens by the commands of a journal, one after the other
abbrev pub stories : State → List Command → List Event
stories s [] = []
stories s (c ∷ cs) = story s c ++ stories (step s c) cs

-- the units that a command enters under this name
abbrev pub entered_units : ℕ → ℕ → Command → ℕ
entered_units member reference (Enter m r side kind quantity validity restriction condition) = units_if member reference m r quantity
entered_units member reference _ = 0

-- a command changes the order of this name
abbrev pub is_change_of : ℕ → ℕ → Command → Bool
is_change_of member reference (Change m r quantity limit) = (m == member) && (r == reference)
is_change_of member reference _ = false

-- one side of a trade, whatever is left of its order
abbrev pub bare_fill : Side → Trade → Fill
bare_fill side t = let p = party side t in record { member = p.0; reference = p.1; side = side; kind = t.kind; price = t.price; quantity = t.quantity; rest = 0 }

abbrev pub both_sides : Trade → List Fill
both_sides t = bare_fill Buy t ∷ bare_fill Sell t ∷ []

-- the fill that an event is, whatever is left of its order
abbrev pub bare_in : Event → Option Fill
bare_in (Filled f) = Some (record f { rest = 0 })
bare_in _ = None

-- an event, where a fill doesn't tell what is left of its order
abbrev pub bare : Event → Event
bare event = unwrap_or (option_map (λ (f : Fill). Filled f) (bare_in event)) event

-- an event with others behind it, where so much is left in the end of the order of a name: a fill tells what those take of its order,
-- and what is left of it
abbrev pub with_rest_before : (ℕ → ℕ → ℕ) → Event → List Event → Event
with_rest_before left (Filled f) behind = Filled (record f { rest = sum_by (taken f.member f.reference) behind + left f.member f.reference })
with_rest_before left event behind = event

-- each of these events, with what is left of its order
abbrev pub with_rests : (ℕ → ℕ → ℕ) → List Event → List Event
with_rests left [] = []
with_rests left (event ∷ behind) = with_rest_before left event behind ∷ with_rests left behind
