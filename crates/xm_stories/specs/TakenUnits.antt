-- The units that events take of orders and stops, summed by their names.
use Rattle.std.specs.Prelude.{ℕ, ◌+◌, ◌<◌, ◌^◌, ◌==◌, ◌&&◌, Bool, List, sum_by, unwrap_or}
use Rattle.std.specs.Map.{lookup}
use Rattle.xm_events.specs.Life.{taken}
use Rattle.xm_events.specs.declared.events.Event.{Event}

-- two names are one: the members are the same, and the references
abbrev pub same_name : ℕ × ℕ → ℕ × ℕ → Bool
same_name a b = (a.0 == b.0) && (a.1 == b.1)

-- the units of a name, of which there are none where it has no entry
abbrev pub units_under : List ((ℕ × ℕ) × ℕ) → ℕ → ℕ → ℕ
units_under units member reference = unwrap_or (lookup (same_name (member, reference)) units) 0

-- what the events take of an order and what is left of it fits 32 bits, for each name
abbrev pub UnitsFit : (ℕ → ℕ → ℕ) → List Event → Type 0
UnitsFit left events = (member reference : ℕ) → sum_by (taken member reference) events + left member reference < 2 ^ 32
