-- The fields of an entry.
use Rattle.std.specs.Prelude.{ℕ, Option}
use Rattle.std.specs.Option.{option_map}
use Rattle.xm_desk.specs.declared.entries.EntryFields.{EntryFields}
use Rattle.xm_rules.specs.Commands.{trigger_of}
use Rattle.xm_rules.specs.Step.{entered_order, stop_of}
use Rattle.xm_rules.specs.declared.commands.Command.{Command}
use Rattle.xm_rules.specs.declared.commands.Command.TheVariants.{Enter}
use Rattle.xm_rules.specs.declared.orders.Order.{Order}
use Rattle.xm_rules.specs.declared.orders.Stop.{Stop}

abbrev pub command_of : EntryFields → Command
command_of e = Enter e.member e.reference e.side e.kind e.quantity e.validity e.restriction e.condition

-- the order of an entry, or the one that its stop becomes
abbrev pub order_in : EntryFields → Order
order_in e = entered_order e.member e.reference e.side e.kind e.quantity e.validity e.restriction

-- the stop of an entry, where it is one
abbrev pub stop_in : EntryFields → Option Stop
stop_in e = option_map (λ (trigger : ℕ). stop_of trigger (order_in e)) (trigger_of e.kind)
