-- Queues without an order.
use Rattle.std.proofs.Common.{◌≤◌, List, [], Option, None, Some, refl, arith}
use Rattle.std.proofs.lemmas.List.Elements.{All-nil}
use Rattle.xm_slots.specs.Listing.{LiesAt}
use Rattle.xm_book.specs.Queued.{HasItsKind, HoldsLevel, AreOrdersKept}
use Rattle.xm_slots.specs.declared.listing.Listed.{Listed}
use Rattle.xm_ladders.specs.Ladder.{IsCleared}
use Rattle.xm_ladders.specs.Ladders.{level_on, side_of}
use Rattle.xm_ladders.specs.declared.ladders.Ladders.{Ladders}
use Rattle.xm_ladders.specs.declared.level.Level.{Level}
use Rattle.xm_queues.specs.declared.links.Link.{Link}
use Rattle.xm_rules.specs.declared.orders.OrderKind.{OrderKind}
use Rattle.xm_rules.specs.declared.orders.Restriction.{Restriction}
use Rattle.xm_rules.specs.declared.orders.Side.{Side}
use Rattle.xm_rules.specs.declared.orders.Order.{Order}
use Rattle.xm_ticks.specs.declared.numbers.TheConstants.{MAX_QUANTITY}

cleared : (links : List Link) (l : Option Level) → IsCleared l → HoldsLevel links l []
cleared links None c = refl
cleared links (Some l) c = record { queue = c.0 links; orders = c.1.0; units = c.1.1 }

pub opened : {A : Type 0} (links : List Link) (ladders : Ladders A) → ((s : Side) (r : Restriction) (k : OrderKind) → IsCleared (level_on (side_of s ladders) r k))
    → AreOrdersKept [] [] 0 (record { slots = []; capacity = 0 }) links ladders
opened links ladders none = record {
  queued = record {
    lie = All-nil (LiesAt (record { slots = []; capacity = 0 }));
    distinct = tt;
    count = refl;
    few = omega arith;
    small = All-nil (λ (x : Listed Order). x.item.rest ≤ MAX_QUANTITY);
    kinds = All-nil (HasItsKind ladders);
    levels = λ s r k. cleared links (level_on (side_of s ladders) r k) (none s r k);
    fits = omega arith;
  };
  places = record {
    within = omega arith;
    entries_room = omega arith;
    kinds_room = λ p c. absurd (omega (arith, c));
    levels_room = λ s r k n lt. absurd (omega (arith, lt));
  };
  rise = refl;
}
