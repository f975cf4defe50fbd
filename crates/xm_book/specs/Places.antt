-- Places that are reserved in a book, and lists of them in which the order doesn't count.
use Rattle.std.specs.Prelude.{◌≡◌, Bool, ◌&&◌, ◌==◌, List, length, count_by}
use Rattle.xm_book.specs.declared.places.Place.{Place}
use Rattle.xm_rules.specs.Orders.{same_kind, same_restriction}
use Rattle.xm_rules.specs.Sides.{same_side}
use Rattle.xm_rules.specs.declared.orders.Order.{Order}

-- the place that an order takes
abbrev pub place_of : Order → Place
place_of o = record { side = o.side; kind = o.kind; restriction = o.restriction; member = o.member; reference = o.reference }

abbrev pub same_place : Place → Place → Bool
same_place p q = same_side p.side q.side && same_kind p.kind q.kind && same_restriction p.restriction q.restriction && p.member == q.member && p.reference == q.reference

-- two lists hold each place as often
pub record SamePlaces (ps qs : List Place) : Type 0 where
  pub length : length ps ≡ length qs
  pub counts : (p : Place) → count_by (same_place p) ps ≡ count_by (same_place p) qs
