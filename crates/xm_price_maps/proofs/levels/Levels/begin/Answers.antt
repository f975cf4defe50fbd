use Rattle.std.proofs.Common.{◌+◌, arith}
use Rattle.xm_price_maps.proofs.Leveled.{begun-level, begun-lies, price-kept, price-parts, room-from, room-is}
use Rattle.xm_price_maps.proofs.levels.Levels.begin.Goals as goal

pub insert_reserved-key-requires : goal.insert_reserved-key-requires
insert_reserved-key-requires g c = room-is c.self.inside.prices c.self.inside.keys c.self.inside.levels 1 (rw c.self.view_is c.requires.room)

pub insert-requires-clause-room : goal.insert-requires-clause-room
insert-requires-clause-room g c = (price-parts c.self.inside.prices c.self.inside.keys c.self.inside.levels c.args.price (rw c.self.view_is c.requires.price)).1

pub insert-requires-2-clause-room : goal.insert-requires-2-clause-room
insert-requires-2-clause-room g c = (price-parts c.self.inside.prices c.self.inside.keys c.self.inside.levels c.args.price (rw c.self.view_is c.requires.price)).0

pub invariant_of-self : goal.invariant_of-self
invariant_of-self g c =
    begun-lies c.self.inside.prices c.self.inside.keys c.self.inside.levels c.self.invariant c.args.price c.insert_reserved-key.result c.requires.in_range c.args.level
    c.insert_reserved-key.new.self c.insert_reserved-key.ensures.was_vacant c.insert_reserved-key.ensures.updates c.insert.new.self c.insert.ensures.values c.insert-2.new.self c.insert-2.ensures.members

pub returns-clause-levels : goal.returns-clause-levels
returns-clause-levels g c =
    rw (← c.self.view_is) (begun-level c.self.inside.prices c.self.inside.keys c.self.inside.levels c.self.invariant c.args.price c.insert_reserved-key.result c.requires.in_range c.args.level
    c.insert_reserved-key.new.self c.insert_reserved-key.ensures.was_vacant c.insert_reserved-key.ensures.updates c.insert.new.self c.insert.ensures.values c.insert-2.new.self c.insert-2.ensures.members)

pub returns-clause-prices_kept : goal.returns-clause-prices_kept
returns-clause-prices_kept g c =
    rw (← c.self.view_is) (price-kept c.self.inside.prices c.insert-2.new.self c.self.inside.keys c.insert.new.self c.self.inside.levels c.insert_reserved-key.new.self c.insert-2.ensures.kept c.insert.ensures.kept)

pub returns-clause-room_used : goal.returns-clause-room_used
returns-clause-room_used g c =
    rw (← c.self.view_is) (λ n r. room-from c.insert-2.new.self c.insert.new.self c.insert_reserved-key.new.self n (omega (arith, room-is c.self.inside.prices c.self.inside.keys c.self.inside.levels (n + 1) r, c.insert_reserved-key.ensures.len, c.insert_reserved-key.ensures.capacity)))
