use Rattle.std.proofs.Common.{arith}
use Rattle.xm_price_maps.proofs.Summing.{has_room, room_there}
use Rattle.xm_price_maps.proofs.sums.PriceSums.has_room.Goals as goal

pub returns-clause-some : goal.returns-clause-some
returns-clause-some g c = λ h.
    rw (← c.self.view_is) (has_room c.self.inside.pages.items c.args.place (rw c.deref.ensures.value at (c.is_made.ensures.made h)))

pub returns-clause-none : goal.returns-clause-none
returns-clause-none g c = λ h had.
    let absent = rw c.deref.ensures.value at (c.is_made.ensures.absent h) in
    let there = room_there c.self.inside.pages.items c.args.place (rw (← c.self.view_is) at had) in
    omega arith
