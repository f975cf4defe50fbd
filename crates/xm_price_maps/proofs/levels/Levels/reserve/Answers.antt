use Rattle.std.proofs.Common.{refl, ap, arith}
use Rattle.slab.specs.Slab.{Slab}
use Rattle.xm_price_maps.specs.declared.levels.Priced.{Priced}
use Rattle.xm_price_maps.proofs.Leveled.{grown-level, grown-lies, grown-room, price-from, price-kept, room-from}
use Rattle.xm_price_maps.proofs.levels.Levels.reserve.Goals as goal

pub invariant_of-self-in_err-reserve-2 : goal.invariant_of-self-in_err-reserve-2
invariant_of-self-in_err-reserve-2 g c = grown-lies c.self.inside.prices c.self.inside.keys c.self.inside.levels c.self.invariant c.reserve.new.self c.reserve.ensures.same c.reserve-2.new.self c.reserve-2.ensures.same c.self.inside.levels refl

pub returns-in_err-reserve-2-clause-prices_kept : goal.returns-in_err-reserve-2-clause-prices_kept
returns-in_err-reserve-2-clause-prices_kept g c =
    rw (← c.self.view_is) (price-kept c.self.inside.prices c.reserve.new.self c.self.inside.keys c.reserve-2.new.self c.self.inside.levels c.self.inside.levels c.reserve.ensures.kept c.reserve-2.ensures.kept)

pub returns-in_err-reserve-2-clause-room_kept : goal.returns-in_err-reserve-2-clause-room_kept
returns-in_err-reserve-2-clause-room_kept g c =
    rw (← c.self.view_is) (grown-room c.self.inside.prices c.reserve.new.self c.self.inside.keys c.reserve-2.new.self c.self.inside.levels c.self.inside.levels refl (omega arith))

pub returns-in_err-reserve-2-clause-same : goal.returns-in_err-reserve-2-clause-same
returns-in_err-reserve-2-clause-same g c = rw (← c.self.view_is) (grown-level c.self.inside.prices c.self.inside.keys c.self.inside.levels c.self.invariant c.reserve.new.self c.reserve.ensures.same c.reserve-2.new.self c.reserve-2.ensures.same c.self.inside.levels refl)

pub invariant_of-self-in_err-reserve-3 : goal.invariant_of-self-in_err-reserve-3
invariant_of-self-in_err-reserve-3 g c = grown-lies c.self.inside.prices c.self.inside.keys c.self.inside.levels c.self.invariant c.reserve.new.self c.reserve.ensures.same c.reserve-2.new.self c.reserve-2.ensures.same c.reserve-3.new.self (ap (λ (s : Slab (Priced g.row.L.Denot)). s.slots) c.reserve-3.ensures.rest_kept)

pub returns-in_err-reserve-3-clause-prices_kept : goal.returns-in_err-reserve-3-clause-prices_kept
returns-in_err-reserve-3-clause-prices_kept g c =
    rw (← c.self.view_is) (price-kept c.self.inside.prices c.reserve.new.self c.self.inside.keys c.reserve-2.new.self c.self.inside.levels c.reserve-3.new.self c.reserve.ensures.kept c.reserve-2.ensures.kept)

pub returns-in_err-reserve-3-clause-room_kept : goal.returns-in_err-reserve-3-clause-room_kept
returns-in_err-reserve-3-clause-room_kept g c =
    rw (← c.self.view_is) (grown-room c.self.inside.prices c.reserve.new.self c.self.inside.keys c.reserve-2.new.self c.self.inside.levels c.reserve-3.new.self (ap (λ (s : Slab (Priced g.row.L.Denot)). s.slots) c.reserve-3.ensures.rest_kept) c.reserve-3.ensures.capacity)

pub returns-in_err-reserve-3-clause-same : goal.returns-in_err-reserve-3-clause-same
returns-in_err-reserve-3-clause-same g c = rw (← c.self.view_is) (grown-level c.self.inside.prices c.self.inside.keys c.self.inside.levels c.self.invariant c.reserve.new.self c.reserve.ensures.same c.reserve-2.new.self c.reserve-2.ensures.same c.reserve-3.new.self (ap (λ (s : Slab (Priced g.row.L.Denot)). s.slots) c.reserve-3.ensures.rest_kept))

pub invariant_of-self-2 : goal.invariant_of-self-2
invariant_of-self-2 g c = grown-lies c.self.inside.prices c.self.inside.keys c.self.inside.levels c.self.invariant c.reserve.new.self c.reserve.ensures.same c.reserve-2.new.self c.reserve-2.ensures.same c.reserve-3.new.self (ap (λ (s : Slab (Priced g.row.L.Denot)). s.slots) c.reserve-3.ensures.rest_kept)

pub returns-clause-price : goal.returns-clause-price
returns-clause-price g c = price-from c.reserve.new.self c.reserve-2.new.self c.reserve-3.new.self c.args.price c.in_ok-reserve.ensures.room c.in_ok-reserve-2.ensures.room

pub returns-clause-room : goal.returns-clause-room
returns-clause-room g c = room-from c.reserve.new.self c.reserve-2.new.self c.reserve-3.new.self c.args.levels c.in_ok-reserve-3.ensures.room

pub returns-clause-prices_kept : goal.returns-clause-prices_kept
returns-clause-prices_kept g c =
    rw (← c.self.view_is) (price-kept c.self.inside.prices c.reserve.new.self c.self.inside.keys c.reserve-2.new.self c.self.inside.levels c.reserve-3.new.self c.reserve.ensures.kept c.reserve-2.ensures.kept)

pub returns-clause-room_kept : goal.returns-clause-room_kept
returns-clause-room_kept g c =
    rw (← c.self.view_is) (grown-room c.self.inside.prices c.reserve.new.self c.self.inside.keys c.reserve-2.new.self c.self.inside.levels c.reserve-3.new.self (ap (λ (s : Slab (Priced g.row.L.Denot)). s.slots) c.reserve-3.ensures.rest_kept) c.reserve-3.ensures.capacity)

pub returns-clause-same : goal.returns-clause-same
returns-clause-same g c = rw (← c.self.view_is) (grown-level c.self.inside.prices c.self.inside.keys c.self.inside.levels c.self.invariant c.reserve.new.self c.reserve.ensures.same c.reserve-2.new.self c.reserve-2.ensures.same c.reserve-3.new.self (ap (λ (s : Slab (Priced g.row.L.Denot)). s.slots) c.reserve-3.ensures.rest_kept))
