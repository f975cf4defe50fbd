use Rattle.std.proofs.Common.{ap, ◌∙◌, arith}
use Rattle.xm_price_maps.specs.Levels.{LevelsView}
use Rattle.xm_price_maps.specs.Map.{value_at}
use Rattle.xm_price_maps.proofs.Leveled.{ended-level, ended-lies, price-kept, price-parts, room-from, room-is, there-at}
use Rattle.xm_price_maps.proofs.levels.Levels.end.Goals as goal

pub remove-requires : goal.remove-requires
remove-requires g c =
    let at = ap (λ (l : LevelsView g.row.L.Denot). value_at l.keys c.args.price) c.self.view_is ∙ c.requires.there in
    there-at c.self.inside.prices c.self.inside.keys c.self.inside.levels c.self.invariant c.args.price c.args.key at

pub remove-requires-2-clause-room : goal.remove-requires-2-clause-room
remove-requires-2-clause-room g c = (price-parts c.self.inside.prices c.self.inside.keys c.self.inside.levels c.args.price (rw c.self.view_is c.requires.price)).1

pub remove-requires-3-clause-room : goal.remove-requires-3-clause-room
remove-requires-3-clause-room g c = (price-parts c.self.inside.prices c.self.inside.keys c.self.inside.levels c.args.price (rw c.self.view_is c.requires.price)).0

pub invariant_of-self : goal.invariant_of-self
invariant_of-self g c =
    let at = ap (λ (l : LevelsView g.row.L.Denot). value_at l.keys c.args.price) c.self.view_is ∙ c.requires.there in
    ended-lies c.self.inside.prices c.self.inside.keys c.self.inside.levels c.self.invariant c.args.price c.args.key at c.remove.new.self c.remove.ensures.updates c.remove-2.new.self c.remove-2.ensures.values c.remove-3.new.self c.remove-3.ensures.members

pub returns-clause-levels : goal.returns-clause-levels
returns-clause-levels g c =
    let at = ap (λ (l : LevelsView g.row.L.Denot). value_at l.keys c.args.price) c.self.view_is ∙ c.requires.there in
    rw (← c.self.view_is) (ended-level c.self.inside.prices c.self.inside.keys c.self.inside.levels c.self.invariant c.args.price c.args.key at c.remove.new.self c.remove.ensures.updates c.remove-2.new.self c.remove-2.ensures.values c.remove-3.new.self c.remove-3.ensures.members)

pub returns-clause-prices_kept : goal.returns-clause-prices_kept
returns-clause-prices_kept g c =
    rw (← c.self.view_is) (price-kept c.self.inside.prices c.remove-3.new.self c.self.inside.keys c.remove-2.new.self c.self.inside.levels c.remove.new.self c.remove-3.ensures.kept c.remove-2.ensures.kept)

pub returns-clause-room_kept : goal.returns-clause-room_kept
returns-clause-room_kept g c =
    rw (← c.self.view_is) (λ n r. room-from c.remove-3.new.self c.remove-2.new.self c.remove.new.self n (omega (arith, room-is c.self.inside.prices c.self.inside.keys c.self.inside.levels n r, c.remove.ensures.len, c.remove.ensures.capacity)))
