use Rattle.std.proofs.Common.{ap, ◌∙◌}
use Rattle.xm_price_maps.specs.Levels.{LevelsView}
use Rattle.xm_price_maps.specs.Map.{value_at}
use Rattle.xm_price_maps.proofs.Leveled.{price-at, there-at, written-level, written-lies, written-prices, written-room}
use Rattle.xm_price_maps.proofs.levels.Levels.overwrite.Goals as goal

pub index_mut-requires : goal.index_mut-requires
index_mut-requires g c =
    let at = ap (λ (l : LevelsView g.row.L.Denot). value_at l.keys c.args.price) c.self.view_is ∙ c.requires in
    there-at c.self.inside.prices c.self.inside.keys c.self.inside.levels c.self.invariant c.args.price c.args.key at

pub invariant_of-self : goal.invariant_of-self
invariant_of-self g c =
    let at = ap (λ (l : LevelsView g.row.L.Denot). value_at l.keys c.args.price) c.self.view_is ∙ c.requires in
    let price = price-at c.self.inside.prices c.self.inside.keys c.self.inside.levels c.self.invariant c.args.price c.args.key at c.index_mut.result.now c.index_mut.ensures.value in
    rw price (written-lies c.self.inside.prices c.self.inside.keys c.self.inside.levels c.self.invariant c.args.price c.args.key at c.args.level)

pub returns-clause-levels : goal.returns-clause-levels
returns-clause-levels g c =
    let at = ap (λ (l : LevelsView g.row.L.Denot). value_at l.keys c.args.price) c.self.view_is ∙ c.requires in
    let price = price-at c.self.inside.prices c.self.inside.keys c.self.inside.levels c.self.invariant c.args.price c.args.key at c.index_mut.result.now c.index_mut.ensures.value in
    rw (price, ← c.self.view_is) (written-level c.self.inside.prices c.self.inside.keys c.self.inside.levels c.self.invariant c.args.price c.args.key at c.args.level)

pub returns-clause-prices_kept : goal.returns-clause-prices_kept
returns-clause-prices_kept g c =
    let at = ap (λ (l : LevelsView g.row.L.Denot). value_at l.keys c.args.price) c.self.view_is ∙ c.requires in
    let price = price-at c.self.inside.prices c.self.inside.keys c.self.inside.levels c.self.invariant c.args.price c.args.key at c.index_mut.result.now c.index_mut.ensures.value in
    rw (price, ← c.self.view_is) (written-prices c.self.inside.prices c.self.inside.keys c.self.inside.levels c.self.invariant c.args.price c.args.key at c.args.level)

pub returns-clause-room_kept : goal.returns-clause-room_kept
returns-clause-room_kept g c =
    let at = ap (λ (l : LevelsView g.row.L.Denot). value_at l.keys c.args.price) c.self.view_is ∙ c.requires in
    let price = price-at c.self.inside.prices c.self.inside.keys c.self.inside.levels c.self.invariant c.args.price c.args.key at c.index_mut.result.now c.index_mut.ensures.value in
    rw (price, ← c.self.view_is) (written-room c.self.inside.prices c.self.inside.keys c.self.inside.levels c.self.invariant c.args.price c.args.key at c.args.level)
