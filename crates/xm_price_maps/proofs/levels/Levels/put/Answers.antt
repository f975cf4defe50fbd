use Rattle.std.proofs.Common.{sym, ap, ◌∙◌}
use Rattle.xm_price_maps.specs.Levels.{LevelsView}
use Rattle.xm_price_maps.specs.Map.{value_at}
use Rattle.xm_price_maps.proofs.Callers.{room-less}
use Rattle.xm_price_maps.proofs.Leveled.{absent-at, no-level}
use Rattle.xm_price_maps.proofs.levels.Levels.put.Goals as goal

pub overwrite-requires : goal.overwrite-requires
overwrite-requires g c = ap (λ (l : LevelsView g.row.L.Denot). value_at l.keys c.args.price) (sym c.self.view_is) ∙ sym c.get.ensures ∙ c.in-Some.is

pub begin-requires-clause-absent : goal.begin-requires-clause-absent
begin-requires-clause-absent g c = ap (λ (l : LevelsView g.row.L.Denot). value_at l.keys c.args.price) (sym c.self.view_is) ∙ sym c.get.ensures ∙ c.in-None.is

pub begin-requires-clause-room : goal.begin-requires-clause-room
begin-requires-clause-room g c = c.requires.room (rw (← c.self.view_is) (absent-at c.self.inside.prices c.self.inside.keys c.self.inside.levels c.args.price (sym c.get.ensures ∙ c.in-None.is)))

pub returns-in-Some-clause-room_used : goal.returns-in-Some-clause-room_used
returns-in-Some-clause-room_used g c n r = c.overwrite.ensures.room_kept n (room-less c.args.self.now n r)

pub returns-in-None-clause-room_kept : goal.returns-in-None-clause-room_kept
returns-in-None-clause-room_kept g c some n r = absurd (no-level c.args.self.now c.args.price (rw (← c.self.view_is) (absent-at c.self.inside.prices c.self.inside.keys c.self.inside.levels c.args.price (sym c.get.ensures ∙ c.in-None.is))) some)
