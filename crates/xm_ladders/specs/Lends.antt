-- What ladders end as, once a `&mut` to one of them has ended.
use Rattle.std.specs.Borrow.{Fml, Lends, MutBor, RattleType}
use Rattle.std.specs.declared.alloc.Allocator.{Ghosts}
use Rattle.xm_ladders.specs.Ladder.{LadderView}
use Rattle.xm_ladders.specs.Ladders.{with_ladder, with_side}
use Rattle.xm_ladders.specs.contracts.ladder.Ladder as ladder
use Rattle.xm_ladders.specs.contracts.ladders.Ladders as ladders
use Rattle.xm_ladders.specs.contracts.ladders.SideLadders as side
use Rattle.xm_ladders.specs.declared.ladders.Ladders.{Ladders}
use Rattle.xm_ladders.specs.declared.ladders.SideLadders.{SideLadders}
use Rattle.xm_rules.specs.declared.orders.Restriction.{Restriction}
use Rattle.xm_rules.specs.declared.orders.Side.{Side}

module _ (A : RattleType) (alloc : Ghosts A.Denot) (s : MutBor (SideLadders A.Denot)) (restriction : Restriction) where
  -- the ladder of the restriction has the last value written through r
  abbrev pub lends_ladder : MutBor LadderView → Fml
  lends_ladder r = Lends (side.the_row A alloc) (ladder.the_row A alloc) s r (with_ladder restriction s.now)

module _ (A : RattleType) (alloc : Ghosts A.Denot) (s : MutBor (Ladders A.Denot)) (which : Side) where
  -- the ladders of the side have the last value written through r
  abbrev pub lends_side : MutBor (SideLadders A.Denot) → Fml
  lends_side r = Lends (ladders.the_row A alloc) (side.the_row A alloc) s r (with_side which s.now)
