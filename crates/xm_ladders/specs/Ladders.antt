-- The ladders of both sides, as a clause sees them.
use Rattle.std.specs.Prelude.{Option}
use Rattle.xm_ladders.specs.Ladder as ladder
use Rattle.xm_ladders.specs.declared.ladders.Ladders.{Ladders}
use Rattle.xm_ladders.specs.declared.ladders.SideLadders.{SideLadders}
use Rattle.xm_ladders.specs.declared.level.Level.{Level}
use Rattle.xm_rules.specs.declared.orders.OrderKind.{OrderKind}
use Rattle.xm_rules.specs.declared.orders.Restriction.{Restriction}
use Rattle.xm_rules.specs.declared.orders.Restriction.TheVariants.{Free, OpeningOnly, AuctionsOnly, ClosingOnly}
use Rattle.xm_rules.specs.declared.orders.Side.{Side}
use Rattle.xm_rules.specs.declared.orders.Side.TheVariants.{Buy, Sell}

module _ {A : Type 0} where
  abbrev pub ladder_on : Restriction → SideLadders A → ladder.LadderView
  ladder_on Free l = l.free
  ladder_on OpeningOnly l = l.opening_only
  ladder_on AuctionsOnly l = l.auctions_only
  ladder_on ClosingOnly l = l.closing_only

  abbrev pub with_ladder : Restriction → SideLadders A → ladder.LadderView → SideLadders A
  with_ladder Free l new = record l { free = new }
  with_ladder OpeningOnly l new = record l { opening_only = new }
  with_ladder AuctionsOnly l new = record l { auctions_only = new }
  with_ladder ClosingOnly l new = record l { closing_only = new }

  -- the level of orders of a restriction and kind
  abbrev pub level_on : SideLadders A → Restriction → OrderKind → Option Level
  level_on l restriction kind = ladder.level_of (ladder_on restriction l) kind

  abbrev pub side_of : Side → Ladders A → SideLadders A
  side_of Buy l = l.buys
  side_of Sell l = l.sells

  abbrev pub with_side : Side → Ladders A → SideLadders A → Ladders A
  with_side Buy l new = record l { buys = new }
  with_side Sell l new = record l { sells = new }
