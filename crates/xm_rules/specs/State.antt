-- The market state of one security, and its reference prices.
use Rattle.std.specs.Prelude.{ℕ, Bool, true, false, ◌&&◌, List, [], ◌∷◌, filter}
use Rattle.xm_ticks.specs.Ranges.{inside}
use Rattle.xm_rules.specs.declared.orders.Order.{Order}
use Rattle.xm_rules.specs.declared.orders.Stop.{Stop}
use Rattle.xm_rules.specs.declared.orders.Trade.{Trade}
use Rattle.xm_rules.specs.declared.orders.TradeKind.{TradeKind}
use Rattle.xm_rules.specs.declared.orders.TradeKind.TheVariants as made
use Rattle.xm_rules.specs.declared.phases.Phase.{Phase}
use Rattle.xm_rules.specs.declared.settings.DeskSettings.{DeskSettings}
use Rattle.xm_rules.specs.declared.settings.Widths.{Widths}

pub record State : Type 0 where
  pub settings : DeskSettings
  -- the number of accepted commands
  pub accepted : ℕ
  pub phase : Phase
  -- the live orders in time order
  pub orders : List Order
  -- the held stops in order of entry
  pub stops : List Stop
  pub trades : List Trade
  -- the number of sweeps and of price determinations that traded
  pub sweeps : ℕ

-- the price of the last trade of a list, or another price where there is none
abbrev pub last_price : ℕ → List Trade → ℕ
last_price price [] = price
last_price price (t ∷ ts) = last_price t.price ts

abbrev pub is_auction : TradeKind → Bool
is_auction made.Continuous = false
is_auction (made.Auction auction stage) = true

-- the price of the last auction trade of a list, or another price where there is none
abbrev pub last_auction_price : ℕ → List Trade → ℕ
last_auction_price price trades = last_price price (filter (λ (t : Trade). is_auction t.kind) trades)

-- the reference prices: the price of the last trade, and that of the last auction trade; before the first, the opening reference,
-- which is the last price of a previous day
abbrev pub ref1 : State → ℕ
ref1 s = last_price s.settings.reference s.trades

abbrev pub ref2 : State → ℕ
ref2 s = last_auction_price s.settings.reference s.trades

-- the reference prices of a moment, and the widths of the ranges around them
pub record Ranges : Type 0 where
  pub ref1 : ℕ
  pub ref2 : ℕ
  pub widths : Widths

abbrev pub ranges : State → Ranges
ranges s = record { ref1 = ref1 s; ref2 = ref2 s; widths = s.settings.widths }

-- inside the dynamic range, which is around the last price, and the static range, which is around the last auction price
abbrev pub inside_both : Ranges → ℕ → Bool
inside_both r price = inside price r.ref1 r.widths.dynamic && inside price r.ref2 r.widths.statics

-- inside the wide range, which is around the last price
abbrev pub inside_wide : Ranges → ℕ → Bool
inside_wide r price = inside price r.ref1 r.widths.wide
