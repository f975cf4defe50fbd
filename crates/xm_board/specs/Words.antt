-- The seven words of a quote.
use Rattle.std.specs.Prelude.{ℕ, ◌≤◌, ◌==◌, List, [], ◌∷◌, Option, Some, None, if◌then◌else◌}
use Rattle.std.specs.Option.{ForSome}
use Rattle.xm_rules.specs.declared.phases.Auction.TheVariants.{Opening, Intraday, Closing, Interruption}
use Rattle.xm_rules.specs.declared.phases.CallStage.TheVariants.{Ordinary, Interrupted, Extended}
use Rattle.xm_rules.specs.declared.phases.Phase.{Phase}
use Rattle.xm_rules.specs.declared.phases.Phase.TheVariants.{PreTrading, Call, Continuous, PostTrading, Ended}
use Rattle.xm_rules.specs.declared.replies.Quote.{Quote}
use Rattle.xm_ticks.specs.declared.numbers.TheConstants.{MAX_PRICE}

-- phases are numbered in the order of the day, each call stage by itself; the last is the ordinary call after an interruption, which never
-- occurs
abbrev pub phase_number : Phase → ℕ
phase_number PreTrading = 0
phase_number (Call Opening Ordinary) = 1
phase_number (Call Opening Interrupted) = 2
phase_number (Call Opening Extended) = 3
phase_number (Call Intraday Ordinary) = 4
phase_number (Call Intraday Interrupted) = 5
phase_number (Call Intraday Extended) = 6
phase_number (Call Closing Ordinary) = 7
phase_number (Call Closing Interrupted) = 8
phase_number (Call Closing Extended) = 9
phase_number (Call Interruption Interrupted) = 10
phase_number (Call Interruption Extended) = 11
phase_number Continuous = 12
phase_number PostTrading = 13
phase_number Ended = 14
phase_number (Call Interruption Ordinary) = 15

-- a missing limit is 0
abbrev pub price_word : Option ℕ → ℕ
price_word None = 0
price_word (Some price) = price

abbrev pub quote_words : Quote → List ℕ
quote_words q = q.version ∷ phase_number q.phase ∷ price_word q.best_buy ∷ price_word q.best_sell ∷ q.ref1 ∷ q.ref2 ∷ q.quantity ∷ []

abbrev pub IsPrice : ℕ → Type 0
IsPrice price = (1 ≤ price) × (price ≤ MAX_PRICE)

-- each price of a quote is in the range of prices, as the types of its fields say
pub record HasPricesInRange (q : Quote) : Type 0 where
  pub buy : ForSome q.best_buy IsPrice
  pub sell : ForSome q.best_sell IsPrice
  pub last : IsPrice q.ref1
  pub auction : IsPrice q.ref2

-- the phase of its number
abbrev pub phase_at : ℕ → Phase
phase_at w =
    if w == 0 then PreTrading
    else if w == 1 then Call Opening Ordinary
    else if w == 2 then Call Opening Interrupted
    else if w == 3 then Call Opening Extended
    else if w == 4 then Call Intraday Ordinary
    else if w == 5 then Call Intraday Interrupted
    else if w == 6 then Call Intraday Extended
    else if w == 7 then Call Closing Ordinary
    else if w == 8 then Call Closing Interrupted
    else if w == 9 then Call Closing Extended
    else if w == 10 then Call Interruption Interrupted
    else if w == 11 then Call Interruption Extended
    else if w == 12 then Continuous
    else if w == 13 then PostTrading
    else if w == 14 then Ended
    else Call Interruption Ordinary
