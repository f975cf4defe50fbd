-- The reasons of a call, told to people: a block of lines with a blank line behind it.
use Rattle.std.specs.Prelude.{codes, ℕ, ◌-◌, List, ◌++◌, length, replicate, Option, Some, None}
use Rattle.std.specs.Fmt.{decimal}
use Rattle.std.specs.List.{flat_map}
use Rattle.xm_reason_texts.specs.Words.{range_answer_word, auction_word, stage_word}
use Rattle.xm_reason_texts.specs.declared.words.CallMoment.{CallMoment}
use Rattle.xm_reason_texts.specs.declared.words.CallMoment.TheVariants.{AtItsEnd, SoFar}
use Rattle.xm_reasons.specs.Candidates.{surplus_of, volume_of}
use Rattle.xm_reasons.specs.declared.calls.CallReasons.{CallReasons}
use Rattle.xm_reasons.specs.declared.candidates.Candidate.{Candidate}
use Rattle.xm_reasons.specs.declared.ranges.AskedRange.{AskedRange}
use Rattle.xm_reasons.specs.declared.rules.PriceRule.{PriceRule}
use Rattle.xm_reasons.specs.declared.rules.PriceRule.TheVariants.{NothingExecutable, NoLimit, MostVolume, LeastSurplus, HighestOfBuys, LowestOfSells, LastPriceBetween}
use Rattle.xm_rules.specs.declared.orders.Side.{Side}
use Rattle.xm_rules.specs.declared.phases.Auction.{Auction}
use Rattle.xm_rules.specs.declared.phases.CallStage.{CallStage}
use Rattle.xm_texts.specs.RowEvents.{range_word}
use Rattle.xm_texts.specs.Statement.{side_word}
use Rattle.xm_ticks.specs.Writing.{price_text}

-- a field at the right edge of a column of so many characters
abbrev pub aligned : ℕ → List ℕ → List ℕ
aligned width field = replicate (width - length field) 32 ++ field

abbrev pub aligned_number : ℕ → ℕ → List ℕ
aligned_number width number = aligned width (decimal number)

abbrev pub aligned_price : ℕ → ℕ → ℕ → List ℕ
aligned_price width price tick = aligned width (price_text price tick)

-- ---- the title: security, record, and the call

abbrev pub call_words : Auction → CallStage → List ℕ
call_words auction stage = stage_word auction stage ++ auction_word auction ++ codes " call"

abbrev pub moment_text : CallMoment → Auction → CallStage → List ℕ
moment_text AtItsEnd auction stage = codes "the end of the " ++ call_words auction stage
moment_text SoFar auction stage = codes "the " ++ call_words auction stage ++ codes " so far"

abbrev pub title_line : List ℕ → ℕ → CallMoment → Auction → CallStage → List ℕ
title_line security number moment auction stage = security ++ codes ", record " ++ decimal number ++ codes ": " ++ moment_text moment auction stage ++ codes "\n"

-- ---- the candidates

abbrev pub columns_line : List ℕ
columns_line = codes "            price        demand        supply        volume       surplus\n"

-- the surplus of a candidate, and the side that has it
abbrev pub surplus_text : Option (Side × ℕ) → List ℕ
surplus_text None = aligned_number 14 0
surplus_text (Some surplus) = aligned_number 14 surplus.1 ++ codes " " ++ side_word surplus.0

abbrev pub candidate_line : ℕ → Candidate → List ℕ
candidate_line tick c =
    aligned_price 17 c.price tick ++ aligned_number 14 c.demand ++ aligned_number 14 c.supply ++ aligned_number 14 (volume_of c) ++ surplus_text (surplus_of c) ++ codes "\n"

-- ---- the last price, the ranges and the price

abbrev pub last_line : ℕ → ℕ → List ℕ
last_line tick last = codes "   last price " ++ price_text last tick ++ codes "\n"

abbrev pub range_line : ℕ → AskedRange → List ℕ
range_line tick asked =
    codes "   " ++ range_word asked.range ++ codes " range " ++ price_text asked.low tick ++ codes " to " ++ price_text asked.high tick ++ codes " around " ++ price_text asked.around tick
    ++ codes ": " ++ range_answer_word asked.answer ++ codes "\n"

abbrev pub rule_text : ℕ → PriceRule → List ℕ
rule_text tick NothingExecutable = codes "nothing can be executed"
rule_text tick NoLimit = codes "no order has a limit, so the last price"
rule_text tick MostVolume = codes "most volume"
rule_text tick LeastSurplus = codes "most volume, then least surplus"
rule_text tick HighestOfBuys = codes "all surpluses buy: the highest"
rule_text tick LowestOfSells = codes "all surpluses sell: the lowest"
rule_text tick (LastPriceBetween low high) = codes "last price kept between " ++ price_text low tick ++ codes " and " ++ price_text high tick

abbrev pub priced_text : ℕ → Option (ℕ × ℕ) → List ℕ
priced_text tick None = codes "   no price: "
priced_text tick (Some priced) = codes "   price " ++ price_text priced.0 tick ++ codes ", volume " ++ decimal priced.1 ++ codes ": "

-- this title, and the lines of a call with these candidates, this last price, and so on
abbrev pub block_of : List ℕ → ℕ → List Candidate → ℕ → List AskedRange → Option (ℕ × ℕ) → PriceRule → List ℕ
block_of title tick candidates last ranges price rule =
    title ++ columns_line ++ flat_map (candidate_line tick) candidates ++ last_line tick last ++ flat_map (range_line tick) ranges ++ priced_text tick price ++ rule_text tick rule ++ codes "\n\n"

module _ {A : Type 0} where
  -- the block of a call, of a security with this name and tick size, behind the record of this number
  abbrev pub block : List ℕ → ℕ → ℕ → CallMoment → CallReasons A → List ℕ
  block security tick number moment r =
      block_of (title_line security number moment r.auction r.stage) tick r.candidates.items r.last r.ranges.items r.price r.rule
