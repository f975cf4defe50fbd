-- The words of the reasons of a call.
use Rattle.std.specs.Prelude.{codes, ℕ, List}
use Rattle.xm_reasons.specs.declared.ranges.RangeAnswer.{RangeAnswer}
use Rattle.xm_reasons.specs.declared.ranges.RangeAnswer.TheVariants.{Kept, Left}
use Rattle.xm_reasons.specs.declared.rules.PriceRule.{PriceRule}
use Rattle.xm_reasons.specs.declared.rules.PriceRule.TheVariants.{NothingExecutable, NoLimit, MostVolume, LeastSurplus, HighestOfBuys, LowestOfSells, LastPriceBetween}
use Rattle.xm_rules.specs.declared.phases.Auction.{Auction}
use Rattle.xm_rules.specs.declared.phases.Auction.TheVariants.{Opening, Intraday, Closing, Interruption}
use Rattle.xm_rules.specs.declared.phases.CallStage.{CallStage}
use Rattle.xm_rules.specs.declared.phases.CallStage.TheVariants.{Ordinary, Interrupted, Extended}

-- what a call is called before its auction; the one that follows an interruption is interrupted from its beginning on
abbrev pub stage_word : Auction → CallStage → List ℕ
stage_word auction Ordinary = codes ""
stage_word Interruption Interrupted = codes ""
stage_word auction Interrupted = codes "interrupted "
stage_word auction Extended = codes "extended "

abbrev pub auction_word : Auction → List ℕ
auction_word Opening = codes "opening"
auction_word Intraday = codes "intraday"
auction_word Closing = codes "closing"
auction_word Interruption = codes "interruption"

abbrev pub range_answer_word : RangeAnswer → List ℕ
range_answer_word Kept = codes "kept"
range_answer_word Left = codes "left"

-- the rule that decides a price, in a field of CSV
abbrev pub rule_mark : PriceRule → List ℕ
rule_mark NothingExecutable = codes "nothing"
rule_mark NoLimit = codes "no-limit"
rule_mark MostVolume = codes "most-volume"
rule_mark LeastSurplus = codes "least-surplus"
rule_mark HighestOfBuys = codes "highest-of-buys"
rule_mark LowestOfSells = codes "lowest-of-sells"
rule_mark (LastPriceBetween low high) = codes "last-price-between"
