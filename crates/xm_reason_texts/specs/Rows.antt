-- The reasons of a call as lines of CSV: what decided, each in a line.
use Rattle.std.specs.Prelude.{codes, ℕ, List, ◌++◌, Option, Some, None}
use Rattle.std.specs.Fmt.{decimal}
use Rattle.std.specs.List.{flat_map}
use Rattle.xm_reason_texts.specs.Words.{range_answer_word, rule_mark}
use Rattle.xm_reasons.specs.Candidates.{surplus_of, volume_of}
use Rattle.xm_reasons.specs.declared.calls.CallReasons.{CallReasons}
use Rattle.xm_reasons.specs.declared.candidates.Candidate.{Candidate}
use Rattle.xm_reasons.specs.declared.ranges.AskedRange.{AskedRange}
use Rattle.xm_reasons.specs.declared.rules.PriceRule.{PriceRule}
use Rattle.xm_reasons.specs.declared.rules.PriceRule.TheVariants.{LastPriceBetween}
use Rattle.xm_rules.specs.declared.orders.Side.{Side}
use Rattle.xm_rules.specs.declared.phases.Auction.{Auction}
use Rattle.xm_rules.specs.declared.phases.CallStage.{CallStage}
use Rattle.xm_rules.specs.declared.phases.Phase.TheVariants.{Call}
use Rattle.xm_texts.specs.RowEvents.{range_word}
use Rattle.xm_texts.specs.Statement.{phase_word, side_word}
use Rattle.xm_ticks.specs.Writing.{price_text}

abbrev pub reasons_header : List ℕ
reasons_header = codes "record,security,phase,row,price,demand,supply,volume,surplus,side,low,high,told\n"

-- with what each line begins: the number of the record, the security, and the phase of the call
abbrev pub row_start : List ℕ → ℕ → Auction → CallStage → List ℕ
row_start security number auction stage = decimal number ++ codes "," ++ security ++ codes "," ++ phase_word (Call auction stage) ++ codes ","

-- the fields of a surplus and of the side that has it, which is empty where none has
abbrev pub surplus_fields : Option (Side × ℕ) → List ℕ
surplus_fields None = codes "0,"
surplus_fields (Some surplus) = decimal surplus.1 ++ codes "," ++ side_word surplus.0

-- a candidate: price, demand, supply, volume, surplus and side
abbrev pub candidate_row : List ℕ → ℕ → Candidate → List ℕ
candidate_row start tick c =
    start ++ codes "candidate," ++ price_text c.price tick ++ codes "," ++ decimal c.demand ++ codes "," ++ decimal c.supply ++ codes "," ++ decimal (volume_of c) ++ codes ","
    ++ surplus_fields (surplus_of c) ++ codes ",,,\n"

-- the last price
abbrev pub last_row : List ℕ → ℕ → ℕ → List ℕ
last_row start tick last = start ++ codes "last," ++ price_text last tick ++ codes ",,,,,,,,\n"

-- a range: the price that it is around, the lowest and the highest price inside, and whether the price of the call keeps it
abbrev pub range_row : List ℕ → ℕ → AskedRange → List ℕ
range_row start tick asked =
    start ++ range_word asked.range ++ codes "," ++ price_text asked.around tick ++ codes ",,,,,," ++ price_text asked.low tick ++ codes "," ++ price_text asked.high tick ++ codes ","
    ++ range_answer_word asked.answer ++ codes "\n"

-- the fields of a price and its volume, which are empty where there is no price
abbrev pub priced_columns : ℕ → Option (ℕ × ℕ) → List ℕ
priced_columns tick None = codes ",,,"
priced_columns tick (Some priced) = price_text priced.0 tick ++ codes ",,," ++ decimal priced.1

-- the prices between which a rule keeps the last price; of other rules they are empty
abbrev pub bounds_fields : ℕ → PriceRule → List ℕ
bounds_fields tick (LastPriceBetween low high) = price_text low tick ++ codes "," ++ price_text high tick
bounds_fields tick _ = codes ","

-- the price, and the rule that decided
abbrev pub price_row : List ℕ → ℕ → Option (ℕ × ℕ) → PriceRule → List ℕ
price_row start tick price rule = start ++ codes "price," ++ priced_columns tick price ++ codes ",,," ++ bounds_fields tick rule ++ codes "," ++ rule_mark rule ++ codes "\n"

-- the lines, each of which begins so, of a call with these candidates, this last price, and so on
abbrev pub reason_rows_of : List ℕ → ℕ → List Candidate → ℕ → List AskedRange → Option (ℕ × ℕ) → PriceRule → List ℕ
reason_rows_of start tick candidates last ranges price rule =
    flat_map (candidate_row start tick) candidates ++ last_row start tick last ++ flat_map (range_row start tick) ranges ++ price_row start tick price rule

module _ {A : Type 0} where
  -- the lines of a call, each of which begins so
  abbrev pub call_rows : List ℕ → ℕ → CallReasons A → List ℕ
  call_rows start tick r = reason_rows_of start tick r.candidates.items r.last r.ranges.items r.price r.rule

  -- the lines of a call, of a security with this name and tick size, behind the record of this number
  abbrev pub reason_rows : List ℕ → ℕ → ℕ → CallReasons A → List ℕ
  reason_rows security tick number r = call_rows (row_start security number r.auction r.stage) tick r
