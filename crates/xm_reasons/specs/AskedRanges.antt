-- The ranges that the stage of a call asks of its price, with the lowest and the highest price inside each.
use Rattle.std.specs.Prelude.{ℕ, ◌+◌, ◌-◌, ◌*◌, ◌/◌, Bool, true, false, min, List, [], ◌∷◌, Option, Some, None}
use Rattle.xm_events.specs.declared.events.PriceRange.{PriceRange}
use Rattle.xm_events.specs.declared.events.PriceRange.TheVariants.{Dynamic, Static, Wide}
use Rattle.xm_reasons.specs.declared.ranges.AskedRange.{AskedRange}
use Rattle.xm_reasons.specs.declared.ranges.RangeAnswer.{RangeAnswer}
use Rattle.xm_reasons.specs.declared.ranges.RangeAnswer.TheVariants.{Kept, Left}
use Rattle.xm_rules.specs.State.{Ranges}
use Rattle.xm_rules.specs.declared.phases.CallStage.{CallStage}
use Rattle.xm_rules.specs.declared.phases.CallStage.TheVariants.{Ordinary, Interrupted, Extended}
use Rattle.xm_ticks.specs.Ranges.{inside}
use Rattle.xm_ticks.specs.declared.numbers.TheConstants.{MAX_PRICE}

-- how far from the reference price the prices inside lie at most
abbrev pub reach_of : ℕ → ℕ → ℕ
reach_of around width = (width * around) / 1000

abbrev pub lowest_inside : ℕ → ℕ → ℕ
lowest_inside around width = around - reach_of around width

abbrev pub highest_inside : ℕ → ℕ → ℕ
highest_inside around width = min (around + reach_of around width) MAX_PRICE

abbrev pub range_answer : Bool → RangeAnswer
range_answer true = Kept
range_answer false = Left

-- a range asked of a price
abbrev pub asked_range : PriceRange → ℕ → ℕ → ℕ → AskedRange
asked_range range around width price =
    record { range = range; around = around; low = lowest_inside around width; high = highest_inside around width; answer = range_answer (inside price around width) }

-- an ordinary call asks the dynamic and the static range, an interrupted one the wide range, an extended one none
abbrev pub ranges_at_stage : Ranges → CallStage → ℕ → List AskedRange
ranges_at_stage r Ordinary price = asked_range Dynamic r.ref1 r.widths.dynamic price ∷ asked_range Static r.ref2 r.widths.statics price ∷ []
ranges_at_stage r Interrupted price = asked_range Wide r.ref1 r.widths.wide price ∷ []
ranges_at_stage r Extended price = []

-- none is asked where there is no price
abbrev pub asked_ranges : Ranges → CallStage → Option (ℕ × ℕ) → List AskedRange
asked_ranges r stage None = []
asked_ranges r stage (Some priced) = ranges_at_stage r stage priced.0

abbrev pub is_kept_by : RangeAnswer → Bool
is_kept_by Kept = true
is_kept_by Left = false

abbrev pub is_kept : AskedRange → Bool
is_kept asked = is_kept_by asked.answer
