-- Why the price of a call is the price.
use Rattle.std.specs.Prelude.{◌≡◌, Bool, true, false, Option, Some, None}
use Rattle.xm_reasons.specs.AskedRanges.{asked_ranges}
use Rattle.xm_reasons.specs.Candidates.{candidate_rows}
use Rattle.xm_reasons.specs.Rules.{decided_by}
use Rattle.xm_reasons.specs.declared.calls.CallReasons.{CallReasons}
use Rattle.xm_rules.specs.Auction.{auction_price}
use Rattle.xm_rules.specs.State.{State, ranges, ref1}
use Rattle.xm_rules.specs.declared.phases.Phase.{Phase}
use Rattle.xm_rules.specs.declared.phases.Phase.TheVariants.{Call}

abbrev pub is_call : Phase → Bool
is_call (Call auction stage) = true
is_call _ = false

module _ {A : Type 0} where
  -- the reasons of the price that a call has, if it ends in this state
  pub record AreReasons (s : State) (r : CallReasons A) : Type 0 where
    pub phase : s.phase ≡ Call r.auction r.stage
    pub candidates : r.candidates.items ≡ candidate_rows s
    pub last : r.last ≡ ref1 s
    pub rule : r.rule ≡ decided_by s.phase s.orders (ref1 s)
    pub price : r.price ≡ auction_price s.phase s.orders (ref1 s)
    pub ranges : r.ranges.items ≡ asked_ranges (ranges s) r.stage r.price

  -- there are none outside a call
  abbrev pub HasReasons : State → Option (CallReasons A) → Type 0
  HasReasons s None = is_call s.phase ≡ false
  HasReasons s (Some r) = AreReasons s r
