-- What positions are seen as, and what they answer.
use Rattle.std.specs.Prelude.{◌≡◌, ℕ, ◌<◌, ◌≤◌, Bool, ◌&&◌, if◌then◌else◌, nat_lt, ℤ, List, length, Option, Some, None, slice_index_or}
use Rattle.xm_positions.specs.declared.sums.MemberSums.{MemberSums}
use Rattle.xm_rules.specs.Sums.{bought, cash, has_traded, net, paid, received, sold}
use Rattle.xm_rules.specs.declared.orders.Trade.{Trade}
use Rattle.xm_rules.specs.declared.totals.TheConstants.{MAX_TRADED_MONEY, MAX_TRADED_QUANTITY}

-- the trades of a security so far, and the number of members between which they are
pub record Recorded : Type 0 where
  pub members : ℕ
  pub trades : List Trade

-- of a member, or none of one that isn't there
abbrev pub net_position : Recorded → ℕ → Option ℤ
net_position r member = if nat_lt member r.members then Some (net member r.trades) else None

abbrev pub cash_position : Recorded → ℕ → Option ℤ
cash_position r member = if nat_lt member r.members then Some (cash member r.trades) else None

-- a member that is there bought or sold a unit
abbrev pub has_position : Recorded → ℕ → Bool
has_position r member = nat_lt member r.members && has_traded member r.trades

-- ---- what is kept of each member

abbrev pub sums_of : ℕ → List Trade → MemberSums
sums_of member trades = record { bought = bought member trades; sold = sold member trades; paid = paid member trades; received = received member trades }

abbrev pub sums_if_known : Recorded → ℕ → Option MemberSums
sums_if_known r member = if nat_lt member r.members then Some (sums_of member r.trades) else None

pub record AreSmall (s : MemberSums) : Type 0 where
  pub bought : s.bought ≤ MAX_TRADED_QUANTITY
  pub sold : s.sold ≤ MAX_TRADED_QUANTITY
  pub paid : s.paid ≤ MAX_TRADED_MONEY
  pub received : s.received ≤ MAX_TRADED_MONEY

-- in the order of the members
abbrev pub AreSums : List MemberSums → List Trade → Type 0
AreSums sums trades = (member : ℕ) (d : MemberSums) → member < length sums → slice_index_or sums member d ≡ sums_of member trades
