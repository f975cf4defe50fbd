-- Sums over trades: of each member, and in total.
use Rattle.std.specs.Prelude.{ℕ, Bool, nat_lt, zero, suc, ◌+◌, ◌*◌, ◌<◌, ◌≤◌, ◌==◌, ℤ, pos, ◌-ℤ◌, if◌then◌else◌, List, sum_by}
use Rattle.xm_rules.specs.declared.orders.Trade.{Trade}
use Rattle.xm_rules.specs.declared.totals.TheConstants.{MAX_TRADED_MONEY, MAX_TRADED_QUANTITY}

-- ticks times units
abbrev pub money_of : Trade → ℕ
money_of t = t.price * t.quantity

abbrev pub bought : ℕ → List Trade → ℕ
bought member trades = sum_by (λ (t : Trade). if t.buyer == member then t.quantity else 0) trades

abbrev pub sold : ℕ → List Trade → ℕ
sold member trades = sum_by (λ (t : Trade). if t.seller == member then t.quantity else 0) trades

abbrev pub paid : ℕ → List Trade → ℕ
paid member trades = sum_by (λ (t : Trade). if t.buyer == member then money_of t else 0) trades

abbrev pub received : ℕ → List Trade → ℕ
received member trades = sum_by (λ (t : Trade). if t.seller == member then money_of t else 0) trades

-- a member bought or sold a unit
abbrev pub has_traded : ℕ → List Trade → Bool
has_traded member trades = nat_lt 0 (bought member trades + sold member trades)

-- in units: what a member bought less what it sold
abbrev pub net : ℕ → List Trade → ℤ
net member trades = pos (bought member trades) -ℤ pos (sold member trades)

-- in ticks times units: what a member received less what it paid
abbrev pub cash : ℕ → List Trade → ℤ
cash member trades = pos (received member trades) -ℤ pos (paid member trades)

-- over all members, whose indices are those below their number
abbrev pub over_members : ℕ → (ℕ → ℕ) → ℕ
over_members zero f = 0
over_members (suc n) f = over_members n f + f n

-- a trade is between members of these
pub record IsBetweenMembers (members : ℕ) (t : Trade) : Type 0 where
  pub buyer : t.buyer < members
  pub seller : t.seller < members

-- each trade counts once
abbrev pub total_quantity : List Trade → ℕ
total_quantity trades = sum_by (λ (t : Trade). t.quantity) trades

abbrev pub total_money : List Trade → ℕ
total_money trades = sum_by money_of trades

-- a day trades no more than this
pub record AreWithinLimits (trades : List Trade) : Type 0 where
  pub quantity : total_quantity trades ≤ MAX_TRADED_QUANTITY
  pub money : total_money trades ≤ MAX_TRADED_MONEY
