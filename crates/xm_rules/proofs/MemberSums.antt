-- Over all members, what was bought is what was sold.
use Rattle.std.proofs.Common.{◌≡◌, ℕ, zero, suc, ◌+◌, ◌<◌, ◌≤◌, ◌==◌, if◌then◌else◌, List, [], ◌∷◌, All, sum_by, refl, sym, ◌∙◌, arith}
use Rattle.std.proofs.lemmas.Bool.Decides.{nat_tests}
use Rattle.std.proofs.lemmas.List.Elements.{All-head, All-tail, All-weaker}
use Rattle.std.proofs.lemmas.List.Sums.{sum_by-cons}
use Rattle.xm_rules.specs.Sums.{IsBetweenMembers, bought, money_of, over_members, paid, received, sold, total_money, total_quantity}
use Rattle.xm_rules.specs.declared.orders.Trade.{Trade}

over-zero : (n : ℕ) → over_members n (λ m. 0) ≡ 0
over-zero zero = refl
over-zero (suc n) = omega (arith, over-zero n)

over-add : (n : ℕ) (f g : ℕ → ℕ) → over_members n (λ m. f m + g m) ≡ over_members n f + over_members n g
over-add zero f g = refl
over-add (suc n) f g = omega (arith, over-add n f g)

over-past : (n b q : ℕ) → n ≤ b → over_members n (λ m. if b == m then q else 0) ≡ 0
over-past zero b q h = refl
over-past (suc n) b q h = grind (arith, over-past n b q, nat_tests)

-- one member counts
over-one : (n b q : ℕ) → b < n → over_members n (λ m. if b == m then q else 0) ≡ q
over-one zero b q h = absurd (omega arith)
over-one (suc n) b q h = grind (arith, over-one n b q, over-past n b q, nat_tests)

-- where each trade counts for one member, the members' sums are the sum of all
over_all : (members : ℕ) (who what : Trade → ℕ) (trades : List Trade) → All (λ t. who t < members) trades
    → over_members members (λ m. sum_by (λ t. if who t == m then what t else 0) trades) ≡ sum_by what trades
over_all members who what [] known = over-zero members
over_all members who what (t ∷ ts) known =
    (λ i. over_members members (λ m. sum_by-cons (λ t. if who t == m then what t else 0) t ts i))
    ∙ over-add members (λ m. if who t == m then what t else 0) (λ m. sum_by (λ t. if who t == m then what t else 0) ts)
    ∙ (λ i. over-one members (who t) (what t) (All-head (λ t. who t < members) t ts known) i + over_all members who what ts (All-tail (λ t. who t < members) t ts known) i)
    ∙ sym (sum_by-cons what t ts)

other : (b m q : ℕ) → b < m → (if b == m then q else 0) ≡ 0
other b m q h = grind (arith, nat_tests)

-- a member beyond them has no part in a trade
none_beyond : (members m : ℕ) (who what : Trade → ℕ) (trades : List Trade) → members ≤ m → All (λ t. who t < members) trades
    → sum_by (λ t. if who t == m then what t else 0) trades ≡ 0
none_beyond members m who what [] beyond known = refl
none_beyond members m who what (t ∷ ts) beyond known =
    let low = All-head (λ t. who t < members) t ts known in
    omega (
      arith,
      sum_by-cons (λ t. if who t == m then what t else 0) t ts,
      other (who t) m (what t) (omega arith),
      none_beyond members m who what ts beyond (All-tail (λ t. who t < members) t ts known),
    )

module _ (members : ℕ) (trades : List Trade) (known : All (IsBetweenMembers members) trades) where
  buyers : All (λ (t : Trade). t.buyer < members) trades
  buyers = All-weaker (IsBetweenMembers members) (λ (t : Trade). t.buyer < members) (λ t h. h.buyer) trades known

  sellers : All (λ (t : Trade). t.seller < members) trades
  sellers = All-weaker (IsBetweenMembers members) (λ (t : Trade). t.seller < members) (λ t h. h.seller) trades known

  pub bought-all : over_members members (λ m. bought m trades) ≡ total_quantity trades
  bought-all = over_all members (λ t. t.buyer) (λ t. t.quantity) trades buyers

  pub paid-all : over_members members (λ m. paid m trades) ≡ total_money trades
  paid-all = over_all members (λ t. t.buyer) money_of trades buyers

  pub bought_is_sold : over_members members (λ m. bought m trades) ≡ over_members members (λ m. sold m trades)
  bought_is_sold = bought-all ∙ sym (over_all members (λ t. t.seller) (λ t. t.quantity) trades sellers)

  pub paid_is_received : over_members members (λ m. paid m trades) ≡ over_members members (λ m. received m trades)
  paid_is_received = paid-all ∙ sym (over_all members (λ t. t.seller) money_of trades sellers)

  -- a member that isn't there bought and sold nothing
  module _ (m : ℕ) (beyond : members ≤ m) where
    pub none-bought : bought m trades ≡ 0
    none-bought = none_beyond members m (λ t. t.buyer) (λ t. t.quantity) trades beyond buyers

    pub none-sold : sold m trades ≡ 0
    none-sold = none_beyond members m (λ t. t.seller) (λ t. t.quantity) trades beyond sellers

    pub none-paid : paid m trades ≡ 0
    none-paid = none_beyond members m (λ t. t.buyer) money_of trades beyond buyers

    pub none-received : received m trades ≡ 0
    none-received = none_beyond members m (λ t. t.seller) money_of trades beyond sellers
