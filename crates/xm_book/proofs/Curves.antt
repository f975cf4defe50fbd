-- The units of a side along its levels.
use Rattle.std.proofs.Common.{◌≡◌, ℕ, ◌+◌, ◌<◌, ◌≤◌, Bool, true, false, not, if◌then◌else◌, List, All, Contains, Option, Some, None, sum_by, refl, arith, ◌==◌}
use Rattle.std.specs.Prelude.{nat_le, option_map}
use Rattle.std.proofs.lemmas.Bool.{both_ways, not-true, not_from_false, not_from_true, false_from_ne_true}
use Rattle.std.proofs.lemmas.Bool.Decides.{nat_tests}
use Rattle.std.proofs.lemmas.List.Elements.{All-contains_itself, All-weaker}
use Rattle.xm_book.specs.Curves.{later, orders_left, units_to}
use Rattle.xm_book.specs.Queues.{level_after, limits_after, units_at}
use Rattle.xm_book.proofs.Bests.{Bests, best-says, reaches-itself, reaches-on, reaches-other}
use Rattle.xm_slots.proofs.Members.{Contains-filter, Contains-filter_map, Passes-filter}
use Rattle.xm_rules.specs.Active.{Positioned, active, limits}
use Rattle.xm_rules.specs.Auction.{accepting}
use Rattle.xm_rules.specs.Orders.{accepts, limit_of, same_kind}
use Rattle.xm_rules.specs.Sides.{best, reaches}
use Rattle.xm_rules.specs.declared.orders.Order.{Order}
use Rattle.xm_rules.specs.declared.orders.OrderKind.{OrderKind}
use Rattle.xm_rules.specs.declared.orders.OrderKind.TheVariants.{Market, Limit}
use Rattle.xm_rules.specs.declared.orders.Side.{Side}
use Rattle.xm_rules.specs.declared.orders.Side.TheVariants.{Buy, Sell}
use Rattle.xm_rules.specs.declared.phases.Phase.{Phase}
use Rattle.xm_rules.proofs.Orderings.{sum-filter}
use Rattle.xm_rules.proofs.Queues.{units, if_le}
use Rattle.xm_rules.proofs.Sums.{sum-add, sum-gap, sum-same}

-- an order of this kind is counted down to a limit
abbrev pub counted : Side → Option ℕ → OrderKind → Bool
counted side None kind = same_kind Market kind
counted side (Some p) kind = accepts side kind p

abbrev pub counted_in : Side → Option ℕ → List Positioned → ℕ
counted_in side after queue = sum_by (λ (i : Positioned). if counted side after i.order.kind then units i else 0) queue

pub units_to-is : (phase : Phase) (side : Side) (after : Option ℕ) (orders : List Order) → units_to phase side after orders ≡ counted_in side after (active phase side orders)
units_to-is phase side None orders = sum-filter units (λ (i : Positioned). same_kind Market i.order.kind) (active phase side orders)
units_to-is phase side (Some p) orders = refl

-- a level comes next
pub record IsNext (side : Side) (after : Option ℕ) (queue : List Positioned) (p units : ℕ) : Type 0 where
  pub there : Contains (limits queue) p
  pub behind : later side after p ≡ true
  pub first : (q : ℕ) → Contains (limits queue) q → later side after q ≡ true → reaches side p q ≡ true
  pub units_are : units ≡ units_at (Limit p) queue

abbrev pub Nexts : Side → Option ℕ → List Positioned → Option (ℕ × ℕ) → Type 0
Nexts side after queue None = (q : ℕ) → Contains (limits queue) q → later side after q ≡ true → ⊥
Nexts side after queue (Some level) = IsNext side after queue level.0 level.1

-- the limits after one are those of the queue that come after it
pub in_after : (side : Side) (after : Option ℕ) (queue : List Positioned) (q : ℕ) → Contains (limits queue) q → later side after q ≡ true → Contains (limits_after side after queue) q
in_after side None queue q at l = at
in_after side (Some p) queue q at l = Contains-filter (λ q. not (reaches side q p)) (limits queue) q l at

pub of_after : (side : Side) (after : Option ℕ) (queue : List Positioned) (q : ℕ) → Contains (limits_after side after queue) q → Contains (limits queue) q × (later side after q ≡ true)
of_after side None queue q at = (at, refl)
of_after side (Some p) queue q at = let h = Passes-filter (λ q. not (reaches side q p)) (limits queue) q at in (h.contains, h.passes)

nexts_of : (side : Side) (after : Option ℕ) (queue : List Positioned) (o : Option ℕ) → Bests side (limits_after side after queue) o
    → Nexts side after queue (option_map (λ (p : ℕ). (p, units_at (Limit p) queue)) o)
nexts_of side after queue None none = λ q at l. none q (in_after side after queue q at l)
nexts_of side after queue (Some p) h =
    let at = of_after side after queue p h.there in
    record { there = at.0; behind = at.1; first = λ q there l. h.reaches_all q (in_after side after queue q there l); units_are = refl }

pub nexts : (phase : Phase) (side : Side) (after : Option ℕ) (orders : List Order) → Nexts side after (active phase side orders) (level_after phase side after orders)
nexts phase side after orders =
    let queue = active phase side orders in
    nexts_of side after queue (best side (limits_after side after queue)) (best-says side (limits_after side after queue) (best side (limits_after side after queue)) refl)

-- ---- what holds of each limit holds of each order
at_limit : (queue : List Positioned) (i : Positioned) → Contains queue i → (q : ℕ) → limit_of i.order.kind ≡ Some q → Contains (limits queue) q
at_limit queue i at q e = Contains-filter_map (λ (i : Positioned). limit_of i.order.kind) queue i q e at

module _ (P : OrderKind → Type 0) (queue : List Positioned) where
  kinds_if : (k : OrderKind) → P Market → ((q : ℕ) → limit_of k ≡ Some q → P (Limit q)) → P k
  kinds_if Market m l = m
  kinds_if (Limit q) m l = l q refl

  -- what holds of market orders and of each limit
  pub kinds_have : P Market → ((q : ℕ) → Contains (limits queue) q → P (Limit q)) → All (λ (i : Positioned). P i.order.kind) queue
  kinds_have m l =
      All-weaker (Contains queue) (λ (i : Positioned). P i.order.kind) (λ i at. kinds_if i.order.kind m (λ q e. l q (at_limit queue i at q e))) queue (All-contains_itself queue)

-- ---- the units with the next level
buys_split : (p q n : ℕ) → nat_le q p ≡ true → (if nat_le p q then n else 0) ≡ 0 + (if p == q then n else 0)
buys_split p q n h = grind (arith, nat_tests)

sells_split : (p q n : ℕ) → nat_le p q ≡ true → (if nat_le q p then n else 0) ≡ 0 + (if p == q then n else 0)
sells_split p q n h = grind (arith, nat_tests)

buys_split_after : (a p q n : ℕ) → nat_le a p ≡ false → (nat_le a q ≡ false → nat_le q p ≡ true)
    → (if nat_le p q then n else 0) ≡ (if nat_le a q then n else 0) + (if p == q then n else 0)
buys_split_after a p q n l h = grind (arith, nat_tests)

sells_split_after : (a p q n : ℕ) → nat_le p a ≡ false → (nat_le q a ≡ false → nat_le p q ≡ true)
    → (if nat_le q p then n else 0) ≡ (if nat_le q a then n else 0) + (if p == q then n else 0)
sells_split_after a p q n l h = grind (arith, nat_tests)

split_limit : (side : Side) (after : Option ℕ) (p q n : ℕ) → later side after p ≡ true → (later side after q ≡ true → reaches side p q ≡ true)
    → (if reaches side q p then n else 0) ≡ (if counted side after (Limit q) then n else 0) + (if p == q then n else 0)
split_limit Buy None p q n l h = buys_split p q n (h refl)
split_limit Sell None p q n l h = sells_split p q n (h refl)
split_limit Buy (Some a) p q n l h = buys_split_after a p q n (not-true (nat_le a p) l) (λ e. h (not_from_false (nat_le a q) e))
split_limit Sell (Some a) p q n l h = sells_split_after a p q n (not-true (nat_le p a) l) (λ e. h (not_from_false (nat_le q a) e))

abbrev Splits : Side → Option ℕ → ℕ → OrderKind → Type 0
Splits side after p k = (n : ℕ) → (if accepts side k p then n else 0) ≡ (if counted side after k then n else 0) + (if same_kind (Limit p) k then n else 0)

split_market : (side : Side) (after : Option ℕ) (p : ℕ) → Splits side after p Market
split_market side None p n = omega arith
split_market side (Some a) p n = omega arith

-- the units down to the next level are those so far and its own
pub next-adds : (phase : Phase) (side : Side) (after : Option ℕ) (orders : List Order) (p n : ℕ) → IsNext side after (active phase side orders) p n
    → accepting phase orders side p ≡ units_to phase side after orders + n
next-adds phase side after orders p n next =
    let queue = active phase side orders in
    let each : All (λ (i : Positioned). Splits side after p i.order.kind) queue =
    kinds_have (Splits side after p) queue (split_market side after p) (λ q at n. split_limit side after p q n next.behind (next.first q at)) in
    let same = sum-same (λ (i : Positioned). if accepts side i.order.kind p then units i else 0)
    (λ (i : Positioned). (if counted side after i.order.kind then units i else 0) + (if same_kind (Limit p) i.order.kind then units i else 0)) queue
    (All-weaker (λ (i : Positioned). Splits side after p i.order.kind)
    (λ (i : Positioned). (if accepts side i.order.kind p then units i else 0) ≡ (if counted side after i.order.kind then units i else 0) + (if same_kind (Limit p) i.order.kind then units i else 0))
    (λ i h. h (units i)) queue each) in
    let parts = sum-add (λ (i : Positioned). if counted side after i.order.kind then units i else 0) (λ (i : Positioned). if same_kind (Limit p) i.order.kind then units i else 0) queue in
    let own = sum-filter units (λ (i : Positioned). same_kind (Limit p) i.order.kind) queue in
    let are = next.units_are in
    omega (arith, same, parts, own, are, units_to-is phase side after orders)

-- ---- there are fewer levels left
later_on : (side : Side) (after : Option ℕ) (p q : ℕ) → later side after p ≡ true → later side (Some p) q ≡ true → later side after q ≡ true
later_on side None p q l h = refl
later_on side (Some a) p q l h =
    not_from_false (reaches side q a) (false_from_ne_true (reaches side q a)
    (λ e. no_further (reaches side p q) refl e)) where
      no_further : (b : Bool) → reaches side p q ≡ b → reaches side q a ≡ true → ⊥
      no_further true f e = both_ways (reaches side p a) (not-true (reaches side p a) l) (reaches-on side p q a f e)
      no_further false f e = both_ways (reaches side q p) (not-true (reaches side q p) h) (reaches-other side p q f)

one_more : (a b : Bool) → a ≡ false → b ≡ true → (if a then 1 else 0) + 1 ≤ (if b then 1 else 0)
one_more true b e f = absurd (cc)
one_more false true e f = omega arith
one_more false false e f = absurd (cc)

pub fewer-left : (phase : Phase) (side : Side) (after : Option ℕ) (orders : List Order) (p n : ℕ) → IsNext side after (active phase side orders) p n
    → orders_left phase side (Some p) orders < orders_left phase side after orders
fewer-left phase side after orders p n next =
    let ps = limits (active phase side orders) in
    let at = next.there in
    let gap = sum-gap (λ (q : ℕ). if later side (Some p) q then 1 else 0) (λ (q : ℕ). if later side after q then 1 else 0) 1
    (λ q. if_le (later side (Some p) q) (later side after q) 1 (later_on side after p q next.behind)) ps p
    (one_more (later side (Some p) p) (later side after p) (not_from_true (reaches side p p) (reaches-itself side p)) next.behind) at.0 at.1 at.2 in
    omega (arith, gap)
