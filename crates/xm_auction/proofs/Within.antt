-- The units of a side within a bound.
use Rattle.std.proofs.Common.{◌≡◌, ℕ, ◌+◌, ◌*◌, ◌≤◌, true, false, ◌&&◌, if◌then◌else◌, List, filter, Contains, Option, Some, None, refl, ap, sym, ◌∙◌, subst, arith, min}
use Rattle.std.specs.Prelude.{IfSome, nat_le, nat_lt}
use Rattle.std.proofs.lemmas.Bool.{both_ways, false_from_ne_true}
use Rattle.std.proofs.lemmas.Bool.Decides.{nat_tests}
use Rattle.xm_auction.specs.Depths.{depth_at, reaches_price}
use Rattle.xm_auction.specs.Narrowing.{IsDepthWithin, IsNextBound, edge, units_within}
use Rattle.xm_book.specs.Curves.{units_between, worst_within}
use Rattle.xm_book.specs.Fronts.{is_limited_in}
use Rattle.xm_ladders.specs.Ladder.{is_within}
use Rattle.xm_price_maps.specs.Sums.{places_of}
use Rattle.xm_auction.specs.declared.depth.Depth.{Depth}
use Rattle.xm_price_maps.specs.declared.sums.GroupWidth.{GroupWidth}
use Rattle.xm_auction.proofs.Curves.{Counts, counted-no_more, opposite-reaches, reached-more}
use Rattle.xm_book.specs.Curves.{units_to}
use Rattle.xm_book.specs.Queues.{level_after, market_sum}
use Rattle.xm_book.proofs.Bests.{Bests, best-says, reaches-on}
use Rattle.xm_book.proofs.Curves.{Nexts, nexts}
use Rattle.xm_rules.specs.Active.{Positioned, active, limits}
use Rattle.xm_rules.specs.Auction.{accepting}
use Rattle.xm_rules.specs.Orders.{accepts}
use Rattle.xm_rules.specs.Sides.{opposite, reaches}
use Rattle.xm_rules.specs.declared.orders.Order.{Order}
use Rattle.xm_rules.specs.declared.orders.OrderKind.{OrderKind}
use Rattle.xm_rules.specs.declared.orders.OrderKind.TheVariants.{Market, Limit}
use Rattle.xm_rules.specs.declared.orders.Side.{Side}
use Rattle.xm_rules.specs.declared.orders.Side.TheVariants.{Buy, Sell}
use Rattle.xm_rules.specs.declared.phases.Phase.{Phase}
use Rattle.xm_rules.proofs.Orderings.{sum-filter}
use Rattle.xm_rules.proofs.Queues.{units}
use Rattle.xm_rules.proofs.Sums.{sum-add, sum-each}
use Rattle.xm_slots.proofs.Members.{Contains-filter, Passes-filter}

-- a limit lies within a bound where it reaches its edge
pub within-reaches : (side : Side) (bound q : ℕ) → is_within side bound q ≡ reaches side q (edge side bound)
within-reaches Buy bound q = grind (arith, nat_tests)
within-reaches Sell bound q = refl

-- the units that accept a price accept each that it reaches
pub accepted-more : (phase : Phase) (orders : List Order) (side : Side) (x y : ℕ) → reaches side x y ≡ true → accepting phase orders side x ≤ accepting phase orders side y
accepted-more phase orders side x y r = reached-more phase side (Some x) orders y r

-- ---- with a group more
buys_within : (low n q u : ℕ) → (if nat_le (low + 1) q then u else 0) ≡ (if nat_le ((low + n) + 1) q then u else 0) + (if nat_lt low q && nat_le q (low + n) then u else 0)
buys_within low n q u = grind (arith, nat_tests)

sells_within : (low n q u : ℕ) → (if nat_le q (low + n) then u else 0) ≡ (if nat_le q low then u else 0) + (if nat_lt low q && nat_le q (low + n) then u else 0)
sells_within low n q u = grind (arith, nat_tests)

-- the bound after a group of so many prices above a price, and the one before it
abbrev after_group : Side → ℕ → ℕ → ℕ
after_group Buy low n = low
after_group Sell low n = low + n

abbrev before_group : Side → ℕ → ℕ → ℕ
before_group Buy low n = low + n
before_group Sell low n = low

kind_within : (side : Side) (low n : ℕ) (k : OrderKind) (u : ℕ)
    → (if accepts side k (edge side (after_group side low n)) then u else 0) ≡ (if accepts side k (edge side (before_group side low n)) then u else 0) + (if is_limited_in low n k then u else 0)
kind_within side low n Market u = omega arith
kind_within Buy low n (Limit q) u = buys_within low n q u
kind_within Sell low n (Limit q) u = sells_within low n q u

group_adds : (phase : Phase) (orders : List Order) (side : Side) (low n : ℕ)
    → units_within phase side (after_group side low n) orders ≡ units_within phase side (before_group side low n) orders + units_between phase side low n orders
group_adds phase orders side low n =
    let queue = active phase side orders in
    let before = λ (i : Positioned). if accepts side i.order.kind (edge side (before_group side low n)) then units i else 0 in
    let group = λ (i : Positioned). if is_limited_in low n i.order.kind then units i else 0 in
    let same = sum-each (λ (i : Positioned). if accepts side i.order.kind (edge side (after_group side low n)) then units i else 0) (λ (i : Positioned). before i + group i) queue
    (λ i. kind_within side low n i.order.kind (units i)) in
    omega (arith, same, sum-add before group queue, sum-filter units (λ (i : Positioned). is_limited_in low n i.order.kind) queue)

next_low : (g next n : ℕ) → g ≡ next + 1 → g * n ≡ next * n + n
next_low g next n e = subst (λ (h : ℕ). h * n ≡ next * n + n) (sym e) (omega arith)

-- the units within the next bound
pub bound-adds : (phase : Phase) (orders : List Order) (side : Side) (width : GroupWidth) (g next : ℕ) → IsNextBound side g next
    → units_within phase side (next * places_of width) orders ≡ units_within phase side (g * places_of width) orders + units_between phase side (min next g * places_of width) (places_of width) orders
bound-adds phase orders Buy width g next e =
    let first : min next g ≡ next = omega (arith, e) in
    rw (next_low g next (places_of width) e, first) (group_adds phase orders Buy (next * places_of width) (places_of width))
bound-adds phase orders Sell width g next e =
    let first : min next g ≡ g = omega (arith, e) in
    rw (next_low next g (places_of width) e, first) (group_adds phase orders Sell (g * places_of width) (places_of width))

-- ---- before the best limit
none_before : (side : Side) (queue : List Positioned) (bound : ℕ) (o : Option (ℕ × ℕ)) → Nexts side None queue o → IfSome o (λ level. is_within side bound level.0 ≡ false)
    → (q : ℕ) → Contains (limits queue) q → is_within side bound q ≡ false
none_before side queue bound None none w q at = absurd (none q at refl)
none_before side queue bound (Some level) next w q at =
    false_from_ne_true (is_within side bound q)
    (λ e. both_ways (is_within side bound level.0) w
    (within-reaches side bound level.0 ∙ reaches-on side level.0 q (edge side bound) (next.first q at refl) (sym (within-reaches side bound q) ∙ e)))

-- no limit lies within a bound that the best one doesn't lie within
pub before-none : (phase : Phase) (orders : List Order) (side : Side) (d : Depth) → d ≡ depth_at phase side None orders → (bound : ℕ)
    → IfSome d.next (λ level. is_within side bound level.0 ≡ false) → (q : ℕ) → Contains (limits (active phase side orders)) q → is_within side bound q ≡ false
before-none phase orders side d made bound w =
    none_before side (active phase side orders) bound (level_after phase side None orders) (nexts phase side None orders)
    (subst (λ (o : Option (ℕ × ℕ)). IfSome o (λ level. is_within side bound level.0 ≡ false)) (ap (λ (e : Depth). e.next) made) w)

-- and the units within it are those of the market orders
pub before-units : (phase : Phase) (orders : List Order) (side : Side) (bound : ℕ) → ((q : ℕ) → Contains (limits (active phase side orders)) q → is_within side bound q ≡ false)
    → market_sum phase side orders ≡ units_within phase side bound orders
before-units phase orders side bound none =
    let x = edge side bound in
    let no_more = counted-no_more phase side None orders x (λ q at e. absurd (both_ways (is_within side bound q) (none q at) (within-reaches side bound q ∙ e))) in
    omega (arith, no_more, reached-more phase side None orders x refl)

-- ---- down to the worst limit within a bound
worst_reaches : (side : Side) (ps : List ℕ) (bound : ℕ) (o : Option ℕ) → Bests (opposite side) (filter (is_within side bound) ps) o → reaches_price side o (edge side bound) ≡ true
worst_reaches side ps bound None none = refl
worst_reaches side ps bound (Some w) h = sym (within-reaches side bound w) ∙ (Passes-filter (is_within side bound) ps w h.there).passes

worst_counts : (side : Side) (ps : List ℕ) (bound : ℕ) (o : Option ℕ) → Bests (opposite side) (filter (is_within side bound) ps) o → (q : ℕ) → Contains ps q
    → Counts side o (edge side bound) (Limit q)
worst_counts side ps bound None none q at e = absurd (none q (Contains-filter (is_within side bound) ps q (within-reaches side bound q ∙ e) at))
worst_counts side ps bound (Some w) h q at e =
    sym (opposite-reaches side w q) ∙ h.reaches_all q (Contains-filter (is_within side bound) ps q (within-reaches side bound q ∙ e) at)

pub worst-units : (phase : Phase) (orders : List Order) (side : Side) (bound : ℕ) (o : Option ℕ) → worst_within phase side bound orders ≡ o
    → units_to phase side o orders ≡ units_within phase side bound orders
worst-units phase orders side bound o e =
    let ps = limits (active phase side orders) in
    let says = best-says (opposite side) (filter (is_within side bound) ps) o e in
    let no_more = counted-no_more phase side o orders (edge side bound) (worst_counts side ps bound o says) in
    omega (arith, no_more, reached-more phase side o orders (edge side bound) (worst_reaches side ps bound o says))

-- the worst limit within a bound is a limit, and lies within it
pub worst-is : (phase : Phase) (orders : List Order) (side : Side) (bound w : ℕ) → worst_within phase side bound orders ≡ Some w
    → Contains (limits (active phase side orders)) w × (is_within side bound w ≡ true)
worst-is phase orders side bound w e =
    let ps = limits (active phase side orders) in
    let says = best-says (opposite side) (filter (is_within side bound) ps) (Some w) e in
    let p = Passes-filter (is_within side bound) ps w says.there in
    (p.contains, p.passes)

-- the depth down to it is that of the units within the bound
pub depth-within : (phase : Phase) (orders : List Order) (side : Side) (bound w units : ℕ) (next : Option (ℕ × ℕ)) → worst_within phase side bound orders ≡ Some w
    → units ≡ units_within phase side bound orders → next ≡ level_after phase side (Some w) orders
    → IsDepthWithin phase orders side bound (record { side = side; limit = Some w; units = units; next = next })
depth-within phase orders side bound w units next e are after =
    let same : units ≡ units_to phase side (Some w) orders = are ∙ sym (worst-units phase orders side bound (Some w) e) in
    record {
      depth = λ i. record { side = side; limit = Some w; units = same i; next = after i };
      units_are = are;
      limit = worst-is phase orders side bound w e;
    }

-- and so is the depth of the market orders, where there is no such limit, or where they have the units within the bound
pub market-within : (phase : Phase) (orders : List Order) (side : Side) (bound : ℕ) (d : Depth) → d ≡ depth_at phase side None orders → d.units ≡ units_within phase side bound orders
    → IsDepthWithin phase orders side bound d
market-within phase orders side bound d made are =
    let none : d.limit ≡ None = ap (λ (e : Depth). e.limit) made in
    record {
      depth = subst (λ (o : Option ℕ). d ≡ depth_at phase side o orders) (sym none) made;
      units_are = are;
      limit = subst (λ (o : Option ℕ). IfSome o (λ p. Contains (limits (active phase side orders)) p × (is_within side bound p ≡ true))) (sym none) tt;
    }

pub none-within : (phase : Phase) (orders : List Order) (side : Side) (bound : ℕ) (d : Depth) → d ≡ depth_at phase side None orders → worst_within phase side bound orders ≡ None
    → IsDepthWithin phase orders side bound d
none-within phase orders side bound d made none =
    market-within phase orders side bound d made (ap (λ (e : Depth). e.units) made ∙ worst-units phase orders side bound None none)
