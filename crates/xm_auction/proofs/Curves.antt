-- The units of a side at prices that its levels reach, and what a depth says of them.
use Rattle.std.proofs.Common.{◌≡◌, ℕ, ◌+◌, ◌*◌, ◌<◌, ◌≤◌, Bool, true, false, if◌then◌else◌, List, [], ◌∷◌, length, All, Contains, Option, Some, None, sum_by, refl, ap, sym, ◌∙◌, subst, arith, ◌⊎◌, inl, inr, ◌++◌}
use Rattle.std.specs.List.{list_all}
use Rattle.std.specs.Prelude.{IfSome}
use Rattle.std.proofs.lemmas.Bool.{both_ways, not_from_false, false_from_ne_true, and_parts}
use Rattle.std.proofs.lemmas.List.Elements.{All-contains, All-filter, All-weaker, Contains-append_cases, Contains-append_left, Contains-append_right, filter_map-append}
use Rattle.std.proofs.lemmas.List.Sums.{AllPass-from_list_all, sum_by-cons, sum_by-le-sum_by}
use Rattle.xm_auction.specs.Depths.{depth_at, reaches_price}
use Rattle.xm_auction.specs.declared.depth.Depth.{Depth}
use Rattle.xm_slots.proofs.Members.{Contains-none, IsGiven-filter_map}
use Rattle.xm_book.specs.Curves.{later, orders_left, units_to}
use Rattle.xm_book.specs.Queues.{level_after, market_sum}
use Rattle.xm_book.proofs.Bests.{reaches-on, reaches-other}
use Rattle.xm_book.proofs.Curves.{IsNext, Nexts, counted, fewer-left, kinds_have, next-adds, nexts, units_to-is}
use Rattle.xm_rules.specs.Active.{Positioned, active, is_active_on, limits, positioned_from}
use Rattle.xm_rules.specs.Auction.{accepting, candidates}
use Rattle.xm_rules.specs.Commands.{is_in_range}
use Rattle.xm_rules.specs.Orders.{accepts, limit_of}
use Rattle.xm_rules.specs.Sides.{opposite, reaches}
use Rattle.xm_rules.specs.declared.orders.Order.{Order}
use Rattle.xm_rules.specs.declared.orders.OrderKind.{OrderKind}
use Rattle.xm_rules.specs.declared.orders.OrderKind.TheVariants.{Market, Limit}
use Rattle.xm_rules.specs.declared.orders.Side.{Side}
use Rattle.xm_rules.specs.declared.orders.Side.TheVariants.{Buy, Sell}
use Rattle.xm_rules.specs.declared.phases.Phase.{Phase}
use Rattle.xm_rules.proofs.Orderings.{sum-filter}
use Rattle.xm_rules.proofs.Queues.{units, if_le}
use Rattle.xm_rules.proofs.Ranges.{range_high, range_low}
use Rattle.xm_rules.proofs.Remaining.{each_positioned}
use Rattle.xm_rules.proofs.Sums.{sum-gap, sum-le}
use Rattle.xm_ticks.specs.declared.numbers.TheConstants.{MAX_QUANTITY}

pub opposite-reaches : (side : Side) (p q : ℕ) → reaches (opposite side) p q ≡ reaches side q p
opposite-reaches Buy p q = refl
opposite-reaches Sell p q = refl

pub opposite-twice : (side : Side) → opposite (opposite side) ≡ side
opposite-twice Buy = refl
opposite-twice Sell = refl

-- ---- the units at other prices
counted_on : (side : Side) (after : Option ℕ) (k : OrderKind) (x : ℕ) → reaches_price side after x ≡ true → counted side after k ≡ true → accepts side k x ≡ true
counted_on side None Market x r c = refl
counted_on side None (Limit q) x r c = absurd (cc)
counted_on side (Some a) Market x r c = refl
counted_on side (Some a) (Limit q) x r c = reaches-on side q a x c r

-- no fewer accept a price that a limit reaches
pub reached-more : (phase : Phase) (side : Side) (after : Option ℕ) (orders : List Order) (x : ℕ) → reaches_price side after x ≡ true
    → units_to phase side after orders ≤ accepting phase orders side x
reached-more phase side after orders x r =
    let more = sum_by-le-sum_by (λ (i : Positioned). if counted side after i.order.kind then units i else 0) (λ (i : Positioned). if accepts side i.order.kind x then units i else 0) (active phase side orders)
    (λ i. if_le (counted side after i.order.kind) (accepts side i.order.kind x) (units i) (counted_on side after i.order.kind x r)) in
    omega (arith, units_to-is phase side after orders, more)

-- the next level reaches a price
abbrev pub next_reaches : Side → Option (ℕ × ℕ) → ℕ → Bool
next_reaches side None x = false
next_reaches side (Some level) x = reaches side level.0 x

abbrev pub Counts : Side → Option ℕ → ℕ → OrderKind → Type 0
Counts side after x k = accepts side k x ≡ true → counted side after k ≡ true

counted_unless : (side : Side) (after : Option ℕ) (q x : ℕ) → (later side after q ≡ true → reaches side q x ≡ false) → Counts side after x (Limit q)
counted_unless side None q x h e = absurd (both_ways (reaches side q x) (h refl) e)
counted_unless side (Some a) q x h e = unless (reaches side q a) refl where
  unless : (b : Bool) → reaches side q a ≡ b → b ≡ true
  unless true f = refl
  unless false f = absurd (both_ways (reaches side q x) (h (not_from_false (reaches side q a) f)) e)

counted_market : (side : Side) (after : Option ℕ) (x : ℕ) → Counts side after x Market
counted_market side None x e = refl
counted_market side (Some a) x e = refl

beyond_first : (side : Side) (after : Option ℕ) (queue : List Positioned) (next : Option (ℕ × ℕ)) → Nexts side after queue next → (x : ℕ) → next_reaches side next x ≡ false
    → (q : ℕ) → Contains (limits queue) q → later side after q ≡ true → reaches side q x ≡ false
beyond_first side after queue None none x r q at l = absurd (none q at l)
beyond_first side after queue (Some level) next x r q at l =
    false_from_ne_true (reaches side q x) (λ e. both_ways (reaches side level.0 x) r (reaches-on side level.0 q x (next.first q at l) e))

-- no more accept a price than are counted, where each limit that does is counted
pub counted-no_more : (phase : Phase) (side : Side) (after : Option ℕ) (orders : List Order) (x : ℕ)
    → ((q : ℕ) → Contains (limits (active phase side orders)) q → Counts side after x (Limit q)) → accepting phase orders side x ≤ units_to phase side after orders
counted-no_more phase side after orders x limits_are =
    let queue = active phase side orders in
    let each : All (λ (i : Positioned). Counts side after x i.order.kind) queue = kinds_have (Counts side after x) queue (counted_market side after x) limits_are in
    let no_more = sum-le (λ (i : Positioned). if accepts side i.order.kind x then units i else 0) (λ (i : Positioned). if counted side after i.order.kind then units i else 0) queue
    (All-weaker (λ (i : Positioned). Counts side after x i.order.kind)
    (λ (i : Positioned). (if accepts side i.order.kind x then units i else 0) ≤ (if counted side after i.order.kind then units i else 0))
    (λ i h. if_le (accepts side i.order.kind x) (counted side after i.order.kind) (units i) h) queue each) in
    omega (arith, units_to-is phase side after orders, no_more)

-- no more accept a price that the next level doesn't reach
pub unreached-no_more : (phase : Phase) (side : Side) (after : Option ℕ) (orders : List Order) (x : ℕ) → next_reaches side (level_after phase side after orders) x ≡ false
    → accepting phase orders side x ≤ units_to phase side after orders
unreached-no_more phase side after orders x r =
    counted-no_more phase side after orders x
    (λ q at. counted_unless side after q x (beyond_first side after (active phase side orders) (level_after phase side after orders) (nexts phase side after orders) x r q at))

-- ---- the units of a book
abbrev IsRest : Order → Bool
IsRest o = is_in_range o.rest

rests_sum : (orders : List Order) → list_all (λ (o : Order). is_in_range o.rest) orders ≡ true → sum_by (λ (o : Order). o.rest) orders ≤ MAX_QUANTITY * length orders
rests_sum [] h = omega arith
rests_sum (o ∷ os) h =
    let parts = and_parts (is_in_range o.rest) (list_all (λ (o : Order). is_in_range o.rest) os) h in
    omega (arith, sum_by-cons (λ (o : Order). o.rest) o os, rests_sum os parts.1, range_high o.rest parts.0)

placed_sum : (n : ℕ) (orders : List Order) → sum_by units (positioned_from n orders) ≡ sum_by (λ (o : Order). o.rest) orders
placed_sum n [] = refl
placed_sum n (o ∷ os) =
    omega (arith, sum_by-cons units (record { position = n; order = o }) (positioned_from (n + 1) os), sum_by-cons (λ (o : Order). o.rest) o os, placed_sum (n + 1) os)

if_some : (b : Bool) (n : ℕ) → (if b then n else 0) ≤ n
if_some true n = omega arith
if_some false n = omega arith

-- a side has no more units than all rests together
pub accepting-bounded : (phase : Phase) (orders : List Order) (side : Side) (x : ℕ) → list_all (λ (o : Order). is_in_range o.rest) orders ≡ true
    → accepting phase orders side x ≤ MAX_QUANTITY * length orders
accepting-bounded phase orders side x h =
    let queue = active phase side orders in
    let all = positioned_from 0 orders in
    let some = sum_by-le-sum_by (λ (i : Positioned). if accepts side i.order.kind x then units i else 0) units queue (λ i. if_some (accepts side i.order.kind x) (units i)) in
    let of_active = sum-filter units (is_active_on phase side) all in
    let less = sum_by-le-sum_by (λ (i : Positioned). if is_active_on phase side i then units i else 0) units all (λ i. if_some (is_active_on phase side i) (units i)) in
    omega (arith, some, of_active, less, placed_sum 0 orders, rests_sum orders h)

some_more : (a b : Bool) (n : ℕ) → a ≡ false → b ≡ true → 0 < n → (if a then n else 0) + 1 ≤ (if b then n else 0)
some_more true b n e f l = absurd (cc)
some_more false true n e f l = omega (arith, l)
some_more false false n e f l = absurd (cc)

limit_more : (side : Side) (q x y : ℕ) (k : OrderKind) (n : ℕ) → limit_of k ≡ Some q → reaches side q x ≡ false → reaches side q y ≡ true → 0 < n
    → (if accepts side k x then n else 0) + 1 ≤ (if accepts side k y then n else 0)
limit_more side q x y Market n e r s l = absurd (cc)
limit_more side q x y (Limit p) n e r s l =
    let same : q ≡ p = cc in
    subst (λ (m : ℕ). (if reaches side m x then n else 0) + 1 ≤ (if reaches side m y then n else 0)) same (some_more (reaches side q x) (reaches side q y) n r s l)

-- fewer accept a price that a limit doesn't reach than one that it reaches, since each rest has units
pub limit-adds : (phase : Phase) (orders : List Order) (side : Side) (q x y : ℕ) → list_all (λ (o : Order). is_in_range o.rest) orders ≡ true
    → Contains (limits (active phase side orders)) q → reaches side q x ≡ false → reaches side q y ≡ true → accepting phase orders side x < accepting phase orders side y
limit-adds phase orders side q x y h at r s =
    let queue = active phase side orders in
    let has_units = λ (i : Positioned). is_in_range i.order.rest ≡ true in
    let each = All-filter (is_active_on phase side) has_units (positioned_from 0 orders)
    (each_positioned (λ (o : Order). is_in_range o.rest ≡ true) 0 orders (AllPass-from_list_all (λ (o : Order). is_in_range o.rest) orders h)) in
    let one = IsGiven-filter_map (λ (i : Positioned). limit_of i.order.kind) queue q at in
    let there = one.contains in
    let some = range_low (units one.from) (All-contains has_units queue one.from each there) in
    let gap = sum-gap (λ (i : Positioned). if accepts side i.order.kind x then units i else 0) (λ (i : Positioned). if accepts side i.order.kind y then units i else 0) 1
    (λ i. if_le (accepts side i.order.kind x) (accepts side i.order.kind y) (units i) (counted_on side (Some x) i.order.kind y (reaches-on side x q y (reaches-other side q x r) s)))
    queue one.from (limit_more side q x y one.from.order.kind (units one.from) one.given r s some) there.0 there.1 there.2 in
    omega (arith, gap)

next_of : (phase : Phase) (d : Depth) (orders : List Order) (level : ℕ × ℕ) → d ≡ depth_at phase d.side d.limit orders → d.next ≡ Some level → IsNext d.side d.limit (active phase d.side orders) level.0 level.1
next_of phase d orders level is next =
    subst (Nexts d.side d.limit (active phase d.side orders)) (sym (ap (λ (e : Depth). e.next) is) ∙ next) (nexts phase d.side d.limit orders)

pub next-units : (phase : Phase) (d : Depth) (orders : List Order) (level : ℕ × ℕ) → d ≡ depth_at phase d.side d.limit orders → d.next ≡ Some level
    → d.units + level.1 ≡ accepting phase orders d.side level.0
next-units phase d orders level is next =
    let units = ap (λ (e : Depth). e.units) is in
    omega (arith, units, next-adds phase d.side d.limit orders level.0 level.1 (next_of phase d orders level is next))

-- ---- one step along a curve
pub unreached-below : (phase : Phase) (d : Depth) (orders : List Order) (o : Option (ℕ × ℕ)) → d ≡ depth_at phase d.side d.limit orders → d.next ≡ o → (x : ℕ)
    → next_reaches d.side o x ≡ false → accepting phase orders d.side x ≤ d.units
unreached-below phase d orders o is next x r =
    let after : level_after phase d.side d.limit orders ≡ o = sym (ap (λ (e : Depth). e.next) is) ∙ next in
    let units = ap (λ (e : Depth). e.units) is in
    omega (arith, units, unreached-no_more phase d.side d.limit orders x (ap (λ (n : Option (ℕ × ℕ)). next_reaches d.side n x) after ∙ r))

pub reached-above : (phase : Phase) (d : Depth) (orders : List Order) → d ≡ depth_at phase d.side d.limit orders → (x : ℕ) → reaches_price d.side d.limit x ≡ true
    → d.units ≤ accepting phase orders d.side x
reached-above phase d orders is x r = let units = ap (λ (e : Depth). e.units) is in omega (arith, units, reached-more phase d.side d.limit orders x r)

pub fewer-next : (phase : Phase) (d e : Depth) (orders : List Order) (level : ℕ × ℕ) → d ≡ depth_at phase d.side d.limit orders → d.next ≡ Some level
    → e ≡ depth_at phase d.side (Some level.0) orders → orders_left phase e.side e.limit orders < orders_left phase d.side d.limit orders
fewer-next phase d e orders level is next made =
    subst (λ (f : Depth). orders_left phase f.side f.limit orders < orders_left phase d.side d.limit orders) (sym made)
    (fewer-left phase d.side d.limit orders level.0 level.1 (next_of phase d orders level is next))

pub depth-made : (phase : Phase) (side : Side) (limit : Option ℕ) (e : Depth) (orders : List Order) → e ≡ depth_at phase side limit orders → e ≡ depth_at phase e.side e.limit orders
depth-made phase side limit e orders made = subst (λ (f : Depth). f ≡ depth_at phase f.side f.limit orders) (sym made) refl

pub short-none : (phase : Phase) (side : Side) (d : Depth) (orders : List Order) (units : ℕ) → d.side ≡ side → d ≡ depth_at phase d.side d.limit orders → d.next ≡ None → d.units < units
    → (x : ℕ) → accepting phase orders side x < units
short-none phase side d orders units same is none short =
    subst (λ (s : Side). (x : ℕ) → accepting phase orders s x < units) same (λ x. omega (arith, unreached-below phase d orders None is none x refl))

pub short-more : (phase : Phase) (d e : Depth) (orders : List Order) (units : ℕ) (level : ℕ × ℕ) → d ≡ depth_at phase d.side d.limit orders → d.next ≡ Some level → d.units < units
    → e ≡ depth_at phase d.side (Some level.0) orders → (x : ℕ) → reaches_price e.side e.limit x ≡ false → accepting phase orders e.side x < units
short-more phase d e orders units level is next short made =
    subst (λ (f : Depth). (x : ℕ) → reaches_price f.side f.limit x ≡ false → accepting phase orders f.side x < units) (sym made)
    (λ x r. omega (arith, unreached-below phase d orders (Some level) is next x r))

-- ---- the limits of both sides are the candidates
candidates-are : (phase : Phase) (orders : List Order) → candidates phase orders ≡ limits (active phase Buy orders) ++ limits (active phase Sell orders)
candidates-are phase orders = filter_map-append (λ (i : Positioned). limit_of i.order.kind) (active phase Buy orders) (active phase Sell orders)

pub candidate : (phase : Phase) (orders : List Order) (side : Side) (p : ℕ) → Contains (limits (active phase side orders)) p → Contains (candidates phase orders) p
candidate phase orders Buy p at =
    subst (λ (ps : List ℕ). Contains ps p) (sym (candidates-are phase orders)) (Contains-append_left (limits (active phase Buy orders)) (limits (active phase Sell orders)) p at)
candidate phase orders Sell p at =
    subst (λ (ps : List ℕ). Contains ps p) (sym (candidates-are phase orders)) (Contains-append_right (limits (active phase Buy orders)) (limits (active phase Sell orders)) p at)

turned : {X Y : Type 0} → X ⊎ Y → Y ⊎ X
turned (inl x) = inr x
turned (inr y) = inl y

pub of-candidate : (phase : Phase) (orders : List Order) (side : Side) (p : ℕ) → Contains (candidates phase orders) p
    → Contains (limits (active phase side orders)) p ⊎ Contains (limits (active phase (opposite side) orders)) p
of-candidate phase orders Buy p at =
    Contains-append_cases (limits (active phase Buy orders)) (limits (active phase Sell orders)) p (subst (λ (ps : List ℕ). Contains ps p) (candidates-are phase orders) at)
of-candidate phase orders Sell p at =
    turned (Contains-append_cases (limits (active phase Buy orders)) (limits (active phase Sell orders)) p (subst (λ (ps : List ℕ). Contains ps p) (candidates-are phase orders) at))

pub next-candidate : (phase : Phase) (d : Depth) (orders : List Order) (level : ℕ × ℕ) → d ≡ depth_at phase d.side d.limit orders → d.next ≡ Some level → Contains (candidates phase orders) level.0
next-candidate phase d orders level is next = candidate phase orders d.side level.0 (next_of phase d orders level is next).there

pub limit-made : (phase : Phase) (side : Side) (p : ℕ) (e : Depth) (orders : List Order) → Contains (candidates phase orders) p → e ≡ depth_at phase side (Some p) orders
    → IfSome e.limit (Contains (candidates phase orders))
limit-made phase side p e orders at made = subst (λ (f : Depth). IfSome f.limit (Contains (candidates phase orders))) (sym made) at

-- ---- where no order has a limit, each price is accepted by the market orders
no_level : (phase : Phase) (side : Side) (orders : List Order) → candidates phase orders ≡ [] → (o : Option (ℕ × ℕ)) → Nexts side None (active phase side orders) o → o ≡ None
no_level phase side orders none None next = refl
no_level phase side orders none (Some level) next =
    absurd (Contains-none level.0 (subst (λ (ps : List ℕ). Contains ps level.0) none (candidate phase orders side level.0 next.there)))

pub market-alone : (phase : Phase) (side : Side) (orders : List Order) → candidates phase orders ≡ [] → (x : ℕ) → accepting phase orders side x ≡ market_sum phase side orders
market-alone phase side orders none x =
    let level = no_level phase side orders none (level_after phase side None orders) (nexts phase side None orders) in
    omega (arith, unreached-no_more phase side None orders x (ap (λ (o : Option (ℕ × ℕ)). next_reaches side o x) level), reached-more phase side None orders x refl)
