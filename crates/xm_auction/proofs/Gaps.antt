-- The bounds of a side and of the other approach each other.
use Rattle.std.proofs.Common.{◌≡◌, ℕ, ◌+◌, ◌*◌, ◌/◌, ◌<◌, ◌≤◌, true, false, List, Contains, Option, Some, None, refl, ap, sym, ◌∙◌, subst, arith}
use Rattle.std.specs.List.{list_all}
use Rattle.std.specs.Prelude.{IfSome, nat_le, nat_lt}
use Rattle.std.proofs.lemmas.Bool.{both_ways}
use Rattle.std.proofs.lemmas.Bool.Decides.{nat_tests}
use Rattle.xm_auction.specs.Crossings.{IsStart}
use Rattle.xm_auction.specs.Depths.{depth_at, reaches_price}
use Rattle.xm_auction.specs.Narrowing.{IsBeforeBest, IsBound, IsDepthWithin, IsGap, IsNarrowed, IsNext, IsNextWider, IsShort, edge, units_within}
use Rattle.xm_ladders.specs.Ladder.{is_within}
use Rattle.xm_price_maps.specs.Sums.{groups_of, places_of}
use Rattle.xm_auction.specs.declared.depth.Depth.{Depth}
use Rattle.xm_auction.specs.declared.bound.Bound.{Bound}
use Rattle.xm_auction.specs.declared.bound.TheConstants.{GROUPS_IN_WIDER}
use Rattle.xm_auction.specs.declared.narrowing.Gap.{Gap}
use Rattle.xm_price_maps.specs.declared.sums.GroupWidth.{GroupWidth}
use Rattle.xm_price_maps.specs.declared.sums.GroupWidth.TheVariants.{Narrow, Middle, Wide}
use Rattle.xm_auction.proofs.Curves.{candidate, limit-adds, opposite-reaches, opposite-twice, reached-more}
use Rattle.xm_auction.proofs.Within.{accepted-more, before-none, before-units, within-reaches}
use Rattle.xm_book.proofs.Bests.{reaches-on, reaches-other}
use Rattle.xm_rules.specs.Active.{active, limits}
use Rattle.xm_rules.specs.Auction.{accepting, candidates}
use Rattle.xm_rules.specs.Commands.{is_in_range}
use Rattle.xm_rules.specs.Sides.{opposite, reaches}
use Rattle.xm_rules.specs.declared.orders.Order.{Order}
use Rattle.xm_rules.specs.declared.orders.Side.{Side}
use Rattle.xm_rules.specs.declared.orders.Side.TheVariants.{Buy, Sell}
use Rattle.xm_rules.specs.declared.phases.Phase.{Phase}
use Rattle.xm_ticks.specs.declared.numbers.TheConstants.{MAX_PRICE}

-- ---- the order of bounds
no_lower : (width : GroupWidth) (g h : ℕ) → nat_le g h ≡ true → nat_le (g * places_of width) (h * places_of width) ≡ true
no_lower Narrow g h e = grind (arith, nat_tests)
no_lower Middle g h e = grind (arith, nat_tests)
no_lower Wide g h e = grind (arith, nat_tests)

bounds_reach : (side : Side) (width : GroupWidth) (g h : ℕ) → reaches side g h ≡ true → reaches side (g * places_of width) (h * places_of width) ≡ true
bounds_reach Buy width g h e = no_lower width h g e
bounds_reach Sell width g h e = no_lower width g h e

buy_reaches : (a b q : ℕ) → nat_le b a ≡ true → nat_le q b ≡ true → nat_le q (a + 1) ≡ true
buy_reaches a b q e w = grind (arith, nat_tests)

sell_reaches : (a b q : ℕ) → nat_le a b ≡ true → nat_lt b q ≡ true → nat_le a q ≡ true
sell_reaches a b q e w = grind (arith, nat_tests)

-- where a bound is no further than one of the other side, its edge reaches each limit within that
edge_reaches : (side : Side) (a b q : ℕ) → reaches side a b ≡ true → is_within (opposite side) b q ≡ true → reaches side (edge side a) q ≡ true
edge_reaches Buy a b q e w = buy_reaches a b q e w
edge_reaches Sell a b q e w = sell_reaches a b q e w

buy_within : (a b x : ℕ) → nat_le b a ≡ true → nat_le (a + 1) x ≡ true → nat_le b x ≡ true
buy_within a b x e w = grind (arith, nat_tests)

sell_within : (a b x : ℕ) → nat_le a b ≡ true → nat_le x a ≡ true → nat_le x (b + 1) ≡ true
sell_within a b x e w = grind (arith, nat_tests)

-- and the other side's edge reaches each price that reaches its own
other_edge_reaches : (side : Side) (a b x : ℕ) → reaches side a b ≡ true → reaches side x (edge side a) ≡ true → reaches (opposite side) (edge (opposite side) b) x ≡ true
other_edge_reaches Buy a b x e w = buy_within a b x e w
other_edge_reaches Sell a b x e w = sell_within a b x e w

-- ---- before the best limits
pub side-made : (phase : Phase) (orders : List Order) (side : Side) (d : Depth) → d ≡ depth_at phase side None orders → d ≡ depth_at phase d.side None orders
side-made phase orders side d made = subst (λ (e : Depth). e ≡ depth_at phase e.side None orders) (sym made) refl

-- the number of the last bound before a limit, of which so many prices are below it
abbrev pub group_before : Side → GroupWidth → ℕ → ℕ
group_before Buy width below = below / places_of width + 1
group_before Sell width below = below / places_of width

before_in_range : (side : Side) (width : GroupWidth) (below : ℕ) → below < MAX_PRICE → group_before side width below < groups_of width
before_in_range Buy Narrow below l = omega (arith, l)
before_in_range Buy Middle below l = omega (arith, l)
before_in_range Buy Wide below l = omega (arith, l)
before_in_range Sell Narrow below l = omega (arith, l)
before_in_range Sell Middle below l = omega (arith, l)
before_in_range Sell Wide below l = omega (arith, l)

not_lower : (a b : ℕ) → b ≤ a → nat_lt a b ≡ false
not_lower a b l = grind (arith, nat_tests)

not_low : (a b : ℕ) → b < a → nat_le a b ≡ false
not_low a b l = grind (arith, nat_tests)

before_without : (side : Side) (width : GroupWidth) (below p : ℕ) → below + 1 ≡ p → is_within side (group_before side width below * places_of width) p ≡ false
before_without Buy Narrow below p e = not_lower ((below / 16 + 1) * 16) p (omega (arith, e))
before_without Buy Middle below p e = not_lower ((below / 256 + 1) * 256) p (omega (arith, e))
before_without Buy Wide below p e = not_lower ((below / 4096 + 1) * 4096) p (omega (arith, e))
before_without Sell Narrow below p e = not_low p (below / 16 * 16) (omega (arith, e))
before_without Sell Middle below p e = not_low p (below / 256 * 256) (omega (arith, e))
before_without Sell Wide below p e = not_low p (below / 4096 * 4096) (omega (arith, e))

without_next : (side : Side) (width : GroupWidth) (below : ℕ) (o : Option (ℕ × ℕ)) → IfSome o (λ level. below + 1 ≡ level.0)
    → IfSome o (λ level. is_within side (group_before side width below * places_of width) level.0 ≡ false)
without_next side width below None e = tt
without_next side width below (Some level) e = before_without side width below level.0 e

pub before-best : (phase : Phase) (orders : List Order) (width : GroupWidth) (d : Depth) → d ≡ depth_at phase d.side None orders → (below : ℕ) → below < MAX_PRICE
    → IfSome d.next (λ level. below + 1 ≡ level.0) → (group : ℕ) → group ≡ group_before d.side width below → IsBeforeBest phase orders d.side width (record { group = group; units = d.units })
before-best phase orders width d made below high best group is =
    let none = before-none phase orders d.side d made (group_before d.side width below * places_of width) (without_next d.side width below d.next best) in
    subst (λ (g : ℕ). IsBeforeBest phase orders d.side width (record { group = g; units = d.units })) (sym is) (record {
      bound = record {
        in_range = before_in_range d.side width below high;
        units_are = ap (λ (e : Depth). e.units) made ∙ before-units phase orders d.side (group_before d.side width below * places_of width) none;
      };
      none = none;
    })

pub narrowed-before : (phase : Phase) (orders : List Order) (side : Side) (wider width : GroupWidth) (wide b : Bound) → IsBeforeBest phase orders side width b → b.units ≡ wide.units
    → IsNarrowed phase orders side wider width wide b
narrowed-before phase orders side wider width wide b is same = record {
  bound = is.bound;
  same = same;
  within = λ q at w. absurd (both_ways (is_within side (b.group * places_of width) q) (is.none q at) w);
}

-- no group that has narrower ones has a high number
pub few-wider : (wider width : GroupWidth) → IsNextWider wider width → (g : ℕ) → g < groups_of wider → g < groups_of Middle
few-wider Narrow Narrow e g l = omega (arith, e)
few-wider Narrow Middle e g l = omega (arith, e)
few-wider Narrow Wide e g l = omega (arith, e)
few-wider Middle width e g l = l
few-wider Wide width e g l = omega (arith, l)

narrowed_range : (wider width : GroupWidth) → IsNextWider wider width → (g : ℕ) → g < groups_of wider → g * GROUPS_IN_WIDER < groups_of width
narrowed_range Narrow Narrow e g l = omega (arith, e)
narrowed_range Narrow Middle e g l = omega (arith, e)
narrowed_range Narrow Wide e g l = omega (arith, e)
narrowed_range Middle Narrow e g l = omega (arith, l)
narrowed_range Middle Middle e g l = omega (arith, e)
narrowed_range Middle Wide e g l = omega (arith, e)
narrowed_range Wide Narrow e g l = omega (arith, e)
narrowed_range Wide Middle e g l = omega (arith, l)
narrowed_range Wide Wide e g l = omega (arith, e)

narrowed_place : (wider width : GroupWidth) → IsNextWider wider width → (g : ℕ) → (g * GROUPS_IN_WIDER) * places_of width ≡ g * places_of wider
narrowed_place wider width e g = subst (λ (n : ℕ). (g * GROUPS_IN_WIDER) * places_of width ≡ g * n) (sym e) (omega arith)

pub narrowed-same : (phase : Phase) (orders : List Order) (side : Side) (wider width : GroupWidth) → IsNextWider wider width → (wide : Bound) → IsBound phase orders side wider wide
    → IsNarrowed phase orders side wider width wide (record { group = wide.group * GROUPS_IN_WIDER; units = wide.units })
narrowed-same phase orders side wider width e wide is =
    let here = narrowed_place wider width e wide.group in
    record {
      bound = record {
        in_range = narrowed_range wider width e wide.group is.in_range;
        units_are = is.units_are ∙ sym (ap (λ (n : ℕ). units_within phase side n orders) here);
      };
      same = refl;
      within = λ q at w. sym (ap (λ (n : ℕ). is_within side n q) here) ∙ w;
    }

pub gap-before : (phase : Phase) (orders : List Order) (own other : Depth) → own ≡ depth_at phase own.side None orders → other ≡ depth_at phase (opposite own.side) None orders
    → (b c : Bound) → IsBeforeBest phase orders own.side Wide b → IsBeforeBest phase orders other.side Wide c
    → (n : Option Bound) → IfSome n (IsNext phase orders other.side Wide c) → IsGap phase orders (record { width = Wide; market = own; other_market = other; own = b; before = b; other = c; next = n })
gap-before phase orders own other own_made other_made b c is other_is n next_is =
    let side : other.side ≡ opposite own.side = ap (λ (d : Depth). d.side) other_made in
    let there = subst (λ (s : Side). IsBeforeBest phase orders s Wide c) side other_is in
    record {
      market_is = own_made;
      other_market_is = other_made;
      own_is = is.bound;
      before_is = is.bound;
      other_is = there.bound;
      next_is = subst (λ (s : Side). IfSome n (IsNext phase orders s Wide c)) side next_is;
      met = λ q at w. absurd (both_ways (is_within (opposite own.side) (c.group * places_of Wide) q) (there.none q at) w);
      short = λ q at w. absurd (both_ways (is_within own.side (b.group * places_of Wide) q) (is.none q at) w);
    }

module _ (phase : Phase) (orders : List Order) (g : Gap) (k : IsGap phase orders g) where
  other_side : g.other_market.side ≡ opposite g.market.side
  other_side = ap (λ (d : Depth). d.side) k.other_market_is

  pub other-market : g.other_market ≡ depth_at phase g.other_market.side None orders
  other-market = side-made phase orders (opposite g.market.side) g.other_market k.other_market_is

  pub other-bound : IsBound phase orders g.other_market.side g.width g.other
  other-bound = subst (λ (s : Side). IsBound phase orders s g.width g.other) (sym other_side) k.other_is

  pub gap-narrow : (width : GroupWidth) (b c : Bound) → IsNarrowed phase orders g.market.side g.width width g.before b → IsNarrowed phase orders g.other_market.side g.width width g.other c
      → (n : Option Bound) → IfSome n (IsNext phase orders g.other_market.side width c)
      → IsGap phase orders (record { width = width; market = g.market; other_market = g.other_market; own = b; before = b; other = c; next = n })
  gap-narrow width b c is other_is n next_is =
      let there = subst (λ (s : Side). IsNarrowed phase orders s g.width width g.other c) other_side other_is in
      record {
        market_is = k.market_is;
        other_market_is = k.other_market_is;
        own_is = is.bound;
        before_is = is.bound;
        other_is = there.bound;
        next_is = subst (λ (s : Side). IfSome n (IsNext phase orders s width c)) other_side next_is;
        met = λ q at w.
            let units = there.same in
            omega (arith, units, k.met q at (there.within q at w));
        short = λ q at w.
            let units = is.same in
            omega (arith, units, k.short q at (is.within q at w));
      }

-- ---- a step
module _ (phase : Phase) (orders : List Order) (g : Gap) (k : IsGap phase orders g) where
  abbrev Met : Bound → Type 0
  Met next = (q : ℕ) → is_within (opposite g.market.side) (next.group * places_of g.width) q ≡ true → next.units ≤ accepting phase orders g.market.side q

  pub met-reached : (next : Bound) → reaches g.market.side g.own.group next.group ≡ true → next.units ≤ g.own.units → Met next
  met-reached next e fits q w =
      let own = k.own_is.units_are in
      let r = edge_reaches g.market.side (g.own.group * places_of g.width) (next.group * places_of g.width) q (bounds_reach g.market.side g.width g.own.group next.group e) w in
      omega (arith, own, fits, accepted-more phase orders g.market.side (edge g.market.side (g.own.group * places_of g.width)) q r)

  pub met-market : (next : Bound) → next.units ≤ g.market.units → Met next
  met-market next fits q w = let market = ap (λ (d : Depth). d.units) k.market_is in omega (arith, market, fits, reached-more phase g.market.side None orders q refl)

  pub takes-other : (next : Bound) → IsNext phase orders (opposite g.market.side) g.width g.other next → Met next
      → (n : Option Bound) → IfSome n (IsNext phase orders (opposite g.market.side) g.width next) → IsGap phase orders (record g { other = next; next = n })
  takes-other next is met n next_is = record {
    market_is = k.market_is;
    other_market_is = k.other_market_is;
    own_is = k.own_is;
    before_is = k.before_is;
    other_is = is.bound;
    next_is = next_is;
    met = λ q at w. met q w;
    short = k.short;
  }

  pub next-is : (next : Bound) → g.next ≡ Some next → IsNext phase orders (opposite g.market.side) g.width g.other next
  next-is next e = subst (λ (o : Option Bound). IfSome o (IsNext phase orders (opposite g.market.side) g.width g.other)) e k.next_is

  pub short-reached : (next : Bound) → IsNext phase orders (opposite g.market.side) g.width g.other next → reaches g.market.side g.own.group next.group ≡ true → g.own.units < next.units → IsShort phase orders g
  short-reached next is e less x r =
      let units = is.bound.units_are in
      let other = other_edge_reaches g.market.side (g.own.group * places_of g.width) (next.group * places_of g.width) x (bounds_reach g.market.side g.width g.own.group next.group e) r in
      omega (arith, units, less, accepted-more phase orders (opposite g.market.side) (edge (opposite g.market.side) (next.group * places_of g.width)) x other)

  pub short-market : g.own.units < g.other_market.units → IsShort phase orders g
  short-market less x r = let market = ap (λ (d : Depth). d.units) k.other_market_is in omega (arith, market, less, reached-more phase (opposite g.market.side) None orders x refl)

  pub takes-own : IsShort phase orders g → (next : Bound) → IsNext phase orders g.market.side g.width g.own next → IsGap phase orders (record g { own = next; before = g.own })
  takes-own short next is = record {
    market_is = k.market_is;
    other_market_is = k.other_market_is;
    own_is = is.bound;
    before_is = k.own_is;
    other_is = k.other_is;
    next_is = k.next_is;
    met = k.met;
    short = λ q at w. short q (sym (within-reaches g.market.side (g.own.group * places_of g.width) q) ∙ w);
  }

-- ---- the walks begin
module _ (phase : Phase) (orders : List Order) (side against : Side) (facing : against ≡ opposite side) (own other : Depth) (here there : ℕ) (is : IsDepthWithin phase orders side here own)
    (other_is : IsDepthWithin phase orders against there other) where
  of_side : (s : Side) (o : Option ℕ) (bound : ℕ) → IfSome o (λ p. Contains (limits (active phase s orders)) p × (is_within s bound p ≡ true)) → IfSome o (Contains (candidates phase orders))
  of_side s None bound at = tt
  of_side s (Some p) bound at = candidate phase orders s p at.0

  -- with what both say of the limits within their bounds
  module _ (met : (q : ℕ) → Contains (limits (active phase against orders)) q → is_within against there q ≡ true → other.units ≤ accepting phase orders side q)
      (beyond : (q x : ℕ) → Contains (limits (active phase side orders)) q → is_within side here q ≡ true → reaches side q x ≡ false
      → accepting phase orders side x < accepting phase orders against x) where
    met_at : (o : Option ℕ) → IfSome o (λ p. Contains (limits (active phase against orders)) p × (is_within against there p ≡ true)) → IfSome o (λ p. other.units ≤ accepting phase orders side p)
    met_at None at = tt
    met_at (Some p) at = met p at.0 at.1

    beyond_at : (o : Option ℕ) → IfSome o (λ p. Contains (limits (active phase side orders)) p × (is_within side here p ≡ true)) → (x : ℕ) → reaches_price side o x ≡ false
        → accepting phase orders side x < accepting phase orders against x
    beyond_at None at x r = absurd (cc)
    beyond_at (Some p) at x r = beyond p x at.0 at.1 r

    begins_within : IsStart phase orders own other
    begins_within =
        let same : own.side ≡ side = ap (λ (d : Depth). d.side) is.depth in
        record {
          own_depth = subst (λ (s : Side). own ≡ depth_at phase s own.limit orders) (sym same) is.depth;
          other_depth = subst (λ (s : Side). other ≡ depth_at phase s other.limit orders) (facing ∙ ap opposite (sym same)) other_is.depth;
          own_limit = of_side side own.limit here is.limit;
          other_limit = of_side against other.limit there other_is.limit;
          met = subst (λ (s : Side). IfSome other.limit (λ p. other.units ≤ accepting phase orders s p)) (sym same) (met_at other.limit other_is.limit);
          beyond = subst (λ (s : Side). (x : ℕ) → reaches_price s own.limit x ≡ false → accepting phase orders s x < accepting phase orders (opposite s) x) (sym same)
              (λ x r. subst (λ (s : Side). accepting phase orders side x < accepting phase orders s x) facing (beyond_at own.limit is.limit x r));
        }

module _ (phase : Phase) (orders : List Order) (g : Gap) (k : IsGap phase orders g) where
  -- at a price that an own limit within the bound before doesn't reach, the side has no more than within that bound
  own_beyond : (q x : ℕ) → Contains (limits (active phase g.market.side orders)) q → is_within g.market.side (g.before.group * places_of g.width) q ≡ true → reaches g.market.side q x ≡ false
      → accepting phase orders g.market.side x < accepting phase orders (opposite g.market.side) x
  own_beyond q x at w r =
      let side = g.market.side in
      let bound = g.before.group * places_of g.width in
      let units = k.before_is.units_are in
      let back = reaches-other side q x r in
      omega (
        arith,
        units,
        accepted-more phase orders side x (edge side bound) (reaches-on side x q (edge side bound) back (sym (within-reaches side bound q) ∙ w)),
        k.short q at w,
        accepted-more phase orders (opposite side) q x (opposite-reaches side q x ∙ back),
      )

  -- at a price that a limit of the other side within its bound doesn't reach, that side has fewer, since it lacks that limit's
  other_beyond : list_all (λ (o : Order). is_in_range o.rest) orders ≡ true → (q x : ℕ) → Contains (limits (active phase (opposite g.market.side) orders)) q
      → is_within (opposite g.market.side) (g.other.group * places_of g.width) q ≡ true → reaches (opposite g.market.side) q x ≡ false
      → accepting phase orders (opposite g.market.side) x < accepting phase orders g.market.side x
  other_beyond rests q x at w r =
      let side = opposite g.market.side in
      let bound = g.other.group * places_of g.width in
      let units = k.other_is.units_are in
      let reached = sym (opposite-reaches g.market.side x q) ∙ reaches-other side q x r in
      omega (arith, units, limit-adds phase orders side q x (edge side bound) rests at r (sym (within-reaches side bound q) ∙ w), k.met q at w, accepted-more phase orders g.market.side q x reached)

  module _ (own other : Depth) (is : IsDepthWithin phase orders g.market.side (g.before.group * places_of g.width) own)
      (other_is : IsDepthWithin phase orders (opposite g.market.side) (g.other.group * places_of g.width) other) where
    own_units : own.units ≡ g.before.units
    own_units = is.units_are ∙ sym k.before_is.units_are

    other_units : other.units ≡ g.other.units
    other_units = other_is.units_are ∙ sym k.other_is.units_are

    pub begins : IsStart phase orders own other
    begins =
        begins_within phase orders g.market.side (opposite g.market.side) refl own other (g.before.group * places_of g.width) (g.other.group * places_of g.width) is other_is
        (λ q at w. omega (arith, other_units, k.met q at w)) own_beyond

    -- and with the roles exchanged
    pub begins-turned : list_all (λ (o : Order). is_in_range o.rest) orders ≡ true → IsStart phase orders other own
    begins-turned rests =
        begins_within phase orders (opposite g.market.side) g.market.side (sym (opposite-twice g.market.side)) other own (g.other.group * places_of g.width) (g.before.group * places_of g.width)
        other_is is (λ q at w. omega (arith, own_units, k.short q at w)) (other_beyond rests)
