-- The price of a call from the best candidates at which each side covers the other.
use Rattle.std.proofs.Common.{◌≡◌, ℕ, ◌<◌, ◌≤◌, Bool, true, false, ◌==◌, ◌&&◌, ◌||◌, min, List, [], ◌∷◌, filter, Contains, Option, Some, None, refl, ap, sym, ◌∙◌, subst, arith, ◌⊎◌, inl, inr}
use Rattle.std.specs.Prelude.{nat_le, nat_lt, option_map, unwrap_or}
use Rattle.std.proofs.lemmas.Bool.{and_parts, eqb-true, false_from_ne_true, leb-true, le-leb, ltb-true}
use Rattle.std.proofs.lemmas.Bool.Decides.{nat_tests}
use Rattle.xm_auction.specs.Covered.{best_covered, covered_at, covers}
use Rattle.xm_auction.specs.Prices.{executed, is_preferred}
use Rattle.xm_auction.specs.declared.covered.Covered.{Covered}
use Rattle.xm_book.proofs.Bests.{Bests, best-says, reaches-once}
use Rattle.xm_auction.proofs.Curves.{market-alone}
use Rattle.xm_auction.proofs.Winners.{Beats, HasOther, IsCovered, NotWorse, Wins, beats-covers, beats-not_worse, chosen_of_both, chosen_of_none, chosen_of_side, covered-wins, either_covers, found_at, own-falls, other-rises, surplus_at, volume_kept}
use Rattle.xm_slots.proofs.Members.{Contains-filter, Contains-here, Passes-filter}
use Rattle.xm_book.specs.Queues.{market_sum}
use Rattle.xm_ticks.specs.Ranges.{kept_between}
use Rattle.xm_rules.specs.Auction.{absolute_surplus, accepting, auction_price, candidates, price_from, surplus, volume}
use Rattle.xm_rules.specs.Sides.{best, opposite}
use Rattle.xm_rules.specs.declared.orders.Order.{Order}
use Rattle.xm_rules.specs.declared.orders.Side.{Side}
use Rattle.xm_rules.specs.declared.orders.Side.TheVariants.{Buy, Sell}
use Rattle.xm_rules.specs.declared.phases.Phase.{Phase}

below_of : (m n : ℕ) → nat_le n m ≡ false → m < n
below_of m n h = grind (arith, nat_tests)

below_unless : (m n : ℕ) → (n ≤ m → ⊥) → m < n
below_unless m n never = below_of m n (false_from_ne_true (nat_le n m) (λ e. never (leb-true n m e)))

-- what it says that one is better, or isn't
better_by : (c d : Covered) (b : Bool) → nat_lt d.volume c.volume ≡ b → (b || ((c.volume == d.volume) && nat_lt c.surplus d.surplus)) ≡ true
    → (d.volume < c.volume) ⊎ ((c.volume ≡ d.volume) × (c.surplus < d.surplus))
better_by c d true e h = inl (ltb-true d.volume c.volume e)
better_by c d false e h =
    let parts = and_parts (c.volume == d.volume) (nat_lt c.surplus d.surplus) h in
    inr (eqb-true c.volume d.volume parts.0, ltb-true c.surplus d.surplus parts.1)

pub better-says : (c d : Covered) → is_preferred c d ≡ true → (d.volume < c.volume) ⊎ ((c.volume ≡ d.volume) × (c.surplus < d.surplus))
better-says c d h = better_by c d (nat_lt d.volume c.volume) refl h

tie_of : (m n a b : ℕ) → (nat_lt n m || ((m == n) && nat_lt a b)) ≡ false → (nat_lt m n || ((n == m) && nat_lt b a)) ≡ false → (m ≡ n) × (a ≡ b)
tie_of m n a b h i = (grind (arith, nat_tests), grind (arith, nat_tests))

pub neither-better : (c d : Covered) → is_preferred c d ≡ false → is_preferred d c ≡ false → (c.volume ≡ d.volume) × (c.surplus ≡ d.surplus)
neither-better c d h i = tie_of c.volume d.volume c.surplus d.surplus h i

module _ (phase : Phase) (orders : List Order) where
  -- what the best candidate of a side says
  abbrev pub Says : Side → Option Covered → Type 0
  Says side None = (y : ℕ) → Contains (candidates phase orders) y → accepting phase orders (opposite side) y ≤ accepting phase orders side y → ⊥
  Says side (Some c) = (c ≡ covered_at phase orders side c.price) × IsCovered phase orders side c.price

  abbrev covered_ones : Side → List ℕ
  covered_ones side = filter (covers phase orders side) (candidates phase orders)

  in_covered : (side : Side) (y : ℕ) → Contains (candidates phase orders) y → accepting phase orders (opposite side) y ≤ accepting phase orders side y → Contains (covered_ones side) y
  in_covered side y at c =
      Contains-filter (covers phase orders side) (candidates phase orders) y (le-leb (accepting phase orders (opposite side) y) (accepting phase orders side y) c) at

  says_of : (side : Side) (b : Option ℕ) → Bests side (covered_ones side) b → (o : Option Covered) → o ≡ option_map (covered_at phase orders side) b → Says side o
  says_of side None none None e = λ y at c. none y (in_covered side y at c)
  says_of side None none (Some c) e = absurd (cc)
  says_of side (Some p) h None e = absurd (cc)
  says_of side (Some p) h (Some c) e =
      let same : c ≡ covered_at phase orders side p = ap (λ (o : Option Covered). unwrap_or o c) e in
      let price : c.price ≡ p = ap (λ (d : Covered). d.price) same in
      let passes = Passes-filter (covers phase orders side) (candidates phase orders) p h.there in (
        subst (λ (q : ℕ). c ≡ covered_at phase orders side q) (sym price) same,
        subst (IsCovered phase orders side) (sym price) (record {
          there = passes.contains;
          covered = leb-true (accepting phase orders (opposite side) p) (accepting phase orders side p) passes.passes;
          first = λ y at c. h.reaches_all y (in_covered side y at c);
        }),
      )

  pub covered-says : (side : Side) (o : Option Covered) → o ≡ best_covered phase orders side → Says side o
  covered-says side o e = says_of side (best side (covered_ones side)) (best-says side (covered_ones side) (best side (covered_ones side)) refl) o e

  unique : (side : Side) (x y : ℕ) → IsCovered phase orders side x → IsCovered phase orders side y → x ≡ y
  unique side x y k l = reaches-once side x y (k.first y l.there l.covered) (l.first x k.there k.covered)

  no_other_surplus : (side : Side) (x : ℕ) → accepting phase orders (opposite side) x ≤ accepting phase orders side x → surplus phase orders (opposite side) x ≡ 0
  no_other_surplus Buy x h = omega (arith, h)
  no_other_surplus Sell x h = omega (arith, h)

  -- ---- a side's candidate is better than the other's
  found_of_side : (side : Side) (last x n : ℕ) → volume phase orders x ≡ n → IsCovered phase orders side x → Beats phase orders side x → HasOther phase orders side
      → executed (x, n) ≡ auction_price phase orders last
  found_of_side side last x n v k beats has =
      let w = covered-wins phase orders side x k (beats-not_worse phase orders side x beats) has in
      let above : (z : ℕ) → Wins phase orders z → accepting phase orders (opposite side) z < accepting phase orders side z =
      λ z u. beats-covers phase orders side x beats has z u.there (u.greatest x k.there) (u.least x k.there (w.greatest z u.there)) in
      let some : 0 < surplus phase orders side x = let a = above x w in omega (arith, a) in
      let within : (z : ℕ) → Wins phase orders z → accepting phase orders (opposite side) z ≤ accepting phase orders side z = λ z u. (let a = above z u in omega (arith, a)) in
      found_at phase orders last x x n w v v
      (chosen_of_side phase orders side last x w some (λ z u. no_other_surplus side z (within z u)) (λ z u. k.first z u.there (within z u)))

  beats_one : (side : Side) (c d : Covered) → c ≡ covered_at phase orders side c.price → d ≡ covered_at phase orders (opposite side) d.price → IsCovered phase orders side c.price
      → IsCovered phase orders (opposite side) d.price → (d.volume < c.volume) ⊎ ((c.volume ≡ d.volume) × (c.surplus < d.surplus)) → Beats phase orders side c.price
  beats_one side c d e f k l better y m =
      subst (λ (z : ℕ). (volume phase orders z < volume phase orders c.price) ⊎ ((volume phase orders c.price ≡ volume phase orders z) × (absolute_surplus phase orders c.price < absolute_surplus phase orders z)))
      (unique (opposite side) d.price y l m) (by better) where
        cv : c.volume ≡ volume phase orders c.price
        cv = ap (λ (x : Covered). x.volume) e

        dv : d.volume ≡ volume phase orders d.price
        dv = ap (λ (x : Covered). x.volume) f

        cs : absolute_surplus phase orders c.price ≡ c.surplus
        cs = let at = k.covered in surplus_at phase orders side c.price at ∙ sym (ap (λ (x : Covered). x.surplus) e)

        ds : absolute_surplus phase orders d.price ≡ d.surplus
        ds = let at = l.covered in surplus_at phase orders (opposite side) d.price at ∙ sym (ap (λ (x : Covered). x.surplus) f)

        by : (d.volume < c.volume) ⊎ ((c.volume ≡ d.volume) × (c.surplus < d.surplus))
            → (volume phase orders d.price < volume phase orders c.price) ⊎ ((volume phase orders c.price ≡ volume phase orders d.price) × (absolute_surplus phase orders c.price < absolute_surplus phase orders d.price))
        by (inl more) = inl (omega (arith, cv, dv, more))
        by (inr less) = let a = less.0 in let b = less.1 in inr (omega (arith, cv, dv, a), omega (arith, cs, ds, b))

  pub found-better : (side : Side) (last : ℕ) (c d : Covered) → Says side (Some c) → Says (opposite side) (Some d) → is_preferred c d ≡ true
      → executed (c.price, c.volume) ≡ auction_price phase orders last
  found-better side last c d k l better =
      found_of_side side last c.price c.volume (sym (ap (λ (x : Covered). x.volume) k.0)) k.1 (beats_one side c d k.0 l.0 k.1 l.1 (better-says c d better)) (λ y at h. (d.price, l.1))

  covers_back : (side : Side) (y : ℕ) → accepting phase orders side y ≤ accepting phase orders (opposite side) y → accepting phase orders (opposite (opposite side)) y ≤ accepting phase orders (opposite side) y
  covers_back Buy y h = h
  covers_back Sell y h = h

  pub found-alone : (side : Side) (last : ℕ) (c : Covered) → Says side (Some c) → Says (opposite side) None → executed (c.price, c.volume) ≡ auction_price phase orders last
  found-alone side last c k none =
      found_of_side side last c.price c.volume (sym (ap (λ (x : Covered). x.volume) k.0)) k.1 (λ y m. absurd (none y m.there m.covered))
      (λ y at h. absurd (none y at (covers_back side y h)))

  -- ---- both are as good
  tied : (side : Side) (x y : ℕ) → IsCovered phase orders (opposite side) y → volume phase orders x ≡ volume phase orders y → absolute_surplus phase orders x ≡ absolute_surplus phase orders y
      → NotWorse phase orders side x
  tied side x y l e f z m =
      subst (λ (z : ℕ). (volume phase orders z ≤ volume phase orders x) × (volume phase orders x ≤ volume phase orders z → absolute_surplus phase orders x ≤ absolute_surplus phase orders z))
      (unique (opposite side) y z l m) (omega (arith, e), λ h. omega (arith, f))

  tied_wins : (side : Side) (x y : ℕ) → IsCovered phase orders side x → IsCovered phase orders (opposite side) y → volume phase orders x ≡ volume phase orders y
      → absolute_surplus phase orders x ≡ absolute_surplus phase orders y → Wins phase orders x
  tied_wins side x y k l e f = covered-wins phase orders side x k (tied side x y l e f) (λ z at h. (y, l))

  own_surplus : (side : Side) (x : ℕ) → 0 < surplus phase orders side x → accepting phase orders (opposite side) x ≤ accepting phase orders side x
  own_surplus side x h = omega (arith, h)

  found_of_both : (last x y n : ℕ) → volume phase orders x ≡ n → IsCovered phase orders Buy x → IsCovered phase orders Sell y → volume phase orders x ≡ volume phase orders y
      → absolute_surplus phase orders x ≡ absolute_surplus phase orders y → x < y → executed (kept_between x y last, n) ≡ auction_price phase orders last
  found_of_both last x y n v k l e f apart =
      let w = tied_wins Buy x y k l e f in
      let u = tied_wins Sell y x l k (sym e) (sym f) in
      let more : accepting phase orders Sell x < accepting phase orders Buy x =
      below_unless (accepting phase orders Sell x) (accepting phase orders Buy x) (λ h. let r = leb-true y x (l.first x k.there h) in omega (arith, r, apart)) in
      let less : accepting phase orders Buy y < accepting phase orders Sell y =
      below_unless (accepting phase orders Buy y) (accepting phase orders Sell y) (λ h. let r = leb-true y x (k.first y l.there h) in omega (arith, r, apart)) in
      found_at phase orders last (kept_between x y last) x n w v (volume_kept phase orders x y last w u ∙ v)
      (chosen_of_both phase orders last x y w u (omega (arith, more)) (omega (arith, less))
      (λ z at h. k.first z at.there (own_surplus Buy z h)) (λ z at h. l.first z at.there (own_surplus Sell z h)))

  pub found-tied : (last : ℕ) (b s : Covered) → Says Buy (Some b) → Says Sell (Some s) → b.price < s.price → is_preferred b s ≡ false → is_preferred s b ≡ false
      → executed (kept_between b.price s.price last, b.volume) ≡ auction_price phase orders last
  found-tied last b s k l apart not_b not_s =
      let tie = neither-better b s not_b not_s in
      let bv = ap (λ (x : Covered). x.volume) k.0 in
      let sv = ap (λ (x : Covered). x.volume) l.0 in
      let bs = surplus_at phase orders Buy b.price k.1.covered ∙ sym (ap (λ (x : Covered). x.surplus) k.0) in
      let ss = surplus_at phase orders Sell s.price l.1.covered ∙ sym (ap (λ (x : Covered). x.surplus) l.0) in
      found_of_both last b.price s.price b.volume (sym bv) k.1 l.1 (sym bv ∙ tie.0 ∙ sv) (bs ∙ tie.1 ∙ sym ss) apart

  -- ---- no side has a surplus
  found_of_none : (last x y n : ℕ) → volume phase orders x ≡ n → IsCovered phase orders Buy x → IsCovered phase orders Sell y → y ≤ x
      → executed (kept_between y x last, n) ≡ auction_price phase orders last
  found_of_none last x y n v k l meet =
      let dx = k.covered in
      let dy = l.covered in
      let falls = own-falls phase orders Buy x y (le-leb y x meet) in
      let rises = other-rises phase orders Buy x y (le-leb y x meet) in
      let e : volume phase orders x ≡ volume phase orders y = omega (arith, dx, dy, falls, rises) in
      let no_x : absolute_surplus phase orders x ≡ 0 = omega (arith, dx, dy, falls, rises) in
      let no_y : absolute_surplus phase orders y ≡ 0 = omega (arith, dx, dy, falls, rises) in
      let w = tied_wins Buy x y k l e (no_x ∙ sym no_y) in
      let u = tied_wins Sell y x l k (sym e) (no_y ∙ sym no_x) in
      let none : (z : ℕ) → Wins phase orders z → absolute_surplus phase orders z ≤ 0 = λ z t. (let i = t.least x k.there (w.greatest z t.there) in omega (arith, i, no_x)) in
      found_at phase orders last (kept_between y x last) x n w v (volume_kept phase orders y x last u w ∙ sym e ∙ v)
      (chosen_of_none phase orders last x y w u (λ side z t. no_surplus side z (none z t)) (λ z t. k.first z t.there (let i = none z t in omega (arith, i))) (λ z t. l.first z t.there (let i = none z t in omega (arith, i)))) where
        no_surplus : (side : Side) (z : ℕ) → absolute_surplus phase orders z ≤ 0 → surplus phase orders side z ≡ 0
        no_surplus Buy z h = omega (arith, h)
        no_surplus Sell z h = omega (arith, h)

  pub found-balanced : (last : ℕ) (b s : Covered) → Says Buy (Some b) → Says Sell (Some s) → s.price ≤ b.price → executed (kept_between s.price b.price last, b.volume) ≡ auction_price phase orders last
  found-balanced last b s k l meet = found_of_none last b.price s.price b.volume (sym (ap (λ (x : Covered). x.volume) k.0)) k.1 l.1 meet

  -- ---- there is no candidate
  none_of : (cs : List ℕ) → candidates phase orders ≡ cs → Says Buy None → Says Sell None → cs ≡ []
  none_of [] e none also = refl
  none_of (c ∷ cs) e none also = absurd (by (either_covers phase orders Buy c)) where
    at : Contains (candidates phase orders) c
    at = subst (λ (ps : List ℕ). Contains ps c) (sym e) (Contains-here c cs)

    by : (accepting phase orders Sell c ≤ accepting phase orders Buy c) ⊎ (accepting phase orders Buy c ≤ accepting phase orders Sell c) → ⊥
    by (inl h) = none c at h
    by (inr h) = also c at h

  pub no-candidate : Says Buy None → Says Sell None → candidates phase orders ≡ []
  no-candidate none also = none_of (candidates phase orders) refl none also

  pub found-by_market : (last n : ℕ) → candidates phase orders ≡ [] → n ≡ min (market_sum phase Buy orders) (market_sum phase Sell orders) → executed (last, n) ≡ auction_price phase orders last
  found-by_market last n none e =
      let v : n ≡ volume phase orders last = omega (arith, e, market-alone phase Buy orders none last, market-alone phase Sell orders none last) in
      (λ i. executed (last, v i)) ∙ sym (ap (price_from phase orders last) none)
