-- The walk down the candidates.
use Rattle.std.proofs.Common.{◌≡◌, ℕ, ◌+◌, ◌^◌, ◌<◌, ◌≤◌, ◌==◌, Bool, true, false, if◌then◌else◌, List, [], ◌∷◌, ◌++◌, map, Contains, Option, Some, None, append_assoc, refl, ap, sym, ◌∙◌, subst, arith, ◌⊎◌, inl, inr}
use Rattle.std.specs.Prelude.{IfSome, option_map}
use Rattle.std.specs.Option.{option_to_list}
use Rattle.std.proofs.lemmas.Bool.{both_ways, eqb-true, eq-eqb, not-true, not_from_false, false_from_ne_true}
use Rattle.std.proofs.lemmas.List.Elements.{Contains-append_cases, Contains-append_left, Contains-append_right, filter_map-append}
use Rattle.xm_auction.specs.Depths.{reaches_price}
use Rattle.xm_auction.proofs.Curves.{counted-no_more, next_reaches, reached-more, unreached-no_more}
use Rattle.xm_book.specs.Curves.{later, units_to}
use Rattle.xm_book.specs.Fronts.{better_of_two}
use Rattle.xm_book.specs.Queues.{market_sum}
use Rattle.xm_book.proofs.Bests.{reaches-itself, reaches-on, reaches-once, reaches-other}
use Rattle.xm_book.proofs.Curves.{Nexts, next-adds, nexts}
use Rattle.xm_desk.specs.Shown.{level_in}
use Rattle.xm_reasons.specs.Candidates.{best_first}
use Rattle.xm_reasons.specs.Walks.{HasPassed, IsWalk, Walked, candidates_below, curve_of, is_point_at, point_at, prices_after, sells_below, side_limits, supply_from, units_with}
use Rattle.xm_reasons.specs.declared.walks.CurvePoint.{CurvePoint}
use Rattle.xm_reasons.proofs.InOrder.{Falls, IsInOrder, in-order, is-in-order, order-none, same-order}
use Rattle.xm_reasons.proofs.FewUnits.{few-units}
use Rattle.xm_rules.specs.Step.{Journal, is_lawful, replay}
use Rattle.xm_ticks.specs.declared.numbers.TheConstants.{MAX_JOURNAL_LIMIT}
use Rattle.xm_rules.specs.Active.{Positioned, active, limits}
use Rattle.xm_rules.specs.Auction.{accepting, candidates}
use Rattle.xm_rules.specs.Orders.{limit_of}
use Rattle.xm_rules.specs.Priority.{is_worse_limit}
use Rattle.xm_rules.specs.Sides.{reaches}
use Rattle.xm_rules.specs.State.{State}
use Rattle.xm_rules.specs.declared.orders.Side.{Side}
use Rattle.xm_rules.specs.declared.orders.Side.TheVariants.{Buy, Sell}
use Rattle.xm_slots.proofs.Members.{Contains-cases, Contains-filter, Contains-here, Contains-none, Contains-there, Passes-filter}

-- ---- the prices after one
in_after : (side : Side) (after : Option ℕ) (xs : List ℕ) (q : ℕ) → Contains xs q → later side after q ≡ true → Contains (prices_after side after xs) q
in_after side None xs q at l = at
in_after side (Some p) xs q at l = Contains-filter (is_worse_limit side p) xs q l at

of_after : (side : Side) (after : Option ℕ) (xs : List ℕ) (q : ℕ) → Contains (prices_after side after xs) q → Contains xs q × (later side after q ≡ true)
of_after side None xs q at = (at, refl)
of_after side (Some p) xs q at = let h = Passes-filter (is_worse_limit side p) xs q at in (h.contains, h.passes)

-- what a later price reaches is later
later_down : (side : Side) (after : Option ℕ) (p q : ℕ) → later side after p ≡ true → reaches side p q ≡ true → later side after q ≡ true
later_down side None p q l r = refl
later_down side (Some a) p q l r =
    not_from_false (reaches side q a) (false_from_ne_true (reaches side q a) (λ e. both_ways (reaches side p a) (not-true (reaches side p a) l) (reaches-on side p q a r e)))

later_on : (side : Side) (after : Option ℕ) (p q : ℕ) → later side after p ≡ true → later side (Some p) q ≡ true → later side after q ≡ true
later_on side after p q l m = later_down side after p q l (reaches-other side q p (not-true (reaches side q p) m))

later_reached : (side : Side) (after : Option ℕ) (p : ℕ) → later side after p ≡ true → reaches_price side after p ≡ true
later_reached side None p l = refl
later_reached side (Some a) p l = reaches-other side p a (not-true (reaches side p a) l)

-- a price of a list comes next after one
pub record IsForemost (side : Side) (after : Option ℕ) (xs : List ℕ) (p : ℕ) : Type 0 where
  pub there : Contains xs p
  pub behind : later side after p ≡ true
  pub first : (q : ℕ) → Contains xs q → later side after q ≡ true → reaches side p q ≡ true

abbrev pub Foremost : Side → Option ℕ → List ℕ → Option ℕ → Type 0
Foremost side after xs None = (q : ℕ) → Contains xs q → later side after q ≡ true → ⊥
Foremost side after xs (Some p) = IsForemost side after xs p

module _ (side : Side) (after : Option ℕ) (xs : List ℕ) where
  after_or_same : (p q : ℕ) → IsForemost side after xs p → Contains (prices_after side after xs) q → (b : Bool) → reaches side q p ≡ b → (p ≡ q) ⊎ Contains (prices_after side (Some p) xs) q
  after_or_same p q f at true e = let o = of_after side after xs q at in inl (reaches-once side p q (f.first q o.0 o.1) e)
  after_or_same p q f at false e = inr (in_after side (Some p) xs q (of_after side after xs q at).0 (not_from_false (reaches side q p) e))

  one_more : (p : ℕ) → IsForemost side after xs p → (rest : List ℕ) → IsInOrder side (prices_after side (Some p) xs) rest → IsInOrder side (prices_after side after xs) (p ∷ rest)
  one_more p f rest i =
      let s = i.same in
      record {
        falls = (λ y at. not-true (reaches side y p) (of_after side (Some p) xs y (s.to y at)).1, i.falls);
        same = record {
          to = λ y at. to y (Contains-cases p rest y at);
          from = λ y at. from y (after_or_same p y f at (reaches side y p) refl);
        };
      } where
        to : (y : ℕ) → (p ≡ y) ⊎ Contains rest y → Contains (prices_after side after xs) y
        to y (inl same) = subst (λ (z : ℕ). Contains (prices_after side after xs) z) same (in_after side after xs p f.there f.behind)
        to y (inr rest_at) =
            let s = i.same in
            let o = of_after side (Some p) xs y (s.to y rest_at) in
            in_after side after xs y o.0 (later_on side after p y f.behind o.1)

        from : (y : ℕ) → (p ≡ y) ⊎ Contains (prices_after side (Some p) xs) y → Contains (p ∷ rest) y
        from y (inl same) = subst (λ (z : ℕ). Contains (p ∷ rest) z) same (Contains-here p rest)
        from y (inr at) = let s = i.same in Contains-there p rest y (s.from y at)

  -- the prices after one, the best first, begin with the foremost
  pub first-after : (p : ℕ) → IsForemost side after xs p → best_first side (prices_after side after xs) ≡ p ∷ best_first side (prices_after side (Some p) xs)
  first-after p f =
      let rest = best_first side (prices_after side (Some p) xs) in
      let i = one_more p f rest (in-order side (prices_after side (Some p) xs)) in
      sym (is-in-order side (prices_after side after xs) (p ∷ rest) i.falls i.same)

  pub none-after : ((q : ℕ) → Contains xs q → later side after q ≡ true → ⊥) → best_first side (prices_after side after xs) ≡ []
  none-after none = order-none side (prices_after side after xs) (λ q at. let o = of_after side after xs q at in none q o.0 o.1)

-- ---- the curve of a side
foremost_of : (side : Side) (after : Option ℕ) (queue : List Positioned) (o : Option (ℕ × ℕ)) → Nexts side after queue o → Foremost side after (limits queue) (option_map (λ (l : ℕ × ℕ). l.0) o)
foremost_of side after queue None none = none
foremost_of side after queue (Some level) n = record { there = n.there; behind = n.behind; first = n.first }

nexts_are : (s : State) (side : Side) (after : Option ℕ) (o : Option (ℕ × ℕ)) → level_in s side after ≡ o → Nexts side after (active s.phase side s.orders) o
nexts_are s side after o e = subst (Nexts side after (active s.phase side s.orders)) e (nexts s.phase side after s.orders)

pub curve-next : (s : State) (side : Side) (after : Option ℕ) (level : ℕ × ℕ) → level_in s side after ≡ Some level → curve_of s side after ≡ point_at s side level.0 ∷ curve_of s side (Some level.0)
curve-next s side after level e =
    ap (map (point_at s side)) (first-after side after (side_limits s side) level.0 (foremost_of side after (active s.phase side s.orders) (Some level) (nexts_are s side after (Some level) e)))

pub curve-end : (s : State) (side : Side) (after : Option ℕ) → level_in s side after ≡ None → curve_of s side after ≡ []
curve-end s side after e = ap (map (point_at s side)) (none-after side after (side_limits s side) (nexts_are s side after None e))

pub level-adds : (s : State) (side : Side) (after : Option ℕ) (level : ℕ × ℕ) → level_in s side after ≡ Some level → accepting s.phase s.orders side level.0 ≡ units_to s.phase side after s.orders + level.1
level-adds s side after level e = next-adds s.phase side after s.orders level.0 level.1 (nexts_are s side after (Some level) e)

-- its units are few
pub level-fits : (j : Journal) (side : Side) (after : Option ℕ) (o : Option (ℕ × ℕ)) (units : ℕ) → is_lawful j ≡ true → j.settings.limit ≤ MAX_JOURNAL_LIMIT → o ≡ level_in (replay j) side after
    → units ≡ units_to (replay j).phase side after (replay j).orders → IfSome o (λ l. units + l.1 < 2 ^ 64)
level-fits j side after None units h few e u = tt
level-fits j side after (Some level) units h few e u = omega (arith, u, level-adds (replay j) side after level (sym e), few-units j side level.0 h few)

-- one point more of a curve
pub curve-pushed : (s : State) (side : Side) (after : Option ℕ) (level : ℕ × ℕ) (units : ℕ) (whole before pushed : List CurvePoint) → level_in s side after ≡ Some level
    → units ≡ accepting s.phase s.orders side level.0 → whole ≡ before ++ curve_of s side after → pushed ≡ before ++ record { limit = level.0; units = units } ∷ []
    → whole ≡ pushed ++ curve_of s side (Some level.0)
curve-pushed s side after level units whole before pushed e u w p =
    let point : CurvePoint = record { limit = level.0; units = units } in
    let rest = curve_of s side (Some level.0) in
    let made : curve_of s side after ≡ point ∷ rest = curve-next s side after level e ∙ ap (λ (n : ℕ). let q : CurvePoint = record { limit = level.0; units = n } in q ∷ rest) (sym u) in
    w ∙ ap (λ (l : List CurvePoint). before ++ l) made ∙ sym (append_assoc before (point ∷ []) rest) ∙ ap (λ (l : List CurvePoint). l ++ rest) (sym p)

-- ---- the next candidate is the higher of the next buy and the next sell
left_first : (side : Side) (after : Option ℕ) (xs ys : List ℕ) (p : ℕ) → IsForemost side after xs p → ((q : ℕ) → Contains ys q → later side after q ≡ true → reaches side p q ≡ true) → IsForemost side after (xs ++ ys) p
left_first side after xs ys p f other =
    record { there = Contains-append_left xs ys p f.there; behind = f.behind; first = λ q at l. of q (Contains-append_cases xs ys q at) l } where
      of : (q : ℕ) → Contains xs q ⊎ Contains ys q → later side after q ≡ true → reaches side p q ≡ true
      of q (inl at) l = f.first q at l
      of q (inr at) l = other q at l

right_first : (side : Side) (after : Option ℕ) (xs ys : List ℕ) (p : ℕ) → IsForemost side after ys p → ((q : ℕ) → Contains xs q → later side after q ≡ true → reaches side p q ≡ true) → IsForemost side after (xs ++ ys) p
right_first side after xs ys p f other =
    record { there = Contains-append_right xs ys p f.there; behind = f.behind; first = λ q at l. of q (Contains-append_cases xs ys q at) l } where
      of : (q : ℕ) → Contains xs q ⊎ Contains ys q → later side after q ≡ true → reaches side p q ≡ true
      of q (inl at) l = other q at l
      of q (inr at) l = f.first q at l

better_if : (side : Side) (after : Option ℕ) (xs ys : List ℕ) (p q : ℕ) (b : Bool) → reaches side p q ≡ b → IsForemost side after xs p → IsForemost side after ys q
    → IsForemost side after (xs ++ ys) (if b then p else q)
better_if side after xs ys p q true e f g = left_first side after xs ys p f (λ r at l. reaches-on side p q r e (g.first r at l))
better_if side after xs ys p q false e f g = right_first side after xs ys q g (λ r at l. reaches-on side q p r (reaches-other side p q e) (f.first r at l))

pub foremost-two : (side : Side) (after : Option ℕ) (xs ys : List ℕ) (o r : Option ℕ) → Foremost side after xs o → Foremost side after ys r → Foremost side after (xs ++ ys) (better_of_two side o r)
foremost-two side after xs ys None None f g = λ q at l. of q (Contains-append_cases xs ys q at) l where
  of : (q : ℕ) → Contains xs q ⊎ Contains ys q → later side after q ≡ true → ⊥
  of q (inl at) l = f q at l
  of q (inr at) l = g q at l
foremost-two side after xs ys (Some p) None f g = left_first side after xs ys p f (λ q at l. absurd (g q at l))
foremost-two side after xs ys None (Some p) f g = right_first side after xs ys p g (λ q at l. absurd (f q at l))
foremost-two side after xs ys (Some p) (Some q) f g = better_if side after xs ys p q (reaches side p q) refl f g

-- it is no worse than either
pub no-worse : (side : Side) (after : Option ℕ) (xs ys : List ℕ) (o : Option ℕ) (x : ℕ) → IsForemost side after (xs ++ ys) x → Foremost side after xs o → IfSome o (λ p. reaches side x p ≡ true)
no-worse side after xs ys None x f g = tt
no-worse side after xs ys (Some p) x f g = f.first p (Contains-append_left xs ys p g.there) g.behind

pub no-worse-right : (side : Side) (after : Option ℕ) (xs ys : List ℕ) (o : Option ℕ) (x : ℕ) → IsForemost side after (xs ++ ys) x → Foremost side after ys o → IfSome o (λ p. reaches side x p ≡ true)
no-worse-right side after xs ys None x f g = tt
no-worse-right side after xs ys (Some p) x f g = f.first p (Contains-append_right xs ys p g.there) g.behind

pub candidates-are : (s : State) → candidates s.phase s.orders ≡ side_limits s Buy ++ side_limits s Sell
candidates-are s = filter_map-append (λ (i : Positioned). limit_of i.order.kind) (active s.phase Buy s.orders) (active s.phase Sell s.orders)

-- ---- the sells' limits below a candidate
module _ {X Y : Type 0} (f : X → Y) where
  -- what a list is of which these are made
  pub record IsSplit (xs : List X) (ys : List Y) (y : Y) : Type 0 where
    pub before : List X
    pub at : X
    pub whole : xs ≡ before ++ at ∷ []
    pub others : ys ≡ map f before
    pub made : y ≡ f at

  split_alone : (xs : List X) (y : Y) → map f xs ≡ y ∷ [] → IsSplit xs [] y
  split_alone [] y e = absurd (cc)
  split_alone (x ∷ []) y e = record { before = []; at = x; whole = refl; others = refl; made = (let h : y ≡ f x = cc in h) }
  split_alone (x ∷ z ∷ xs) y e = absurd (cc)

  split_more : (x : X) (xs : List X) (z : Y) (zs : List Y) (y : Y) → z ≡ f x → IsSplit xs zs y → IsSplit (x ∷ xs) (z ∷ zs) y
  split_more x xs z zs y e s =
      let whole = s.whole in
      let others = s.others in
      record { before = x ∷ s.before; at = s.at; whole = ap (λ (l : List X). x ∷ l) whole; others = rw (e, others) refl; made = s.made }

  pub splits : (xs : List X) (ys : List Y) (y : Y) → map f xs ≡ ys ++ y ∷ [] → IsSplit xs ys y
  splits xs [] y e = split_alone xs y e
  splits [] (z ∷ zs) y e = absurd (cc)
  splits (x ∷ xs) (z ∷ zs) y e = split_more x xs z zs y (let h : z ≡ f x = cc in h) (splits xs zs y (let h : map f xs ≡ zs ++ y ∷ [] = cc in h))

  pub nothing-made : (xs : List X) → map f xs ≡ [] → xs ≡ []
  nothing-made [] e = refl
  nothing-made (x ∷ xs) e = absurd (cc)

falls_split : (side : Side) (xs : List ℕ) (p : ℕ) → Falls side (xs ++ p ∷ []) → Falls side xs × ((y : ℕ) → Contains xs y → reaches side p y ≡ false)
falls_split side [] p f = (tt, λ y at. absurd (Contains-none y at))
falls_split side (x ∷ xs) p f =
    let rest = falls_split side xs p f.1 in
    ((λ y at. f.0 y (Contains-append_left xs (p ∷ []) y at), rest.0), λ y at. of rest.1 y (Contains-cases x xs y at)) where
      of : ((y : ℕ) → Contains xs y → reaches side p y ≡ false) → (y : ℕ) → (x ≡ y) ⊎ Contains xs y → reaches side p y ≡ false
      of others y (inl same) = subst (λ (z : ℕ). reaches side p z ≡ false) same (f.0 p (Contains-append_right xs (p ∷ []) p (Contains-here p [])))
      of others y (inr behind) = others y behind

abbrev below : State → Option ℕ → List ℕ
below s last = best_first Sell (prices_after Buy last (side_limits s Sell))

module _ (s : State) (last : Option ℕ) where
  -- where there is none
  pub no-sells : below s last ≡ [] → Foremost Buy last (side_limits s Sell) None
  no-sells e q at l =
      let i = in-order Sell (prices_after Buy last (side_limits s Sell)) in
      let t = i.same in
      Contains-none q (subst (λ (ps : List ℕ). Contains ps q) e (t.from q (in_after Buy last (side_limits s Sell) q at l)))

  module _ (before : List ℕ) (p : ℕ) (e : below s last ≡ before ++ p ∷ []) where
    order : IsInOrder Sell (prices_after Buy last (side_limits s Sell)) (before ++ p ∷ [])
    order = subst (IsInOrder Sell (prices_after Buy last (side_limits s Sell))) e (in-order Sell (prices_after Buy last (side_limits s Sell)))

    in_list : (q : ℕ) → Contains (before ++ p ∷ []) q → Contains before q ⊎ (p ≡ q)
    in_list q at = of (Contains-append_cases before (p ∷ []) q at) where
      alone : (p ≡ q) ⊎ Contains [] q → p ≡ q
      alone (inl same) = same
      alone (inr later) = absurd (Contains-none q later)

      of : Contains before q ⊎ Contains (p ∷ []) q → Contains before q ⊎ (p ≡ q)
      of (inl at) = inl at
      of (inr at) = inr (alone (Contains-cases p [] q at))

    under : (q : ℕ) → Contains before q → reaches Buy q p ≡ false
    under q at = let o = order in (falls_split Sell before p o.falls).1 q at

    found : (q : ℕ) → Contains (side_limits s Sell) q → later Buy last q ≡ true → Contains before q ⊎ (p ≡ q)
    found q at l = let o = order in let t = o.same in in_list q (t.from q (in_after Buy last (side_limits s Sell) q at l))

    -- the last is the highest
    pub highest-sell : IsForemost Buy last (side_limits s Sell) p
    highest-sell =
        let o = order in
        let t = o.same in
        let at = of_after Buy last (side_limits s Sell) p (t.to p (Contains-append_right before (p ∷ []) p (Contains-here p []))) in
        record { there = at.0; behind = at.1; first = λ q there l. of q (found q there l) } where
          of : (q : ℕ) → Contains before q ⊎ (p ≡ q) → reaches Buy p q ≡ true
          of q (inl at) = reaches-other Buy q p (under q at)
          of q (inr same) = subst (λ (z : ℕ). reaches Buy p z ≡ true) same (reaches-itself Buy p)

    -- and the others are those below it
    pub others-below : before ≡ below s (Some p)
    others-below =
        let o = order in
        let t = o.same in
        is-in-order Sell (prices_after Buy (Some p) (side_limits s Sell)) before (falls_split Sell before p o.falls).0 (record {
          to = λ q at. in_after Buy (Some p) (side_limits s Sell) q (of_after Buy last (side_limits s Sell) q (t.to q (Contains-append_left before (p ∷ []) q at))).0
              (not_from_false (reaches Buy q p) (under q at));
          from = λ q at. from q (of_after Buy (Some p) (side_limits s Sell) q at);
        }) where
          of : (q : ℕ) → later Buy (Some p) q ≡ true → Contains before q ⊎ (p ≡ q) → Contains before q
          of q l (inl at) = at
          of q l (inr same) =
              absurd (both_ways (reaches Buy q p) (not-true (reaches Buy q p) l) (subst (λ (z : ℕ). reaches Buy z p ≡ true) same (reaches-itself Buy p)))

          from : (q : ℕ) → Contains (side_limits s Sell) q × (later Buy (Some p) q ≡ true) → Contains before q
          from q h = let f = highest-sell in of q h.1 (found q h.0 (later_on Buy last p q f.behind h.1))

  -- below a candidate that none of them reaches they are the same
  pub same-below : (x : ℕ) → later Buy last x ≡ true → ((q : ℕ) → Contains (side_limits s Sell) q → later Buy last q ≡ true → reaches Buy q x ≡ false) → below s last ≡ below s (Some x)
  same-below x l none =
      same-order Sell (prices_after Buy last (side_limits s Sell)) (prices_after Buy (Some x) (side_limits s Sell)) (record {
        to = λ q at. let o = of_after Buy last (side_limits s Sell) q at in in_after Buy (Some x) (side_limits s Sell) q o.0 (not_from_false (reaches Buy q x) (none q o.0 o.1));
        from = λ q at. let o = of_after Buy (Some x) (side_limits s Sell) q at in in_after Buy last (side_limits s Sell) q o.0 (later_on Buy last x q l o.1);
      })

-- ---- what accepts a candidate
level_if : (s : State) (last : Option ℕ) (x demand : ℕ) (level : ℕ × ℕ) (b : Bool) → (level.0 == x) ≡ b → demand ≡ units_to s.phase Buy last s.orders → level_in s Buy last ≡ Some level → later Buy last x ≡ true
    → reaches Buy x level.0 ≡ true → (if b then demand + level.1 else demand) ≡ accepting s.phase s.orders Buy x
level_if s last x demand level true e d is l r =
    let same : level.0 ≡ x = eqb-true level.0 x e in
    subst (λ (y : ℕ). demand + level.1 ≡ accepting s.phase s.orders Buy y) same (omega (arith, d, level-adds s Buy last level is))
level_if s last x demand level false e d is l r =
    let apart : reaches Buy level.0 x ≡ false = false_from_ne_true (reaches Buy level.0 x) (λ t. both_ways (level.0 == x) e (eq-eqb level.0 x (reaches-once Buy level.0 x t r))) in
    let no_more = unreached-no_more s.phase Buy last s.orders x (ap (λ (o : Option (ℕ × ℕ)). next_reaches Buy o x) is ∙ apart) in
    omega (arith, d, no_more, reached-more s.phase Buy last s.orders x (later_reached Buy last x l))

pub demand-at : (s : State) (last : Option ℕ) (x demand : ℕ) (o : Option (ℕ × ℕ)) → demand ≡ units_to s.phase Buy last s.orders → level_in s Buy last ≡ o → later Buy last x ≡ true
    → IfSome (option_map (λ (l : ℕ × ℕ). l.0) o) (λ p. reaches Buy x p ≡ true) → units_with demand o x ≡ accepting s.phase s.orders Buy x
demand-at s last x demand None d is l r =
    let no_more = unreached-no_more s.phase Buy last s.orders x (ap (λ (o : Option (ℕ × ℕ)). next_reaches Buy o x) is) in
    omega (arith, d, no_more, reached-more s.phase Buy last s.orders x (later_reached Buy last x l))
demand-at s last x demand (Some level) d is l r = level_if s last x demand level (level.0 == x) refl d is l r

supply_none : (s : State) (last : Option ℕ) (x : ℕ) → later Buy last x ≡ true → Foremost Buy last (side_limits s Sell) None → market_sum s.phase Sell s.orders ≡ accepting s.phase s.orders Sell x
supply_none s last x l none =
    let no_more = counted-no_more s.phase Sell None s.orders x (λ q at e. absurd (none q at (later_down Buy last x q l e))) in
    omega (arith, no_more, reached-more s.phase Sell None s.orders x refl)

supply_some : (s : State) (last : Option ℕ) (x p : ℕ) → later Buy last x ≡ true → IsForemost Buy last (side_limits s Sell) p → reaches Buy x p ≡ true
    → accepting s.phase s.orders Sell p ≡ accepting s.phase s.orders Sell x
supply_some s last x p l f r =
    let no_more = counted-no_more s.phase Sell (Some p) s.orders x (λ q at e. f.first q at (later_down Buy last x q l e)) in
    omega (arith, no_more, reached-more s.phase Sell (Some p) s.orders x r)

-- ---- a step of the walk
module _ (s : State) (w : Walked) (k : IsWalk s w) where
  limit_at : CurvePoint → ℕ
  limit_at point = point.limit

  -- the highest of the sells' limits below the last candidate
  pub record IsSell (sell : Option CurvePoint) : Type 0 where
    pub foremost : Foremost Buy w.last (side_limits s Sell) (option_map (λ (p : CurvePoint). p.limit) sell)
    pub units : IfSome sell (λ point. point ≡ point_at s Sell point.limit)
    pub others : IfSome sell (λ point. w.sells ≡ sells_below s (Some point.limit))

  split_of : (point : CurvePoint) → IsSplit (point_at s Sell) (below s w.last) w.sells point → IsSell (Some point)
  split_of point i =
      let made = i.made in
      let same : point.limit ≡ i.at = ap (λ (p : CurvePoint). p.limit) made in
      let whole = i.whole in
      let others = i.others in
      record {
        foremost = subst (λ (p : ℕ). IsForemost Buy w.last (side_limits s Sell) p) (sym same) (highest-sell s w.last i.before i.at whole);
        units = subst (λ (p : ℕ). point ≡ point_at s Sell p) (sym same) made;
        others = subst (λ (p : ℕ). w.sells ≡ sells_below s (Some p)) (sym same) (others ∙ ap (map (point_at s Sell)) (others-below s w.last i.before i.at whole));
      }

  sell_of : (sell : Option CurvePoint) → w.sell ≡ sell → w.sells ++ option_to_list sell ≡ sells_below s w.last → IsSell sell
  sell_of None e h =
      let none : w.sells ≡ [] = k.none e in
      let nothing : map (point_at s Sell) (below s w.last) ≡ [] = sym h ∙ ap (λ (l : List CurvePoint). l ++ []) none in
      record { foremost = no-sells s w.last (nothing-made (point_at s Sell) (below s w.last) nothing); units = tt; others = tt }
  sell_of (Some point) e h = split_of point (splits (point_at s Sell) (below s w.last) w.sells point (sym h))

  pub sell-is : IsSell w.sell
  sell-is = sell_of w.sell refl k.sells

  module _ (buy : Option (ℕ × ℕ)) (is_buy : buy ≡ level_in s Buy w.last) where
    next_buy : Foremost Buy w.last (side_limits s Buy) (option_map (λ (l : ℕ × ℕ). l.0) buy)
    next_buy = foremost_of Buy w.last (active s.phase Buy s.orders) buy (nexts_are s Buy w.last buy (sym is_buy))

    pub foremost-is : Foremost Buy w.last (side_limits s Buy ++ side_limits s Sell) (better_of_two Buy (option_map (λ (l : ℕ × ℕ). l.0) buy) (option_map (λ (p : CurvePoint). p.limit) w.sell))
    foremost-is =
        let h = sell-is in
        foremost-two Buy w.last (side_limits s Buy) (side_limits s Sell) (option_map (λ (l : ℕ × ℕ). l.0) buy) (option_map (λ (p : CurvePoint). p.limit) w.sell) next_buy h.foremost

    pub ends : better_of_two Buy (option_map (λ (l : ℕ × ℕ). l.0) buy) (option_map (λ (p : CurvePoint). p.limit) w.sell) ≡ None → candidates_below s w.last ≡ []
    ends e =
        ap (λ (cs : List ℕ). best_first Buy (prices_after Buy w.last cs)) (candidates-are s)
        ∙ none-after Buy w.last (side_limits s Buy ++ side_limits s Sell) (subst (Foremost Buy w.last (side_limits s Buy ++ side_limits s Sell)) e foremost-is)

    module _ (x : ℕ) (is_next : better_of_two Buy (option_map (λ (l : ℕ × ℕ). l.0) buy) (option_map (λ (p : CurvePoint). p.limit) w.sell) ≡ Some x) where
      next_is : IsForemost Buy w.last (side_limits s Buy ++ side_limits s Sell) x
      next_is = subst (Foremost Buy w.last (side_limits s Buy ++ side_limits s Sell)) is_next foremost-is

      pub next-candidate : candidates_below s w.last ≡ x ∷ candidates_below s (Some x)
      next-candidate =
          ap (λ (cs : List ℕ). best_first Buy (prices_after Buy w.last cs)) (candidates-are s)
          ∙ first-after Buy w.last (side_limits s Buy ++ side_limits s Sell) x next_is
          ∙ ap (λ (cs : List ℕ). x ∷ best_first Buy (prices_after Buy (Some x) cs)) (sym (candidates-are s))

      pub demand-is : units_with w.demand buy x ≡ accepting s.phase s.orders Buy x
      demand-is =
          let n = next_is in
          demand-at s w.last x w.demand buy k.demand (sym is_buy) n.behind
          (no-worse Buy w.last (side_limits s Buy) (side_limits s Sell) (option_map (λ (l : ℕ × ℕ). l.0) buy) x n next_buy)

      sell_under : IfSome (option_map (λ (p : CurvePoint). p.limit) w.sell) (λ p. reaches Buy x p ≡ true)
      sell_under = let h = sell-is in no-worse-right Buy w.last (side_limits s Buy) (side_limits s Sell) (option_map (λ (p : CurvePoint). p.limit) w.sell) x next_is h.foremost

      supply_of : (sell : Option CurvePoint) → IsSell sell → IfSome (option_map (λ (p : CurvePoint). p.limit) sell) (λ p. reaches Buy x p ≡ true)
          → supply_from sell w.market_supply ≡ accepting s.phase s.orders Sell x
      supply_of None h r = let n = next_is in k.market_supply ∙ supply_none s w.last x n.behind h.foremost
      supply_of (Some point) h r =
          let n = next_is in
          ap (λ (p : CurvePoint). p.units) h.units ∙ supply_some s w.last x point.limit n.behind h.foremost r

      pub supply-is : supply_from w.sell w.market_supply ≡ accepting s.phase s.orders Sell x
      supply-is = supply_of w.sell sell-is sell_under

      -- the sells' limits below it
      passed_at : (sell : Option CurvePoint) → IsSell sell → is_point_at x sell ≡ true → w.sells ≡ sells_below s (Some x)
      passed_at None h e = absurd (cc)
      passed_at (Some point) h e = subst (λ (p : ℕ). w.sells ≡ sells_below s (Some p)) (eqb-true point.limit x e) h.others

      unreached : (sell : Option CurvePoint) → IsSell sell → IfSome (option_map (λ (p : CurvePoint). p.limit) sell) (λ p. reaches Buy x p ≡ true) → is_point_at x sell ≡ false
          → (q : ℕ) → Contains (side_limits s Sell) q → later Buy w.last q ≡ true → reaches Buy q x ≡ false
      unreached None h r e q at l = absurd (h.foremost q at l)
      unreached (Some point) h r e q at l =
          let f : IsForemost Buy w.last (side_limits s Sell) point.limit = h.foremost in
          false_from_ne_true (reaches Buy q x)
          (λ t. both_ways (point.limit == x) e (eq-eqb point.limit x (reaches-once Buy point.limit x (reaches-on Buy point.limit q x (f.first q at l) t) r)))

      kept_below : is_point_at x w.sell ≡ false → sells_below s w.last ≡ sells_below s (Some x)
      kept_below e =
          let n = next_is in
          ap (map (point_at s Sell)) (same-below s w.last x n.behind (unreached w.sell sell-is sell_under e))

      module _ (v : Walked) (p : HasPassed x (record w { last = Some x; demand = units_with w.demand buy x }) v) where
        sells_if : (b : Bool) → is_point_at x w.sell ≡ b → v.sells ++ option_to_list v.sell ≡ sells_below s (Some x)
        sells_if true e = sym (p.at e) ∙ passed_at w.sell sell-is e
        sells_if false e =
            let sell : v.sell ≡ w.sell = p.sell e in
            let sells : v.sells ≡ w.sells = p.sells e in
            rw (sell, sells) (k.sells ∙ kept_below e)

        none_if : (b : Bool) → is_point_at x w.sell ≡ b → v.sell ≡ None → v.sells ≡ []
        none_if true e n = p.none e n
        none_if false e n = p.sells e ∙ k.none (sym (p.sell e) ∙ n)

        pub walks-on : IsWalk s v
        walks-on =
            let last : v.last ≡ Some x = p.last in
            record {
              demand = subst (λ (o : Option ℕ). v.demand ≡ units_to s.phase Buy o s.orders) (sym last) (p.demand ∙ demand-is);
              market_supply = p.market_supply ∙ k.market_supply;
              sells = subst (λ (o : Option ℕ). v.sells ++ option_to_list v.sell ≡ sells_below s o) (sym last) (sells_if (is_point_at x w.sell) refl);
              none = none_if (is_point_at x w.sell) refl;
            }
