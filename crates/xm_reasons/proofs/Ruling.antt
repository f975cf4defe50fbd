-- The rule of a call by its rows is the rule of its definition, and gives the price.
use Rattle.std.proofs.Common.{◌≡◌, ℕ, ◌≤◌, ◌==◌, Bool, true, false, ◌&&◌, if◌then◌else◌, List, [], ◌∷◌, filter, map, cond, Contains, Option, Some, None, refl, ap, sym, ◌∙◌, subst, arith}
use Rattle.std.specs.List.{list_all}
use Rattle.std.specs.Prelude.{nat_le, nat_lt, option_map, unwrap_or}
use Rattle.std.proofs.lemmas.Bool.{and_from, and_parts, both_ways, eq-eqb, eqb-true, false_from_ne_true, leb-true, le-leb, ltb-true}
use Rattle.std.proofs.lemmas.Bool.Decides.{nat_tests}
use Rattle.xm_book.proofs.Bests.{Bests, best-says}
use Rattle.xm_reasons.specs.Candidates.{absolute_surplus_of, candidate_in, descending, surplus_on, volume_of}
use Rattle.xm_reasons.specs.RowRules.{group_prices, is_in_group, leader_from, rule_beside}
use Rattle.xm_reasons.specs.Rules.{best_rows, chosen_by, decided_by, is_one_price, price_by, prices_of, rows_of_least_surplus, rows_of_most_volume, rule_among, rule_from}
use Rattle.xm_reasons.specs.declared.candidates.Candidate.{Candidate}
use Rattle.xm_reasons.specs.declared.rules.Group.{Group}
use Rattle.xm_reasons.specs.declared.rules.Group.TheVariants.{OfVolume, OfSurplus, OnSide}
use Rattle.xm_reasons.specs.declared.rules.PriceRule.TheVariants.{NothingExecutable, NoLimit, MostVolume, LeastSurplus}
use Rattle.xm_reasons.proofs.Deciding.{Leads, all-from, all-says, highest-same, leads-from, lowest-same, one-price-same, rule-same}
use Rattle.xm_reasons.proofs.InOrder.{SameMembers, in-order}
use Rattle.xm_rules.specs.Auction.{absolute_surplus, auction_price, best_candidates, candidates, chosen_price, highest, lowest, price_among, price_from, surplus, volume, where_greatest, with_volume}
use Rattle.xm_rules.specs.Sides.{best}
use Rattle.xm_rules.specs.declared.orders.Order.{Order}
use Rattle.xm_rules.specs.declared.orders.Side.{Side}
use Rattle.xm_rules.specs.declared.orders.Side.TheVariants.{Buy, Sell}
use Rattle.xm_rules.specs.declared.phases.Phase.{Phase}
use Rattle.xm_slots.proofs.Members.{Contains-filter, Contains-here, Contains-map, Contains-none, IsMade-map, Passes-filter}
use Rattle.xm_ticks.specs.Ranges.{kept_between}

-- a list has just what something holds of
pub record Has (P : ℕ → Type 0) (xs : List ℕ) : Type 0 where
  pub to : (x : ℕ) → Contains xs x → P x
  pub from : (x : ℕ) → P x → Contains xs x

same_by : (P : ℕ → Type 0) (xs ys : List ℕ) → Has P xs → Has P ys → SameMembers xs ys
same_by P xs ys h i = record { to = λ y at. i.from y (h.to y at); from = λ y at. h.from y (i.to y at) }

-- ---- lists of one price
all_one : (side : Side) (xs : List ℕ) (h y : ℕ) → ((x : ℕ) → Contains xs x → x ≡ h) → Contains xs y → (o : Option ℕ) → Bests side xs o → unwrap_or o 0 ≡ h
all_one side xs h y one at None none = absurd (none y at)
all_one side xs h y one at (Some p) b = one p b.there

highest_one : (xs : List ℕ) (h y : ℕ) → ((x : ℕ) → Contains xs x → x ≡ h) → Contains xs y → highest xs ≡ h
highest_one xs h y one at = all_one Buy xs h y one at (best Buy xs) (best-says Buy xs (best Buy xs) refl)

lowest_one : (xs : List ℕ) (h y : ℕ) → ((x : ℕ) → Contains xs x → x ≡ h) → Contains xs y → lowest xs ≡ h
lowest_one xs h y one at = all_one Sell xs h y one at (best Sell xs) (best-says Sell xs (best Sell xs) refl)

above_all : (xs : List ℕ) (x : ℕ) → Contains xs x → (o : Option ℕ) → Bests Buy xs o → x ≤ unwrap_or o 0
above_all xs x at None none = absurd (none x at)
above_all xs x at (Some p) b = leb-true x p (b.reaches_all x at)

below_all : (xs : List ℕ) (x : ℕ) → Contains xs x → (o : Option ℕ) → Bests Sell xs o → unwrap_or o 0 ≤ x
below_all xs x at None none = absurd (none x at)
below_all xs x at (Some p) b = leb-true p x (b.reaches_all x at)

-- where the highest is the lowest, each is
each_one : (xs : List ℕ) → highest xs ≡ lowest xs → (x : ℕ) → Contains xs x → x ≡ highest xs
each_one xs e x at =
    let high = above_all xs x at (best Buy xs) (best-says Buy xs (best Buy xs) refl) in
    let low = below_all xs x at (best Sell xs) (best-says Sell xs (best Sell xs) refl) in
    omega (arith, high, low, e)

kept_one : (low high last : ℕ) → high ≡ low → kept_between low high last ≡ high
kept_one low high last e = subst (λ (l : ℕ). kept_between l high last ≡ high) e (grind (arith, nat_tests))

-- ---- rows are made of prices
module _ {X Y : Type 0} (f : X → Y) (p : Y → Bool) where
  made_if : (x : X) (xs : List X) (b : Bool) → p (f x) ≡ b → filter p (map f xs) ≡ map f (filter (λ x. p (f x)) xs)
      → cond b (f x ∷ filter p (map f xs)) (filter p (map f xs)) ≡ map f (cond b (x ∷ filter (λ x. p (f x)) xs) (filter (λ x. p (f x)) xs))
  made_if x xs true e rest = ap (λ (l : List Y). f x ∷ l) rest
  made_if x xs false e rest = rest

  pub filter_made : (xs : List X) → filter p (map f xs) ≡ map f (filter (λ x. p (f x)) xs)
  filter_made [] = refl
  filter_made (x ∷ xs) = made_if x xs (p (f x)) refl (filter_made xs)

all_made : {X Y : Type 0} → (f : X → Y) (p : Y → Bool) (xs : List X) → list_all p (map f xs) ≡ list_all (λ x. p (f x)) xs
all_made f p [] = refl
all_made f p (x ∷ xs) = ap (λ (b : Bool). p (f x) && b) (all_made f p xs)

filter_each : {X : Type 0} → (p q : X → Bool) (xs : List X) → ((x : X) → p x ≡ q x) → filter p xs ≡ filter q xs
filter_each p q [] h = refl
filter_each p q (x ∷ xs) h = rw (h x, filter_each p q xs h) refl

module _ (phase : Phase) (orders : List Order) where
  abbrev row : ℕ → Candidate
  row x = candidate_in phase orders x

  abbrev cs : List ℕ
  cs = candidates phase orders

  abbrev rows : List Candidate
  rows = map row (descending cs)

  prices_made : (xs : List ℕ) → prices_of (map row xs) ≡ xs
  prices_made [] = refl
  prices_made (x ∷ xs) = ap (λ (l : List ℕ). x ∷ l) (prices_made xs)

  filtered : (p : Candidate → Bool) (xs : List ℕ) → prices_of (filter p (map row xs)) ≡ filter (λ x. p (row x)) xs
  filtered p xs = ap prices_of (filter_made row p xs) ∙ prices_made (filter (λ x. p (row x)) xs)

  in_rows : (x : ℕ) → Contains cs x → Contains (descending cs) x
  in_rows x at = let i = in-order Buy cs in let s = i.same in s.from x at

  of_rows : (x : ℕ) → Contains (descending cs) x → Contains cs x
  of_rows x at = let i = in-order Buy cs in let s = i.same in s.to x at

  -- a candidate that no other is better than
  pub record IsLeader (l : ℕ) : Type 0 where
    pub there : Contains cs l
    pub most : (x : ℕ) → Contains cs x → volume phase orders x ≤ volume phase orders l
    pub least : (x : ℕ) → Contains cs x → volume phase orders x ≡ volume phase orders l → absolute_surplus phase orders l ≤ absolute_surplus phase orders x

  pub leader-of : (leader : Candidate) → Leads rows leader → (l : ℕ) × (leader ≡ row l) × IsLeader l
  leader-of leader k =
      let made = IsMade-map row (descending cs) leader k.there in
      let is = made.made in (
        made.from,
        sym is,
        record {
          there = of_rows made.from made.contains;
          most = λ x at. subst (λ (c : Candidate). volume phase orders x ≤ volume_of c) (sym is) (k.most (row x) (Contains-map row (descending cs) x (in_rows x at)));
          least = λ x at e. subst (λ (c : Candidate). absolute_surplus_of c ≤ absolute_surplus phase orders x) (sym is)
              (k.least (row x) (Contains-map row (descending cs) x (in_rows x at)) (e ∙ ap volume_of is));
        },
      )

  module _ (l : ℕ) (k : IsLeader l) where
    -- the candidates of greatest volume, those of least surplus among them, and those with a surplus on a side
    pub record IsTop (x : ℕ) : Type 0 where
      pub there : Contains cs x
      pub same : volume phase orders x ≡ volume phase orders l

    pub record IsBestOf (x : ℕ) : Type 0 where
      pub top : IsTop x
      pub level : absolute_surplus phase orders x ≡ absolute_surplus phase orders l

    pub record IsOn (side : Side) (x : ℕ) : Type 0 where
      pub best : IsBestOf x
      pub some : nat_lt 0 (surplus phase orders side x) ≡ true

    leader_top : IsTop l
    leader_top = record { there = k.there; same = refl }

    leader_best : IsBestOf l
    leader_best = record { top = leader_top; level = refl }

    -- ---- by the definition of the price
    abbrev is_greatest : ℕ → Bool
    is_greatest x = list_all (λ y. nat_le (volume phase orders y) (volume phase orders x)) cs

    tops : Has IsTop (where_greatest (volume phase orders) cs)
    tops = record {
      to = λ x at.
          let p = Passes-filter is_greatest cs x at in
          let h = k.most x p.contains in
          let i = leb-true (volume phase orders l) (volume phase orders x) (all-says (λ y. nat_le (volume phase orders y) (volume phase orders x)) cs l p.passes k.there) in
          record { there = p.contains; same = omega (arith, h, i) };
      from = λ x t.
          let same = t.same in
          Contains-filter is_greatest cs x
          (all-from (λ y. nat_le (volume phase orders y) (volume phase orders x)) cs (λ y at. le-leb (volume phase orders y) (volume phase orders x) (let h = k.most y at in omega (arith, h, same)))) t.there;
    }

    least_of : (x : ℕ) → IsTop x → absolute_surplus phase orders l ≤ absolute_surplus phase orders x
    least_of x t = k.least x t.there t.same

    -- those of least surplus of a list that has the candidates of greatest volume
    bests_in : (ts : List ℕ) → Has IsTop ts → Has IsBestOf (filter (λ x. list_all (λ y. nat_le (absolute_surplus phase orders x) (absolute_surplus phase orders y)) ts) ts)
    bests_in ts h = record {
      to = λ x at.
          let p = Passes-filter (λ x. list_all (λ y. nat_le (absolute_surplus phase orders x) (absolute_surplus phase orders y)) ts) ts x at in
          let t = h.to x p.contains in
          let i = least_of x t in
          let j = leb-true (absolute_surplus phase orders x) (absolute_surplus phase orders l)
          (all-says (λ y. nat_le (absolute_surplus phase orders x) (absolute_surplus phase orders y)) ts l p.passes (h.from l leader_top)) in
          record { top = t; level = omega (arith, i, j) };
      from = λ x b.
          let level = b.level in
          Contains-filter (λ x. list_all (λ y. nat_le (absolute_surplus phase orders x) (absolute_surplus phase orders y)) ts) ts x
          (all-from (λ y. nat_le (absolute_surplus phase orders x) (absolute_surplus phase orders y)) ts
          (λ y at. le-leb (absolute_surplus phase orders x) (absolute_surplus phase orders y) (let i = least_of y (h.to y at) in omega (arith, i, level)))) (h.from x b.top);
    }

    bests : Has IsBestOf (best_candidates phase orders)
    bests = bests_in (where_greatest (volume phase orders) cs) tops

    ons : (side : Side) → Has (IsOn side) (filter (λ x. nat_lt 0 (surplus phase orders side x)) (best_candidates phase orders))
    ons side = record {
      to = λ x at.
          let p = Passes-filter (λ x. nat_lt 0 (surplus phase orders side x)) (best_candidates phase orders) x at in
          let h = bests in
          record { best = h.to x p.contains; some = p.passes };
      from = λ x o. let h = bests in Contains-filter (λ x. nat_lt 0 (surplus phase orders side x)) (best_candidates phase orders) x o.some (h.from x o.best);
    }

    -- ---- by the rows, beside the leader
    in_group : (group : Group) (x : ℕ) → Contains (group_prices (row l) group rows) x → Contains cs x × (is_in_group (row l) group (row x) ≡ true)
    in_group group x at =
        let p = Passes-filter (λ x. is_in_group (row l) group (row x)) (descending cs) x (subst (λ (ps : List ℕ). Contains ps x) (filtered (is_in_group (row l) group) (descending cs)) at) in
        (of_rows x p.contains, p.passes)

    of_group : (group : Group) (x : ℕ) → Contains cs x → is_in_group (row l) group (row x) ≡ true → Contains (group_prices (row l) group rows) x
    of_group group x at h =
        subst (λ (ps : List ℕ). Contains ps x) (sym (filtered (is_in_group (row l) group) (descending cs)))
        (Contains-filter (λ x. is_in_group (row l) group (row x)) (descending cs) x h (in_rows x at))

    level_says : (x : ℕ) → Contains cs x → is_in_group (row l) OfSurplus (row x) ≡ true → IsBestOf x
    level_says x at h =
        let parts = and_parts (volume phase orders x == volume phase orders l) (absolute_surplus phase orders x == absolute_surplus phase orders l) h in
        record {
          top = record { there = at; same = eqb-true (volume phase orders x) (volume phase orders l) parts.0 };
          level = eqb-true (absolute_surplus phase orders x) (absolute_surplus phase orders l) parts.1;
        }

    level_from : (x : ℕ) → IsBestOf x → is_in_group (row l) OfSurplus (row x) ≡ true
    level_from x b =
        let t = b.top in
        and_from (volume phase orders x == volume phase orders l) (absolute_surplus phase orders x == absolute_surplus phase orders l)
        (eq-eqb (volume phase orders x) (volume phase orders l) t.same) (eq-eqb (absolute_surplus phase orders x) (absolute_surplus phase orders l) b.level)

    group_tops : Has IsTop (group_prices (row l) OfVolume rows)
    group_tops = record {
      to = λ x at. let h = in_group OfVolume x at in record { there = h.0; same = eqb-true (volume phase orders x) (volume phase orders l) h.1 };
      from = λ x t. of_group OfVolume x t.there (eq-eqb (volume phase orders x) (volume phase orders l) t.same);
    }

    group_bests : Has IsBestOf (group_prices (row l) OfSurplus rows)
    group_bests = record {
      to = λ x at. let h = in_group OfSurplus x at in level_says x h.0 h.1;
      from = λ x b. let t = b.top in of_group OfSurplus x t.there (level_from x b);
    }

    surplus_at : (side : Side) (x : ℕ) → surplus_on side (row x) ≡ surplus phase orders side x
    surplus_at Buy x = refl
    surplus_at Sell x = refl

    group_ons : (side : Side) → Has (IsOn side) (group_prices (row l) (OnSide side) rows)
    group_ons side = record {
      to = λ x at.
          let h = in_group (OnSide side) x at in
          let parts = and_parts (is_in_group (row l) OfSurplus (row x)) (nat_lt 0 (surplus_on side (row x))) h.1 in
          record { best = level_says x h.0 parts.0; some = ap (nat_lt 0) (sym (surplus_at side x)) ∙ parts.1 };
      from = λ x o.
          let b = o.best in
          let t = b.top in
          of_group (OnSide side) x t.there (and_from (is_in_group (row l) OfSurplus (row x)) (nat_lt 0 (surplus_on side (row x))) (level_from x b) (ap (nat_lt 0) (surplus_at side x) ∙ o.some));
    }

    -- ---- the rule
    none_if : (ds : List ℕ) → cs ≡ ds → (b : Bool) → (volume phase orders l == 0) ≡ b → list_all (λ x. volume phase orders x == 0) ds ≡ b
    none_if ds e true z =
        let none = eqb-true (volume phase orders l) 0 z in
        all-from (λ x. volume phase orders x == 0) ds
        (λ x at. eq-eqb (volume phase orders x) 0 (let h = k.most x (subst (λ (ps : List ℕ). Contains ps x) (sym e) at) in omega (arith, h, none)))
    none_if ds e false z =
        false_from_ne_true (list_all (λ x. volume phase orders x == 0) ds)
        (λ h. both_ways (volume phase orders l == 0) z (all-says (λ x. volume phase orders x == 0) ds l h (subst (λ (ps : List ℕ). Contains ps l) e k.there)))

    beside : rule_beside (row l) rows ≡ (if volume phase orders l == 0 then NothingExecutable else chosen_by phase orders)
    beside =
        let one_top = one-price-same (group_prices (row l) OfVolume rows) (where_greatest (volume phase orders) cs) (same_by IsTop (group_prices (row l) OfVolume rows) (where_greatest (volume phase orders) cs) group_tops tops) in
        let best_same = same_by IsBestOf (group_prices (row l) OfSurplus rows) (best_candidates phase orders) group_bests bests in
        let one_best = one-price-same (group_prices (row l) OfSurplus rows) (best_candidates phase orders) best_same in
        let among = rule-same (group_prices (row l) OfSurplus rows) (best_candidates phase orders) (group_prices (row l) (OnSide Buy) rows) _ (group_prices (row l) (OnSide Sell) rows) _ best_same
        (same_by (IsOn Buy) _ _ (group_ons Buy) (ons Buy)) (same_by (IsOn Sell) _ _ (group_ons Sell) (ons Sell)) in
        rw (one_top, one_best, among) refl

    pub rule-is : (last : ℕ) (ds : List ℕ) → cs ≡ ds → rule_beside (row l) rows ≡ rule_from phase orders last ds
    rule-is last [] e = absurd (Contains-none l (subst (λ (ps : List ℕ). Contains ps l) e k.there))
    rule-is last (d ∷ ds) e =
        beside ∙ ap (λ (b : Bool). if b then NothingExecutable else chosen_by phase orders) (sym (none_if (d ∷ ds) e (volume phase orders l == 0) refl))

    -- ---- the price
    row_tops : Has IsTop (prices_of (rows_of_most_volume rows))
    row_tops = record {
      to = λ x at.
          let p = Passes-filter (λ x. list_all (λ (d : Candidate). nat_le (volume_of d) (volume phase orders x)) rows) (descending cs) x
          (subst (λ (ps : List ℕ). Contains ps x) (filtered (λ (c : Candidate). list_all (λ (d : Candidate). nat_le (volume_of d) (volume_of c)) rows) (descending cs)) at) in
          let h = k.most x (of_rows x p.contains) in
          let i = leb-true (volume phase orders l) (volume phase orders x)
          (all-says (λ (d : Candidate). nat_le (volume_of d) (volume phase orders x)) rows (row l) p.passes (Contains-map row (descending cs) l (in_rows l k.there))) in
          record { there = of_rows x p.contains; same = omega (arith, h, i) };
      from = λ x t.
          let same = t.same in
          subst (λ (ps : List ℕ). Contains ps x) (sym (filtered (λ (c : Candidate). list_all (λ (d : Candidate). nat_le (volume_of d) (volume_of c)) rows) (descending cs)))
          (Contains-filter (λ x. list_all (λ (d : Candidate). nat_le (volume_of d) (volume phase orders x)) rows) (descending cs) x
          (all-from (λ (d : Candidate). nat_le (volume_of d) (volume phase orders x)) rows
          (λ d at.
          let made = IsMade-map row (descending cs) d at in
          let is = ap volume_of made.made in
          le-leb (volume_of d) (volume phase orders x) (let h = k.most made.from (of_rows made.from made.contains) in omega (arith, h, is, same)))) (in_rows x t.there));
    }

    abbrev top_prices : List ℕ
    top_prices = filter (λ x. list_all (λ (d : Candidate). nat_le (volume_of d) (volume phase orders x)) rows) (descending cs)

    top_rows : rows_of_most_volume rows ≡ map row top_prices
    top_rows = filter_made row (λ (c : Candidate). list_all (λ (d : Candidate). nat_le (volume_of d) (volume_of c)) rows) (descending cs)

    tops_are : prices_of (rows_of_most_volume rows) ≡ top_prices
    tops_are = filtered (λ (c : Candidate). list_all (λ (d : Candidate). nat_le (volume_of d) (volume_of c)) rows) (descending cs)

    least_prices : (ts : List ℕ) → prices_of (rows_of_least_surplus (map row ts)) ≡ filter (λ x. list_all (λ y. nat_le (absolute_surplus phase orders x) (absolute_surplus phase orders y)) ts) ts
    least_prices ts =
        filtered (λ (c : Candidate). list_all (λ (d : Candidate). nat_le (absolute_surplus_of c) (absolute_surplus_of d)) (map row ts)) ts
        ∙ filter_each (λ x. list_all (λ (d : Candidate). nat_le (absolute_surplus phase orders x) (absolute_surplus_of d)) (map row ts))
        (λ x. list_all (λ y. nat_le (absolute_surplus phase orders x) (absolute_surplus phase orders y)) ts) ts
        (λ x. all_made row (λ (d : Candidate). nat_le (absolute_surplus phase orders x) (absolute_surplus_of d)) ts)

    row_bests : Has IsBestOf (prices_of (best_rows rows))
    row_bests =
        subst (Has IsBestOf) (sym (ap (λ (rs : List Candidate). prices_of (rows_of_least_surplus rs)) top_rows ∙ least_prices top_prices))
        (bests_in top_prices (subst (Has IsTop) tops_are row_tops))

    -- a price among the best is theirs, where they are one
    apart : (x y h : ℕ) → x ≡ h → y ≡ h → nat_lt 0 (surplus phase orders Buy x) ≡ true → nat_lt 0 (surplus phase orders Sell y) ≡ true → ⊥
    apart x y h e f b s =
        let buys = ltb-true 0 (surplus phase orders Buy h) (subst (λ (z : ℕ). nat_lt 0 (surplus phase orders Buy z) ≡ true) e b) in
        let sells = ltb-true 0 (surplus phase orders Sell h) (subst (λ (z : ℕ). nat_lt 0 (surplus phase orders Sell z) ≡ true) f s) in
        omega (arith, buys, sells)

    among_one : (last : ℕ) (xs bs ss : List ℕ) → highest xs ≡ lowest xs
        → ((x : ℕ) → Contains bs x → Contains xs x × (nat_lt 0 (surplus phase orders Buy x) ≡ true))
        → ((x : ℕ) → Contains ss x → Contains xs x × (nat_lt 0 (surplus phase orders Sell x) ≡ true))
        → price_among last xs bs ss ≡ highest xs
    among_one last xs [] [] e b s = kept_one (lowest xs) (highest xs) last e
    among_one last xs (x ∷ bs) [] e b s = refl
    among_one last xs [] (y ∷ ss) e b s = sym e
    among_one last xs (x ∷ bs) (y ∷ ss) e b s =
        let buy = b x (Contains-here x bs) in
        let sell = s y (Contains-here y ss) in
        absurd (apart x y (highest xs) (each_one xs e x buy.0) (each_one xs e y sell.0) buy.1 sell.1)

    abbrev on : Side → List ℕ
    on side = filter (λ x. nat_lt 0 (surplus phase orders side x)) (best_candidates phase orders)

    among_best : (last : ℕ) → highest (best_candidates phase orders) ≡ lowest (best_candidates phase orders) → chosen_price phase orders last ≡ highest (best_candidates phase orders)
    among_best last e =
        among_one last (best_candidates phase orders) (on Buy) (on Sell) e
        (λ x at. let p = Passes-filter (λ x. nat_lt 0 (surplus phase orders Buy x)) (best_candidates phase orders) x at in (p.contains, p.passes))
        (λ x at. let p = Passes-filter (λ x. nat_lt 0 (surplus phase orders Sell x)) (best_candidates phase orders) x at in (p.contains, p.passes))

    best_highest : highest (prices_of (best_rows rows)) ≡ highest (best_candidates phase orders)
    best_highest = highest-same (prices_of (best_rows rows)) (best_candidates phase orders) (same_by IsBestOf (prices_of (best_rows rows)) (best_candidates phase orders) row_bests bests)

    best_lowest : lowest (prices_of (best_rows rows)) ≡ lowest (best_candidates phase orders)
    best_lowest = lowest-same (prices_of (best_rows rows)) (best_candidates phase orders) (same_by IsBestOf (prices_of (best_rows rows)) (best_candidates phase orders) row_bests bests)

    among_gives : (last : ℕ) (bs ss : List ℕ) → Some (price_among last (best_candidates phase orders) bs ss) ≡ price_by (rule_among (best_candidates phase orders) bs ss) rows last
    among_gives last [] [] = refl
    among_gives last (b ∷ bs) [] = ap (λ (p : ℕ). Some p) (sym best_highest)
    among_gives last [] (s ∷ ss) = ap (λ (p : ℕ). Some p) (sym best_lowest)
    among_gives last (b ∷ bs) (s ∷ ss) = refl

    abbrev top_list : List ℕ
    top_list = where_greatest (volume phase orders) cs

    most_gives : (last : ℕ) → highest top_list ≡ lowest top_list → chosen_price phase orders last ≡ highest (prices_of (rows_of_most_volume rows))
    most_gives last e =
        let h = bests in
        let t = tops in
        let one : (x : ℕ) → Contains (best_candidates phase orders) x → x ≡ highest top_list = λ x at. let b = h.to x at in each_one top_list e x (t.from x b.top) in
        let there = h.from l leader_best in
        let high = highest_one (best_candidates phase orders) (highest top_list) l one there in
        let low = lowest_one (best_candidates phase orders) (highest top_list) l one there in
        among_best last (high ∙ sym low) ∙ high
        ∙ sym (highest-same (prices_of (rows_of_most_volume rows)) top_list (same_by IsTop (prices_of (rows_of_most_volume rows)) top_list row_tops tops))

    chosen_if : (last : ℕ) (a b : Bool) → is_one_price top_list ≡ a → is_one_price (best_candidates phase orders) ≡ b
        → Some (chosen_price phase orders last)
        ≡ price_by (if a then MostVolume else (if b then LeastSurplus else rule_among (best_candidates phase orders) (on Buy) (on Sell))) rows last
    chosen_if last true b e f = ap (λ (p : ℕ). Some p) (most_gives last (eqb-true (highest top_list) (lowest top_list) e))
    chosen_if last false true e f =
        ap (λ (p : ℕ). Some p) (among_best last (eqb-true (highest (best_candidates phase orders)) (lowest (best_candidates phase orders)) f) ∙ sym best_highest)
    chosen_if last false false e f = among_gives last (on Buy) (on Sell)

    chosen_gives : (last : ℕ) → Some (chosen_price phase orders last) ≡ price_by (chosen_by phase orders) rows last
    chosen_gives last = chosen_if last (is_one_price top_list) (is_one_price (best_candidates phase orders)) refl refl

  -- ---- with a leader, or without
  leader_in : (rs : List Candidate) → rows ≡ rs → (d : ℕ) → Contains cs d → (l : ℕ) × IsLeader l
  leader_in [] e d at = absurd (Contains-none (row d) (subst (λ (rs : List Candidate). Contains rs (row d)) e (Contains-map row (descending cs) d (in_rows d at))))
  leader_in (c ∷ rs) e d at =
      let found = leader-of (leader_from c rs) (subst (λ (qs : List Candidate). Leads qs (leader_from c rs)) (sym e) (leads-from c rs)) in
      (found.0, found.2)

  no_rows : (ds : List ℕ) → cs ≡ ds → rows ≡ [] → ds ≡ []
  no_rows [] e none = refl
  no_rows (d ∷ ds) e none =
      let at = subst (λ (ps : List ℕ). Contains ps d) (sym e) (Contains-here d ds) in
      absurd (Contains-none (row d) (subst (λ (rs : List Candidate). Contains rs (row d)) none (Contains-map row (descending cs) d (in_rows d at))))

  pub no-candidates : rows ≡ [] → candidates phase orders ≡ []
  no-candidates none = no_rows cs refl none

  pub rule-of-leader : (last : ℕ) (leader : Candidate) → Leads rows leader → rule_beside leader rows ≡ decided_by phase orders last
  rule-of-leader last leader k =
      let found = leader-of leader k in
      ap (λ (c : Candidate). rule_beside c rows) found.1 ∙ rule-is found.0 found.2 last cs refl

  limit_if : (last : ℕ) (found : ℕ × ℕ) (b : Bool) → (if b then None else with_volume phase orders last) ≡ Some found → NoLimit ≡ (if b then NothingExecutable else NoLimit)
  limit_if last found true e = absurd (cc)
  limit_if last found false e = refl

  pub rule-without-limits : (last : ℕ) (found : ℕ × ℕ) → candidates phase orders ≡ [] → auction_price phase orders last ≡ Some found → NoLimit ≡ decided_by phase orders last
  rule-without-limits last found none e =
      limit_if last found (volume phase orders last == 0) (ap (price_from phase orders last) (sym none) ∙ e) ∙ sym (ap (rule_from phase orders last) none)

  -- ---- the rule gives the price
  abbrev price_in : Option (ℕ × ℕ) → Option ℕ
  price_in o = option_map (λ (priced : ℕ × ℕ). priced.0) o

  gives_last : (last : ℕ) (b : Bool) → price_in (if b then None else with_volume phase orders last) ≡ price_by (if b then NothingExecutable else NoLimit) rows last
  gives_last last true = refl
  gives_last last false = refl

  gives_chosen : (last : ℕ) (b : Bool) → Some (chosen_price phase orders last) ≡ price_by (chosen_by phase orders) rows last
      → price_in (if b then None else with_volume phase orders (chosen_price phase orders last)) ≡ price_by (if b then NothingExecutable else chosen_by phase orders) rows last
  gives_chosen last true h = refl
  gives_chosen last false h = h

  gives : (last : ℕ) (ds : List ℕ) → cs ≡ ds → price_in (price_from phase orders last ds) ≡ price_by (rule_from phase orders last ds) rows last
  gives last [] e = gives_last last (volume phase orders last == 0)
  gives last (d ∷ ds) e =
      let found = leader_in rows refl d (subst (λ (ps : List ℕ). Contains ps d) (sym e) (Contains-here d ds)) in
      gives_chosen last (list_all (λ x. volume phase orders x == 0) (d ∷ ds)) (chosen_gives found.0 found.1 last)

  pub rule-gives : (last : ℕ) → price_in (auction_price phase orders last) ≡ price_by (decided_by phase orders last) rows last
  rule-gives last = gives last cs refl
