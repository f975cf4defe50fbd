-- The rule of a call, beside a row that no other is better than.
use Rattle.std.proofs.Common.{◌≡◌, ℕ, ◌<◌, ◌≤◌, ◌==◌, Bool, true, false, ◌&&◌, ◌||◌, if◌then◌else◌, List, [], ◌∷◌, filter, Contains, Option, Some, None, refl, ap, sym, ◌∙◌, subst, arith, ◌⊎◌, inl, inr}
use Rattle.std.specs.List.{list_all}
use Rattle.std.specs.Prelude.{nat_lt, unwrap_or, IsSome}
use Rattle.std.proofs.lemmas.Bool.{and_from, and_parts, eq-eqb}
use Rattle.std.proofs.lemmas.Bool.Decides.{nat_tests}
use Rattle.xm_book.proofs.Bests.{Bests, best-is, best-none, best-says}
use Rattle.xm_reasons.specs.Candidates.{absolute_surplus_of, volume_of}
use Rattle.xm_reasons.specs.RowRules.{group_prices, is_in_group, is_preferred_to, leader_from, leader_of}
use Rattle.xm_reasons.specs.Rules.{is_one_price, rule_among}
use Rattle.xm_reasons.specs.declared.candidates.Candidate.{Candidate}
use Rattle.xm_reasons.specs.declared.rules.Group.TheVariants.{OfSurplus}
use Rattle.xm_reasons.proofs.InOrder.{SameMembers}
use Rattle.xm_rules.specs.Auction.{highest, lowest}
use Rattle.xm_rules.specs.Sides.{best}
use Rattle.xm_rules.specs.declared.orders.Side.{Side}
use Rattle.xm_rules.specs.declared.orders.Side.TheVariants.{Buy, Sell}
use Rattle.xm_slots.proofs.Members.{Contains-cases, Contains-filter, Contains-here, Contains-map, Contains-none, Contains-there}

-- ---- tests of all of a list
module _ {X : Type 0} where
  all_here : (p : X → Bool) (x : X) (xs : List X) (y : X) → p x ≡ true → (Contains xs y → p y ≡ true) → (x ≡ y) ⊎ Contains xs y → p y ≡ true
  all_here p x xs y h rest (inl same) = subst (λ (z : X). p z ≡ true) same h
  all_here p x xs y h rest (inr behind) = rest behind

  pub all-says : (p : X → Bool) (xs : List X) (y : X) → list_all p xs ≡ true → Contains xs y → p y ≡ true
  all-says p [] y h at = absurd (Contains-none y at)
  all-says p (x ∷ xs) y h at =
      let parts = and_parts (p x) (list_all p xs) h in
      all_here p x xs y parts.0 (all-says p xs y parts.1) (Contains-cases x xs y at)

  pub all-from : (p : X → Bool) (xs : List X) → ((y : X) → Contains xs y → p y ≡ true) → list_all p xs ≡ true
  all-from p [] h = refl
  all-from p (x ∷ xs) h = and_from (p x) (list_all p xs) (h x (Contains-here x xs)) (all-from p xs (λ y at. h y (Contains-there x xs y at)))

-- ---- the best of lists with the same members
carried_to : (side : Side) (xs ys : List ℕ) (o : Option ℕ) → SameMembers xs ys → Bests side xs o → o ≡ best side ys
carried_to side xs ys None s none = sym (best-none side ys (λ y at. none y (s.from y at)))
carried_to side xs ys (Some p) s b = sym (best-is side ys p (record { there = s.to p b.there; reaches_all = λ y at. b.reaches_all y (s.from y at) }))

pub best-same : (side : Side) (xs ys : List ℕ) → SameMembers xs ys → best side xs ≡ best side ys
best-same side xs ys s = carried_to side xs ys (best side xs) s (best-says side xs (best side xs) refl)

pub highest-same : (xs ys : List ℕ) → SameMembers xs ys → highest xs ≡ highest ys
highest-same xs ys s = ap (λ (o : Option ℕ). unwrap_or o 0) (best-same Buy xs ys s)

pub lowest-same : (xs ys : List ℕ) → SameMembers xs ys → lowest xs ≡ lowest ys
lowest-same xs ys s = ap (λ (o : Option ℕ). unwrap_or o 0) (best-same Sell xs ys s)

pub one-price-same : (xs ys : List ℕ) → SameMembers xs ys → is_one_price xs ≡ is_one_price ys
one-price-same xs ys s = rw (highest-same xs ys s, lowest-same xs ys s) refl

pub rule-same : (xs ys bs ds ss ts : List ℕ) → SameMembers xs ys → SameMembers bs ds → SameMembers ss ts → rule_among xs bs ss ≡ rule_among ys ds ts
rule-same xs ys [] [] [] [] a b c = rw (highest-same xs ys a, lowest-same xs ys a) refl
rule-same xs ys (b ∷ bs) (d ∷ ds) [] [] a i c = refl
rule-same xs ys [] [] (s ∷ ss) (t ∷ ts) a i c = refl
rule-same xs ys (b ∷ bs) (d ∷ ds) (s ∷ ss) (t ∷ ts) a i c = rw (highest-same (b ∷ bs) (d ∷ ds) i, lowest-same (s ∷ ss) (t ∷ ts) c) refl
rule-same xs ys [] (d ∷ ds) ss ts a i c = absurd (Contains-none d (i.from d (Contains-here d ds)))
rule-same xs ys (b ∷ bs) [] ss ts a i c = absurd (Contains-none b (i.to b (Contains-here b bs)))
rule-same xs ys bs ds [] (t ∷ ts) a i c = absurd (Contains-none t (c.from t (Contains-here t ts)))
rule-same xs ys bs ds (s ∷ ss) [] a i c = absurd (Contains-none s (c.to s (Contains-here s ss)))

-- ---- a row that no other is preferred to
pub record Leads (rows : List Candidate) (leader : Candidate) : Type 0 where
  pub there : Contains rows leader
  pub most : (c : Candidate) → Contains rows c → volume_of c ≤ volume_of leader
  pub least : (c : Candidate) → Contains rows c → volume_of c ≡ volume_of leader → absolute_surplus_of leader ≤ absolute_surplus_of c

prefers : (v w a b : ℕ) → (nat_lt v w || ((v == w) && nat_lt b a)) ≡ true → (v ≤ w) × (v ≡ w → b < a)
prefers v w a b h = (grind (arith, nat_tests), λ e. grind (arith, nat_tests))

prefers_not : (v w a b : ℕ) → (nat_lt v w || ((v == w) && nat_lt b a)) ≡ false → (w ≤ v) × (w ≡ v → a ≤ b)
prefers_not v w a b h = (grind (arith, nat_tests), λ e. grind (arith, nat_tests))

-- one more that is no better than one of them
module _ (c d : Candidate) (ds : List Candidate) (leader : Candidate) (more : volume_of d ≤ volume_of c) (less : volume_of d ≡ volume_of c → absolute_surplus_of c ≤ absolute_surplus_of d) (l : Leads (c ∷ ds) leader) where
  most_here : (x : Candidate) → (d ≡ x) ⊎ Contains (c ∷ ds) x → volume_of x ≤ volume_of leader
  most_here x (inl same) = subst (λ (y : Candidate). volume_of y ≤ volume_of leader) same (let h = l.most c (Contains-here c ds) in omega (arith, h, more))
  most_here x (inr at) = l.most x at

  least_self : volume_of d ≡ volume_of leader → absolute_surplus_of leader ≤ absolute_surplus_of d
  least_self e =
      let h = l.most c (Contains-here c ds) in
      let same : volume_of d ≡ volume_of c = omega (arith, h, more, e) in
      let i = l.least c (Contains-here c ds) (sym same ∙ e) in
      let j = less same in
      omega (arith, i, j)

  least_here : (x : Candidate) → (d ≡ x) ⊎ Contains (c ∷ ds) x → volume_of x ≡ volume_of leader → absolute_surplus_of leader ≤ absolute_surplus_of x
  least_here x (inl same) e = subst (λ (y : Candidate). absolute_surplus_of leader ≤ absolute_surplus_of y) same (least_self (ap volume_of same ∙ e))
  least_here x (inr at) e = l.least x at e

  leads_with : Leads (d ∷ c ∷ ds) leader
  leads_with = record {
    there = Contains-there d (c ∷ ds) leader l.there;
    most = λ x at. most_here x (Contains-cases d (c ∷ ds) x at);
    least = λ x at e. least_here x (Contains-cases d (c ∷ ds) x at) e;
  }

swapped : (c d : Candidate) (ds : List Candidate) (x : Candidate) → Contains (c ∷ d ∷ ds) x → Contains (d ∷ c ∷ ds) x
swapped c d ds x at = of (Contains-cases c (d ∷ ds) x at) where
  first : (d ≡ x) ⊎ Contains ds x → Contains (d ∷ c ∷ ds) x
  first (inl same) = subst (λ (y : Candidate). Contains (d ∷ c ∷ ds) y) same (Contains-here d (c ∷ ds))
  first (inr later) = Contains-there d (c ∷ ds) x (Contains-there c ds x later)

  of : (c ≡ x) ⊎ Contains (d ∷ ds) x → Contains (d ∷ c ∷ ds) x
  of (inl same) = subst (λ (y : Candidate). Contains (d ∷ c ∷ ds) y) same (Contains-there d (c ∷ ds) c (Contains-here c ds))
  of (inr behind) = first (Contains-cases d ds x behind)

leads_swapped : (c d : Candidate) (ds : List Candidate) (leader : Candidate) → Leads (d ∷ c ∷ ds) leader → Leads (c ∷ d ∷ ds) leader
leads_swapped c d ds leader l = record {
  there = swapped d c ds leader l.there;
  most = λ x at. l.most x (swapped c d ds x at);
  least = λ x at e. l.least x (swapped c d ds x at) e;
}

leads_if : (c d : Candidate) (ds : List Candidate) (b : Bool) → is_preferred_to c d ≡ b → ((x : Candidate) → Leads (x ∷ ds) (leader_from x ds)) → Leads (c ∷ d ∷ ds) (leader_from (if b then d else c) ds)
leads_if c d ds true e rest =
    let h = prefers (volume_of c) (volume_of d) (absolute_surplus_of c) (absolute_surplus_of d) e in
    leads_with d c ds (leader_from d ds) h.0 (λ same. let l = h.1 same in omega (arith, l)) (rest d)
leads_if c d ds false e rest =
    let h = prefers_not (volume_of c) (volume_of d) (absolute_surplus_of c) (absolute_surplus_of d) e in
    leads_swapped c d ds (leader_from c ds) (leads_with c d ds (leader_from c ds) h.0 h.1 (rest c))

alone_here : (c x : Candidate) → (c ≡ x) ⊎ Contains [] x → c ≡ x
alone_here c x (inl same) = same
alone_here c x (inr later) = absurd (Contains-none x later)

pub leads-from : (c : Candidate) (cs : List Candidate) → Leads (c ∷ cs) (leader_from c cs)
leads-from c [] = record {
  there = Contains-here c [];
  most = λ x at. let same = alone_here c x (Contains-cases c [] x at) in let v = ap volume_of same in omega (arith, v);
  least = λ x at e. let same = alone_here c x (Contains-cases c [] x at) in let a = ap absolute_surplus_of same in omega (arith, a);
}
leads-from c (d ∷ ds) = leads_if c d ds (is_preferred_to c d) refl (λ x. leads-from x ds)

pub leader-leads : (rows : List Candidate) (leader : Candidate) → leader_of rows ≡ Some leader → Leads rows leader
leader-leads [] leader e = absurd (cc)
leader-leads (c ∷ cs) leader e = let same : leader_from c cs ≡ leader = cc in subst (Leads (c ∷ cs)) same (leads-from c cs)

pub leader-none : (rows : List Candidate) → leader_of rows ≡ None → rows ≡ []
leader-none [] e = refl
leader-none (c ∷ cs) e = absurd (cc)

-- it is one of its own groups
same_number : (n : ℕ) → (n == n) ≡ true
same_number n = eq-eqb n n refl

pub has-leader : (leader : Candidate) (rows : List Candidate) → Contains rows leader → Contains (group_prices leader OfSurplus rows) leader.price
has-leader leader rows at =
    let level = and_from (volume_of leader == volume_of leader) (absolute_surplus_of leader == absolute_surplus_of leader) (same_number (volume_of leader)) (same_number (absolute_surplus_of leader)) in
    Contains-map (λ (c : Candidate). c.price) (filter (is_in_group leader OfSurplus) rows) leader (Contains-filter (is_in_group leader OfSurplus) rows leader level at)

pub best-some : (side : Side) (ps : List ℕ) (p : ℕ) → Contains ps p → IsSome (best side ps)
best-some side [] p at = absurd (Contains-none p at)
best-some side (q ∷ qs) p at = refl
