-- The volume of an auction price.
use Rattle.std.proofs.Common.{◌≡◌, ℕ, zero, suc, ◌<◌, ◌≤◌, Bool, true, false, ◌&&◌, if◌then◌else◌, List, [], ◌∷◌, length, get_or, filter, All, Option, Some, None, refl, ap, sym, subst, ◌∙◌, arith, ◌==◌}
use Rattle.std.specs.List.{list_all}
use Rattle.std.specs.Prelude.{unwrap_or, nat_le, nat_lt}
use Rattle.std.proofs.lemmas.Bool.{eqb-true, leb-true}
use Rattle.std.proofs.lemmas.List.Elements.{All-weaker, All-filter, filter_passes}
use Rattle.std.proofs.lemmas.List.Sums.{AllPass-from_list_all}
use Rattle.xm_rules.specs.Auction.{volume, surplus, absolute_surplus, with_volume, price_from, chosen_price, candidates, where_greatest, best_candidates, auction_price}
use Rattle.xm_rules.specs.declared.orders.Order.{Order}
use Rattle.xm_rules.specs.declared.orders.Side.TheVariants.{Buy, Sell}
use Rattle.xm_rules.specs.declared.phases.Phase.{Phase}
use Rattle.xm_rules.proofs.Choices.{greatest_exists, least_exists, price_among_has}
use Rattle.xm_rules.proofs.Volumes.{volume_between, volume_anywhere, volume_everywhere}

-- what a test leaves of a price
pub record Priced (phase : Phase) (orders : List Order) (b : Bool) (chosen price traded : ℕ) : Type 0 where
  pub passed : b ≡ false
  pub same : chosen ≡ price
  pub volume_is : volume phase orders price ≡ traded

priced_if : (phase : Phase) (orders : List Order) (b : Bool) (chosen price traded : ℕ)
    → (if b then None else with_volume phase orders chosen) ≡ Some (price, traded) → Priced phase orders b chosen price traded
priced_if phase orders true chosen price traded e = absurd (cc)
priced_if phase orders false chosen price traded e =
    let same : chosen ≡ price = ap (λ (o : Option (ℕ × ℕ)). (unwrap_or o (0, 0)).0) e in
    let traded_is : volume phase orders chosen ≡ traded = ap (λ (o : Option (ℕ × ℕ)). (unwrap_or o (0, 0)).1) e in
    record { passed = refl; same = same; volume_is = subst (λ (x : ℕ). volume phase orders x ≡ traded) same traded_is }

volume_from : (phase : Phase) (orders : List Order) (reference price traded : ℕ) (cs : List ℕ) → price_from phase orders reference cs ≡ Some (price, traded) → volume phase orders price ≡ traded
volume_from phase orders reference price traded [] e = (priced_if phase orders (volume phase orders reference == 0) reference price traded e).volume_is
volume_from phase orders reference price traded (c ∷ cs) e =
    (priced_if phase orders (list_all (λ x. volume phase orders x == 0) (c ∷ cs)) (chosen_price phase orders reference) price traded e).volume_is

-- the volume of an auction price is the one that can be executed at it
pub volume_at_price : (phase : Phase) (orders : List Order) (reference price traded : ℕ) → auction_price phase orders reference ≡ Some (price, traded) → volume phase orders price ≡ traded
volume_at_price phase orders reference price traded e = volume_from phase orders reference price traded (candidates phase orders) e

-- no candidate has more volume than a price
abbrev pub Tops : Phase → List Order → ℕ → Type 0
Tops phase orders x = All (λ y. volume phase orders y ≤ volume phase orders x) (candidates phase orders)

test_le : (f : ℕ → ℕ) (x : ℕ) (xs : List ℕ) → list_all (λ y. nat_le (f y) (f x)) xs ≡ true → All (λ y. f y ≤ f x) xs
test_le f x xs e =
    All-weaker (λ y. nat_le (f y) (f x) ≡ true) (λ y. f y ≤ f x) (λ y h. leb-true (f y) (f x) h) xs (AllPass-from_list_all (λ y. nat_le (f y) (f x)) xs e)

greatest_top : (phase : Phase) (orders : List Order) → All (Tops phase orders) (where_greatest (volume phase orders) (candidates phase orders))
greatest_top phase orders =
    let cs = candidates phase orders in
    let v = volume phase orders in
    All-weaker (λ x. list_all (λ y. nat_le (v y) (v x)) cs ≡ true) (Tops phase orders) (λ x h. test_le v x cs h) (where_greatest v cs)
    (filter_passes (λ x. list_all (λ y. nat_le (v y) (v x)) cs) cs)

best_top : (phase : Phase) (orders : List Order) → All (Tops phase orders) (best_candidates phase orders)
best_top phase orders =
    let cs = where_greatest (volume phase orders) (candidates phase orders) in
    let f = absolute_surplus phase orders in
    All-filter (λ x. list_all (λ y. nat_le (f x) (f y)) cs) (Tops phase orders) cs (greatest_top phase orders)

-- no candidate has more volume than the price chosen
chosen_top : (phase : Phase) (orders : List Order) (reference : ℕ) → 0 < length (candidates phase orders) → Tops phase orders (chosen_price phase orders reference)
chosen_top phase orders reference some =
    let xs = best_candidates phase orders in
    let top = best_top phase orders in
    price_among_has (Tops phase orders)
    (λ low high x l m below above k d n. volume_between phase orders (volume phase orders (get_or (candidates phase orders) k d)) low high x (l k d n) (m k d n) below above)
    reference xs (filter (λ x. nat_lt 0 (surplus phase orders Buy x)) xs) (filter (λ x. nat_lt 0 (surplus phase orders Sell x)) xs)
    (least_exists (absolute_surplus phase orders) (where_greatest (volume phase orders) (candidates phase orders)) (greatest_exists (volume phase orders) (candidates phase orders) some))
    top (All-filter (λ x. nat_lt 0 (surplus phase orders Buy x)) (Tops phase orders) xs top) (All-filter (λ x. nat_lt 0 (surplus phase orders Sell x)) (Tops phase orders) xs top)

greatest_from : (phase : Phase) (orders : List Order) (reference price traded : ℕ) (cs : List ℕ) → candidates phase orders ≡ cs
    → price_from phase orders reference cs ≡ Some (price, traded) → (x : ℕ) → volume phase orders x ≤ traded
greatest_from phase orders reference price traded [] none e x =
    let p = priced_if phase orders (volume phase orders reference == 0) reference price traded e in
    let is = p.volume_is in
    omega (arith, volume_everywhere phase orders none x price)
greatest_from phase orders reference price traded (c ∷ cs) some e x =
    let p = priced_if phase orders (list_all (λ y. volume phase orders y == 0) (c ∷ cs)) (chosen_price phase orders reference) price traded e in
    let long : 0 < length (candidates phase orders) = subst (λ (ps : List ℕ). 0 < length ps) (sym some) (omega arith) in
    let top : Tops phase orders price = subst (Tops phase orders) p.same (chosen_top phase orders reference long) in
    let there : All (λ y. volume phase orders y ≤ volume phase orders price) (c ∷ cs) =
    subst (λ (ps : List ℕ). All (λ y. volume phase orders y ≤ volume phase orders price) ps) some top in
    let is = p.volume_is in
    omega (arith, volume_anywhere phase orders (volume phase orders price) c cs some there x)

-- no price has more volume than the auction price
pub greatest_volume : (phase : Phase) (orders : List Order) (reference price traded : ℕ) → auction_price phase orders reference ≡ Some (price, traded) → (x : ℕ) → volume phase orders x ≤ traded
greatest_volume phase orders reference price traded e = greatest_from phase orders reference price traded (candidates phase orders) refl e

none_if : (phase : Phase) (orders : List Order) (b : Bool) (chosen : ℕ) → (if b then None else with_volume phase orders chosen) ≡ None → b ≡ true
none_if phase orders true chosen e = refl
none_if phase orders false chosen e = absurd (cc)

none_from : (phase : Phase) (orders : List Order) (reference : ℕ) (cs : List ℕ) → candidates phase orders ≡ cs → price_from phase orders reference cs ≡ None
    → (x : ℕ) → volume phase orders x ≤ 0
none_from phase orders reference [] none e x =
    let zero_there : volume phase orders reference ≡ 0 = eqb-true (volume phase orders reference) 0 (none_if phase orders (volume phase orders reference == 0) reference e) in
    omega (arith, volume_everywhere phase orders none x reference)
none_from phase orders reference (c ∷ cs) some e x =
    let all = none_if phase orders (list_all (λ y. volume phase orders y == 0) (c ∷ cs)) (chosen_price phase orders reference) e in
    let zeros : All (λ y. volume phase orders y ≤ 0) (c ∷ cs) =
    All-weaker (λ y. (volume phase orders y == 0) ≡ true) (λ y. volume phase orders y ≤ 0) (λ y h. let z = eqb-true (volume phase orders y) 0 h in omega arith) (c ∷ cs)
    (AllPass-from_list_all (λ y. volume phase orders y == 0) (c ∷ cs) all) in
    volume_anywhere phase orders 0 c cs some zeros x

-- where there is no auction price, nothing can be executed at any price
pub no_volume : (phase : Phase) (orders : List Order) (reference : ℕ) → auction_price phase orders reference ≡ None → (x : ℕ) → volume phase orders x ≤ 0
no_volume phase orders reference e = none_from phase orders reference (candidates phase orders) refl e

-- ---- a price that a call has comes with some volume
none_anywhere : (phase : Phase) (orders : List Order) → ((x : ℕ) → volume phase orders x ≡ 0) → (cs : List ℕ) → list_all (λ x. volume phase orders x == 0) cs ≡ true
none_anywhere phase orders none [] = refl
none_anywhere phase orders none (c ∷ cs) = (λ i. (none c i == 0) && none_anywhere phase orders none cs i)

no_price : (phase : Phase) (orders : List Order) (reference : ℕ) → ((x : ℕ) → volume phase orders x ≡ 0) → (cs : List ℕ) → price_from phase orders reference cs ≡ None
no_price phase orders reference none [] = (λ i. if none reference i == 0 then None else with_volume phase orders reference)
no_price phase orders reference none (c ∷ cs) = (λ i. if none_anywhere phase orders none (c ∷ cs) i then None else with_volume phase orders (chosen_price phase orders reference))

pub some_volume : (phase : Phase) (orders : List Order) (reference price traded : ℕ) → auction_price phase orders reference ≡ Some (price, traded) → 0 < traded
some_volume phase orders reference price zero e =
    let none = no_price phase orders reference (λ x. (let most = greatest_volume phase orders reference price zero e x in omega (arith, most))) (candidates phase orders) in
    absurd (let k : None ≡ Some (price, zero) = sym none ∙ e in cc)
some_volume phase orders reference price (suc traded) e = omega arith

-- ---- an auction price is the reference, a limit, or between two of those
priced_within : (phase : Phase) (orders : List Order) (reference price traded most : ℕ) (cs : List ℕ) → candidates phase orders ≡ cs → reference ≤ most → All (λ x. x ≤ most) (candidates phase orders)
    → price_from phase orders reference cs ≡ Some (price, traded) → price ≤ most
priced_within phase orders reference price traded most [] none low all e =
    subst (λ (x : ℕ). x ≤ most) (priced_if phase orders (volume phase orders reference == 0) reference price traded e).same low
priced_within phase orders reference price traded most (c ∷ cs) some low all e =
    let xs = best_candidates phase orders in
    let Within : ℕ → Type 0 = λ x. x ≤ most in
    let long : 0 < length (candidates phase orders) = subst (λ (ps : List ℕ). 0 < length ps) (sym some) (omega arith) in
    let greatest = where_greatest (volume phase orders) (candidates phase orders) in
    let best : All Within xs =
    All-filter (λ x. list_all (λ y. nat_le (absolute_surplus phase orders x) (absolute_surplus phase orders y)) greatest) Within greatest
    (All-filter (λ x. list_all (λ y. nat_le (volume phase orders y) (volume phase orders x)) (candidates phase orders)) Within (candidates phase orders) all) in
    let chosen : chosen_price phase orders reference ≤ most =
    price_among_has Within (λ n high x l m below above. omega (arith, m, above)) reference xs
    (filter (λ x. nat_lt 0 (surplus phase orders Buy x)) xs) (filter (λ x. nat_lt 0 (surplus phase orders Sell x)) xs)
    (least_exists (absolute_surplus phase orders) greatest (greatest_exists (volume phase orders) (candidates phase orders) long))
    best (All-filter (λ x. nat_lt 0 (surplus phase orders Buy x)) Within xs best) (All-filter (λ x. nat_lt 0 (surplus phase orders Sell x)) Within xs best) in
    subst Within (priced_if phase orders (list_all (λ y. volume phase orders y == 0) (c ∷ cs)) (chosen_price phase orders reference) price traded e).same chosen

pub price_within : (phase : Phase) (orders : List Order) (reference price traded most : ℕ) → reference ≤ most → All (λ x. x ≤ most) (candidates phase orders)
    → auction_price phase orders reference ≡ Some (price, traded) → price ≤ most
price_within phase orders reference price traded most low all e = priced_within phase orders reference price traded most (candidates phase orders) refl low all e
