-- The curves of a call: demand falls and supply rises with the price, and no price has more volume than each limit has.
use Rattle.std.proofs.Common.{◌≡◌, ℕ, ◌+◌, ◌-◌, ◌<◌, ◌≤◌, suc, true, if◌then◌else◌, List, [], ◌∷◌, ◌++◌, All, Contains, Option, Some, None, refl, sym, subst, arith}
use Rattle.std.specs.List.{cons_option}
use Rattle.std.specs.Prelude.{nat_le}
use Rattle.std.proofs.lemmas.Bool.Decides.{nat_tests}
use Rattle.std.proofs.lemmas.List.Elements.{All-nil, All-cons, All-weaker, All-contains, Contains-append_left, Contains-append_right, filter_map-append}
use Rattle.std.proofs.lemmas.List.Sums.{sum_by-le-sum_by, AllPass-from_list_all}
use Rattle.xm_rules.specs.Active.{Positioned, active, limits}
use Rattle.xm_rules.specs.Auction.{accepting, volume, candidates}
use Rattle.xm_rules.specs.Orders.{accepts, limit_of}
use Rattle.xm_rules.specs.declared.orders.Order.{Order}
use Rattle.xm_rules.specs.declared.orders.OrderKind.{OrderKind}
use Rattle.xm_rules.specs.declared.orders.OrderKind.TheVariants.{Market, Limit}
use Rattle.xm_rules.specs.declared.orders.Side.{Side}
use Rattle.xm_rules.specs.declared.orders.Side.TheVariants.{Buy, Sell}
use Rattle.xm_rules.specs.declared.phases.Phase.{Phase}
use Rattle.xm_rules.proofs.Choices.{best_of, ranks_down}
use Rattle.xm_rules.proofs.Queues.{units, if_le}
use Rattle.xm_rules.proofs.Sums.{sum-le}

le_on : (a b c : ℕ) → nat_le b c ≡ true → a ≤ b → nat_le a c ≡ true
le_on a b c h l = grind (arith, nat_tests)

le_up : (a b c : ℕ) → nat_le a b ≡ true → b ≤ c → nat_le a c ≡ true
le_up a b c h l = grind (arith, nat_tests)

buys_fall : (k : OrderKind) (x y : ℕ) → x ≤ y → accepts Buy k y ≡ true → accepts Buy k x ≡ true
buys_fall Market x y l e = refl
buys_fall (Limit p) x y l e = le_on x y p e l

sells_rise : (k : OrderKind) (x y : ℕ) → x ≤ y → accepts Sell k x ≡ true → accepts Sell k y ≡ true
sells_rise Market x y l e = refl
sells_rise (Limit p) x y l e = le_up p x y e l

pub demand_falls : (phase : Phase) (orders : List Order) (x y : ℕ) → x ≤ y → accepting phase orders Buy y ≤ accepting phase orders Buy x
demand_falls phase orders x y l =
    sum_by-le-sum_by (λ (i : Positioned). if accepts Buy i.order.kind y then units i else 0) (λ (i : Positioned). if accepts Buy i.order.kind x then units i else 0) (active phase Buy orders)
    (λ i. if_le (accepts Buy i.order.kind y) (accepts Buy i.order.kind x) (units i) (buys_fall i.order.kind x y l))

pub supply_rises : (phase : Phase) (orders : List Order) (x y : ℕ) → x ≤ y → accepting phase orders Sell x ≤ accepting phase orders Sell y
supply_rises phase orders x y l =
    sum_by-le-sum_by (λ (i : Positioned). if accepts Sell i.order.kind x then units i else 0) (λ (i : Positioned). if accepts Sell i.order.kind y then units i else 0) (active phase Sell orders)
    (λ i. if_le (accepts Sell i.order.kind x) (accepts Sell i.order.kind y) (units i) (sells_rise i.order.kind x y l))

-- between two prices the volume is no less than the lesser of theirs
pub volume_between : (phase : Phase) (orders : List Order) (n low high x : ℕ) → n ≤ volume phase orders low → n ≤ volume phase orders high → low < x → x < high → n ≤ volume phase orders x
volume_between phase orders n low high x l m below above =
    omega (arith, demand_falls phase orders x high (omega arith), supply_rises phase orders low x (omega arith))

-- the limit of an order, where it has one, is in a list
abbrev pub HasLimit : List ℕ → Positioned → Type 0
HasLimit ps i = (p : ℕ) → limit_of i.order.kind ≡ Some p → Contains ps p

contains_first : (o : Option ℕ) (p : ℕ) (ps : List ℕ) → o ≡ Some p → Contains (cons_option o ps) p
contains_first None p ps e = absurd (cc)
contains_first (Some q) p ps e = (0, omega arith, let same : q ≡ p = cc in same)

contains_later : (o : Option ℕ) (p : ℕ) (ps : List ℕ) → Contains ps p → Contains (cons_option o ps) p
contains_later None p ps at = at
contains_later (Some q) p ps at = (suc at.0, (let l = at.1 in omega arith), at.2)

limits_have : (queue : List Positioned) → All (HasLimit (limits queue)) queue
limits_have [] = λ k d l. absurd (omega arith)
limits_have (i ∷ is) =
    All-cons (HasLimit (limits (i ∷ is))) i is (λ p e. contains_first (limit_of i.order.kind) p (limits is) e)
    (All-weaker (HasLimit (limits is)) (HasLimit (limits (i ∷ is))) (λ x h p e. contains_later (limit_of i.order.kind) p (limits is) (h p e)) is (limits_have is))

candidates_are : (phase : Phase) (orders : List Order) → candidates phase orders ≡ limits (active phase Buy orders) ++ limits (active phase Sell orders)
candidates_are phase orders = filter_map-append (λ (i : Positioned). limit_of i.order.kind) (active phase Buy orders) (active phase Sell orders)

-- each limit of an active order is a candidate
candidates_have : (phase : Phase) (orders : List Order) (side : Side) → All (HasLimit (candidates phase orders)) (active phase side orders)
candidates_have phase orders Buy =
    All-weaker (HasLimit (limits (active phase Buy orders))) (HasLimit (candidates phase orders))
    (λ x h p e. subst (λ (ps : List ℕ). Contains ps p) (sym (candidates_are phase orders)) (Contains-append_left (limits (active phase Buy orders)) (limits (active phase Sell orders)) p (h p e)))
    (active phase Buy orders) (limits_have (active phase Buy orders))
candidates_have phase orders Sell =
    All-weaker (HasLimit (limits (active phase Sell orders))) (HasLimit (candidates phase orders))
    (λ x h p e. subst (λ (ps : List ℕ). Contains ps p) (sym (candidates_are phase orders)) (Contains-append_right (limits (active phase Buy orders)) (limits (active phase Sell orders)) p (h p e)))
    (active phase Sell orders) (limits_have (active phase Sell orders))

-- how far a price is from another: those up to it come first, the higher the nearer, and then those above it
abbrev pub distance : ℕ → ℕ → ℕ
distance x y = if nat_le y x then x - y else x + y

buys_keep : (x c p : ℕ) → nat_le (distance x c) (distance x p) ≡ true → nat_le x p ≡ true → nat_le c p ≡ true
buys_keep x c p near e = grind (arith, nat_tests)

sells_keep : (x c p : ℕ) → nat_le (distance x c) (distance x p) ≡ true → nat_le p x ≡ true → nat_le p c ≡ true
sells_keep x c p near e = grind (arith, nat_tests)

-- the candidate nearest to a price is accepted by each active order that accepts the price
nearest_accepted : (side : Side) (k : OrderKind) (x c : ℕ) → ((p : ℕ) → limit_of k ≡ Some p → nat_le (distance x c) (distance x p) ≡ true) → accepts side k x ≡ true → accepts side k c ≡ true
nearest_accepted side Market x c near e = refl
nearest_accepted Buy (Limit p) x c near e = buys_keep x c p (near p refl) e
nearest_accepted Sell (Limit p) x c near e = sells_keep x c p (near p refl) e

-- where a price is as near as each limit is, it is accepted by no fewer units
accepting_grows : (phase : Phase) (orders : List Order) (side : Side) (x c : ℕ) → All (λ p. nat_le (distance x c) (distance x p) ≡ true) (candidates phase orders)
    → accepting phase orders side x ≤ accepting phase orders side c
accepting_grows phase orders side x c near =
    sum-le (λ (i : Positioned). if accepts side i.order.kind x then units i else 0) (λ (i : Positioned). if accepts side i.order.kind c then units i else 0) (active phase side orders)
    (All-weaker (HasLimit (candidates phase orders)) (λ (i : Positioned). (if accepts side i.order.kind x then units i else 0) ≤ (if accepts side i.order.kind c then units i else 0))
    (λ i h. if_le (accepts side i.order.kind x) (accepts side i.order.kind c) (units i)
    (nearest_accepted side i.order.kind x c (λ p e. All-contains (λ q. nat_le (distance x c) (distance x q) ≡ true) (candidates phase orders) p near (h p e))))
    (active phase side orders) (candidates_have phase orders side))

volume_grows : (phase : Phase) (orders : List Order) (x c : ℕ) → All (λ p. nat_le (distance x c) (distance x p) ≡ true) (candidates phase orders) → volume phase orders x ≤ volume phase orders c
volume_grows phase orders x c near = omega (arith, accepting_grows phase orders Buy x c near, accepting_grows phase orders Sell x c near)

-- where no candidate has more volume than a number, no price has
pub volume_anywhere : (phase : Phase) (orders : List Order) (n : ℕ) (c : ℕ) (cs : List ℕ) → candidates phase orders ≡ c ∷ cs → All (λ y. volume phase orders y ≤ n) (c ∷ cs) → (x : ℕ) → volume phase orders x ≤ n
volume_anywhere phase orders n c cs e all x =
    let t = λ (y z : ℕ). nat_le (distance x y) (distance x z) in
    let b = best_of t (ranks_down (distance x)) c cs in
    let near : All (λ p. nat_le (distance x b.chosen) (distance x p) ≡ true) (candidates phase orders) =
    subst (λ (ps : List ℕ). All (λ p. nat_le (distance x b.chosen) (distance x p) ≡ true) ps) (sym e) (AllPass-from_list_all (t b.chosen) (c ∷ cs) b.beats) in
    let here : volume phase orders b.chosen ≤ n = All-contains (λ y. volume phase orders y ≤ n) (c ∷ cs) b.chosen all (b.position, b.below, b.here) in
    omega (arith, volume_grows phase orders x b.chosen near)

-- where there is no candidate, all prices have the same volume
pub volume_everywhere : (phase : Phase) (orders : List Order) → candidates phase orders ≡ [] → (x c : ℕ) → volume phase orders x ≤ volume phase orders c
volume_everywhere phase orders e x c =
    volume_grows phase orders x c (subst (λ (ps : List ℕ). All (λ p. nat_le (distance x c) (distance x p) ≡ true) ps) (sym e) (All-nil (λ p. nat_le (distance x c) (distance x p) ≡ true)))
