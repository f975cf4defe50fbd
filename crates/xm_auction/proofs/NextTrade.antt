-- The trade of a call that comes next: the owners of the next unit on both sides trade, and it is the last trade so far.
use Rattle.std.proofs.Common.{◌≡◌, ℕ, ◌+◌, ◌-◌, ◌<◌, ◌≤◌, min, max, Bool, true, false, if◌then◌else◌, [], ◌∷◌, ◌++◌, Contains, Some, None, refl, sym, ap, ◌∙◌, ◌⊎◌, inl, inr, arith}
use Rattle.std.specs.Prelude.{nat_lt}
use Rattle.std.proofs.lemmas.Bool.{and_from, cases_eq, ltb-true, lt-ltb}
use Rattle.std.proofs.lemmas.Bool.Decides.{nat_tests}
use Rattle.xm_auction.proofs.Growing.{GivesLast, gives_last}
use Rattle.xm_book.proofs.Cutting.{IsOther}
use Rattle.xm_auction.proofs.Owners.{IsNext, apart_in, is_on, phase_of, upto}
use Rattle.xm_slots.proofs.Members.{Contains-filter, Passes-filter}
use Rattle.xm_rules.specs.Active.{Positioned, is_active_on}
use Rattle.xm_rules.specs.Allotment.{Uncrossing, auction_trades, end_unit, first_unit, parties, side_queue, takes_part, trade_of_pair, traded_units}
use Rattle.xm_rules.specs.Orders.{trade_between}
use Rattle.xm_rules.specs.declared.orders.Side.{Side}
use Rattle.xm_rules.specs.declared.orders.Side.TheVariants.{Buy, Sell}
use Rattle.xm_rules.specs.declared.orders.Trade.{Trade}
use Rattle.xm_rules.specs.declared.orders.TradeKind.TheVariants.{Auction}
use Rattle.xm_rules.proofs.Allotments.{at_price}
use Rattle.xm_rules.proofs.Positions.{Rising, rising_active, rising_kept, same_at_position}
use Rattle.xm_rules.proofs.Queues.{units}

-- no order of a side owns units before and after so many
pub record IsCut (u : Uncrossing) (side : Side) (unit : ℕ) : Type 0 where
  pub cut : (i : Positioned) → Contains (side_queue u side) i → (first_unit u side i + units i ≤ unit) ⊎ (unit ≤ first_unit u side i)

pub cut_at_first : (u : Uncrossing) (side : Side) → IsCut u side 0
cut_at_first u side = record { cut = λ i at. inr (omega arith) }

first_at_cut : (u : Uncrossing) (side : Side) (unit : ℕ) (x : Positioned) → IsNext u side unit x → IsCut u side unit → first_unit u side x ≡ unit
first_at_cut u side unit x next c = by_cut (c.cut x next.contained)
  where
    by_cut : (first_unit u side x + units x ≤ unit) ⊎ (unit ≤ first_unit u side x) → first_unit u side x ≡ unit
    by_cut (inl l) = absurd (let h = next.to in omega arith)
    by_cut (inr l) = let h = next.from in omega arith

-- after the last unit of an order there is a cut
pub cut_after : (u : Uncrossing) (side : Side) (unit : ℕ) (x : Positioned) → IsNext u side unit x → IsCut u side (first_unit u side x + units x)
cut_after u side unit x next = record { cut = λ i at. by_position i at (cases_eq i.position x.position) }
  where
    by_side : (i : Positioned) → (first_unit u side i + units i ≤ first_unit u side x) ⊎ (first_unit u side x + units x ≤ first_unit u side i)
        → (first_unit u side i + units i ≤ first_unit u side x + units x) ⊎ (first_unit u side x + units x ≤ first_unit u side i)
    by_side i (inl l) = inl (omega arith)
    by_side i (inr l) = inr l

    by_position : (i : Positioned) → Contains (side_queue u side) i → (i.position ≡ x.position) ⊎ (i.position ≡ x.position → ⊥)
        → (first_unit u side i + units i ≤ first_unit u side x + units x) ⊎ (first_unit u side x + units x ≤ first_unit u side i)
    by_position i at (inl e) =
        let xt = next.contained in
        let same : i ≡ x = same_at_position (side_queue u side) (rising_active (phase_of u) side u.orders) i x at.0 at.1 at.2 xt.0 xt.1 xt.2 e in
        inl (let f : first_unit u side i + units i ≡ first_unit u side x + units x = ap (λ (j : Positioned). first_unit u side j + units j) same in omega arith)
    by_position i at (inr d) = by_side i (apart_in u side x i next.contained at d)

-- ---- what a pair trades in the units up to two numbers
cut_first : (u : Uncrossing) (unit : ℕ) (b s : Positioned) → IsNext u Buy unit b → IsNext u Sell unit s → IsCut u Buy unit ⊎ IsCut u Sell unit
    → max (first_unit u Buy b) (first_unit u Sell s) ≡ unit
cut_first u unit b s bn sn (inl c) = let e = first_at_cut u Buy unit b bn c in let h = sn.from in omega arith
cut_first u unit b s bn sn (inr c) = let e = first_at_cut u Sell unit s sn c in let h = bn.from in omega arith

not_below : (m n : ℕ) → n ≤ m → nat_lt m n ≡ false
not_below m n h = grind (arith, nat_tests)

pub nothing_traded : (number : ℕ) (u : Uncrossing) (b s : Positioned) (from to : ℕ) → to ≤ from → traded_units number u b s from to ≡ None
nothing_traded number u b s from to h =
    ap (λ (c : Bool). if c then Some (from, trade_between number (Auction u.auction u.stage) u.price (to - from) Buy b.order s.order) else None) (not_below from to h)

units_traded : (number : ℕ) (u : Uncrossing) (b s : Positioned) (from to unit n : ℕ) → from ≡ unit → to ≡ unit + n → 0 < n
    → traded_units number u b s from to ≡ Some (unit, trade_between number (Auction u.auction u.stage) u.price n Buy b.order s.order)
units_traded number u b s from to unit n e f h =
    let count : to - from ≡ n = omega arith in
    ap (λ (c : Bool). if c then Some (from, trade_between number (Auction u.auction u.stage) u.price (to - from) Buy b.order s.order) else None) (lt-ltb from to (omega arith))
    ∙ (λ i. Some (e i, trade_between number (Auction u.auction u.stage) u.price (count i) Buy b.order s.order))

traded_same : (number t v : ℕ) (u : Uncrossing) (b s : Positioned) (from to end : ℕ) → (to ≡ end) ⊎ ((to ≤ from) × (end ≤ from))
    → traded_units number (upto v u) b s from end ≡ traded_units number (upto t u) b s from to
traded_same number t v u b s from to end (inl e) = ap (λ (n : ℕ). traded_units number u b s from n) (sym e)
traded_same number t v u b s from to end (inr h) = nothing_traded number u b s from end h.1 ∙ sym (nothing_traded number u b s from to h.0)

below_if : (number : ℕ) (u : Uncrossing) (b s : Positioned) (from to unit : ℕ) (z : ℕ × Trade) (c : Bool) → nat_lt from to ≡ c → to ≤ unit
    → (if c then Some (from, trade_between number (Auction u.auction u.stage) u.price (to - from) Buy b.order s.order) else None) ≡ Some z → z.0 < unit
below_if number u b s from to unit z true e h f =
    let l = ltb-true from to e in
    let same : from ≡ z.0 = (let g : (from, trade_between number (Auction u.auction u.stage) u.price (to - from) Buy b.order s.order) ≡ z = cc in ap (λ (y : ℕ × Trade). y.0) g) in
    omega arith
below_if number u b s from to unit z false e h f = absurd (cc)

-- the ends of a pair's units, where one of them is apart from an order that owns those between two numbers
ends_apart : (fx rx fy ry fb rb unit n : ℕ) → fb ≤ unit → unit + n ≤ fb + rb → (fx + rx ≤ fb) ⊎ (fb + rb ≤ fx)
    → (min (min (fx + rx) unit) (min (fy + ry) unit) ≡ min (min (fx + rx) (unit + n)) (min (fy + ry) (unit + n)))
    ⊎ ((min (min (fx + rx) unit) (min (fy + ry) unit) ≤ max fx fy) × (min (min (fx + rx) (unit + n)) (min (fy + ry) (unit + n)) ≤ max fx fy))
ends_apart fx rx fy ry fb rb unit n h l (inl a) = inl (omega arith)
ends_apart fx rx fy ry fb rb unit n h l (inr a) = inr (omega arith, omega arith)

ends_apart_too : (fx rx fy ry fs rs unit n : ℕ) → fs ≤ unit → unit + n ≤ fs + rs → (fy + ry ≤ fs) ⊎ (fs + rs ≤ fy)
    → (min (min (fx + rx) unit) (min (fy + ry) unit) ≡ min (min (fx + rx) (unit + n)) (min (fy + ry) (unit + n)))
    ⊎ ((min (min (fx + rx) unit) (min (fy + ry) unit) ≤ max fx fy) × (min (min (fx + rx) (unit + n)) (min (fy + ry) (unit + n)) ≤ max fx fy))
ends_apart_too fx rx fy ry fs rs unit n h l (inl a) = inl (omega arith)
ends_apart_too fx rx fy ry fs rs unit n h l (inr a) = inr (omega arith, omega arith)

in_parties : (u : Uncrossing) (side : Side) (unit : ℕ) (x : Positioned) → IsNext u side unit x → Contains (parties u side) x
in_parties u side unit x next =
    Contains-filter (takes_part u side) (side_queue u side) x (and_from (is_active_on (phase_of u) side x) (at_price u side x) (is_on u side x next.contained) next.accepts) next.contained

of_parties : (u : Uncrossing) (side : Side) (x : Positioned) → Contains (parties u side) x → Contains (side_queue u side) x
of_parties u side x at = let p = Passes-filter (takes_part u side) (side_queue u side) x at in p.contains

rising_parties : (u : Uncrossing) (side : Side) → Rising (parties u side)
rising_parties u side = rising_kept (takes_part u side) (side_queue u side) (rising_active (phase_of u) side u.orders)

-- the trade of the next units
abbrev pub trade_of_next : ℕ → Uncrossing → ℕ → Positioned → Positioned → Trade
trade_of_next number u n b s = trade_between number (Auction u.auction u.stage) u.price n Buy b.order s.order

module _ (number : ℕ) (u : Uncrossing) (unit n : ℕ) (b s : Positioned) (bn : IsNext u Buy unit b) (sn : IsNext u Sell unit s) (some : 0 < n)
    (buys : unit + n ≤ first_unit u Buy b + units b) (sells : unit + n ≤ first_unit u Sell s + units s) (cut : IsCut u Buy unit ⊎ IsCut u Sell unit) where
  same_of_others : (x y : Positioned) → Contains (parties u Buy) x → Contains (parties u Sell) y → IsOther b x ⊎ IsOther s y
      → trade_of_pair number (upto (unit + n) u) x y ≡ trade_of_pair number (upto unit u) x y
  same_of_others x y xt yt (inl other) =
      traded_same number unit (unit + n) u x y (max (first_unit u Buy x) (first_unit u Sell y)) (min (end_unit (upto unit u) Buy x) (end_unit (upto unit u) Sell y))
      (min (end_unit (upto (unit + n) u) Buy x) (end_unit (upto (unit + n) u) Sell y))
      (ends_apart (first_unit u Buy x) (units x) (first_unit u Sell y) (units y) (first_unit u Buy b) (units b) unit n bn.from buys (apart_in u Buy b x bn.contained (of_parties u Buy x xt) other))
  same_of_others x y xt yt (inr other) =
      traded_same number unit (unit + n) u x y (max (first_unit u Buy x) (first_unit u Sell y)) (min (end_unit (upto unit u) Buy x) (end_unit (upto unit u) Sell y))
      (min (end_unit (upto (unit + n) u) Buy x) (end_unit (upto (unit + n) u) Sell y))
      (ends_apart_too (first_unit u Buy x) (units x) (first_unit u Sell y) (units y) (first_unit u Sell s) (units s) unit n sn.from sells (apart_in u Sell s y sn.contained (of_parties u Sell y yt) other))

  first_is : max (first_unit u Buy b) (first_unit u Sell s) ≡ unit
  first_is = cut_first u unit b s bn sn cut

  gives : GivesLast (trade_of_pair number (upto unit u)) (trade_of_pair number (upto (unit + n) u)) (parties u Buy) (parties u Sell) b s (unit, trade_of_next number u n b s)
  gives = record {
    first = in_parties u Buy unit b bn;
    second = in_parties u Sell unit s sn;
    none =
        nothing_traded number u b s (max (first_unit u Buy b) (first_unit u Sell s)) (min (end_unit (upto unit u) Buy b) (end_unit (upto unit u) Sell s))
        (let e = first_is in omega arith);
    some =
        units_traded number u b s (max (first_unit u Buy b) (first_unit u Sell s)) (min (end_unit (upto (unit + n) u) Buy b) (end_unit (upto (unit + n) u) Sell s)) unit n first_is (omega arith) some;
    same = same_of_others;
    below =
        λ x y z xt yt e. below_if number u x y (max (first_unit u Buy x) (first_unit u Sell y)) (min (end_unit (upto unit u) Buy x) (end_unit (upto unit u) Sell y)) unit z
        (nat_lt (max (first_unit u Buy x) (first_unit u Sell y)) (min (end_unit (upto unit u) Buy x) (end_unit (upto unit u) Sell y))) refl (omega arith) e;
  }

  pub next_trade_last : auction_trades number (upto (unit + n) u) ≡ auction_trades number (upto unit u) ++ trade_of_next number u n b s ∷ []
  next_trade_last =
      gives_last (trade_of_pair number (upto unit u)) (trade_of_pair number (upto (unit + n) u)) (parties u Buy) (parties u Sell) (rising_parties u Buy) (rising_parties u Sell) b s
      (unit, trade_of_next number u n b s) gives
