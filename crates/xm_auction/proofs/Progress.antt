-- How far an allotment has come: what it has traded is that of the call with a lower volume, and each trade takes it on.
use Rattle.xm_book.specs.Listing.{order_owner, order_reference}
use Rattle.xm_slots.specs.Naming.{have_own_names}
use Rattle.std.proofs.Common.{◌≡◌, ℕ, ◌+◌, ◌-◌, ◌<◌, ◌≤◌, min, max, Bool, true, false, if◌then◌else◌, IsSome, List, [], ◌∷◌, ◌++◌, length, length-append, append_assoc, append-nil, Option, Some, refl, sym, ap, subst, ◌∙◌, ◌⊎◌, inl, inr, arith}
use Rattle.std.specs.List.{filter_map, flat_map, list_all}
use Rattle.xm_auction.specs.Allotment.{TradeTerms, trade_of_two}
use Rattle.xm_auction.proofs.NextTrade.{IsCut, cut_after, cut_at_first, nothing_traded, next_trade_last, trade_of_next}
use Rattle.xm_auction.proofs.Owners.{IsNext, NextOf, allotted_to, best_now, best_taken, next_of, phase_of, raised, rest_now, upto}
use Rattle.xm_book.proofs.Remaining.{all_kept, lessened}
use Rattle.xm_book.proofs.Shortening.{no_more, one_less, some_there}
use Rattle.xm_book.specs.Queues.{best_order, taken_from, taken_from_any, taken_from_best}
use Rattle.xm_book.proofs.Cutting.{none_given}
use Rattle.xm_slots.proofs.Tests.{same_some}
use Rattle.xm_rules.specs.Active.{Positioned}
use Rattle.xm_rules.specs.Allotment.{Uncrossing, allotted, auction_trades, end_unit, first_unit, parties, takes_part, trade_of_pair}
use Rattle.xm_rules.specs.Auction.{volume as executable}
use Rattle.xm_rules.specs.Commands.{is_in_range}
use Rattle.xm_rules.specs.Orders.{trade_between}
use Rattle.xm_rules.specs.Priority.{in_order, without_units}
use Rattle.xm_rules.specs.declared.orders.Order.{Order}
use Rattle.xm_rules.specs.declared.orders.Side.{Side}
use Rattle.xm_rules.specs.declared.orders.Side.TheVariants.{Buy, Sell}
use Rattle.xm_rules.specs.declared.orders.Trade.{Trade}
use Rattle.xm_rules.specs.declared.orders.TradeKind.TheVariants.{Auction}
use Rattle.xm_rules.proofs.Queues.{units}

-- ---- the premises, and how far it has come
pub record CanBeAllotted (u : Uncrossing) : Type 0 where
  pub own : have_own_names order_owner order_reference u.orders ≡ true
  pub volume : u.volume ≤ executable (phase_of u) u.orders u.price

abbrev pub terms_of : ℕ → Uncrossing → TradeTerms
terms_of number u = record { sweep = number; kind = Auction u.auction u.stage; price = u.price }

pub record Progress (u : Uncrossing) (number left : ℕ) (now : List Order) (old made : List Trade) (before room : ℕ) : Type 0 where
  pub done : ℕ
  pub whole : done + left ≡ u.volume
  pub orders : now ≡ without_units (allotted (upto done u)) u.orders
  pub trades : made ≡ old ++ auction_trades number (upto done u)
  pub rooms : room + length (auction_trades number (upto done u)) ≡ before
  pub cut : 0 < left → IsCut u Buy done ⊎ IsCut u Sell done
  -- each trade has used up an order, or is the last
  pub used : length now + length (auction_trades number (upto done u)) ≤ length u.orders + (1 - left)
  pub enough : length u.orders ≤ before

-- what a trade between the best buy and the best sell does
pub record Turn (u : Uncrossing) (number left : ℕ) (now : List Order) (old made : List Trade) (before room : ℕ) (b s : Order) (trade : Trade) : Type 0 where
  pub some : 0 < trade.quantity
  pub within : trade.quantity ≤ left
  pub of_buy : trade.quantity ≤ b.rest
  pub of_sell : trade.quantity ≤ s.rest
  pub has_room : 0 < room
  pub sell_stays : best_order (phase_of u) Sell (taken_from b trade.quantity now) ≡ Some s
  pub buy_left : trade.quantity < b.rest
      → best_order (phase_of u) Buy (taken_from s trade.quantity (taken_from b trade.quantity now)) ≡ Some (record b { rest = b.rest - trade.quantity })
  pub sell_left : trade.quantity < s.rest
      → best_order (phase_of u) Sell (taken_from s trade.quantity (taken_from b trade.quantity now)) ≡ Some (record s { rest = s.rest - trade.quantity })
  pub next : Progress u number (left - trade.quantity) (taken_from s trade.quantity (taken_from b trade.quantity now)) old (made ++ trade ∷ []) before (room - 1)

none_or_some : (n : ℕ) → (n ≡ 0) ⊎ (0 < n)
none_or_some n = grind arith

both_raised : (m n : ℕ) (side : Side) → raised Sell m (raised Buy m (λ s. n)) side ≡ m
both_raised m n Buy = refl
both_raised m n Sell = refl

module _ (u : Uncrossing) (number left : ℕ) (now : List Order) (old made : List Trade) (before room : ℕ) (can : CanBeAllotted u) (p : Progress u number left now old made before room)
    (some : 0 < left) where
  not_done : p.done < executable (phase_of u) u.orders u.price
  not_done = let w = p.whole in let v = can.volume in omega arith

  next_on : (side : Side) → NextOf u side p.done
  next_on Buy = next_of u Buy p.done (let d = not_done in omega arith)
  next_on Sell = next_of u Sell p.done (let d = not_done in omega arith)

  abbrev buy_order : Positioned
  buy_order = (next_on Buy).one

  abbrev sell_order : Positioned
  sell_order = (next_on Sell).one

  buy_next : IsNext u Buy p.done buy_order
  buy_next = (next_on Buy).is

  sell_next : IsNext u Sell p.done sell_order
  sell_next = (next_on Sell).is

  -- both sides have come so far
  abbrev so_far : Side → ℕ
  so_far side = p.done

  abbrev buy_rest : ℕ
  buy_rest = first_unit u Buy buy_order + units buy_order - p.done

  abbrev sell_rest : ℕ
  sell_rest = first_unit u Sell sell_order + units sell_order - p.done

  abbrev count : ℕ
  count = min (min buy_rest sell_rest) left

  abbrev buy_done : Side → ℕ
  buy_done = raised Buy (p.done + count) so_far

  best_buy : best_order (phase_of u) Buy now ≡ Some (lessened (allotted_to u so_far) buy_order)
  best_buy = ap (best_order (phase_of u) Buy) p.orders ∙ best_now u Buy so_far buy_order buy_next

  best_sell : best_order (phase_of u) Sell now ≡ Some (lessened (allotted_to u so_far) sell_order)
  best_sell = ap (best_order (phase_of u) Sell) p.orders ∙ best_now u Sell so_far sell_order sell_next

  buy_rest_is : units buy_order - allotted_to u so_far buy_order ≡ buy_rest
  buy_rest_is = rest_now u Buy so_far buy_order buy_next

  sell_rest_is : units sell_order - allotted_to u so_far sell_order ≡ sell_rest
  sell_rest_is = rest_now u Sell so_far sell_order sell_next

  -- what the two have now
  abbrev buy_now : Order
  buy_now = lessened (allotted_to u so_far) buy_order

  abbrev sell_now : Order
  sell_now = lessened (allotted_to u so_far) sell_order

  trade_is : trade_of_two (terms_of number u) left buy_now sell_now ≡ trade_of_next number u count buy_order sell_order
  trade_is = (λ i. trade_between number (Auction u.auction u.stage) u.price (min (min (buy_rest_is i) (sell_rest_is i)) left) Buy buy_order.order sell_order.order)

  some_traded : 0 < count
  some_traded = let b = buy_next.to in let s = sell_next.to in omega arith

  buy_taken : taken_from_best (phase_of u) Buy count now ≡ without_units (allotted_to u buy_done) u.orders
  buy_taken = ap (taken_from_best (phase_of u) Buy count) p.orders ∙ best_taken u Buy so_far buy_order buy_next can.own count some_traded (omega arith)

  sell_after : best_order (phase_of u) Sell (taken_from_best (phase_of u) Buy count now) ≡ Some (lessened (allotted_to u buy_done) sell_order)
  sell_after = ap (best_order (phase_of u) Sell) buy_taken ∙ best_now u Sell buy_done sell_order sell_next

  sell_rest_after : units sell_order - allotted_to u buy_done sell_order ≡ sell_rest
  sell_rest_after = rest_now u Sell buy_done sell_order sell_next

  both_taken : taken_from_best (phase_of u) Sell count (taken_from_best (phase_of u) Buy count now) ≡ without_units (allotted (upto (p.done + count) u)) u.orders
  both_taken =
      ap (taken_from_best (phase_of u) Sell count) buy_taken ∙ best_taken u Sell buy_done sell_order sell_next can.own count some_traded (omega arith)
      ∙ (λ i. without_units (λ (x : Positioned). allotted (upto (both_raised (p.done + count) p.done x.order.side i) u) x) u.orders)

  trades_after : auction_trades number (upto (p.done + count) u) ≡ auction_trades number (upto p.done u) ++ trade_of_next number u count buy_order sell_order ∷ []
  trades_after =
      next_trade_last number u p.done count buy_order sell_order buy_next sell_next some_traded
      (let b = buy_next.to in omega arith) (let s = sell_next.to in omega arith) (p.cut some)

  cut_next : (buy_rest ≡ count) ⊎ (sell_rest ≡ count) → IsCut u Buy (p.done + count) ⊎ IsCut u Sell (p.done + count)
  cut_next (inl e) =
      let same : first_unit u Buy buy_order + units buy_order ≡ p.done + count = (let b = buy_next.to in omega arith) in
      inl (subst (λ (n : ℕ). IsCut u Buy n) same (cut_after u Buy p.done buy_order buy_next))
  cut_next (inr e) =
      let same : first_unit u Sell sell_order + units sell_order ≡ p.done + count = (let s = sell_next.to in omega arith) in
      inr (subst (λ (n : ℕ). IsCut u Sell n) same (cut_after u Sell p.done sell_order sell_next))

  no_longer : length (taken_from_best (phase_of u) Sell count (taken_from_best (phase_of u) Buy count now)) ≤ length now
  no_longer =
      let a = no_more count now (best_order (phase_of u) Buy now) in
      let b = no_more count (taken_from_best (phase_of u) Buy count now) (best_order (phase_of u) Sell (taken_from_best (phase_of u) Buy count now)) in
      omega arith

  fewer : (buy_rest ≡ count) ⊎ (sell_rest ≡ count) → length (taken_from_best (phase_of u) Sell count (taken_from_best (phase_of u) Buy count now)) < length now
  fewer (inl e) =
      let a = one_less (phase_of u) Buy count now (lessened (allotted_to u so_far) buy_order) best_buy (let r = buy_rest_is in omega arith) in
      let b = no_more count (taken_from_best (phase_of u) Buy count now) (best_order (phase_of u) Sell (taken_from_best (phase_of u) Buy count now)) in
      omega arith
  fewer (inr e) =
      let a = one_less (phase_of u) Sell count (taken_from_best (phase_of u) Buy count now) (lessened (allotted_to u buy_done) sell_order) sell_after (let r = sell_rest_after in omega arith) in
      let b = no_more count now (best_order (phase_of u) Buy now) in
      omega arith

  one_ended : 0 < left - count → (buy_rest ≡ count) ⊎ (sell_rest ≡ count)
  one_ended h = either buy_rest sell_rest left h
    where
      either : (b s l : ℕ) → 0 < l - min (min b s) l → (b ≡ min (min b s) l) ⊎ (s ≡ min (min b s) l)
      either b s l h = grind arith

  room_there : 0 < room
  room_there = let l = some_there (phase_of u) Buy now (lessened (allotted_to u so_far) buy_order) best_buy in let e = p.enough in let h = p.used in let r = p.rooms in omega arith

  one_more : length (auction_trades number (upto (p.done + count) u)) ≡ length (auction_trades number (upto p.done u)) + 1
  one_more = ap length trades_after ∙ length-append (auction_trades number (upto p.done u)) (trade_of_next number u count buy_order sell_order ∷ [])

  used_next : (left - count ≡ 0) ⊎ (0 < left - count)
      → length (taken_from_best (phase_of u) Sell count (taken_from_best (phase_of u) Buy count now)) + length (auction_trades number (upto (p.done + count) u)) ≤ length u.orders + (1 - (left - count))
  used_next (inl e) = let n = one_more in let l = no_longer in let h = p.used in omega arith
  used_next (inr h) = let n = one_more in let f = fewer (one_ended h) in let h = p.used in omega arith

  on : Progress u number (left - count) (taken_from_best (phase_of u) Sell count (taken_from_best (phase_of u) Buy count now)) old (made ++ trade_of_next number u count buy_order sell_order ∷ []) before (room - 1)
  on = record {
    done = p.done + count;
    whole = (let w = p.whole in omega arith);
    orders = both_taken;
    trades =
        ap (λ (l : List Trade). l ++ trade_of_next number u count buy_order sell_order ∷ []) p.trades
        ∙ append_assoc old (auction_trades number (upto p.done u)) (trade_of_next number u count buy_order sell_order ∷ [])
        ∙ ap (λ (l : List Trade). old ++ l) (sym trades_after);
    rooms = (let n = one_more in let r = p.rooms in let h = room_there in omega arith);
    cut = λ h. cut_next (one_ended h);
    used = used_next (none_or_some (left - count));
    enough = p.enough;
  }

  -- the best sell is the same before and after the buy is filled
  sell_same : best_order (phase_of u) Sell (taken_from_best (phase_of u) Buy count now) ≡ Some sell_now
  sell_same =
      let rest : units sell_order - allotted_to u buy_done sell_order ≡ units sell_order - allotted_to u so_far sell_order = sell_rest_after ∙ sym sell_rest_is in
      sell_after ∙ (λ i. let o = sell_order.order in Some (record o { rest = rest i }))

  buy_filled : taken_from_best (phase_of u) Buy count now ≡ taken_from buy_now count now
  buy_filled = ap (λ (f : Option Order). taken_from_any f count now) best_buy

  both_filled : taken_from_best (phase_of u) Sell count (taken_from_best (phase_of u) Buy count now) ≡ taken_from sell_now count (taken_from buy_now count now)
  both_filled = ap (λ (f : Option Order). taken_from_any f count (taken_from_best (phase_of u) Buy count now)) sell_same ∙ ap (taken_from sell_now count) buy_filled

  abbrev both_done : Side → ℕ
  both_done = raised Sell (p.done + count) buy_done

  both_are : taken_from sell_now count (taken_from buy_now count now) ≡ without_units (allotted_to u both_done) u.orders
  both_are =
      sym both_filled ∙ ap (taken_from_best (phase_of u) Sell count) buy_taken ∙ best_taken u Sell buy_done sell_order sell_next can.own count some_traded (omega arith)

  -- an order with units left is still the best of its side
  still_best : (side : Side) (x : Positioned) → IsNext u side p.done x → count < units x - allotted_to u so_far x
      → best_order (phase_of u) side (taken_from sell_now count (taken_from buy_now count now))
      ≡ Some (let o = x.order in record o { rest = (units x - allotted_to u so_far x) - count })
  still_best side x next less =
      let done : both_done side ≡ p.done + count = both_raised (p.done + count) p.done side in
      let was : units x - allotted_to u so_far x ≡ first_unit u side x + units x - p.done = rest_now u side so_far x next in
      let from = next.from in
      let to = next.to in
      let later : IsNext u side (both_done side) x = record { contained = next.contained; accepts = next.accepts; from = omega arith; to = omega arith } in
      let is : units x - allotted_to u both_done x ≡ first_unit u side x + units x - both_done side = rest_now u side both_done x later in
      let rest : units x - allotted_to u both_done x ≡ (units x - allotted_to u so_far x) - count = omega arith in
      ap (best_order (phase_of u) side) both_are ∙ best_now u side both_done x later ∙ (λ i. let o = x.order in Some (record o { rest = rest i }))

  turn_next : Turn u number left now old made before room buy_now sell_now (trade_of_next number u count buy_order sell_order)
  turn_next = record {
    some = some_traded;
    within = omega arith;
    of_buy = (let r = buy_rest_is in omega arith);
    of_sell = (let r = sell_rest_is in omega arith);
    has_room = room_there;
    sell_stays = ap (best_order (phase_of u) Sell) (sym buy_filled) ∙ sell_same;
    buy_left = still_best Buy buy_order buy_next;
    sell_left = still_best Sell sell_order sell_next;
    next = subst (λ (os : List Order). Progress u number (left - count) os old (made ++ trade_of_next number u count buy_order sell_order ∷ []) before (room - 1)) both_filled on;
  }

  pub has_buy : IsSome (best_order (phase_of u) Buy now)
  has_buy = rw best_buy refl

  pub has_sell : IsSome (best_order (phase_of u) Sell now)
  has_sell = rw best_sell refl

  pub turn : (b s : Order) (trade : Trade) → best_order (phase_of u) Buy now ≡ Some b → best_order (phase_of u) Sell now ≡ Some s → trade ≡ trade_of_two (terms_of number u) left b s
      → Turn u number left now old made before room b s trade
  turn b s trade buy sell e =
      let is_buy : b ≡ buy_now = same_some (sym buy ∙ best_buy) in
      let is_sell : s ≡ sell_now = same_some (sym sell ∙ best_sell) in
      let is_trade : trade ≡ trade_of_next number u count buy_order sell_order = e ∙ (λ i. trade_of_two (terms_of number u) left (is_buy i) (is_sell i)) ∙ trade_is in
      rw (is_buy, is_sell, is_trade) turn_next

-- ---- at the begin and at the end
no_part : (b : Bool) (first count : ℕ) → ◌≡◌ {A = ℕ} (if b then min (first + count) 0 - first else 0) 0
no_part true first count = omega arith
no_part false first count = refl

none_allotted : (u : Uncrossing) (i : Positioned) → allotted (upto 0 u) i ≡ 0
none_allotted u i = no_part (takes_part u i.order.side i) (first_unit u i.order.side i) (units i)

flat_none : {X A : Type 0} (f : X → List A) (xs : List X) → ((x : X) → f x ≡ []) → flat_map f xs ≡ []
flat_none f [] h = refl
flat_none f (x ∷ xs) h = rw (h x) (flat_none f xs h)

no_trades : (number : ℕ) (u : Uncrossing) → auction_trades number (upto 0 u) ≡ []
no_trades number u =
    ap in_order
    (flat_none (λ (b : Positioned). filter_map (trade_of_pair number (upto 0 u) b) (parties u Sell)) (parties u Buy)
    (λ b. none_given (trade_of_pair number (upto 0 u) b) (parties u Sell) (λ s. nothing_traded number u b s (max (first_unit u Buy b) (first_unit u Sell s)) (min (end_unit (upto 0 u) Buy b) (end_unit (upto 0 u) Sell s)) (omega arith))))

pub at_begin : (u : Uncrossing) (number : ℕ) (old : List Trade) (room : ℕ) → list_all (λ (o : Order). is_in_range o.rest) u.orders ≡ true → length u.orders ≤ room
    → Progress u number u.volume u.orders old old room room
at_begin u number old room rests enough = record {
  done = 0;
  whole = omega arith;
  orders = sym (all_kept (allotted (upto 0 u)) u.orders (none_allotted u) rests);
  trades = sym (append-nil old) ∙ ap (λ (l : List Trade). old ++ l) (sym (no_trades number u));
  rooms = (let e : length (auction_trades number (upto 0 u)) ≡ 0 = ap length (no_trades number u) in omega arith);
  cut = λ h. inl (cut_at_first u Buy);
  used = (let e : length (auction_trades number (upto 0 u)) ≡ 0 = ap length (no_trades number u) in omega arith);
  enough = enough;
}

pub the_same : (u : Uncrossing) (number left : ℕ) (now : List Order) (old made : List Trade) (before room m : ℕ) (os : List Order) (ts : List Trade) (n : ℕ)
    → m ≡ left → os ≡ now → ts ≡ made → n ≡ room → Progress u number left now old made before room → Progress u number m os old ts before n
the_same u number left now old made before room m os ts n e f g h p = rw (e, f, g, h) p
