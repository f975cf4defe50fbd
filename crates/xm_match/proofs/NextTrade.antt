-- What an incoming order meets next, as the trade with it, and as what interrupts trading.
use Rattle.std.proofs.Common.{◌≡◌, ℕ, Bool, true, false, ◌&&◌, ◌==◌, if◌then◌else◌, List, Option, Some, None, refl, subst, arith}
use Rattle.std.specs.Prelude.{nat_lt}
use Rattle.std.proofs.lemmas.Bool.Decides.{nat_tests}
use Rattle.xm_match.specs.Meeting.{best_of, is_inside, is_kind_met, meets_inside, next_met, next_of_any, price_of_kind, price_outside, trade_up_to}
use Rattle.xm_match.specs.declared.meeting.Next.TheVariants.{Nothing, Inside, Outside}
use Rattle.xm_match.specs.declared.terms.Terms.{Terms}
use Rattle.xm_rules.specs.declared.orders.Order.{Order}
use Rattle.xm_rules.specs.declared.orders.Trade.{Trade}

abbrev pub trade_if_met : ℕ → Terms → ℕ → Option Order → Option Trade
trade_if_met number t units None = None
trade_if_met number t units (Some o) = if nat_lt 0 units && meets_inside t o.kind then Some (trade_up_to number t units o) else None

-- the trade with the best order of the other side, where there is one that is met inside both ranges, and units are left
abbrev pub next_trade : ℕ → Terms → ℕ → List Order → Option Trade
next_trade number t units orders = trade_if_met number t units (best_of t orders)

abbrev pub is_met_if : Terms → Option Order → Bool
is_met_if t None = false
is_met_if t (Some o) = is_kind_met t o.kind

abbrev pub price_if_met : Terms → Option Order → Option ℕ
price_if_met t None = None
price_if_met t (Some o) = if is_kind_met t o.kind then Some (price_of_kind t o.kind) else None

abbrev pub price_if_left : Terms → ℕ → Option Order → Option ℕ
price_if_left t units found = if nat_lt 0 units then price_if_met t found else None

-- the price at which the best order of the other side is met, inside the ranges or not, where units are left
abbrev pub next_price : Terms → ℕ → List Order → Option ℕ
next_price t units orders = price_if_left t units (best_of t orders)

some_left : (units : ℕ) → (units == 0) ≡ false → nat_lt 0 units ≡ true
some_left units e = grind (arith, nat_tests)

none_left : (units : ℕ) → (units == 0) ≡ true → nat_lt 0 units ≡ false
none_left units e = grind (arith, nat_tests)

-- ---- an order that is met inside both ranges
pub record IsInside (t : Terms) (units : ℕ) (found : Option Order) (o : Order) : Type 0 where
  pub best : found ≡ Some o
  pub trade : (number : ℕ) → trade_if_met number t units found ≡ Some (trade_up_to number t units o)

inside_at : (t : Terms) (units : ℕ) (m o : Order) (a b : Bool) → is_kind_met t m.kind ≡ a → is_inside t m.kind ≡ b → nat_lt 0 units ≡ true
    → (if a then (if b then Inside m else Outside (price_of_kind t m.kind)) else Nothing) ≡ Inside o → IsInside t units (Some m) o
inside_at t units m o true true e f some h =
    let same : m ≡ o = cc in
    subst (λ (z : Order). IsInside t units (Some m) z) same (record {
      best = refl;
      trade = λ number. (λ i. if some i && (e i && f i) then Some (trade_up_to number t units m) else None);
    })
inside_at t units m o true false e f some h = absurd (cc)
inside_at t units m o false b e f some h = absurd (cc)

inside_by : (t : Terms) (units : ℕ) (found : Option Order) (o : Order) (z : Bool) → (units == 0) ≡ z → (if z then Nothing else next_of_any t found) ≡ Inside o → IsInside t units found o
inside_by t units found o true e h = absurd (cc)
inside_by t units None o false e h = absurd (cc)
inside_by t units (Some m) o false e h = inside_at t units m o (is_kind_met t m.kind) (is_inside t m.kind) refl refl (some_left units e) h

pub inside : (t : Terms) (units : ℕ) (orders : List Order) (o : Order) → next_met t units orders ≡ Inside o → IsInside t units (best_of t orders) o
inside t units orders o h = inside_by t units (best_of t orders) o (units == 0) refl h

-- ---- where none is
pub record IsEnd (t : Terms) (units : ℕ) (found : Option Order) (outside : Option ℕ) : Type 0 where
  pub none : (number : ℕ) → trade_if_met number t units found ≡ None
  pub interruption : price_if_left t units found ≡ outside

end_at : (t : Terms) (units : ℕ) (m : Order) (a b : Bool) → is_kind_met t m.kind ≡ a → is_inside t m.kind ≡ b → nat_lt 0 units ≡ true
    → ((o : Order) → (if a then (if b then Inside m else Outside (price_of_kind t m.kind)) else Nothing) ≡ Inside o → ⊥)
    → IsEnd t units (Some m) (price_outside (if a then (if b then Inside m else Outside (price_of_kind t m.kind)) else Nothing))
end_at t units m true true e f some never = absurd (never m refl)
end_at t units m true false e f some never = record {
  none = λ number. (λ i. if some i && (e i && f i) then Some (trade_up_to number t units m) else None);
  interruption = (λ i. if some i then (if e i then Some (price_of_kind t m.kind) else None) else None);
}
end_at t units m false b e f some never = record {
  none = λ number. (λ i. if some i && (e i && is_inside t m.kind) then Some (trade_up_to number t units m) else None);
  interruption = (λ i. if some i then (if e i then Some (price_of_kind t m.kind) else None) else None);
}

no_units : (t : Terms) (units : ℕ) (found : Option Order) → nat_lt 0 units ≡ false → IsEnd t units found None
no_units t units None e = record { none = λ number. refl; interruption = (λ i. if e i then None else None) }
no_units t units (Some m) e = record {
  none = λ number. (λ i. if e i && meets_inside t m.kind then Some (trade_up_to number t units m) else None);
  interruption = (λ i. if e i then price_if_met t (Some m) else None);
}

end_by : (t : Terms) (units : ℕ) (found : Option Order) (z : Bool) → (units == 0) ≡ z → ((o : Order) → (if z then Nothing else next_of_any t found) ≡ Inside o → ⊥)
    → IsEnd t units found (price_outside (if z then Nothing else next_of_any t found))
end_by t units found true e never = no_units t units found (none_left units e)
end_by t units None false e never = record { none = λ number. refl; interruption = (λ i. if some_left units e i then None else None) }
end_by t units (Some m) false e never = end_at t units m (is_kind_met t m.kind) (is_inside t m.kind) refl refl (some_left units e) never

pub at_end : (t : Terms) (units : ℕ) (orders : List Order) → ((o : Order) → next_met t units orders ≡ Inside o → ⊥) → IsEnd t units (best_of t orders) (price_outside (next_met t units orders))
at_end t units orders never = end_by t units (best_of t orders) (units == 0) refl never
