-- A sweep that meets no order is at its end at once.
use Rattle.std.proofs.Common.{◌≡◌, ℕ, ◌==◌, ◌≤◌, Bool, true, false, if◌then◌else◌, List, length, Option, Some, None, option_map, ◌&&◌, refl, sym, ap, ◌∙◌}
use Rattle.std.specs.Prelude.{nat_lt}
use Rattle.xm_match.specs.Meeting.{best_of, is_inside, is_kind_met, meets_any, meets_kind, next_of, next_of_any, price_of_kind, terms_of}
use Rattle.xm_match.specs.declared.meeting.Next.TheVariants.{Nothing, Inside, Outside}
use Rattle.xm_match.specs.declared.terms.Terms.{Terms}
use Rattle.xm_match.proofs.Cuts.{IsSound}
use Rattle.xm_match.proofs.Ending.{Ended, ended}
use Rattle.xm_match.proofs.NextTrade.{is_met_if, next_price, price_if_met}
use Rattle.xm_match.proofs.Progress.{at_begin}
use Rattle.xm_rules.specs.Orders.{meets}
use Rattle.xm_rules.specs.Sweep.{Sweep}
use Rattle.xm_rules.specs.declared.orders.Order.{Order}
use Rattle.xm_rules.specs.declared.orders.OrderKind.{OrderKind}
use Rattle.xm_rules.specs.declared.orders.Trade.{Trade}

abbrev kind_of : Option Order → Option OrderKind
kind_of found = option_map (λ (o : Order). o.kind) found

-- the best order of the other side is met as its kind is
met_as : (incoming : Order) (t : Terms) (found : Option Order) → t.incoming ≡ incoming → is_met_if t found ≡ meets_kind incoming (kind_of found)
met_as incoming t None is = refl
met_as incoming t (Some m) is = ap (λ (x : Order). meets x.side x.kind m.kind) is

never : (incoming : Order) (t : Terms) (found : Option Order) (b : Bool) (o : Order) → t.incoming ≡ incoming → meets_kind incoming (kind_of found) ≡ false
    → (if b then Nothing else next_of_any t found) ≡ Inside o → ⊥
never incoming t found true o is e h = absurd (cc)
never incoming t None false o is e h = absurd (cc)
never incoming t (Some m) false o is e h =
    let off : is_kind_met t m.kind ≡ false = met_as incoming t (Some m) is ∙ e in
    let nothing : next_of t m ≡ Nothing = (λ i. if off i then (if is_inside t m.kind then Inside m else Outside (price_of_kind t m.kind)) else Nothing) in
    let met : Nothing ≡ Inside o = sym nothing ∙ h in
    absurd (cc)

pub unmet : (w : Sweep) (number : ℕ) (old : List Trade) (room : ℕ) → IsSound w → length w.orders ≤ room → meets_any w.orders w.incoming ≡ false
    → Ended w number w.incoming.rest w.orders old old room room
unmet w number old room sound enough e =
    ended w number w.incoming.rest w.orders old old room room sound (at_begin w number old room sound enough)
    (λ o met. never w.incoming (terms_of w) (best_of (terms_of w) w.orders) (w.incoming.rest == 0) o refl e met)

no_price : (t : Terms) (found : Option Order) (b : Bool) → is_met_if t found ≡ false → (if b then price_if_met t found else None) ≡ None
no_price t None true e = refl
no_price t (Some m) true e = (λ i. if e i then Some (price_of_kind t m.kind) else None)
no_price t found false e = refl

pub not_interrupted : (w : Sweep) → meets_any w.orders w.incoming ≡ false → next_price (terms_of w) w.incoming.rest w.orders ≡ None
not_interrupted w e =
    let found = best_of (terms_of w) w.orders in
    no_price (terms_of w) found (nat_lt 0 w.incoming.rest) (met_as w.incoming (terms_of w) found refl ∙ e)
