use Rattle.std.proofs.Common.{◌≡◌, ◌∙◌, rules, ap, Bool, true, false, not, cond, List, [], ◌∷◌, filter, refl}
use Rattle.std.specs.List.{list_any}
use Rattle.xm_book.proofs.Reserving.{reserved-there}
use Rattle.xm_book.specs.Places.{place_of}
use Rattle.xm_book.specs.TimeList.{Reserves, TimeList}
use Rattle.xm_rules.specs.Orders.{is_named, removed}
use Rattle.xm_rules.specs.declared.orders.Order.{Order}
use Rattle.xm_tests.proofs.book.entries.exchange.Goals as goal

left_out_if : (p : Order → Bool) (o : Order) (os : List Order) (b : Bool) → p o ≡ b → list_any p os ≡ false → list_any p (cond (not b) (o ∷ os) os) ≡ false
left_out_if p o os true e h = h
left_out_if p o os false e h = rw e h

-- none is left where all that pass the test are left out
any-left_out : (p : Order → Bool) (os : List Order) → list_any p (filter (λ (o : Order). not (p o)) os) ≡ false
any-left_out p [] = refl
any-left_out p (o ∷ os) = left_out_if p o (filter (λ (x : Order). not (p x)) os) (p o) refl (any-left_out p os)

pub add-requires-clause-reserved : goal.add-requires-clause-reserved
add-requires-clause-reserved g c =
    let reserves : Reserves (place_of c.args.order) c.args.book.now c.reserve_for.new.self = search rules in
    search (rules, reserved-there _ _ _ reserves.places)

pub add-requires-clause-name : goal.add-requires-clause-name
add-requires-clause-name g c =
    let orders = c.args.book.now.orders in
    let reserves : Reserves (place_of c.args.order) c.args.book.now c.reserve_for.new.self = search rules in
    let left = ap (λ (l : TimeList). l.orders) c.remove.ensures.left ∙ ap (λ (l : TimeList). removed c.args.order.member c.args.order.reference l.orders) reserves.rest in
    rw left (any-left_out (is_named c.args.order.member c.args.order.reference) orders)
