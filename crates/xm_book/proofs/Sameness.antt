-- What the tests of names, sides and places say.
use Rattle.std.proofs.Common.{◌≡◌, Bool, true, false, ◌&&◌, ◌==◌, refl}
use Rattle.std.proofs.lemmas.Bool.{eqb-true}
use Rattle.xm_book.specs.Places.{same_place}
use Rattle.xm_book.specs.declared.places.Place.{Place}
use Rattle.xm_book.proofs.Joining.{restriction-is, side-is}
use Rattle.xm_rules.specs.Orders.{same_kind, same_restriction}
use Rattle.xm_rules.specs.declared.orders.OrderKind.{OrderKind}
use Rattle.xm_rules.specs.declared.orders.OrderKind.TheVariants.{Market, Limit}
use Rattle.xm_rules.specs.Sides.{same_side}

pub left-true : (a b : Bool) → (a && b) ≡ true → a ≡ true
left-true true b h = refl
left-true false b h = h

pub right-true : (a b : Bool) → (a && b) ≡ true → b ≡ true
right-true true b h = h
right-true false b h = absurd (cc)

kind-is : (k l : OrderKind) → same_kind k l ≡ true → k ≡ l
kind-is Market Market h = refl
kind-is Market (Limit q) h = absurd (cc)
kind-is (Limit p) Market h = absurd (cc)
kind-is (Limit p) (Limit q) h = (λ i. Limit (eqb-true p q h i))

pub same_place-is : (p q : Place) → same_place p q ≡ true → p ≡ q
same_place-is p q h =
    let numbers = left-true (same_side p.side q.side && same_kind p.kind q.kind && same_restriction p.restriction q.restriction && p.member == q.member) (p.reference == q.reference) h in
    let parts = left-true (same_side p.side q.side && same_kind p.kind q.kind && same_restriction p.restriction q.restriction) (p.member == q.member) numbers in
    let kinds = left-true (same_side p.side q.side && same_kind p.kind q.kind) (same_restriction p.restriction q.restriction) parts in
    let side = side-is p.side q.side (left-true (same_side p.side q.side) (same_kind p.kind q.kind) kinds) in
    let kind = kind-is p.kind q.kind (right-true (same_side p.side q.side) (same_kind p.kind q.kind) kinds) in
    let restriction = restriction-is p.restriction q.restriction (right-true (same_side p.side q.side && same_kind p.kind q.kind) (same_restriction p.restriction q.restriction) parts) in
    let member = eqb-true p.member q.member (right-true (same_side p.side q.side && same_kind p.kind q.kind && same_restriction p.restriction q.restriction) (p.member == q.member) numbers) in
    let reference = eqb-true p.reference q.reference (right-true (same_side p.side q.side && same_kind p.kind q.kind && same_restriction p.restriction q.restriction && p.member == q.member) (p.reference == q.reference) h) in
    (λ i. record { side = side i; kind = kind i; restriction = restriction i; member = member i; reference = reference i })
