use Rattle.std.proofs.Common.{◌≡◌, ℕ, true, refl, sym, subst, ◌∙◌, arith}
use Rattle.std.specs.List.{list_all}
use Rattle.xm_book.specs.Expiry.{outlives}
use Rattle.xm_slots.specs.Listing.{is_done}
use Rattle.xm_slots.proofs.Expiring.{all-left, none-done}
use Rattle.xm_book.proofs.expiry.drop_orders.Goals as goal

pub loop-key-init : goal.loop-key-init
loop-key-init g c = record {
  rest = refl;
  valid = refl;
  below = c.key_limit-key-end.ensures;
  done = none-done (outlives c.args.today) c.args.queues.now.orders;
}

pub returns : goal.returns
returns g c =
    let at = c.loop-key in
    let limit = c.key_limit-key-end.result in
    let last : at.key ≡ limit = omega (arith, c.loop-key-test.false, at.auto.key-end) in
    let done = subst (λ (n : ℕ). list_all (is_done (outlives c.args.today) n) at.queues.orders ≡ true) last at.invariant.done in
    at.invariant.rest ∙ (λ i. record c.args.queues.now { orders = (sym (all-left (outlives c.args.today) limit at.queues.orders at.invariant.below done) ∙ at.invariant.valid) i })
