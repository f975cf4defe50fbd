use Rattle.std.proofs.Common.{◌∙◌, length, refl, ap, arith}
use Rattle.xm_book.proofs.Reserved.{held-more}
use Rattle.xm_book.proofs.places.Places.add.Goals as goal

pub invariant_of-self : goal.invariant_of-self
invariant_of-self c =
    let more = held-more c.of.result c.of-2.result c.args.place.now c.self.inside.last c.of.ensures (c.of-2.ensures ∙ c.replace-before.ensures.value) in
    omega (arith, ap length more, c.self.invariant)

pub returns : goal.returns
returns c =
    let more = held-more c.of.result c.of-2.result c.args.place.now c.self.inside.last c.of.ensures (c.of-2.ensures ∙ c.replace-before.ensures.value) in
    rw (more, ← c.self.view_is) (record { counts = λ f. refl })
