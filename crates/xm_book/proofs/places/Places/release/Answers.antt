use Rattle.std.proofs.Common.{◌∙◌, length, ap, arith}
use Rattle.xm_book.specs.Reserved.{held, without_one}
use Rattle.xm_book.proofs.Reserved.{Gains-left, Gains-length, held-less}
use Rattle.xm_book.proofs.places.Places.release.Goals as goal

pub invariant_of-self : goal.invariant_of-self
invariant_of-self c =
    let less = held-less c.of.result c.of-2.result c.args.place.now c.self.inside.last c.of.ensures (c.of-2.ensures ∙ c.replace-before.ensures.value) in
    let gain = Gains-left c.args.place.now (held c.self.inside.last) (rw c.self.view_is c.requires) in
    omega (arith, ap length less, c.self.invariant, Gains-length c.args.place.now (without_one c.args.place.now (held c.self.inside.last)) (held c.self.inside.last) gain)

pub returns : goal.returns
returns c =
    let less = held-less c.of.result c.of-2.result c.args.place.now c.self.inside.last c.of.ensures (c.of-2.ensures ∙ c.replace-before.ensures.value) in
    rw (less, ← c.self.view_is) (Gains-left c.args.place.now (held c.self.inside.last) (rw c.self.view_is c.requires))
