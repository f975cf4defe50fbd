use Rattle.std.proofs.Common.{◌∷◌, ◌++◌, [], ap, ◌∙◌}
use Rattle.xm_slots.proofs.Timeline.{listed-joined}
use Rattle.xm_slots.proofs.listing.Listing.join.Goals as goal

pub returns : goal.returns
returns g c = listed-joined c.of.result c.of-2.result (c.args.listed.now) c.self.inside.last c.of.ensures (c.of-2.ensures ∙ c.replace-before.ensures.value) ∙ ap (λ xs. xs ++ c.args.listed.now ∷ []) c.self.view_is
