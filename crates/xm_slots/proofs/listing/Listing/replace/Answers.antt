use Rattle.std.proofs.Common.{map, ap, ◌∙◌}
use Rattle.xm_slots.specs.Listing.{replaced_by}
use Rattle.xm_slots.proofs.Timeline.{listed-replaced}
use Rattle.xm_slots.proofs.listing.Listing.replace.Goals as goal

pub returns : goal.returns
returns g c = listed-replaced c.of.result c.of-2.result (c.args.listed.now) c.self.inside.last c.of.ensures (c.of-2.ensures ∙ c.replace-before.ensures.value) ∙ ap (map (replaced_by c.args.listed.now)) c.self.view_is
