use Rattle.std.proofs.Common.{filter, ap, ◌∙◌}
use Rattle.xm_slots.specs.Listing.{is_other_key}
use Rattle.xm_slots.proofs.Timeline.{listed-left}
use Rattle.xm_slots.proofs.listing.Listing.leave.Goals as goal

pub returns : goal.returns
returns g c = listed-left c.of.result c.of-2.result (c.args.key) c.self.inside.last c.of.ensures (c.of-2.ensures ∙ c.replace-before.ensures.value) ∙ ap (filter (is_other_key c.args.key)) c.self.view_is
