use Rattle.std.proofs.Common.{◌∙◌, ap, length, refl}
use Rattle.xm_explanations.proofs.running.unsaid_day.Goals as goal

pub returns : goal.returns
returns c = record { names_are = refl; sees = c.in_ok-seen.ensures; each = c.in_ok-places.ensures ∙ ap length c.as_slice.ensures.value }
