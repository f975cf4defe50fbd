use Rattle.std.proofs.Common.{◌∙◌, ap}
use Rattle.xm_explanations.proofs.Firsts.{told-more}
use Rattle.xm_explanations.specs.Explained.{first_told}
use Rattle.xm_explanations.proofs.mistaken.push_found.Goals as goal

pub returns : goal.returns
returns c = ap first_told c.in_ok-push.ensures.items ∙ told-more c.args.told.now.items (record { path = c.args.path; found = c.args.found })
