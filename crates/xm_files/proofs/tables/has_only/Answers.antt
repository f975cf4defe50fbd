use Rattle.std.proofs.Common.{◌∙◌}
use Rattle.xm_files.proofs.Values.{only-members}
use Rattle.xm_files.proofs.tables.has_only.Goals as goal

pub returns : goal.returns
returns c = c.are_allowed.ensures ∙ only-members c.args.allowed.now c.args.table.now.entries
