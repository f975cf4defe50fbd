use Rattle.std.proofs.Common.{rules}
use Rattle.xm_files.proofs.Hinted.{all-bytes, hint-leads}
use Rattle.xm_files.proofs.names.hinted.Goals as goal

pub returns-then-hint-name : goal.returns-then-hint-name
returns-then-hint-name c = λ names all.
    hint-leads names c.args.hints.now c.place_of.result _ c.args.name.now (search rules) all (all-bytes c.args.name.now c.type_inv.name) (search rules) (search rules) (search rules)
