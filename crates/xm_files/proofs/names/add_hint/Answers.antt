use Rattle.std.proofs.Common.{rules, [], ◌∷◌, ◌++◌}
use Rattle.std.proofs.lemmas.List.Elements.{All-set, All-weaker}
use Rattle.xm_files.specs.Hints.{LeadsInto}
use Rattle.xm_files.proofs.Hinted.{all-bytes, leads-to-last, still-leads}
use Rattle.xm_files.proofs.names.add_hint.Goals as goal

pub returns-then-name-le-SHORT : goal.returns-then-name-le-SHORT
returns-then-name-le-SHORT c = λ names at all.
    All-set (LeadsInto (names ++ c.args.name.now ∷ [])) c.args.hints.now c.place_of.result _ (leads-to-last names c.args.name.now _ (all-bytes c.args.name.now c.type_inv.name) (search rules) (search rules) (search rules)) (All-weaker (LeadsInto names) (LeadsInto (names ++ c.args.name.now ∷ [])) (still-leads names c.args.name.now) c.args.hints.now all)

pub returns-else-name-le-SHORT : goal.returns-else-name-le-SHORT
returns-else-name-le-SHORT c = λ names at all. All-weaker (LeadsInto names) (LeadsInto (names ++ c.args.name.now ∷ [])) (still-leads names c.args.name.now) c.args.hints.now all
