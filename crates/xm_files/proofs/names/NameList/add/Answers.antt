use Rattle.std.proofs.Common.{map, string_bytes, refl, sym, ap, ◌∙◌}
use Rattle.std.specs.Prelude.{is_some}
use Rattle.std.specs.Str.{bytes_eq}
use Rattle.xm_files.proofs.Places.{has-position}
use Rattle.xm_files.proofs.names.NameList.add.Goals as goal

pub returns-then-contains_key-clause-causes : goal.returns-then-contains_key-clause-causes
returns-then-contains_key-clause-causes c = λ _.
    let names = map string_bytes c.self.inside.names.items in
    (refl, rw (← c.self.view_is) (sym (has-position (bytes_eq c.args.name.now) names) ∙ ap is_some (sym (c.self.invariant.places c.args.name.now)) ∙ sym c.contains_key.ensures ∙ c.if-contains_key.true))

pub push-requires : goal.push-requires
push-requires c =
    let names = map string_bytes c.self.inside.names.items in
    rw (← c.self.view_is) (sym (has-position (bytes_eq c.args.name.now) names) ∙ ap is_some (sym (c.self.invariant.places c.args.name.now)) ∙ sym c.contains_key.ensures ∙ c.if-contains_key.false)

pub returns-clause-fresh : goal.returns-clause-fresh
returns-clause-fresh c =
    let names = map string_bytes c.self.inside.names.items in
    rw (← c.self.view_is) (sym (has-position (bytes_eq c.args.name.now) names) ∙ ap is_some (sym (c.self.invariant.places c.args.name.now)) ∙ sym c.contains_key.ensures ∙ c.if-contains_key.false)
