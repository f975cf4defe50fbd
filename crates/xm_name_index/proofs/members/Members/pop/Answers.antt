use Rattle.std.proofs.Common.{rules, ℕ, ◌==◌, if◌then◌else◌, Option, None, sym, ap, ◌∙◌}
use Rattle.xm_name_index.specs.Names.{NamesOfMember, StandsAt, key_of}
use Rattle.xm_name_index.proofs.Entries.{none_gives, some_gives}
use Rattle.xm_name_index.proofs.Noted.{noted-with}
use Rattle.xm_name_index.proofs.Seeded.{seeded-with}
use Rattle.xm_name_index.proofs.Tables.{lookup-with, own-key, reserved-same, table-is, unchanged}
use Rattle.xm_name_index.proofs.members.Members.pop.Goals as goal

pub returns-in-Some-clause-none : goal.returns-in-Some-clause-none
returns-in-Some-clause-none g c =
    let m = c.self.inside.members in
    let stands : StandsAt m.entries c.args.member c.in-Some.place = rw c.self.view_is c.in-Some.ensures.some in
    let table = table-is m c.args.member c.in-Some.place stands c.unwrap-names.result.now (search rules) in
    rw (← c.self.view_is)
    (none_gives c.pop.result (λ none r. own-key m c.args.member c.in-Some.place stands r ∙ sym (ap (key_of r) table) ∙ none r) c.pop.ensures.none)

pub returns-in-Some-clause-key : goal.returns-in-Some-clause-key
returns-in-Some-clause-key g c =
    let m = c.self.inside.members in
    let stands : StandsAt m.entries c.args.member c.in-Some.place = rw c.self.view_is c.in-Some.ensures.some in
    let table = table-is m c.args.member c.in-Some.place stands c.unwrap-names.result.now (search rules) in
    rw (← c.self.view_is)
    (some_gives c.pop.result _ _ (λ name key. own-key m c.args.member c.in-Some.place stands name.0 ∙ sym (ap (key_of name.0) table) ∙ key) c.pop.ensures.key)

pub returns-in-Some-clause-left : goal.returns-in-Some-clause-left
returns-in-Some-clause-left g c =
    let m = c.self.inside.members in
    let stands : StandsAt m.entries c.args.member c.in-Some.place = rw c.self.view_is c.in-Some.ensures.some in
    let table = table-is m c.args.member c.in-Some.place stands c.unwrap-names.result.now (search rules) in
    rw (← c.self.view_is)
    (some_gives c.pop.result _ _
    (λ name keys. lookup-with m c.args.member c.in-Some.place stands c.get_index_mut.ensures.unique c.pop.new.self (λ r. r == name.0) None
    (λ r. keys r ∙ ap (λ (o : Option ℕ). if r == name.0 then None else o) (ap (key_of r) table))) c.pop.ensures.keys)

pub returns-in-Some-clause-unchanged : goal.returns-in-Some-clause-unchanged
returns-in-Some-clause-unchanged g c =
    let m = c.self.inside.members in
    let stands : StandsAt m.entries c.args.member c.in-Some.place = rw c.self.view_is c.in-Some.ensures.some in
    let table = table-is m c.args.member c.in-Some.place stands c.unwrap-names.result.now (search rules) in
    rw (← c.self.view_is)
    (none_gives c.pop.result (λ same. unchanged m c.args.member c.in-Some.place stands c.pop.new.self (same ∙ table)) c.pop.ensures.unchanged)

pub returns-in-Some-clause-reserved : goal.returns-in-Some-clause-reserved
returns-in-Some-clause-reserved g c =
    let m = c.self.inside.members in
    let stands : StandsAt m.entries c.args.member c.in-Some.place = rw c.self.view_is c.in-Some.ensures.some in
    let table = table-is m c.args.member c.in-Some.place stands c.unwrap-names.result.now (search rules) in
    rw (← c.self.view_is)
    (reserved-same m c.args.member c.in-Some.place stands c.get_index_mut.ensures.unique c.pop.new.self (c.pop.ensures.reserved ∙ ap (λ (x : NamesOfMember). x.reserved) table))

pub invariant_of-self : goal.invariant_of-self
invariant_of-self g c =
    let m = c.self.inside.members in
    let stands : StandsAt m.entries c.args.member c.in-Some.place = rw c.self.view_is c.in-Some.ensures.some in
    let table = table-is m c.args.member c.in-Some.place stands c.unwrap-names.result.now (search rules) in
    record {
      noted = noted-with c.self.inside.places.items m c.in-Some.place c.pop.new.self c.self.invariant.noted;
      seeded = seeded-with m c.args.member c.in-Some.place stands _ c.self.invariant.seeded c.get_index_mut.ensures.unique c.pop.new.self (c.pop.ensures.seed ∙ ap (λ (x : NamesOfMember). x.table.seed) table);
    }
