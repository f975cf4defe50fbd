use Rattle.std.proofs.Common.{rules, ℕ, ◌==◌, if◌then◌else◌, Option, None, sym, ap, ◌∙◌}
use Rattle.xm_name_index.specs.Names.{NamesOfMember, StandsAt, key_of}
use Rattle.xm_name_index.proofs.Noted.{noted-with}
use Rattle.xm_name_index.proofs.Seeded.{seeded-with}
use Rattle.xm_name_index.proofs.Tables.{lookup-with, own-key, reserved-same, table-is}
use Rattle.xm_name_index.proofs.members.Members.remove.Goals as goal

pub returns-in-Some-clause-key : goal.returns-in-Some-clause-key
returns-in-Some-clause-key g c =
    let m = c.self.inside.members in
    let stands : StandsAt m.entries c.args.member c.in-Some.place = rw c.self.view_is c.in-Some.ensures.some in
    let table = table-is m c.args.member c.in-Some.place stands c.unwrap-names.result.now (search rules) in
    rw (← c.self.view_is) (c.remove.ensures.key ∙ ap (key_of c.args.reference) table ∙ sym (own-key m c.args.member c.in-Some.place stands c.args.reference))

pub returns-in-Some-clause-names : goal.returns-in-Some-clause-names
returns-in-Some-clause-names g c =
    let m = c.self.inside.members in
    let stands : StandsAt m.entries c.args.member c.in-Some.place = rw c.self.view_is c.in-Some.ensures.some in
    let table = table-is m c.args.member c.in-Some.place stands c.unwrap-names.result.now (search rules) in
    rw (← c.self.view_is)
    (lookup-with m c.args.member c.in-Some.place stands c.get_index_mut.ensures.unique c.remove.new.self (λ r. r == c.args.reference) None
    (λ r. c.remove.ensures.keys r ∙ ap (λ (o : Option ℕ). if r == c.args.reference then None else o) (ap (key_of r) table)))

pub returns-in-Some-clause-reserved : goal.returns-in-Some-clause-reserved
returns-in-Some-clause-reserved g c =
    let m = c.self.inside.members in
    let stands : StandsAt m.entries c.args.member c.in-Some.place = rw c.self.view_is c.in-Some.ensures.some in
    let table = table-is m c.args.member c.in-Some.place stands c.unwrap-names.result.now (search rules) in
    rw (← c.self.view_is)
    (reserved-same m c.args.member c.in-Some.place stands c.get_index_mut.ensures.unique c.remove.new.self (c.remove.ensures.reserved ∙ ap (λ (x : NamesOfMember). x.reserved) table))

pub invariant_of-self : goal.invariant_of-self
invariant_of-self g c =
    let m = c.self.inside.members in
    let stands : StandsAt m.entries c.args.member c.in-Some.place = rw c.self.view_is c.in-Some.ensures.some in
    let table = table-is m c.args.member c.in-Some.place stands c.unwrap-names.result.now (search rules) in
    record {
      noted = noted-with c.self.inside.places.items m c.in-Some.place c.remove.new.self c.self.invariant.noted;
      seeded = seeded-with m c.args.member c.in-Some.place stands _ c.self.invariant.seeded c.get_index_mut.ensures.unique c.remove.new.self (c.remove.ensures.seed ∙ ap (λ (x : NamesOfMember). x.table.seed) table);
    }
