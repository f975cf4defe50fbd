use Rattle.std.proofs.Common.{rules, ℕ, ◌-◌, ◌==◌, if◌then◌else◌, Option, Some, sym, ap, ◌∙◌, arith}
use Rattle.xm_name_index.specs.Names.{NamesOfMember, StandsAt, key_of}
use Rattle.xm_name_index.proofs.Noted.{noted-with}
use Rattle.xm_name_index.proofs.Seeded.{seeded-with}
use Rattle.xm_name_index.proofs.Tables.{lookup-with, own-key, own-reserved, reserved-with, table-is}
use Rattle.xm_name_index.proofs.members.Members.insert.Goals as goal

pub insert-requires-clause-reserved : goal.insert-requires-clause-reserved
insert-requires-clause-reserved g c =
    let m = c.self.inside.members in
    let stands : StandsAt m.entries c.args.member c.in-Some.place = rw c.self.view_is c.in-Some.ensures.some in
    let table = table-is m c.args.member c.in-Some.place stands c.unwrap-names.result.now (search rules) in
    let same = ap (λ (x : NamesOfMember). x.reserved) table in
    let own = own-reserved m c.args.member c.in-Some.place stands in
    let some = rw (← c.self.view_is) at c.requires.reserved in
    omega arith

pub insert-requires-clause-absent : goal.insert-requires-clause-absent
insert-requires-clause-absent g c =
    let m = c.self.inside.members in
    let stands : StandsAt m.entries c.args.member c.in-Some.place = rw c.self.view_is c.in-Some.ensures.some in
    let table = table-is m c.args.member c.in-Some.place stands c.unwrap-names.result.now (search rules) in
    ap (key_of c.args.reference) table ∙ sym (own-key m c.args.member c.in-Some.place stands c.args.reference) ∙ rw (← c.self.view_is) at c.requires.absent

pub returns-in-Some-clause-names : goal.returns-in-Some-clause-names
returns-in-Some-clause-names g c =
    let m = c.self.inside.members in
    let stands : StandsAt m.entries c.args.member c.in-Some.place = rw c.self.view_is c.in-Some.ensures.some in
    let table = table-is m c.args.member c.in-Some.place stands c.unwrap-names.result.now (search rules) in
    rw (← c.self.view_is)
    (lookup-with m c.args.member c.in-Some.place stands c.get_index_mut.ensures.unique c.insert.new.self (λ r. r == c.args.reference) (Some c.args.key)
    (λ r. c.insert.ensures.keys r ∙ ap (λ (o : Option ℕ). if r == c.args.reference then Some c.args.key else o) (ap (key_of r) table)))

pub returns-in-Some-clause-reserved : goal.returns-in-Some-clause-reserved
returns-in-Some-clause-reserved g c =
    let m = c.self.inside.members in
    let stands : StandsAt m.entries c.args.member c.in-Some.place = rw c.self.view_is c.in-Some.ensures.some in
    let table = table-is m c.args.member c.in-Some.place stands c.unwrap-names.result.now (search rules) in
    rw (← c.self.view_is)
    (reserved-with m c.args.member c.in-Some.place stands c.get_index_mut.ensures.unique c.insert.new.self (λ n. n - 1)
    (c.insert.ensures.reserved ∙ ap (λ (x : NamesOfMember). x.reserved - 1) table))

pub invariant_of-self : goal.invariant_of-self
invariant_of-self g c =
    let m = c.self.inside.members in
    let stands : StandsAt m.entries c.args.member c.in-Some.place = rw c.self.view_is c.in-Some.ensures.some in
    let table = table-is m c.args.member c.in-Some.place stands c.unwrap-names.result.now (search rules) in
    record {
      noted = noted-with c.self.inside.places.items m c.in-Some.place c.insert.new.self c.self.invariant.noted;
      seeded = seeded-with m c.args.member c.in-Some.place stands _ c.self.invariant.seeded c.get_index_mut.ensures.unique c.insert.new.self (c.insert.ensures.seed ∙ ap (λ (x : NamesOfMember). x.table.seed) table);
    }
