use Rattle.std.proofs.Common.{rules, ◌+◌, ap, ◌∙◌}
use Rattle.xm_name_index.specs.Names.{NamesOfMember, StandsAt, key_of}
use Rattle.xm_name_index.proofs.Entries.{error_gives, ok_gives}
use Rattle.xm_name_index.proofs.Noted.{noted-with}
use Rattle.xm_name_index.proofs.Seeded.{seeded-with}
use Rattle.xm_name_index.proofs.Tables.{lookup-same, reserved-with, table-is, unchanged}
use Rattle.xm_name_index.proofs.members.Members.reserve.Goals as goal

pub returns-in-Some-clause-names : goal.returns-in-Some-clause-names
returns-in-Some-clause-names g c =
    let m = c.self.inside.members in
    let stands : StandsAt m.entries c.args.member c.in-Some.place = rw c.self.view_is c.in-Some.ensures.some in
    let table = table-is m c.args.member c.in-Some.place stands c.unwrap.result.now (search rules) in
    rw (← c.self.view_is)
    (lookup-same m c.args.member c.in-Some.place stands c.get_index_mut.ensures.unique c.reserve.new.self (λ r. c.reserve.ensures.keys r ∙ ap (key_of r) table))

pub returns-in-Some-clause-reserved : goal.returns-in-Some-clause-reserved
returns-in-Some-clause-reserved g c =
    let m = c.self.inside.members in
    let stands : StandsAt m.entries c.args.member c.in-Some.place = rw c.self.view_is c.in-Some.ensures.some in
    let table = table-is m c.args.member c.in-Some.place stands c.unwrap.result.now (search rules) in
    rw (← c.self.view_is)
    (ok_gives c.reserve.result
    (λ more. reserved-with m c.args.member c.in-Some.place stands c.get_index_mut.ensures.unique c.reserve.new.self (λ n. n + 1)
    (more ∙ ap (λ (x : NamesOfMember). x.reserved + 1) table)) c.reserve.ensures.reserved)

pub returns-in-Some-clause-err : goal.returns-in-Some-clause-err
returns-in-Some-clause-err g c =
    let m = c.self.inside.members in
    let stands : StandsAt m.entries c.args.member c.in-Some.place = rw c.self.view_is c.in-Some.ensures.some in
    let table = table-is m c.args.member c.in-Some.place stands c.unwrap.result.now (search rules) in
    rw (← c.self.view_is)
    (error_gives c.reserve.result (λ same. unchanged m c.args.member c.in-Some.place stands c.reserve.new.self (same ∙ table)) c.reserve.ensures.err)

pub invariant_of-self : goal.invariant_of-self
invariant_of-self g c =
    let m = c.self.inside.members in
    let stands : StandsAt m.entries c.args.member c.in-Some.place = rw c.self.view_is c.in-Some.ensures.some in
    let table = table-is m c.args.member c.in-Some.place stands c.unwrap.result.now (search rules) in
    record {
      noted = noted-with c.self.inside.places.items m c.in-Some.place c.reserve.new.self c.self.invariant.noted;
      seeded = seeded-with m c.args.member c.in-Some.place stands _ c.self.invariant.seeded c.get_index_mut.ensures.unique c.reserve.new.self (c.reserve.ensures.seed ∙ ap (λ (x : NamesOfMember). x.table.seed) table);
    }
