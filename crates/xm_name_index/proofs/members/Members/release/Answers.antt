use Rattle.std.proofs.Common.{rules, ◌-◌, ap, ◌∙◌, arith}
use Rattle.xm_name_index.specs.Names.{NamesOfMember, StandsAt, key_of}
use Rattle.xm_name_index.proofs.Noted.{noted-with}
use Rattle.xm_name_index.proofs.Seeded.{seeded-with}
use Rattle.xm_name_index.proofs.Tables.{lookup-same, own-reserved, reserved-with, table-is}
use Rattle.xm_name_index.proofs.members.Members.release.Goals as goal

pub release-requires : goal.release-requires
release-requires g c =
    let m = c.self.inside.members in
    let stands : StandsAt m.entries c.args.member c.in-Some.place = rw c.self.view_is c.in-Some.ensures.some in
    let table = ap (λ (x : NamesOfMember). x.reserved) (table-is m c.args.member c.in-Some.place stands c.unwrap.result.now (search rules)) in
    let own = own-reserved m c.args.member c.in-Some.place stands in
    let some = rw (← c.self.view_is) at c.requires in
    omega arith

pub returns-in-Some-clause-names : goal.returns-in-Some-clause-names
returns-in-Some-clause-names g c =
    let m = c.self.inside.members in
    let stands : StandsAt m.entries c.args.member c.in-Some.place = rw c.self.view_is c.in-Some.ensures.some in
    let table = table-is m c.args.member c.in-Some.place stands c.unwrap.result.now (search rules) in
    rw (← c.self.view_is)
    (lookup-same m c.args.member c.in-Some.place stands c.get_index_mut.ensures.unique c.release.new.self
    (λ r. ap (key_of r) (c.release.ensures ∙ (λ i. record (table i) { reserved = c.unwrap.result.now.reserved - 1 }))))

pub returns-in-Some-clause-reserved : goal.returns-in-Some-clause-reserved
returns-in-Some-clause-reserved g c =
    let m = c.self.inside.members in
    let stands : StandsAt m.entries c.args.member c.in-Some.place = rw c.self.view_is c.in-Some.ensures.some in
    let table = table-is m c.args.member c.in-Some.place stands c.unwrap.result.now (search rules) in
    rw (← c.self.view_is)
    (reserved-with m c.args.member c.in-Some.place stands c.get_index_mut.ensures.unique c.release.new.self (λ n. n - 1)
    (ap (λ (x : NamesOfMember). x.reserved) c.release.ensures ∙ ap (λ (x : NamesOfMember). x.reserved - 1) table))

pub invariant_of-self : goal.invariant_of-self
invariant_of-self g c =
    let m = c.self.inside.members in
    let stands : StandsAt m.entries c.args.member c.in-Some.place = rw c.self.view_is c.in-Some.ensures.some in
    let table = table-is m c.args.member c.in-Some.place stands c.unwrap.result.now (search rules) in
    record {
      noted = noted-with c.self.inside.places.items m c.in-Some.place c.release.new.self c.self.invariant.noted;
      seeded = seeded-with m c.args.member c.in-Some.place stands _ c.self.invariant.seeded c.get_index_mut.ensures.unique c.release.new.self
          (ap (λ (x : NamesOfMember). x.table.seed) (c.release.ensures ∙ (λ i. record (table i) { reserved = c.unwrap.result.now.reserved - 1 })));
    }
