use Rattle.std.proofs.Common.{rules}
use Rattle.xm_name_index.specs.Names.{NamesOfMember}
use Rattle.xm_name_index.proofs.Listed.{with-rest}
use Rattle.xm_name_index.proofs.member_names.MemberNames.names.Goals as goal

pub returns : goal.returns
returns g c =
    let n = c.self.inside in
    let own : NamesOfMember = record { table = n.table; rest = n.rest.entries; reserved = n.reserved } in
    rw (← c.self.view_is, c.in_ok-list_rest.ensures.listed) (with-rest own c.in_ok-names.names.items c.in_ok-names.ensures c.list_rest.ensures.unique c.self.invariant.apart)
