use Rattle.xm_name_index.proofs.Tables.{stands-if}
use Rattle.xm_name_index.proofs.members.Members.place_by_hash.Goals as goal

pub returns-clause-some : goal.returns-clause-some
returns-clause-some g c =
    let m = c.self.inside.members in
    rw (← c.self.view_is) (stands-if m.entries c.args.member c.get_index_of.result c.get_index_of.ensures.index c.get_index_of.ensures.value)
