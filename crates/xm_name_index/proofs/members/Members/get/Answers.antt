use Rattle.std.proofs.Common.{rules, ◌≡◌, Some, slice_get, sym, ap, ◌∙◌}
use Rattle.xm_name_index.specs.Names.{StandsAt, key_of}
use Rattle.xm_name_index.proofs.Tables.{own-key, table-at}
use Rattle.xm_name_index.proofs.members.Members.get.Goals as goal

pub returns : goal.returns
returns g c =
    let m = c.self.inside.members in
    let place = c.in_ok-place.place in
    let stands : StandsAt m.entries c.args.member place = rw c.self.view_is (search rules) in
    let there : slice_get m.entries place ≡ Some (c.in_ok-_member._member.now, c.in_ok-_member.names.now) = search rules in
    let table = table-at m c.args.member place stands c.in_ok-_member._member.now c.in_ok-_member.names.now there in
    rw (← c.self.view_is) (c.get.ensures ∙ ap (key_of c.args.reference) table ∙ sym (own-key m c.args.member place stands c.args.reference))
