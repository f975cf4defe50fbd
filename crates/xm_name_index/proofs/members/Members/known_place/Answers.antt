use Rattle.std.proofs.Common.{rules, refl, ◌≡◌, ◌≢◌, ◌<◌, Some, length, slice_get, arith}
use Rattle.std.proofs.lemmas.Map.Entries.{length-keys_of}
use Rattle.xm_name_index.specs.declared.members.TheConstants.{NOWHERE}
use Rattle.std.proofs.lemmas.Option.{slice_get_read}
use Rattle.xm_name_index.proofs.Noted.{stands-there}
use Rattle.xm_name_index.proofs.members.Members.known_place.Goals as goal

pub returns-then-place-len : goal.returns-then-place-len
returns-then-place-len g c =
    let m = c.self.inside.members in
    let place = c.in_ok-place.field-0.now in
    let at : slice_get c.self.inside.places.items c.args.member ≡ Some place = slice_get_read c.self.inside.places.items _ c.args.member place refl (search rules) (search rules) in
    let within : place < length m.entries = search rules in
    let somewhere : place ≢ NOWHERE = λ is. absurd (omega (arith, within, is, c.self.invariant.noted.few, length-keys_of m.entries)) in
    rw (← c.self.view_is) (stands-there m.entries c.args.member place (c.self.invariant.noted.own c.args.member place at somewhere))
