use Rattle.std.proofs.Common.{◌≡◌, Some, position, sym}
use Rattle.std.proofs.lemmas.List.Quantifiers.{position-Some}
use Rattle.xm_name_index.specs.Buckets.{is_vacant}
use Rattle.xm_name_index.proofs.Buckets.{named, no-slot, put-apart, put-key}
use Rattle.xm_name_index.proofs.bucket.Bucket.put.Goals as goal

pub invariant_of-self : goal.invariant_of-self
invariant_of-self c =
    let slots = c.self.inside.slots in
    let new = named c.args.reference c.args.key c.requires.key in
    let found : position is_vacant slots ≡ Some c.in-Some.place = rw (c.self.view_is, sym c.vacancy.ensures) c.in-Some.is in
    let at = position-Some is_vacant slots c.in-Some.place new found in
    put-apart c.args.reference c.args.key c.requires.key slots c.in-Some.place at.0 at.1 (no-slot c.args.reference slots (rw c.self.view_is c.requires.absent)) c.self.invariant

pub returns-in-Some-clause-keys : goal.returns-in-Some-clause-keys
returns-in-Some-clause-keys c _ r =
    let slots = c.self.inside.slots in
    let new = named c.args.reference c.args.key c.requires.key in
    let found : position is_vacant slots ≡ Some c.in-Some.place = rw (c.self.view_is, sym c.vacancy.ensures) c.in-Some.is in
    let at = position-Some is_vacant slots c.in-Some.place new found in
    rw (← c.self.view_is)
    (put-key c.args.reference c.args.key c.requires.key slots c.in-Some.place at.0 at.1 (no-slot c.args.reference slots (rw c.self.view_is c.requires.absent)) r)
