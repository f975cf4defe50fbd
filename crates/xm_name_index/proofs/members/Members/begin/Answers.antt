use Rattle.std.proofs.Common.{rules, ◌≡◌, ◌<◌, length, List, ℕ, nat_eq, None, Some, if◌then◌else◌, position, subst, sym, ap, ◌∙◌}
use Rattle.std.specs.Map.{keys_of}
use Rattle.indexmap.specs.IndexMap.{hasher_of, insert_entry}
use Rattle.xm_name_index.specs.Names.{AreNoted, HaveSeed, NamesOfMember, names_of}
use Rattle.xm_name_index.specs.declared.seed.Seed.{Seed}
use Rattle.xm_name_index.specs.declared.members.TheConstants.{NOWHERE}
use Rattle.xm_name_index.proofs.Noted.{new-last, noted-before}
use Rattle.xm_name_index.proofs.Seeded.{seeded-more}
use Rattle.xm_name_index.proofs.members.Members.begin.Goals as goal

pub invariant_of-self-in_err-insert : goal.invariant_of-self-in_err-insert
invariant_of-self-in_err-insert g c =
    let m = c.self.inside.members in
    let same : c.insert.new.self.entries ≡ m.entries = search rules in
    let hasher : hasher_of c.insert.new.self ≡ hasher_of m = c.insert.ensures.hasher in
    record {
      noted = subst (λ (es : List (ℕ × NamesOfMember)). AreNoted c.reserve_places.new.places.items (keys_of es)) (sym same) (c.reserve_places.ensures (keys_of m.entries) c.self.invariant.noted);
      seeded = (λ (q : ℕ). subst (λ (p : Seed × List (ℕ × NamesOfMember)). HaveSeed p.0 p.1) (λ i. (sym hasher i, sym same i)) c.self.invariant.seeded q);
    }

pub invariant_of-self-2 : goal.invariant_of-self-2
invariant_of-self-2 g c =
    let m = c.self.inside.members in
    let x = c.reserve.new.self in
    let joined : c.insert.new.self.entries ≡ insert_entry nat_eq m.entries c.args.member x = search rules in
    let hasher : hasher_of c.insert.new.self ≡ hasher_of m = c.insert.ensures.hasher in
    let few : length m.entries < NOWHERE = search rules in
    let own : x.table.seed ≡ hasher_of m = search rules in
    let updates : (q : ℕ) → names_of c.insert.new.self.entries q ≡ (if nat_eq c.args.member q then Some x else names_of m.entries q) = c.in_ok-insert.ensures.updates.0 in
    record {
      noted = subst (λ (es : List (ℕ × NamesOfMember)). AreNoted c.reserve_places.new.places.items (keys_of es)) (sym joined)
          (noted-before c.args.member x m.entries c.reserve_places.new.places.items few (c.reserve_places.ensures (keys_of m.entries) c.self.invariant.noted));
      seeded = subst (λ (s : Seed). HaveSeed s c.insert.new.self.entries) (sym hasher) (seeded-more (hasher_of m) m.entries c.insert.new.self.entries c.args.member x updates own c.self.invariant.seeded);
    }

pub note-requires : goal.note-requires
note-requires g c =
    let es = c.self.inside.members.entries in
    let joined : c.insert.new.self.entries ≡ insert_entry nat_eq es c.args.member c.reserve.new.self = search rules in
    let none : names_of es c.args.member ≡ None = search rules in
    ap (λ (es : List (ℕ × NamesOfMember)). position (nat_eq c.args.member) (keys_of es)) joined ∙ new-last c.args.member c.reserve.new.self es none ∙ search rules
