use Rattle.std.proofs.Common.{rules, subst, sym}
use Rattle.xm_name_index.specs.Names.{AreNoted, HaveSeed}
use Rattle.xm_name_index.proofs.Noted.{members-retained}
use Rattle.xm_name_index.proofs.Seeded.{seed-retained}
use Rattle.xm_name_index.specs.declared.seed.Seed.{Seed}
use Rattle.indexmap.specs.IndexMap.{hasher_of}
use Rattle.xm_name_index.proofs.Retained.{names-retained, reserved-retained}
use Rattle.xm_name_index.proofs.members.Members.retain.Goals as goal

pub returns-clause-names : goal.returns-clause-names
returns-clause-names g c m r =
    rw (← c.self.view_is)
    (names-retained _ _ _ (λ m t b u f call. search rules) m r _ _ c.retain.ensures.filtered)

pub returns-clause-reserved : goal.returns-clause-reserved
returns-clause-reserved g c m =
    rw (← c.self.view_is)
    (reserved-retained _ _ (λ m t b u f call. search rules) m _ _ c.retain.ensures.filtered)

pub invariant_of-self : goal.invariant_of-self
invariant_of-self g c =
    let seed = hasher_of c.self.inside.members in
    record {
      noted = subst (AreNoted c.self.inside.places.items) (sym (members-retained _ _ (λ m t b u f call. search rules) _ _ c.retain.ensures.filtered)) c.self.invariant.noted;
      seeded = subst (λ (s : Seed). HaveSeed s c.retain.new.self.entries) (sym c.retain.ensures.room.1)
          (λ member. seed-retained seed _ _ (λ m t b u f call. search rules) member _ _ c.retain.ensures.filtered (c.self.invariant.seeded member));
    }
