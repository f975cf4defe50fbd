use Rattle.std.proofs.Common.{rules, ◌≡◌, ℕ, List, [], sym, subst}
use Rattle.std.specs.Map.{keys_of}
use Rattle.indexmap.specs.IndexMap.{hasher_of}
use Rattle.xm_name_index.specs.Names.{AreNoted, HaveSeed, NamesOfMember}
use Rattle.xm_name_index.proofs.Noted.{no-member}
use Rattle.xm_name_index.proofs.members.Members.new.Goals as goal

pub invariant_of-result : goal.invariant_of-result
invariant_of-result g c =
    let places : c.new.result.items ≡ [] = search rules in
    let none : c.with_hasher.result.entries ≡ [] = search rules in
    record {
      noted = subst (λ (p : List ℕ × List (ℕ × NamesOfMember)). AreNoted p.0 (keys_of p.1)) (λ i. (sym places i, sym none i)) no-member;
      seeded = subst (HaveSeed (hasher_of c.with_hasher.result)) (sym none) (λ member. tt);
    }
