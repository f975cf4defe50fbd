use Rattle.std.proofs.Common.{◌≡◌, ℕ, None, Some, Option, IfSome, nat_eq, ap, ◌∙◌}
use Rattle.std.specs.Map.{lookup}
use Rattle.xm_name_index.specs.Names.{first_of, key_of}
use Rattle.xm_name_index.proofs.Entries.{popped_key, some_gives}
use Rattle.xm_name_index.proofs.member_names.MemberNames.pop.Goals as goal

pub returns-in-None-clause-key : goal.returns-in-None-clause-key
returns-in-None-clause-key g c =
    let n = c.self.inside in
    let absent : IfSome c.pop-in-None.result (λ name. lookup (nat_eq name.0) c.pop-in-None.new.self.entries ≡ None) =
    some_gives c.pop-in-None.result _ _ (λ name updates. updates.1) c.pop-in-None.ensures.updates in
    rw (← c.self.view_is)
    (some_gives c.pop-in-None.result _ (λ name. key_of name.0 (record { table = n.table; rest = n.rest.entries; reserved = n.reserved }) ≡ Some name.1)
    (λ name key. ap (λ (o : Option ℕ). first_of o (lookup (nat_eq name.0) n.rest.entries)) (c.in-None.ensures.none name.0) ∙ key)
    (popped_key n.rest.entries c.pop-in-None.new.self.entries c.pop-in-None.result c.pop-in-None.ensures.entries absent))
