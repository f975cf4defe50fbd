use Rattle.std.proofs.Common.{rules, ◌≡◌, ◌++◌, ◌-◌, [], List, ℕ, replicate, take, vec_len, subst, sym, ◌∙◌}
use Rattle.xm_name_index.specs.Names.{AreNoted}
use Rattle.xm_name_index.specs.declared.members.TheConstants.{NOWHERE, PLACED}
use Rattle.xm_name_index.proofs.Noted.{none-noted}
use Rattle.xm_name_index.proofs.members.reserve_places.Goals as goal

pub returns : goal.returns
returns g c members noted =
    let none : c.args.places.now.items ≡ [] = search rules in
    let len : vec_len c.args.places.now ≡ 0 = search rules in
    let places = c.in_ok-resize.ensures.items ∙ (λ j. take PLACED (none j) ++ replicate (PLACED - len j) NOWHERE) in
    subst (λ (p : List ℕ). AreNoted p members) (sym places) (none-noted members PLACED noted.few)
