use Rattle.std.proofs.Common.{ap, ◌≡◌, ◌∙◌, Bor, ℕ, List, Option, map, option_map, subst}
use Rattle.std.specs.Fn.{FnReturnsAt}
use Rattle.xm_program.specs.Places.{AreFree}
use Rattle.xm_program.specs.Requests.{inputs, named_day}
use Rattle.xm_program.proofs.outputs.make_files.Goals as goal

abbrev texts : List (Option (Bor (List ℕ))) → List (Option (List ℕ))
texts = map (option_map (λ s. s.now))

-- the paths that were looked at are those of the day
pub returns-clause-free : goal.returns-clause-free
returns-clause-free g c =
    let all_read : texts c.deref.result.now ≡ inputs (named_day c.args.request.now) = ap texts c.deref.ensures.0 ∙ c.inputs.ensures in
    subst (λ (paths : List (Option (List ℕ))). AreFree (FnReturnsAt g.L.Fn c.args.lies.now) (inputs (named_day c.args.request.now)) paths) c.outputs-paths.ensures
    (subst (λ (read : List (Option (List ℕ))). AreFree (FnReturnsAt g.L.Fn c.args.lies.now) read (texts c.outputs-paths.result)) all_read
    c.in_ok-check_free.ensures)
