use Rattle.std.proofs.Common.{arith, ◌≡◌, ◌∙◌, refl, take}
use Rattle.std.proofs.lemmas.List.{take_all}
use Rattle.xm_program.proofs.requests.DayRequest.inputs.Goals as goal

pub returns : goal.returns
returns c =
    let paths = c.as_slice-path-items.result.now in
    let all : take c.loop-path.path-index paths ≡ paths = take_all c.loop-path.path-index paths (omega arith) in
    c.loop-path.invariant.so_far ∙ rw (all, c.as_slice-path-items.ensures.value) refl
