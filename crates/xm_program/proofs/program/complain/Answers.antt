use Rattle.std.proofs.Common.{rules, ◌≡◌, ◌⊎◌, ℕ, List, Err, subst, sym}
use Rattle.std.specs.Io.KnownBytes.{Appends}
use Rattle.xm_ticks.specs.Writing.{AppendsPrefix}
use Rattle.xm_program.specs.Ends.{IsToldAs}
use Rattle.xm_program.specs.FaultLines.{fault_line}
use Rattle.xm_program.specs.declared.requests.Failure.{Failure}
use Rattle.xm_program.proofs.Ends.{whole-or-part}
use Rattle.xm_program.proofs.program.complain.Goals as goal

pub returns-in-Day : goal.returns-in-Day
returns-in-Day g c =
    let text : c.as_slice.result.now ≡ fault_line c.in-Day.fault = search rules in
    let old = g.E.Write.contents c.args.complaints.now in
    let new = g.E.Write.contents c.write_whole.new.out in
    let Told : List ℕ → Type 0 = λ line. Appends old new line ⊎ AppendsPrefix old new line in
    let told = subst Told text (whole-or-part c.write_whole.result c.write_whole.ensures.ok c.write_whole.ensures.err) in
    subst (λ (failure : Failure). IsToldAs old new (Err failure)) (sym c.in-Day.is) told
