use Rattle.std.proofs.Common.{rules, ◌≡◌, ◌⊎◌, ℕ, List, Ok, subst, sym}
use Rattle.std.specs.Io.KnownBytes.{Appends}
use Rattle.xm_ticks.specs.Writing.{AppendsPrefix}
use Rattle.xm_program.specs.Ends.{IsToldAs}
use Rattle.xm_program.specs.Outcomes.{unknown_line}
use Rattle.xm_program.specs.declared.outcome.Outcome.{Outcome}
use Rattle.xm_program.proofs.Ends.{whole-or-part}
use Rattle.xm_program.proofs.program.tell_outcome.Goals as goal

pub returns-in-UnknownSecurity : goal.returns-in-UnknownSecurity
returns-in-UnknownSecurity g c =
    let text : c.as_bytes.result.now ≡ unknown_line = search rules in
    let old = g.E.Write.contents c.args.complaints.now in
    let new = g.E.Write.contents c.write_whole.new.out in
    let Told : List ℕ → Type 0 = λ line. Appends old new line ⊎ AppendsPrefix old new line in
    let told = subst Told text (whole-or-part c.write_whole.result c.write_whole.ensures.ok c.write_whole.ensures.err) in
    subst (λ (outcome : Outcome). IsToldAs old new (Ok outcome)) (sym c.in-UnknownSecurity.is) told
