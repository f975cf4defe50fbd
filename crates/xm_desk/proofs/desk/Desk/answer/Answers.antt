use Rattle.std.proofs.Common.{◌≡◌, None, Ok, ap, sym, rules, ◌∙◌}
use Rattle.xm_config.specs.Day.{answer_by}
use Rattle.xm_rules.proofs.Journals.{replay-push}
use Rattle.xm_rules.specs.Refusals.{refusal_of}
use Rattle.xm_rules.specs.Step.{replay, reply, step}
use Rattle.xm_desk.proofs.desk.Desk.answer.Goals as goal

pub returns-in-Ok-clause-answer : goal.returns-in-Ok-clause-answer
returns-in-Ok-clause-answer g c =
    let s = replay c.args.self.now in
    let command = c.args.command.now in
    let passes : refusal_of s command ≡ None = search rules in
    let replied : c.in-Ok.reply ≡ reply s (replay c.apply.new.self) = search rules in
    let stepped : replay c.apply.new.self ≡ step s command = ap replay c.in-Ok.ensures.journal ∙ replay-push c.args.self.now command in
    ap Ok (replied ∙ ap (reply s) stepped) ∙ sym (ap (answer_by s command) passes)
