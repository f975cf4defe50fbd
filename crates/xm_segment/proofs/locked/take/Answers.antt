use Rattle.xm_segment.proofs.Counting.{answered, counted}
use Rattle.xm_segment.proofs.locked.take.Goals as goal

pub returns-clause-answer : goal.returns-clause-answer
returns-clause-answer c =
    let did = c.apply-answer.ensures in
    answered c.args.desk.now c.apply-answer.new.self c.args.command.now c.apply-answer.result did.accepted did.journal did.reply did.refused did.memory

pub returns-clause-counted : goal.returns-clause-counted
returns-clause-counted c =
    let did = c.apply-answer.ensures in
    counted c.args.desk.now c.apply-answer.new.self c.args.command.now c.apply-answer.result did.journal did.appended did.reply did.kept
