use Rattle.std.proofs.Common.{Ok, Err, refl}
use Rattle.xm_program.proofs.Sent.{one-sent}
use Rattle.xm_program.proofs.program.check.Goals as goal

pub returns-in-Ok-clause-ends : goal.returns-in-Ok-clause-ends
returns-in-Ok-clause-ends g c = record {
  made = Ok c.in-Ok.line;
  is_check = c.in-Ok.ensures;
  is_sent = one-sent (record { old = g.W.Write.contents c.args.out.now; new = g.W.Write.contents c.send.new.out; text = c.in-Ok.line.items }) c.send.result c.send.ensures.sent c.send.ensures.failed;
}

pub returns-in-Err-clause-ends : goal.returns-in-Err-clause-ends
returns-in-Err-clause-ends g c = record { made = Err c.in-Err.fault; is_check = c.in-Err.ensures; is_sent = (refl, refl) }
