use Rattle.std.proofs.Common.{arith}
use Rattle.xm_files.proofs.Marked.{next-mark, read-on}
use Rattle.xm_files.proofs.marks.Marks.next.Goals as goal

pub invariant_of-self : goal.invariant_of-self
invariant_of-self c =
    let ahead = c.in_ok-block in
    read-on c.self.inside.text.now c.self.inside.at ahead.block ahead.bits (rw (← c.self.view_is) at ahead.ensures.marked) (omega (arith, ahead.ensures.some)) (omega arith)

pub returns-clause-next : goal.returns-clause-next
returns-clause-next c =
    let ahead = c.in_ok-block in
    next-mark c.args.self.now.text c.args.self.now.at ahead.block ahead.bits ahead.ensures.marked (omega (arith, ahead.ensures.some)) (omega arith)
