use Rattle.xm_book.specs.Curves.{orders_left}
use Rattle.xm_match.specs.Meeting.{sweep_over}
use Rattle.xm_match.proofs.Covering.{Passed}
use Rattle.xm_match.proofs.filling.fillable.Given as goal
use Rattle.xm_rules.specs.Sides.{opposite}
use Rattle.xm_rules.specs.declared.phases.Phase.TheVariants.{Continuous}

abbrev pub invariant-loop-missing : goal.invariant-loop-missing
invariant-loop-missing g l = Passed (sweep_over l.book.orders l.incoming l.fn.ref1 l.fn.ref2 l.widths) l.missing l.after

abbrev pub decreases-loop-missing : goal.decreases-loop-missing
decreases-loop-missing g l = orders_left Continuous (opposite l.incoming.side) l.after l.book.orders
