use Rattle.std.proofs.Common.{◌≤◌, arith, drop, length, length-drop}
use Rattle.std.proofs.Math.Seq.{take-add}
use Rattle.std.proofs.lemmas.List.{take_rest}
use Rattle.xm_ticks.proofs.Prefixes.{Appends-more}
use Rattle.xm_ticks.proofs.writing.write_whole.Goals as goal

pub loop-done-preserved : goal.loop-done-preserved
loop-done-preserved g c =
    let rest = take_rest c.args.text.now c.loop-done.done in
    let bound : c.in-Ok.count ≤ length (drop c.loop-done.done c.args.text.now) = rw rest at c.in-Ok.ensures.bound in
    record {
      within = omega (arith, length-drop c.loop-done.done c.args.text.now);
      written = rw (take-add c.loop-done.done c.in-Ok.count c.args.text.now) (Appends-more _ _ _ _ _ c.loop-done.invariant.written (rw rest at c.in-Ok.ensures.bytes));
    }
