use Rattle.std.proofs.Common.{◌≡◌, take}
use Rattle.xm_replay.specs.Taken.{commands_in}
use Rattle.xm_threads.proofs.lanes.commands_in.Given as goal

abbrev pub invariant-loop-desk : goal.invariant-loop-desk
invariant-loop-desk l = l.count ≡ commands_in (take l.desk-index l.desks)
