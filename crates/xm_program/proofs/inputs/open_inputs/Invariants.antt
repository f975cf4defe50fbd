use Rattle.std.proofs.Common.{◌≡◌, ◌≤◌, length, map, take}
use Rattle.std.specs.Fn.{FnReturnsAt}
use Rattle.std.specs.List.{AllZip}
use Rattle.xm_program.specs.Inputs.{IsOpened}
use Rattle.xm_program.proofs.inputs.open_inputs.Given as goal

abbrev pub invariant-loop-path : goal.invariant-loop-path
invariant-loop-path g l = record {
  sized : length l.inputs.items ≡ l.path-index;
  few : length l.path-items ≤ 256;
  so_far : AllZip (IsOpened (FnReturnsAt g.O.Fn l.opens)) (map (λ s. s.now) (take l.path-index l.path-items)) l.inputs.items;
}
