use Rattle.std.proofs.Common.{◌≡◌, ◌≤◌, length, map, take}
use Rattle.std.specs.Vec.{vec_capacity}
use Rattle.xm_board.specs.Opened.{Unnamed}
use Rattle.xm_rules.specs.Step.{Journal}
use Rattle.xm_segment.proofs.opened.boards_of.Given as goal

abbrev pub invariant-loop-desk : goal.invariant-loop-desk
invariant-loop-desk l = record {
  boards : map (λ (board : Unnamed). board.settings) l.boards.items ≡ map (λ (desk : Journal). desk.settings) (take l.desk-index l.desks);
  room : length l.desks ≤ vec_capacity l.boards;
}
