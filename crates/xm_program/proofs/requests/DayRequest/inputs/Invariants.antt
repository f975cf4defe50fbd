use Rattle.std.proofs.Common.{◌≡◌, ◌∷◌, ◌+◌, ◌≤◌, Some, length, map, option_map, take}
use Rattle.xm_program.specs.Requests.{carried_by}
use Rattle.xm_program.proofs.requests.DayRequest.inputs.Given as goal

abbrev pub invariant-loop-path : goal.invariant-loop-path
invariant-loop-path l = record {
  sized : length l.inputs.items ≡ 2 + l.path-index;
  few : length l.path-items ≤ 256;
  all : l.path-items ≡ l.self.orders.items;
  so_far : map (option_map (λ s. s.now)) l.inputs.items
      ≡ Some l.self.segment.now ∷ option_map (λ c. c.0) (option_map carried_by l.self.carrying) ∷ map Some (map (λ s. s.now) (take l.path-index l.path-items));
}
