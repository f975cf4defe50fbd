use Rattle.std.proofs.Common.{◌≡◌, ◌++◌}
use Rattle.std.specs.List.{flat_map, range_with_len}
use Rattle.xm_rules.specs.Step.{replay}
use Rattle.xm_texts.specs.Statement.{net_line}
use Rattle.xm_texts.proofs.traded.push_nets.Given as goal

abbrev pub invariant-loop-member : goal.invariant-loop-member
invariant-loop-member g l = l.text.items ≡ l.initial.text.items ++ flat_map (net_line l.names (replay l.desk)) (range_with_len 0 l.member)
