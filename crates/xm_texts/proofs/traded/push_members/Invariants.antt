use Rattle.std.proofs.Common.{◌≡◌, ◌++◌, map}
use Rattle.std.specs.List.{flat_map, range_with_len}
use Rattle.xm_rules.specs.Step.{replay}
use Rattle.xm_texts.specs.Statement.{member_line}
use Rattle.xm_texts.proofs.traded.push_members.Given as goal

abbrev pub invariant-loop-member : goal.invariant-loop-member
invariant-loop-member g l = l.text.items ≡ l.initial.text.items ++ flat_map (member_line l.names (map replay l.desks)) (range_with_len 0 l.member)
