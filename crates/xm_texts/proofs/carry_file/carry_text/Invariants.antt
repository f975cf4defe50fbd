use Rattle.std.proofs.Common.{◌≡◌, ◌++◌, take, map}
use Rattle.xm_rules.specs.Step.{replay}
use Rattle.xm_texts.specs.Carry.{carry_header, lefts_text}
use Rattle.xm_texts.proofs.carry_file.carry_text.Given as goal

abbrev pub invariant-loop-index : goal.invariant-loop-index
invariant-loop-index g l = l.text.items ≡ carry_header ++ lefts_text l.names 0 (map replay (take l.index l.desks))
