use Rattle.std.proofs.Common.{◌≡◌, map, take}
use Rattle.xm_config.specs.declared.config.SecurityConfig.{SecurityConfig}
use Rattle.xm_explanations.specs.declared.unsaid.Standing.{Standing}
use Rattle.xm_rules.specs.declared.phases.Phase.TheVariants.{PreTrading}
use Rattle.xm_explanations.proofs.unsaid.UnsaidRows.of.Given as goal

abbrev before_day : SecurityConfig → Standing
before_day s = record { phase = PreTrading; since = 0 }

abbrev pub invariant-loop-security : goal.invariant-loop-security
invariant-loop-security l = l.standing.items ≡ map before_day (take l._security-index l._security-items)
