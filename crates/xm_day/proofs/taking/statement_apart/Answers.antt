use Rattle.std.proofs.Common.{length, ap, arith, ◌∙◌}
use Rattle.xm_day.proofs.taking.statement_apart.Goals as goal

pub push_members-requires : goal.push_members-requires
push_members-requires g c = omega (arith, ap length (c.as_slice.ensures.value ∙ c.in_ok-desks.ensures.desks), c.in_ok-desks.ensures.few)
