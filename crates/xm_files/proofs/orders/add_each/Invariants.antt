use Rattle.std.proofs.Common.{◌≡◌, ◌++◌, map}
use Rattle.std.specs.List.{range_with_len}
use Rattle.xm_files.proofs.orders.add_each.Given as goal

abbrev pub invariant-loop-security : goal.invariant-loop-security
invariant-loop-security l = l.batch ≡ record l.initial.batch { rows = l.initial.batch.rows ++ map (λ security. record { line = l.line; security = security; command = l.command }) (range_with_len 0 l.security) }
