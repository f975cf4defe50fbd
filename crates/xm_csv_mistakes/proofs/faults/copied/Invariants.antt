use Rattle.std.proofs.Common.{◌≡◌, take}
use Rattle.xm_csv_mistakes.proofs.faults.copied.Given as goal

abbrev pub invariant-loop-security : goal.invariant-loop-security
invariant-loop-security l = l.copies.items ≡ take l.security-index l.security-items
