-- Numbers that are in range.
use Rattle.std.proofs.Common.{◌≡◌, ℕ, ◌<◌, ◌≤◌, true, arith}
use Rattle.std.proofs.lemmas.Bool.Decides.{nat_tests}
use Rattle.xm_rules.specs.Commands.{is_in_range}
use Rattle.xm_rules.specs.declared.commands.TheConstants.{MAX_NUMBER}

pub range_low : (n : ℕ) → is_in_range n ≡ true → 0 < n
range_low n e = grind (arith, nat_tests)

pub range_high : (n : ℕ) → is_in_range n ≡ true → n ≤ MAX_NUMBER
range_high n e = grind (arith, nat_tests)

pub range_within : (n : ℕ) → 0 < n → n ≤ MAX_NUMBER → is_in_range n ≡ true
range_within n low high = grind (arith, nat_tests)
