use Rattle.std.proofs.Common.{◌≤◌, arith}
use Rattle.xm_ticks.proofs.Powers.{ten_le}
use Rattle.xm_ticks.proofs.reading.read_digits.Goals as goal

pub with_digit-requires : goal.with_digit-requires
with_digit-requires c =
    let few : c.loop-byte.byte-index ≤ 15 = omega arith in
    omega (arith, ten_le c.loop-byte.byte-index 15 few, c.loop-byte.invariant.small)

pub returns-clause-small : goal.returns-clause-small
returns-clause-small c =
    let few : c.loop-byte.byte-index ≤ 16 = omega arith in
    omega (arith, ten_le c.loop-byte.byte-index 16 few, c.loop-byte.invariant.small)
