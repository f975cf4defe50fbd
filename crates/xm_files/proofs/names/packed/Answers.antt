use Rattle.std.proofs.Common.{◌≤◌, ◌<◌, ◌^◌, ◌*◌, ◌+◌, arith, rules}
use Rattle.xm_files.proofs.Hinted.{bytes_le}
use Rattle.xm_files.proofs.names.packed.Goals as goal

pub overflow_mul-number : goal.overflow_mul-number
overflow_mul-number c =
    let few : c.loop-byte.byte-index ≤ 11 = omega arith in
    let small : c.loop-byte.number < 256 ^ 11 = omega (arith, bytes_le c.loop-byte.byte-index 11 few, c.loop-byte.invariant.small) in
    let fits : c.loop-byte.number * 256 < 2 ^ 128 = omega arith in
    record { fits = fits }

pub overflow_add-number : goal.overflow_add-number
overflow_add-number c =
    let few : c.loop-byte.byte-index ≤ 11 = omega arith in
    let small : c.loop-byte.number < 256 ^ 11 = omega (arith, bytes_le c.loop-byte.byte-index 11 few, c.loop-byte.invariant.small) in
    let byte : c.from.result ≤ 255 = search rules in
    let fits : c.loop-byte.number * 256 + c.from.result < 2 ^ 128 = omega arith in
    record { fits = fits }
