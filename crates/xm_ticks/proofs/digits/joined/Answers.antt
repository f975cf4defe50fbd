use Rattle.std.proofs.Common.{◌≡◌, ◌*◌, ◌/◌, ◌%◌, ◌^◌, ◌-◌, ◌<◌, ◌∙◌, ap, arith, bit_and, bit_or}
use Rattle.std.proofs.lemmas.Nat.{and_mask, or_shifted, shr_le}
use Rattle.xm_ticks.proofs.Words as words
use Rattle.xm_ticks.proofs.digits.joined.Goals as goal

pub returns : goal.returns
returns c =
    let first = bit_and (c.from.result * 2 ^ (8 * (4 - c.args.front)) % 2 ^ 64) 4294967295 in
    let last = c.from-last.result in
    let masked = and_mask (c.from.result * 2 ^ (8 * (4 - c.args.front)) % 2 ^ 64) 32 in
    let low : first < 2 ^ 32 = omega (arith, masked) in
    let high : last < 2 ^ 32 = omega (arith, c.from-last.ensures, shr_le c.four_at-2.result (8 * (4 - c.args.back)), c.four_at-2.type_inv) in
    let shifted : last * 2 ^ 32 % 2 ^ 64 ≡ last * 2 ^ 32 = omega (arith, high) in
    let word = ap (λ x. bit_or x first) shifted ∙ or_shifted last 32 first low in
    let before = masked ∙ ap (λ x. x * 2 ^ (8 * (4 - c.args.front)) % 2 ^ 64 % 2 ^ 32) (c.from.ensures ∙ c.four_at.ensures) in
    let behind = c.from-last.ensures ∙ ap (λ x. x / 2 ^ (8 * (4 - c.args.back))) c.four_at-2.ensures in
    words.joined c.eight_digits.result c.args.text.now c.type_inv.text c.args.front c.args.back first last _ c.requires.long c.requires.front c.requires.some c.requires.back before behind word c.eight_digits.ensures.digits c.eight_digits.ensures.number
