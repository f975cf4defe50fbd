-- The bits of one word.
use Rattle.std.proofs.Common.{◌≡◌, ℕ, ◌+◌, ◌-◌, ◌*◌, ◌/◌, ◌%◌, ◌^◌, ◌<◌, ◌≤◌, ◌∙◌, ap, sym, inl, inr, arith, w64, bit_and}
use Rattle.std.specs.Int.{bit_at, trailing_zeros}
use Rattle.std.proofs.lemmas.Bool.{cases_lt}
use Rattle.std.proofs.lemmas.Nat.{shr-shr, shr_le, one_shl, pow-add, pow_pos, le-div, div_below}
use Rattle.std.proofs.lemmas.Nat.Bits.{bit_at-zero, bit_at-trailing_zeros, bit_at_and, bit_at_ones, bit_at_ones_above, bit_at_above, bit_at-lt}
use Rattle.xm_price_maps.specs.Marks.{IsBitAbove, IsBitBelow}

-- what is left of a word above bit k
bit_at_rest : (word k i : ℕ) → bit_at (word / 2 ^ k / 2) i ≡ bit_at word (k + 1 + i)
bit_at_rest word k i =
    let e : k + (1 + i) ≡ k + 1 + i = omega arith in
    ap (λ (x : ℕ). x % 2) (shr-shr (word / 2 ^ k) 1 i ∙ shr-shr word k (1 + i) ∙ ap (λ (n : ℕ). word / 2 ^ n) e)

pub none_above : (word k : ℕ) → word / 2 ^ k / 2 ≡ 0 → (i : ℕ) → k < i → bit_at word i ≡ 0
none_above word k clear i above =
    let e : k + 1 + (i - (k + 1)) ≡ i = omega arith in
    ap (λ (n : ℕ). bit_at word n) (sym e) ∙ sym (bit_at_rest word k (i - (k + 1))) ∙ ap (λ (x : ℕ). bit_at x (i - (k + 1))) clear ∙ bit_at-zero (i - (k + 1))

pub marked_within : (word b : ℕ) → word < 2 ^ 64 → bit_at word b ≡ 1 → b < 64
marked_within word b small marked =
    elim (cases_lt b 64) [
      | inl within ↦ within
      | inr beyond ↦ absurd (let none = bit_at_above word 64 b small beyond in omega arith)
    ]

pub some_above : (word k : ℕ) → word < 2 ^ 64 → 0 < word / 2 ^ k / 2 → IsBitAbove word k (k + 1 + trailing_zeros w64 (word / 2 ^ k / 2))
some_above word k small some =
    let rest : ℕ = word / 2 ^ k / 2 in
    let less = shr_le word k in
    let lowest = bit_at-trailing_zeros w64 rest some (omega arith) in
    let marked = sym (bit_at_rest word k (trailing_zeros w64 rest)) ∙ lowest.1 in
    record {
      above = omega arith;
      within = marked_within word _ small marked;
      marked = marked;
      between = λ i above before.
          let e : k + 1 + (i - (k + 1)) ≡ i = omega arith in
          ap (λ (n : ℕ). bit_at word n) (sym e) ∙ sym (bit_at_rest word k (i - (k + 1))) ∙ lowest.2 (i - (k + 1)) (omega arith);
    }

-- the highest bit of a number
pub highest : (n r : ℕ) → 2 ^ r ≤ n → n < 2 * 2 ^ r → (bit_at n r ≡ 1) × ((i : ℕ) → r < i → bit_at n i ≡ 0)
highest n r low high =
    let some = le-div 1 n (2 ^ r) (pow_pos r) (omega arith) in
    let one = div_below n (2 ^ r) 2 (pow_pos r) high in
    let next = pow-add 2 r 1 in
    (omega arith, λ i above. bit_at_above n (r + 1) i (omega arith) (omega arith))

-- what is left of a word below bit k
bit_at_low : (word k : ℕ) → k < 64 → (i : ℕ) → i < k → bit_at (bit_and word (1 * 2 ^ k % 2 ^ 64 - 1)) i ≡ bit_at word i
bit_at_low word k within i below =
    let both = bit_at_and word (2 ^ k - 1) i in
    let ones = bit_at_ones k i below in
    let bit = bit_at-lt word i in
    rw (one_shl k 64 within) (omega arith)

pub none_below : (word k : ℕ) → k < 64 → bit_and word (1 * 2 ^ k % 2 ^ 64 - 1) ≡ 0 → (i : ℕ) → i < k → bit_at word i ≡ 0
none_below word k within clear i below = sym (bit_at_low word k within i below) ∙ ap (λ (x : ℕ). bit_at x i) clear ∙ bit_at-zero i

low_within : (word k : ℕ) → k < 64 → (r : ℕ) → bit_at (bit_and word (1 * 2 ^ k % 2 ^ 64 - 1)) r ≡ 1 → r < k
low_within word k within r marked =
    elim (cases_lt r k) [
      | inl below ↦ below
      | inr beyond ↦ absurd (
          let both = bit_at_and word (2 ^ k - 1) r in
          let none = bit_at_ones_above k r beyond in
          let there = rw (one_shl k 64 within) at marked in
          omega arith)
    ]

pub some_below : (word k r : ℕ) → k < 64 → 2 ^ r ≤ bit_and word (1 * 2 ^ k % 2 ^ 64 - 1) → bit_and word (1 * 2 ^ k % 2 ^ 64 - 1) < 2 * 2 ^ r → IsBitBelow word k r
some_below word k r within low high =
    let top = highest _ r low high in
    let below = low_within word k within r top.0 in
    record {
      below = below;
      marked = sym (bit_at_low word k within r below) ∙ top.0;
      between = λ i above before. sym (bit_at_low word k within i before) ∙ top.1 i above;
    }
