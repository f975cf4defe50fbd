-- The marks of a text, block by block.
use Rattle.std.proofs.Common.{◌≡◌, ℕ, zero, suc, ◌+◌, ◌-◌, ◌%◌, ◌/◌, ◌^◌, ◌<◌, ◌≤◌, Bool, true, false, List, take, drop, get_or, length, refl, sym, ap, ◌∙◌, inl, inr, arith, w64, bit_and, ◌⊎◌, ◌==◌, cond, eqb, map, bit_or}
use Rattle.std.specs.Int.{bit_at, trailing_zeros}
use Rattle.std.proofs.lemmas.Bool.{cases_lt, eqb-true, or_cases}
use Rattle.std.proofs.lemmas.Nat.Bits.{bit_at-zero, bit_at-trailing_zeros, bit_at_and, bit_at_lowest, bit_at-suc}
use Rattle.std.proofs.lemmas.List.{get_or-drop, get_or-map, get_or-take, length-map}
use Rattle.std.proofs.lemmas.Simd.{bit_mask_l, get_or-chunk, mask_l-mod}
use lib.Lanes.{chunk, mask_l, top}
use Rattle.xm_files.specs.Plain.{IsMarked, IsNextMark, is_mark}

-- nothing behind a block is looked at yet
pub unlooked : (text : List ℕ) (block : ℕ) → block + 64 ≤ length text → IsMarked text (block + 64) block 0
unlooked text block within = record {
  ahead = omega arith;
  within = within;
  unread = λ k set. absurd (let none = bit_at-zero k in omega arith);
  marks = λ k from before mark. absurd (omega arith);
}

-- a byte of a block that is loaded from a place on
pub loaded : (text : List ℕ) (from k : ℕ) → k < 64 → get_or (chunk 0 64 (take (from + 64 - from) (drop from text))) k 0 ≡ get_or text (from + k) 0
loaded text from k below =
    let size : from + 64 - from ≡ 64 = omega arith in
    let place : 0 + k ≡ k = omega arith in
    rw size (get_or-chunk 0 64 (take 64 (drop from text)) k 0 below ∙ rw place (get_or-take 64 (drop from text) k 0 below ∙ get_or-drop from text k 0))

-- one more block
pub more-looked : (text : List ℕ) (at block bits : ℕ) → IsMarked text at block 0 → block + 64 + 64 ≤ length text
    → ((k : ℕ) → k < 64 → is_mark (get_or text (block + 64 + k) 0) ≡ true → bit_at bits k ≡ 1) → IsMarked text at (block + 64) bits
more-looked text at block bits none within next =
    let ahead = none.ahead in
    record {
      ahead = omega arith;
      within = within;
      unread = λ k set. omega arith;
      marks = λ k from before mark.
          elim (cases_lt k (block + 64)) [
            | inl old ↦ absurd (let was = none.marks k from old mark in let zero = bit_at-zero (k - block) in omega (arith, was.1))
            | inr new ↦
                let place : block + 64 + (k - (block + 64)) ≡ k = omega arith in
                (omega arith, next (k - (block + 64)) (omega arith) (ap (λ (n : ℕ). is_mark (get_or text n 0)) place ∙ mark))
          ];
    }

-- which marks there are
pub mark-is : (byte : ℕ) → is_mark byte ≡ true → (byte ≡ 10) ⊎ ((byte ≡ 13) ⊎ ((byte ≡ 34) ⊎ (byte ≡ 44)))
mark-is byte mark =
    elim (or_cases (byte == 10) _ mark) [
      | inl feed ↦ inl (eqb-true byte 10 feed)
      | inr more ↦
          elim (or_cases (byte == 13) _ more) [
            | inl return ↦ inr (inl (eqb-true byte 13 return))
            | inr others ↦
                elim (or_cases (byte == 34) (byte == 44) others) [
                  | inl quote ↦ inr (inr (inl (eqb-true byte 34 quote)))
                  | inr comma ↦ inr (inr (inr (eqb-true byte 44 comma)))
                ]
          ]
    ]

-- a lane of a comparison, and of the four of a block with the marks
abbrev pub hit : ℕ → ℕ → ℕ
hit a b = cond (eqb a b) 255 0

abbrev pub mark_lane : ℕ → ℕ
mark_lane byte = bit_or (bit_or (hit byte 10) (hit byte 44)) (bit_or (hit byte 13) (hit byte 34))

lane-top : (byte : ℕ) → is_mark byte ≡ true → top 7 (mark_lane byte) ≡ true
lane-top byte mark =
    elim (mark-is byte mark) [
      | inl feed ↦ ap (λ (n : ℕ). top 7 (mark_lane n)) feed
      | inr (inl return) ↦ ap (λ (n : ℕ). top 7 (mark_lane n)) return
      | inr (inr (inl quote)) ↦ ap (λ (n : ℕ). top 7 (mark_lane n)) quote
      | inr (inr (inr comma)) ↦ ap (λ (n : ℕ). top 7 (mark_lane n)) comma
    ]

-- the bits of a block's lanes
pub lane-bits : (block lanes : List ℕ) → length block ≡ 64 → lanes ≡ map mark_lane block → (k : ℕ) → k < 64 → is_mark (get_or block k 0) ≡ true → bit_at (mask_l (map (top 7) lanes) % 2 ^ 64) k ≡ 1
lane-bits block lanes long is k within mark =
    let count = length-map block mark_lane in
    let tops = map (top 7) (map mark_lane block) in
    let all = length-map (map mark_lane block) (top 7) in
    ap (λ (ls : List ℕ). bit_at (mask_l (map (top 7) ls) % 2 ^ 64) k) is
    ∙ ap (λ (n : ℕ). bit_at n k) (mask_l-mod tops 64 (omega (arith, count, all, long)))
    ∙ bit_mask_l tops k
    ∙ ap (λ (b : Bool). cond b 1 0) (get_or-map (top 7) (map mark_lane block) k 0 false (omega (arith, count, long)) ∙ ap (top 7) (get_or-map mark_lane block k 0 0 (omega (arith, long))) ∙ lane-top (get_or block k 0) mark)

unless-true : (b : Bool) → (b ≡ true → ⊥) → b ≡ false
unless-true true not = absurd (not refl)
unless-true false not = refl

-- the lowest bit is the next mark
pub next-mark : (text : List ℕ) (at block bits : ℕ) → IsMarked text at block bits → 0 < bits → bits < 2 ^ 64 → IsNextMark (record { text = text; at = at }) (block + trailing_zeros w64 bits)
next-mark text at block bits m some small =
    let lowest = bit_at-trailing_zeros w64 bits some small in
    let unread = m.unread (trailing_zeros w64 bits) lowest.1 in
    let below = lowest.0 in
    let within = m.within in
    record {
      ahead = unread;
      within = omega (arith, below, within);
      before = λ k from before.
          unless-true (is_mark (get_or text k 0))
          (λ mark.
          let is = m.marks k from (omega (arith, below, before)) mark in
          let clear = lowest.2 (k - block) (omega (arith, before, is.0)) in
          omega (arith, is.1, clear));
    }

-- one less than a number has none of its bits up to the lowest one, and all above it
lowered : (bit n : ℕ) → 0 < n → bit_at n bit ≡ 1 → ((i : ℕ) → i < bit → bit_at n i ≡ 0) → (bit_at (n - 1) bit ≡ 0) × ((i : ℕ) → bit < i → bit_at (n - 1) i ≡ bit_at n i)
lowered zero n some set lower =
    let odd : n % 2 ≡ 1 = sym (bit_at_lowest n) ∙ set in
    let half : (n - 1) / 2 ≡ n / 2 = omega (arith, odd) in
    (bit_at_lowest (n - 1) ∙ omega (arith, odd), above)
  where
    above : (i : ℕ) → 0 < i → bit_at (n - 1) i ≡ bit_at n i
    above zero before = absurd (omega arith)
    above (suc i) before =
        let odd : n % 2 ≡ 1 = sym (bit_at_lowest n) ∙ set in
        let half : (n - 1) / 2 ≡ n / 2 = omega (arith, odd) in
        bit_at-suc (n - 1) i ∙ ap (λ (m : ℕ). bit_at m i) half ∙ sym (bit_at-suc n i)
lowered (suc bit) n some set lower =
    let rest = lowered bit (n / 2) (omega (arith, even, some)) (sym (bit_at-suc n bit) ∙ set) (λ i below. sym (bit_at-suc n i) ∙ lower (suc i) (omega (arith, below))) in
    (bit_at-suc (n - 1) bit ∙ ap (λ (m : ℕ). bit_at m bit) half ∙ rest.0, above rest.1)
  where
    even : n % 2 ≡ 0
    even = sym (bit_at_lowest n) ∙ lower 0 (omega arith)

    half : (n - 1) / 2 ≡ n / 2 - 1
    half = omega (arith, even, some)

    above : ((i : ℕ) → bit < i → bit_at (n / 2 - 1) i ≡ bit_at (n / 2) i) → (i : ℕ) → suc bit < i → bit_at (n - 1) i ≡ bit_at n i
    above rest zero before = absurd (omega arith)
    above rest (suc i) before = bit_at-suc (n - 1) i ∙ ap (λ (m : ℕ). bit_at m i) half ∙ rest i (omega arith) ∙ sym (bit_at-suc n i)

-- what is left behind it
pub read-on : (text : List ℕ) (at block bits : ℕ) → IsMarked text at block bits → 0 < bits → bits < 2 ^ 64
    → IsMarked text (block + trailing_zeros w64 bits + 1) block (bit_and bits (bits - 1))
read-on text at block bits m some small =
    let bit = trailing_zeros w64 bits in
    let lowest = bit_at-trailing_zeros w64 bits some small in
    let without = lowered bit bits some lowest.1 lowest.2 in
    let unread = m.unread bit lowest.1 in
    let below = lowest.0 in
    record {
      ahead = omega (arith, below);
      within = m.within;
      unread = λ k set.
          let both = bit_at_and bits (bits - 1) k in
          elim (cases_lt bit k) [
            | inl above ↦ omega (arith, above)
            | inr low ↦
                elim (cases_lt k bit) [
                  | inl less ↦ let none = lowest.2 k less in absurd (omega (arith, both, none, set))
                  | inr same ↦ let is : k ≡ bit = omega arith in let none = ap (bit_at (bits - 1)) is ∙ without.0 in absurd (omega (arith, both, none, set))
                ]
          ];
      marks = λ k from before mark.
          let is = m.marks k (omega (arith, from, unread)) before mark in
          let both = bit_at_and bits (bits - 1) (k - block) in
          let other = without.1 (k - block) (omega (arith, is.0, from)) in
          (is.0, omega (arith, both, other, is.1));
    }
