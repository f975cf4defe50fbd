-- The next marked place.
use Rattle.std.proofs.Common.{◌≡◌, ℕ, ◌+◌, ◌-◌, ◌*◌, ◌/◌, ◌%◌, ◌<◌, ◌≤◌, List, ◌∙◌, refl, inl, inr, arith}
use Rattle.std.specs.Int.{bit_at}
use Rattle.std.proofs.lemmas.Bool.{cases_lt}
use Rattle.std.proofs.lemmas.Nat.Bits.{bit_at-zero}
use Rattle.xm_price_maps.specs.Words.{word}
use Rattle.xm_price_maps.specs.Marks.{mark, IsBitAbove, IsBitBelow, IsLevel, IsSameLevel, IsClearAbove, IsClearBelow, IsAbove, IsBelow, AreMarksSound}
use Rattle.xm_price_maps.specs.declared.marks.TheConstants.{FOURTH_LEVEL, PLACES, ROOT, THIRD_LEVEL, UPPER}

-- the places that stand for the words of a level are a level
pub record HasUpper (start end p : ℕ) : Type 0 where
  pub up : IsLevel (UPPER + start / 64) (UPPER + end / 64)
  pub starts : start % 64 ≡ 0
  pub ends : end % 64 ≡ 0
  pub low : UPPER + start / 64 ≤ UPPER + p / 64
  pub high : UPPER + p / 64 < UPPER + end / 64

pub upper : (start end p : ℕ) → IsLevel start end → start ≤ p → p < end → p / 64 < ROOT → HasUpper start end p
upper start end p (inl h) low high below = record { up = inr (inl (omega (arith, h.0), omega (arith, h.1))); starts = omega (arith, h.0); ends = omega (arith, h.1); low = omega arith; high = omega (arith, h.1) }
upper start end p (inr (inl h)) low high below = record { up = inr (inr (inl (omega (arith, h.0), omega (arith, h.1)))); starts = omega (arith, h.0); ends = omega (arith, h.1); low = omega arith; high = omega (arith, h.1) }
upper start end p (inr (inr (inl h))) low high below = record { up = inr (inr (inr (omega (arith, h.0), omega (arith, h.1)))); starts = omega (arith, h.0); ends = omega (arith, h.1); low = omega arith; high = omega (arith, h.1) }
upper start end p (inr (inr (inr h))) low high below = absurd (omega (arith, h.0))

-- the places of one word are of one level
of_word : (start end p q : ℕ) → IsLevel start end → start ≤ p → p < end → q / 64 ≡ p / 64 → q < PLACES → (start ≤ q) × (q < end)
of_word start end p q (inl h) low high same small = (omega (arith, h.0), omega (arith, h.1))
of_word start end p q (inr (inl h)) low high same small = (omega (arith, h.0), omega (arith, h.1))
of_word start end p q (inr (inr (inl h))) low high same small = (omega (arith, h.0), omega (arith, h.1))
of_word start end p q (inr (inr (inr h))) low high same small = (omega (arith, h.0), omega (arith, h.1))

-- the places that stand for words are in levels that begin with the first of them
pub upper_starts : (p q : ℕ) → p < PLACES → IsSameLevel (UPPER + p / 64) q → p / 64 < ROOT → UPPER ≤ q
upper_starts p q small level below =
    elim (cases_lt p UPPER) [
      | inl first ↦ (level UPPER THIRD_LEVEL (inr (inl (refl, refl))) (omega arith) (omega arith)).0
      | inr later ↦ elim (cases_lt p THIRD_LEVEL) [
        | inl second ↦ let s = (level THIRD_LEVEL FOURTH_LEVEL (inr (inr (inl (refl, refl)))) (omega arith) (omega arith)).0 in omega arith
        | inr third ↦ let s = (level FOURTH_LEVEL PLACES (inr (inr (inr (refl, refl)))) (omega arith) (omega arith)).0 in omega arith
      ]
    ]

pub mark_of_word : (pages : List (List ℕ)) (w b : ℕ) → b < 64 → mark pages (w * 64 + b) ≡ bit_at (word pages w) b
mark_of_word pages w b within =
    let e : (w * 64 + b) / 64 ≡ w = omega arith in
    let r : (w * 64 + b) % 64 ≡ b = omega arith in
    rw (e, r)

mark_of_none : (pages : List (List ℕ)) (w j : ℕ) → j / 64 ≡ w → word pages w ≡ 0 → mark pages j ≡ 0
mark_of_none pages w j e clear = rw (e, clear) (bit_at-zero (j % 64))

module _ (pages : List (List ℕ)) (sound : AreMarksSound pages) where
  marked_below : (j : ℕ) → mark pages j ≡ 1 → j < PLACES
  marked_below j marked =
      elim (cases_lt j PLACES) [
        | inl below ↦ below
        | inr beyond ↦ absurd (let none = sound.top j beyond in omega arith)
      ]

  -- a word that a marked place stands for has a bit
  pub used : (q : ℕ) → UPPER ≤ q → mark pages q ≡ 1 → 0 < word pages (q - UPPER)
  used q high marked =
      let below = marked_below q marked in
      let e : UPPER + (q - UPPER) ≡ q = omega arith in
      (sound.tied (q - UPPER) (omega arith)).used (rw e marked)

  module _ (p : ℕ) (small : p < PLACES) where
    pub found_above : (b : ℕ) → IsBitAbove (word pages (p / 64)) (p % 64) b → IsAbove pages p (p / 64 * 64 + b)
    found_above b found =
        let within = found.within in
        let marked = mark_of_word pages (p / 64) b found.within ∙ found.marked in
        let above = found.above in
        record {
          above = omega arith;
          level = λ start end level low high. of_word start end p _ level low high (omega arith) (marked_below _ marked);
          marked = marked;
          between = λ j after before.
              let e : j / 64 ≡ p / 64 = omega arith in
              rw e (found.between (j % 64) (omega arith) (omega arith));
        }

    pub found_below : (b : ℕ) → IsBitBelow (word pages (p / 64)) (p % 64) b → IsBelow pages p (p / 64 * 64 + b)
    found_below b found =
        let below = found.below in
        let marked = mark_of_word pages (p / 64) b (omega arith) ∙ found.marked in
        record {
          below = omega arith;
          level = λ start end level low high. of_word start end p _ level low high (omega arith) (marked_below _ marked);
          marked = marked;
          between = λ j after before.
              let e : j / 64 ≡ p / 64 = omega arith in
              rw e (found.between (j % 64) (omega arith) (omega arith));
        }

    module _ (here : (i : ℕ) → p % 64 < i → bit_at (word pages (p / 64)) i ≡ 0) where
      clear_here : (j : ℕ) → j / 64 ≡ p / 64 → p < j → mark pages j ≡ 0
      clear_here j e above = rw e (here (j % 64) (omega arith))

      pub none_above_root : p / 64 ≡ ROOT → IsClearAbove pages p
      none_above_root root start end level low high j above before =
          elim (cases_lt j PLACES) [
            | inl inside ↦ clear_here j (omega arith) above
            | inr beyond ↦ sound.top j beyond
          ]

      module _ (below : p / 64 < ROOT) where
        pub none_above_up : IsClearAbove pages (UPPER + p / 64) → IsClearAbove pages p
        none_above_up none start end level low high j above before =
            elim (cases_lt (p / 64) (j / 64)) [
              | inl later ↦
                  let u = upper start end p level low high below in
                  let starts = u.starts in
                  let ends = u.ends in
                  let clear = none _ _ u.up u.low u.high (UPPER + j / 64) (omega arith) (omega arith) in
                  let top : j / 64 < ROOT = word_of_level start end p j level low high before below in
                  mark_of_none pages (j / 64) j refl ((sound.tied (j / 64) top).empty clear)
              | inr same ↦ clear_here j (omega arith) above
            ]
          where
            word_of_level : (start end p j : ℕ) → IsLevel start end → start ≤ p → p < end → j < end → p / 64 < ROOT → j / 64 < ROOT
            word_of_level start end p j (inl h) low high before below = omega (arith, h.1)
            word_of_level start end p j (inr (inl h)) low high before below = omega (arith, h.1)
            word_of_level start end p j (inr (inr (inl h))) low high before below = omega (arith, h.1)
            word_of_level start end p j (inr (inr (inr h))) low high before below = absurd (omega (arith, h.0))

        pub some_above_up : (q b : ℕ) → IsAbove pages (UPPER + p / 64) q → b < 64 → bit_at (word pages (q - UPPER)) b ≡ 1
            → ((i : ℕ) → i < b → bit_at (word pages (q - UPPER)) i ≡ 0) → IsAbove pages p ((q - UPPER) * 64 + b)
        some_above_up q b up within marked first =
            let above = up.above in
            let small_q = marked_below q up.marked in
            record {
              above = omega arith;
              level = λ start end level low high.
                  let u = upper start end p level low high below in
                  let starts = u.starts in
                  let ends = u.ends in
                  let s = up.level _ _ u.up u.low u.high in
                  (omega (arith, s.0), omega (arith, s.1));
              marked = mark_of_word pages (q - UPPER) b within ∙ marked;
              between = λ j after before.
                  elim (cases_lt (j / 64) (q - UPPER)) [
                    | inl earlier ↦ elim (cases_lt (p / 64) (j / 64)) [
                      | inl later ↦
                          let clear = up.between (UPPER + j / 64) (omega arith) (omega arith) in
                          mark_of_none pages (j / 64) j refl ((sound.tied (j / 64) (omega arith)).empty clear)
                      | inr same ↦ clear_here j (omega arith) after
                    ]
                    | inr last ↦
                        let e : j / 64 ≡ q - UPPER = omega arith in
                        rw e (first (j % 64) (omega arith))
                  ];
            }

    module _ (here : (i : ℕ) → i < p % 64 → bit_at (word pages (p / 64)) i ≡ 0) where
      clear_before : (j : ℕ) → j / 64 ≡ p / 64 → j < p → mark pages j ≡ 0
      clear_before j e below = rw e (here (j % 64) (omega arith))

      pub none_below_root : p / 64 ≡ ROOT → IsClearBelow pages p
      none_below_root root start end level low high j after below =
          elim (cases_lt (j / 64) (p / 64)) [
            | inl earlier ↦ absurd (starts_at_root start end level low high after earlier)
            | inr same ↦ clear_before j (omega arith) below
          ]
        where
          starts_at_root : (start end : ℕ) → IsLevel start end → start ≤ p → p < end → start ≤ j → j / 64 < p / 64 → ⊥
          starts_at_root start end (inl h) low high after earlier = omega (arith, h.1)
          starts_at_root start end (inr (inl h)) low high after earlier = omega (arith, h.1)
          starts_at_root start end (inr (inr (inl h))) low high after earlier = omega (arith, h.1)
          starts_at_root start end (inr (inr (inr h))) low high after earlier = omega (arith, h.0)

      module _ (below : p / 64 < ROOT) where
        pub none_below_up : IsClearBelow pages (UPPER + p / 64) → IsClearBelow pages p
        none_below_up none start end level low high j after before =
            elim (cases_lt (j / 64) (p / 64)) [
              | inl earlier ↦
                  let u = upper start end p level low high below in
                  let starts = u.starts in
                  let ends = u.ends in
                  let clear = none _ _ u.up u.low u.high (UPPER + j / 64) (omega arith) (omega arith) in
                  mark_of_none pages (j / 64) j refl ((sound.tied (j / 64) (omega arith)).empty clear)
              | inr same ↦ clear_before j (omega arith) before
            ]

        pub some_below_up : (q b : ℕ) → IsBelow pages (UPPER + p / 64) q → b < 64 → bit_at (word pages (q - UPPER)) b ≡ 1
            → ((i : ℕ) → b < i → bit_at (word pages (q - UPPER)) i ≡ 0) → IsBelow pages p ((q - UPPER) * 64 + b)
        some_below_up q b up within marked last =
            let under = up.below in
            let high_q = upper_starts p q small up.level below in
            record {
              below = omega arith;
              level = λ start end level low high.
                  let u = upper start end p level low high below in
                  let starts = u.starts in
                  let ends = u.ends in
                  let s = up.level _ _ u.up u.low u.high in
                  (omega (arith, s.0), omega (arith, s.1));
              marked = mark_of_word pages (q - UPPER) b within ∙ marked;
              between = λ j after before.
                  elim (cases_lt (q - UPPER) (j / 64)) [
                    | inl later ↦ elim (cases_lt (j / 64) (p / 64)) [
                      | inl earlier ↦
                          let clear = up.between (UPPER + j / 64) (omega arith) (omega arith) in
                          mark_of_none pages (j / 64) j refl ((sound.tied (j / 64) (omega arith)).empty clear)
                      | inr same ↦ clear_before j (omega arith) before
                    ]
                    | inr first ↦
                        let e : j / 64 ≡ q - UPPER = omega arith in
                        rw e (last (j % 64) (omega arith))
                  ];
            }
