-- Bits of words, and the tree that they form: bit UPPER + w says whether word w has a bit.
use Rattle.std.specs.Prelude.{◌≡◌, ◌≢◌, ◌⊎◌, ℕ, ◌+◌, ◌/◌, ◌%◌, ◌<◌, ◌≤◌, List}
use Rattle.std.specs.Int.{bit_at}
use Rattle.xm_price_maps.specs.declared.marks.Mark.{Mark}
use Rattle.xm_price_maps.specs.declared.marks.Mark.TheVariants.{Clear, Set}
use Rattle.xm_price_maps.specs.Slots.{SameShape}
use Rattle.xm_price_maps.specs.Words.{word, HasWord}
use Rattle.xm_price_maps.specs.declared.marks.TheConstants.{FOURTH_LEVEL, LOWER_WORDS, PLACES, ROOT, THIRD_LEVEL, UPPER}

-- the bit at a place
abbrev pub mark : List (List ℕ) → ℕ → ℕ
mark pages p = bit_at (word pages (p / 64)) (p % 64)

abbrev pub bit_of : Mark → ℕ
bit_of Clear = 0
bit_of Set = 1

-- bit b is the first above bit k of a word
pub record IsBitAbove (word k b : ℕ) : Type 0 where
  pub above : k < b
  pub within : b < 64
  pub marked : bit_at word b ≡ 1
  pub between : (i : ℕ) → k < i → i < b → bit_at word i ≡ 0

-- bit b is the last below bit k of a word
pub record IsBitBelow (word k b : ℕ) : Type 0 where
  pub below : b < k
  pub marked : bit_at word b ≡ 1
  pub between : (i : ℕ) → b < i → i < k → bit_at word i ≡ 0

-- where a level of the tree begins and ends
abbrev pub IsLevel : ℕ → ℕ → Type 0
IsLevel start end =
    ((start ≡ 0) × (end ≡ UPPER)) ⊎ (((start ≡ UPPER) × (end ≡ THIRD_LEVEL)) ⊎ (((start ≡ THIRD_LEVEL) × (end ≡ FOURTH_LEVEL)) ⊎ ((start ≡ FOURTH_LEVEL) × (end ≡ PLACES))))

-- no place of its level above place p is marked
abbrev pub IsClearAbove : List (List ℕ) → ℕ → Type 0
IsClearAbove pages p = (start end : ℕ) → IsLevel start end → start ≤ p → p < end → (j : ℕ) → p < j → j < end → mark pages j ≡ 0

-- no place of its level below place p is marked
abbrev pub IsClearBelow : List (List ℕ) → ℕ → Type 0
IsClearBelow pages p = (start end : ℕ) → IsLevel start end → start ≤ p → p < end → (j : ℕ) → start ≤ j → j < p → mark pages j ≡ 0

-- places p and q are of one level
abbrev pub IsSameLevel : ℕ → ℕ → Type 0
IsSameLevel p q = (start end : ℕ) → IsLevel start end → start ≤ p → p < end → (start ≤ q) × (q < end)

-- place q is the first above place p that is marked
pub record IsAbove (pages : List (List ℕ)) (p q : ℕ) : Type 0 where
  pub above : p < q
  pub level : IsSameLevel p q
  pub marked : mark pages q ≡ 1
  pub between : (j : ℕ) → p < j → j < q → mark pages j ≡ 0

-- place q is the last below place p that is marked
pub record IsBelow (pages : List (List ℕ)) (p q : ℕ) : Type 0 where
  pub below : q < p
  pub level : IsSameLevel p q
  pub marked : mark pages q ≡ 1
  pub between : (j : ℕ) → q < j → j < p → mark pages j ≡ 0

-- a bit says whether a word has a bit
pub record Agrees (v word : ℕ) : Type 0 where
  pub used : v ≡ 1 → 0 < word
  pub empty : v ≡ 0 → word ≡ 0

-- the bit for word w says whether it has a bit
abbrev pub IsTied : List (List ℕ) → ℕ → Type 0
IsTied pages w = Agrees (mark pages (UPPER + w)) (word pages w)

-- each word but the root is tied, and no place past the last one's is marked
pub record AreMarksSound (pages : List (List ℕ)) : Type 0 where
  pub tied : (w : ℕ) → w < ROOT → IsTied pages w
  pub top : (j : ℕ) → PLACES ≤ j → mark pages j ≡ 0

-- the tree is sound once place p has bit v, and the words that this may change are there
pub record IsMarkReady (pages : List (List ℕ)) (p v : ℕ) : Type 0 where
  pub there : HasWord pages (p / 64)
  pub upper : (w : ℕ) → LOWER_WORDS ≤ w → w ≤ ROOT → HasWord pages w
  pub tied : (w : ℕ) → w < ROOT → UPPER + w ≢ p → IsTied pages w
  pub top : (j : ℕ) → PLACES ≤ j → mark pages j ≡ 0
  pub stands : (w : ℕ) → UPPER + w ≡ p → Agrees v (word pages w)

-- place p has bit v, and no other bit has changed
pub record IsPut (old new : List (List ℕ)) (p v : ℕ) : Type 0 where
  pub marked : mark new p ≡ v
  pub same : (j : ℕ) → j ≢ p → mark new j ≡ mark old j
  pub others : (w : ℕ) → w ≢ p / 64 → word new w ≡ word old w
  pub empty : v ≡ 0 → word old (p / 64) ≡ 0 → word new (p / 64) ≡ 0
  pub shape : SameShape old new

-- place p has bit v, and no other place of its level has changed
pub record IsChanged (old new : List (List ℕ)) (p v : ℕ) : Type 0 where
  pub sound : AreMarksSound new
  pub marked : mark new p ≡ v
  pub same : (j : ℕ) → j / 64 ≡ p / 64 → j ≢ p → mark new j ≡ mark old j
  pub others : (w : ℕ) → w < (UPPER + p / 64) / 64 → w ≢ p / 64 → word new w ≡ word old w
  pub shape : SameShape old new
