-- The words of a set in their pages.
use Rattle.std.proofs.Common.{◌≡◌, ◌≢◌, ◌↔◌, ◌==◌, IsTrue, IsFalse, not, eq-eqb, ne_eqb, ℕ, ◌+◌, ◌/◌, ◌%◌, ◌<◌, ◌≤◌, List, [], length, set, replicate, ◌∙◌, ap, refl, inl, inr, arith, length-set}
use mathlib.Core.Bool.{beq}
use Rattle.std.specs.Int.{bit_at}
use Rattle.std.proofs.lemmas.Bool.{cases_eq}
use Rattle.std.proofs.lemmas.List.{length-replicate}
use Rattle.xm_price_maps.specs.Slots.{page_at, slot_at, SameShape}
use Rattle.xm_price_maps.specs.Words.{word, HasWord, IsShaped}
use Rattle.xm_price_maps.specs.Marks.{IsPut}
use Rattle.xm_price_maps.proofs.Paging.{has_page, none_in_absent, none_in_replicate, none_of_none, slot-written, slot-kept, shape-kept, slot-unchanged, len-here, len-other, not_less}
use Rattle.xm_price_maps.specs.declared.marks.TheConstants.{LOWER_WORDS, PRICES, ROOT}
use Rattle.xm_price_maps.specs.declared.set.TheConstants.{PAGE_PRICES}
use Rattle.xm_price_maps.specs.declared.words.TheConstants.{LAST_PAGE_WORDS, LOWER_PAGES, PAGES, PAGE_WORDS}

pub word_page : (pages : List (List ℕ)) (w : ℕ) → HasWord pages w → w / PAGE_WORDS < length pages
unfolding HasWord
word_page pages w there = has_page pages (w / PAGE_WORDS) (w % PAGE_WORDS) there

pub word_slot : (pages : List (List ℕ)) (w : ℕ) → HasWord pages w → w % PAGE_WORDS < length (page_at pages (w / PAGE_WORDS))
unfolding HasWord
word_slot pages w there = there

pub word_is : (pages : List (List ℕ)) (w : ℕ) → word pages w ≡ slot_at 0 pages (w / PAGE_WORDS) (w % PAGE_WORDS)
unfolding word
word_is pages w = refl

pub same_room : (old new : List (List ℕ)) → SameShape old new → (w : ℕ) → HasWord old w → HasWord new w
unfolding HasWord
same_room old new shape w there = rw (shape.pages (w / PAGE_WORDS)) there

pub same_shaped : (old new : List (List ℕ)) → SameShape old new → IsShaped old → IsShaped new
same_shaped old new shape shaped = record {
  count = λ some. shape.len ∙ shaped.count (rw shape.len at some);
  lower = λ i low some. shape.pages i ∙ shaped.lower i low (rw (shape.pages i) at some);
  upper = λ some. shape.pages LOWER_PAGES ∙ shaped.upper (rw shape.len at some);
  last = λ some. shape.pages (LOWER_PAGES + 1) ∙ shaped.last (rw shape.len at some);
}

-- where no page is there
pub word_none : (pages : List (List ℕ)) → length pages ≡ 0 → (w : ℕ) → word pages w ≡ 0
unfolding word
word_none pages none w = none_in_absent 0 pages (w / PAGE_WORDS) (w % PAGE_WORDS) (none_of_none pages (w / PAGE_WORDS) none)

pub shaped_none : (pages : List (List ℕ)) → length pages ≡ 0 → IsShaped pages
shaped_none pages none = record {
  count = λ some. absurd (omega arith);
  lower = λ i low some. absurd (let absent = none_of_none pages i none in omega arith);
  upper = λ some. absurd (omega arith);
  last = λ some. absurd (omega arith);
}

-- the upper words are there with any other
pub has_upper : (pages : List (List ℕ)) → IsShaped pages → 0 < length pages → (w : ℕ) → LOWER_WORDS ≤ w → w ≤ ROOT → HasWord pages w
unfolding HasWord
has_upper pages shaped some w high low =
    elim (cases_eq (w / PAGE_WORDS) LOWER_PAGES) [
      | inl upper ↦ rw (upper, shaped.upper some) (omega arith)
      | inr apart ↦
          let last : w / PAGE_WORDS ≡ (LOWER_PAGES + 1) = omega arith in
          rw (last, shaped.last some) (omega arith)
    ]

-- a page of words that is there is whole
pub has_word : (pages : List (List ℕ)) → IsShaped pages → (w : ℕ) → w < LOWER_WORDS → 0 < length (page_at pages (w / PAGE_WORDS)) → HasWord pages w
unfolding HasWord
has_word pages shaped w small some = rw (shaped.lower (w / PAGE_WORDS) (omega arith) some) (omega arith)

module _ (pages : List (List ℕ)) (w x : ℕ) (there : HasWord pages w) where
  pub word-written : word (set pages (w / PAGE_WORDS) (set (page_at pages (w / PAGE_WORDS)) (w % PAGE_WORDS) x)) w ≡ x
  unfolding word
  word-written = slot-written pages (w / PAGE_WORDS) (w % PAGE_WORDS) x (word_slot pages w there) 0

  pub word-kept : (u : ℕ) → u ≢ w → word (set pages (w / PAGE_WORDS) (set (page_at pages (w / PAGE_WORDS)) (w % PAGE_WORDS) x)) u ≡ word pages u
  unfolding word
  word-kept u differs = slot-kept pages (w / PAGE_WORDS) (w % PAGE_WORDS) x (word_slot pages w there) 0 (u / PAGE_WORDS) (u % PAGE_WORDS) (λ i k. differs (omega arith))

  pub shape-written : SameShape pages (set pages (w / PAGE_WORDS) (set (page_at pages (w / PAGE_WORDS)) (w % PAGE_WORDS) x))
  shape-written = shape-kept pages (w / PAGE_WORDS) (w % PAGE_WORDS) x (word_slot pages w there)

pub put : (pages : List (List ℕ)) (p v x : ℕ) (page : List ℕ) → HasWord pages (p / 64) → page ≡ set (page_at pages (p / 64 / PAGE_WORDS)) (p / 64 % PAGE_WORDS) x → bit_at x (p % 64) ≡ v
    → ((i : ℕ) → i < 64 → i ≢ p % 64 → bit_at x i ≡ bit_at (word pages (p / 64)) i) → (v ≡ 0 → word pages (p / 64) ≡ 0 → x ≡ 0)
    → IsPut pages (set pages (p / 64 / PAGE_WORDS) page) p v
put pages p v x page there is marked same empty =
    let here = word-written pages (p / 64) x there in
    rw is
    (record {
      marked = ap (λ (n : ℕ). bit_at n (p % 64)) here ∙ marked;
      same = λ j differs.
          elim (cases_eq (j / 64) (p / 64)) [
            | inl one ↦ rw (one, here) (same (j % 64) (omega arith) (λ e. differs (omega arith)))
            | inr apart ↦ ap (λ (n : ℕ). bit_at n (j % 64)) (word-kept pages (p / 64) x there (j / 64) apart)
          ];
      others = λ w differs. word-kept pages (p / 64) x there w differs;
      empty = λ clear none. here ∙ empty clear none;
      shape = shape-written pages (p / 64) x there;
    })

-- what the test of two words for bits says
pub turned : (a b : ℕ) → IsTrue (not (beq (a == 0) (b == 0))) → 0 < b → a ≡ 0
turned a b h some =
    elim (cases_eq a 0) [
      | inl none ↦ none
      | inr used ↦ absurd (let same = rw (ne_eqb a 0 used, ne_eqb b 0 (λ e. omega arith)) at h in cc)
    ]

pub stayed : (a b : ℕ) → IsFalse (not (beq (a == 0) (b == 0))) → (a ≡ 0) ↔ (b ≡ 0)
stayed a b h =
    elim (cases_eq a 0) [
      | inl none ↦ elim (cases_eq b 0) [
        | inl clear ↦ (λ e. clear, λ e. none)
        | inr used ↦ absurd (let differs = rw (eq-eqb a 0 none, ne_eqb b 0 used) at h in cc)
      ]
      | inr some ↦ elim (cases_eq b 0) [
        | inl clear ↦ absurd (let differs = rw (ne_eqb a 0 some, eq-eqb b 0 clear) at h in cc)
        | inr used ↦ (λ e. absurd (some e), λ e. absurd (used e))
      ]
    ]

-- a page of clear words is made for a price, in the place of an absent one
module _ (pages : List (List ℕ)) (n : ℕ) (small : n < PRICES) (page : List ℕ) (filled : page ≡ replicate PAGE_WORDS 0) (inside : n / PAGE_PRICES < length pages) (absent : length (page_at pages (n / PAGE_PRICES)) ≡ 0) where
  pub word-unchanged : (w : ℕ) → word (set pages (n / PAGE_PRICES) page) w ≡ word pages w
  unfolding word
  word-unchanged w = slot-unchanged pages (n / PAGE_PRICES) page PAGE_WORDS 0 inside absent filled (w / PAGE_WORDS) (w % PAGE_WORDS)

  pub room-made : HasWord (set pages (n / PAGE_PRICES) page) (n / 64)
  unfolding HasWord
  room-made =
      let e : n / 64 / PAGE_WORDS ≡ n / PAGE_PRICES = omega arith in
      rw (e, len-here pages (n / PAGE_PRICES) page PAGE_WORDS 0 inside absent filled) (omega arith)

  pub room-kept : (w : ℕ) → HasWord pages w → HasWord (set pages (n / PAGE_PRICES) page) w
  unfolding HasWord
  room-kept w there =
      let more = not_less pages (n / PAGE_PRICES) page PAGE_WORDS 0 inside absent filled (w / PAGE_WORDS) in
      omega arith

  pub shaped_made : length pages ≡ PAGES → IsShaped pages → IsShaped (set pages (n / PAGE_PRICES) page)
  shaped_made count shaped = record {
    count = λ some. length-set pages (n / PAGE_PRICES) page ∙ count;
    lower = λ i low some.
        elim (cases_eq i (n / PAGE_PRICES)) [
          | inl same ↦ rw same (len-here pages (n / PAGE_PRICES) page PAGE_WORDS 0 inside absent filled)
          | inr apart ↦
              let e = len-other pages (n / PAGE_PRICES) page PAGE_WORDS 0 inside absent filled i apart in
              e ∙ shaped.lower i low (rw e at some)
        ];
    upper = λ some. len-other pages (n / PAGE_PRICES) page PAGE_WORDS 0 inside absent filled LOWER_PAGES (λ e. omega arith) ∙ shaped.upper (omega arith);
    last = λ some. len-other pages (n / PAGE_PRICES) page PAGE_WORDS 0 inside absent filled (LOWER_PAGES + 1) (λ e. omega arith) ∙ shaped.last (omega arith);
  }

-- the pages of a set that has room for no price
module _ (base : List (List ℕ)) (upper last : List ℕ) (absent : base ≡ replicate PAGES []) (whole : upper ≡ replicate PAGE_WORDS 0) (few : last ≡ replicate LAST_PAGE_WORDS 0) where
  count : length base ≡ PAGES
  count = ap (length {A = List ℕ}) absent ∙ length-replicate {A = List ℕ} PAGES []

  none_there : (i : ℕ) → length (page_at base i) ≡ 0
  none_there i = rw absent (none_in_replicate ℕ PAGES i)

  last_absent : length (page_at (set base LOWER_PAGES upper) (LOWER_PAGES + 1)) ≡ 0
  last_absent = len-other base LOWER_PAGES upper PAGE_WORDS 0 (rw count (omega arith)) (none_there LOWER_PAGES) whole (LOWER_PAGES + 1) (λ e. omega arith) ∙ none_there (LOWER_PAGES + 1)

  last_inside : (LOWER_PAGES + 1) < length (set base LOWER_PAGES upper)
  last_inside = rw (length-set base LOWER_PAGES upper, count) (omega arith)

  lens : (i : ℕ) → i ≢ LOWER_PAGES → i ≢ (LOWER_PAGES + 1) → length (page_at (set (set base LOWER_PAGES upper) (LOWER_PAGES + 1) last) i) ≡ 0
  lens i below apart =
      len-other (set base LOWER_PAGES upper) (LOWER_PAGES + 1) last LAST_PAGE_WORDS 0 last_inside last_absent few i apart
      ∙ len-other base LOWER_PAGES upper PAGE_WORDS 0 (rw count (omega arith)) (none_there LOWER_PAGES) whole i below
      ∙ none_there i

  pub unused_absent : (i : ℕ) → i < LOWER_PAGES → length (page_at (set (set base LOWER_PAGES upper) (LOWER_PAGES + 1) last) i) ≡ 0
  unused_absent i low = lens i (λ e. omega arith) (λ e. omega arith)

  pub unused_clear : (w : ℕ) → word (set (set base LOWER_PAGES upper) (LOWER_PAGES + 1) last) w ≡ 0
  unfolding word
  unused_clear w =
      slot-unchanged (set base LOWER_PAGES upper) (LOWER_PAGES + 1) last LAST_PAGE_WORDS 0 last_inside last_absent few (w / PAGE_WORDS) (w % PAGE_WORDS)
      ∙ slot-unchanged base LOWER_PAGES upper PAGE_WORDS 0 (rw count (omega arith)) (none_there LOWER_PAGES) whole (w / PAGE_WORDS) (w % PAGE_WORDS)
      ∙ none_in_absent 0 base (w / PAGE_WORDS) (w % PAGE_WORDS) (none_there (w / PAGE_WORDS))

  pub unused_shaped : IsShaped (set (set base LOWER_PAGES upper) (LOWER_PAGES + 1) last)
  unused_shaped = record {
    count = λ some. length-set (set base LOWER_PAGES upper) (LOWER_PAGES + 1) last ∙ length-set base LOWER_PAGES upper ∙ count;
    lower = λ i low some. absurd (let none = unused_absent i low in omega arith);
    upper = λ some.
        len-other (set base LOWER_PAGES upper) (LOWER_PAGES + 1) last LAST_PAGE_WORDS 0 last_inside last_absent few LOWER_PAGES (λ e. omega arith)
        ∙ len-here base LOWER_PAGES upper PAGE_WORDS 0 (rw count (omega arith)) (none_there LOWER_PAGES) whole;
    last = λ some. len-here (set base LOWER_PAGES upper) (LOWER_PAGES + 1) last LAST_PAGE_WORDS 0 last_inside last_absent few;
  }
