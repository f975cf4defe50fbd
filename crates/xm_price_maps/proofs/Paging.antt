-- Slots in pages: what a slot has after another one is written, and after a page is made.
use Rattle.std.proofs.Common.{◌≡◌, ◌≢◌, ◌==◌, Bool, true, false, eq-eqb, ne_eqb, ℕ, ◌<◌, ◌≤◌, List, [], length, get_or, set, replicate, ◌∙◌, ap, sym, inl, inr, arith, length-set, get_or-set_same, get_or-set_other}
use Rattle.std.proofs.lemmas.Bool.{cases_eq, cases_lt}
use Rattle.std.proofs.lemmas.List.{get_or-replicate, get_or_past, length-replicate}
use Rattle.xm_price_maps.specs.Slots.{page_at, slot_at, SameShape}

-- what a test for none says
pub none_if : (n : ℕ) (test : Bool) → test ≡ (n == 0) → test ≡ true → n ≡ 0
none_if n test e h =
    elim (cases_eq n 0) [
      | inl none ↦ none
      | inr some ↦ absurd (let differs = rw (e, ne_eqb n 0 some) at h in cc)
    ]

pub some_if : (n : ℕ) (test : Bool) → test ≡ (n == 0) → test ≡ false → 0 < n
some_if n test e h =
    elim (cases_eq n 0) [
      | inl none ↦ absurd (let same = rw (e, eq-eqb n 0 none) at h in cc)
      | inr some ↦ omega arith
    ]

pub none_in_replicate : (T : Type 0) (n i : ℕ) → length (page_at (replicate {A = List T} n []) i) ≡ 0
none_in_replicate T n i =
    elim (cases_lt i n) [
      | inl inside ↦ ap (length {A = T}) (get_or-replicate n i [] [] inside)
      | inr outside ↦ ap (length {A = T}) (get_or_past (replicate n []) i [] (rw (length-replicate {A = List T} n []) outside))
    ]

module _ {T : Type 0} where
  -- a page that has a slot is one of the pages
  pub has_page : (pages : List (List T)) (i k : ℕ) → k < length (page_at pages i) → i < length pages
  has_page pages i k there =
      elim (cases_lt i (length pages)) [
        | inl inside ↦ inside
        | inr outside ↦ absurd (let none = ap (length {A = T}) (get_or_past pages i [] outside) in omega arith)
      ]

  pub none_in_absent : (none : T) (pages : List (List T)) (i k : ℕ) → length (page_at pages i) ≡ 0 → slot_at none pages i k ≡ none
  none_in_absent none pages i k absent = get_or_past (page_at pages i) k none (omega arith)

  pub none_of_none : (pages : List (List T)) (i : ℕ) → length pages ≡ 0 → length (page_at pages i) ≡ 0
  none_of_none pages i absent = ap (length {A = T}) (get_or_past pages i [] (omega arith))

  none_in_filled : (n k : ℕ) (none : T) → get_or (replicate {A = T} n none) k none ≡ none
  none_in_filled n k none =
      elim (cases_lt k n) [
        | inl inside ↦ get_or-replicate n k none none inside
        | inr outside ↦ get_or_past (replicate n none) k none (rw (length-replicate {A = T} n none) outside)
      ]

  pub page-here : (pages : List (List T)) (i : ℕ) (page : List T) → i < length pages → page_at (set pages i page) i ≡ page
  page-here pages i page inside = get_or-set_same pages i page [] inside

  pub page-other : (pages : List (List T)) (i : ℕ) (page : List T) (j : ℕ) → j ≢ i → page_at (set pages i page) j ≡ page_at pages j
  page-other pages i page j apart = get_or-set_other pages i j page [] apart

  -- one slot is written
  module _ (pages : List (List T)) (i k : ℕ) (x : T) (there : k < length (page_at pages i)) where
    pub slot-written : (none : T) → slot_at none (set pages i (set (page_at pages i) k x)) i k ≡ x
    slot-written none =
        let inside = has_page pages i k there in
        rw (page-here pages i (set (page_at pages i) k x) inside) (get_or-set_same (page_at pages i) k x none there)

    pub slot-kept : (none : T) (j l : ℕ) → (j ≡ i → l ≡ k → ⊥) → slot_at none (set pages i (set (page_at pages i) k x)) j l ≡ slot_at none pages j l
    slot-kept none j l differs =
        let inside = has_page pages i k there in
        elim (cases_eq j i) [
          | inl same ↦
              rw (same, page-here pages i (set (page_at pages i) k x) inside)
              (get_or-set_other (page_at pages i) k l x none (λ e. differs same e))
          | inr apart ↦ ap (λ (page : List T). get_or page l none) (page-other pages i _ j apart)
        ]

    pub shape-kept : SameShape pages (set pages i (set (page_at pages i) k x))
    shape-kept = record {
      len = length-set pages i _;
      pages = λ j.
          let inside = has_page pages i k there in
          elim (cases_eq j i) [
            | inl same ↦ rw (same, page-here pages i (set (page_at pages i) k x) inside) (length-set (page_at pages i) k x)
            | inr apart ↦ ap (length {A = T}) (page-other pages i _ j apart)
          ];
    }

  -- a page of empty slots is made in the place of an absent one
  module _ (pages : List (List T)) (i : ℕ) (page : List T) (n : ℕ) (none : T) (inside : i < length pages) (absent : length (page_at pages i) ≡ 0) (filled : page ≡ replicate n none) where
    pub slot-unchanged : (j l : ℕ) → slot_at none (set pages i page) j l ≡ slot_at none pages j l
    slot-unchanged j l =
        elim (cases_eq j i) [
          | inl same ↦
              rw (same, page-here pages i page inside, filled)
              (none_in_filled n l none ∙ sym (none_in_absent none pages i l absent))
          | inr apart ↦ ap (λ (p : List T). get_or p l none) (page-other pages i page j apart)
        ]

    pub len-here : length (page_at (set pages i page) i) ≡ n
    len-here = ap (length {A = T}) (page-here pages i page inside ∙ filled) ∙ length-replicate {A = T} n none

    pub len-other : (j : ℕ) → j ≢ i → length (page_at (set pages i page) j) ≡ length (page_at pages j)
    len-other j apart = ap (length {A = T}) (page-other pages i page j apart)

    pub not_less : (j : ℕ) → length (page_at pages j) ≤ length (page_at (set pages i page) j)
    not_less j =
        elim (cases_eq j i) [
          | inl same ↦ rw same (omega arith)
          | inr apart ↦ let e = len-other j apart in omega arith
        ]
