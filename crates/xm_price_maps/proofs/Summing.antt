-- Sums of groups in their pages.
use Rattle.std.proofs.Common.{◌≡◌, ◌≢◌, ◌==◌, if◌then◌else◌, eq-eqb, ne_eqb, ℕ, ◌+◌, ◌-◌, ◌/◌, ◌%◌, ◌<◌, List, [], length, get_or, set, replicate, ◌∙◌, ap, sym, refl, inl, inr, arith, length-set, get_or-set_same, get_or-set_other}
use Rattle.std.proofs.lemmas.Bool.{cases_eq}
use Rattle.std.proofs.lemmas.List.{length-replicate}
use Rattle.xm_price_maps.specs.declared.sums.GroupWidth.{GroupWidth}
use Rattle.xm_price_maps.specs.declared.sums.GroupWidth.TheVariants.{Narrow, Middle, Wide}
use Rattle.xm_price_maps.specs.Slots.{page_at, slot_at, SameShape}
use Rattle.xm_price_maps.specs.Sums.{HasSumRoom, HasSumSlots, IsSumShaped, groups_of, places_of, group_sum, page_under, slot_under}
use Rattle.xm_price_maps.proofs.Paging.{has_page, none_in_absent, none_in_replicate, none_of_none, page-here, page-other, slot-unchanged, len-here, len-other, not_less}
use Rattle.xm_price_maps.specs.declared.marks.TheConstants.{PRICES}
use Rattle.xm_price_maps.specs.declared.sums.TheConstants.{PAGES, PAGE_MIDDLE, PAGE_NARROW, PAGE_SUMS, WIDE_GROUPS, WIDE_PLACES}

pub sum_is : (pages : List (List ℕ)) (width : GroupWidth) (group : ℕ) → group_sum pages width group ≡ slot_at 0 pages (page_under width group) (slot_under width group)
unfolding group_sum
sum_is pages width group = refl

-- where there are no pages, no slot has anything
pub slot_none : (pages : List (List ℕ)) → length pages ≡ 0 → (i k : ℕ) → slot_at 0 pages i k ≡ 0
slot_none pages none i k = none_in_absent 0 pages i k (none_of_none pages i none)

pub sum_none : (pages : List (List ℕ)) → length pages ≡ 0 → (width : GroupWidth) (group : ℕ) → group_sum pages width group ≡ 0
sum_none pages none width group = sum_is pages width group ∙ slot_none pages none (page_under width group) (slot_under width group)

-- where no slot has changed, no sum has
pub same_sum : (old new : List (List ℕ)) → ((i k : ℕ) → slot_at 0 new i k ≡ slot_at 0 old i k) → (width : GroupWidth) (group : ℕ) → group_sum new width group ≡ group_sum old width group
same_sum old new same width group = sum_is new width group ∙ same (page_under width group) (slot_under width group) ∙ sym (sum_is old width group)

pub shaped_none : (pages : List (List ℕ)) → length pages ≡ 0 → IsSumShaped pages
shaped_none pages none = record {
  count = λ some. absurd (omega arith);
  whole = λ i low some. absurd (let absent = none_of_none pages i none in omega arith);
  wide = λ some. absurd (omega arith);
}

pub same_shaped : (old new : List (List ℕ)) → SameShape old new → IsSumShaped old → IsSumShaped new
same_shaped old new shape shaped = record {
  count = λ some. shape.len ∙ shaped.count (rw shape.len at some);
  whole = λ i low some. shape.pages i ∙ shaped.whole i low (rw (shape.pages i) at some);
  wide = λ some. shape.pages WIDE_GROUPS ∙ shaped.wide (rw shape.len at some);
}

-- a page that is there has room for its places
pub has_room : (pages : List (List ℕ)) (place : ℕ) → 0 < length (page_at pages (place / WIDE_PLACES)) → HasSumRoom pages place
unfolding HasSumRoom
has_room pages place some = some

pub room_there : (pages : List (List ℕ)) (place : ℕ) → HasSumRoom pages place → 0 < length (page_at pages (place / WIDE_PLACES))
unfolding HasSumRoom
room_there pages place room = room

pub room_inside : (pages : List (List ℕ)) (place : ℕ) → HasSumRoom pages place → 0 < length pages
room_inside pages place room =
    let page = has_page pages (place / WIDE_PLACES) 0 (room_there pages place room) in
    omega arith

pub no_room : (pages : List (List ℕ)) (place : ℕ) → (HasSumRoom pages place → ⊥) → length (page_at pages (place / WIDE_PLACES)) ≡ 0
no_room pages place none =
    elim (cases_eq (length (page_at pages (place / WIDE_PLACES))) 0) [
      | inl absent ↦ absent
      | inr there ↦ absurd (none (has_room pages place (omega arith)))
    ]

pub room_kept : (old new : List (List ℕ)) → SameShape old new → (p : ℕ) → HasSumRoom old p → HasSumRoom new p
unfolding HasSumRoom
room_kept old new shape p room = rw (shape.pages (p / WIDE_PLACES)) room

-- a narrow group, and a middle one, is in the page of its wide one
narrow_page : (place : ℕ) → place / 16 / PAGE_NARROW ≡ place / WIDE_PLACES
narrow_page place = omega arith

middle_page : (place : ℕ) → place / 256 / PAGE_MIDDLE ≡ place / WIDE_PLACES
middle_page place = omega arith

-- with a place's page the slots of all its groups are there
pub has_slots : (pages : List (List ℕ)) (place : ℕ) → place < PRICES → IsSumShaped pages → HasSumRoom pages place → HasSumSlots pages place
has_slots pages place small shaped room Narrow = rw (narrow_page place, shaped.whole (place / WIDE_PLACES) (omega arith) (room_there pages place room)) (omega arith)
has_slots pages place small shaped room Middle = rw (middle_page place, shaped.whole (place / WIDE_PLACES) (omega arith) (room_there pages place room)) (omega arith)
has_slots pages place small shaped room Wide = rw (shaped.wide (room_inside pages place room)) (omega arith)

-- the slots of a place's groups are there
module _ (old : List (List ℕ)) (place : ℕ) (small : place < PRICES) (slots : HasSumSlots old place) where
  pub narrow_slot : place / 16 % PAGE_NARROW < length (page_at old (place / WIDE_PLACES))
  narrow_slot = rw (narrow_page place) at (slots Narrow)

  middle_slot : PAGE_NARROW + place / 256 % PAGE_MIDDLE < length (page_at old (place / WIDE_PLACES))
  middle_slot = rw (middle_page place) at (slots Middle)

  pub wide_slot : place / WIDE_PLACES < length (page_at old WIDE_GROUPS)
  wide_slot = slots Wide

  pub narrow_sum : get_or (page_at old (place / WIDE_PLACES)) (place / 16 % PAGE_NARROW) 0 ≡ group_sum old Narrow (place / 16)
  narrow_sum = sym (rw (narrow_page place) at (sum_is old Narrow (place / 16)))

  middle_sum : get_or (page_at old (place / WIDE_PLACES)) (PAGE_NARROW + place / 256 % PAGE_MIDDLE) 0 ≡ group_sum old Middle (place / 256)
  middle_sum = sym (rw (middle_page place) at (sum_is old Middle (place / 256)))

  pub wide_sum : get_or (page_at old WIDE_GROUPS) (place / WIDE_PLACES) 0 ≡ group_sum old Wide (place / WIDE_PLACES)
  wide_sum = sym (sum_is old Wide (place / WIDE_PLACES))

  pub page_inside : place / WIDE_PLACES < length old
  page_inside = has_page old (place / WIDE_PLACES) (place / 16 % PAGE_NARROW) narrow_slot

  pub last_inside : (page : List ℕ) → WIDE_GROUPS < length (set old (place / WIDE_PLACES) page)
  last_inside page = rw (length-set old (place / WIDE_PLACES) page) (has_page old WIDE_GROUPS (place / WIDE_PLACES) wide_slot)

  pub last_page : (page : List ℕ) → page_at (set old (place / WIDE_PLACES) page) WIDE_GROUPS ≡ page_at old WIDE_GROUPS
  last_page page = page-other old (place / WIDE_PLACES) page WIDE_GROUPS (λ e. omega arith)

  -- the narrow sum is put first, in the place's page
  module _ (less more : ℕ) (first : List ℕ) (is_first : first ≡ set (page_at old (place / WIDE_PLACES)) (place / 16 % PAGE_NARROW) ((get_or (page_at old (place / WIDE_PLACES)) (place / 16 % PAGE_NARROW) 0 - less) + more)) where
    first_len : length first ≡ length (page_at old (place / WIDE_PLACES))
    first_len = ap (length {A = ℕ}) is_first ∙ length-set (page_at old (place / WIDE_PLACES)) (place / 16 % PAGE_NARROW) _

    pub first_slot : PAGE_NARROW + place / 256 % PAGE_MIDDLE < length first
    first_slot = rw first_len middle_slot

    first_here : get_or first (place / 16 % PAGE_NARROW) 0 ≡ (get_or (page_at old (place / WIDE_PLACES)) (place / 16 % PAGE_NARROW) 0 - less) + more
    first_here = ap (λ (p : List ℕ). get_or p (place / 16 % PAGE_NARROW) 0) is_first ∙ get_or-set_same (page_at old (place / WIDE_PLACES)) (place / 16 % PAGE_NARROW) _ 0 narrow_slot

    first_other : (k : ℕ) → k ≢ place / 16 % PAGE_NARROW → get_or first k 0 ≡ get_or (page_at old (place / WIDE_PLACES)) k 0
    first_other k apart = ap (λ (p : List ℕ). get_or p k 0) is_first ∙ get_or-set_other (page_at old (place / WIDE_PLACES)) (place / 16 % PAGE_NARROW) k _ 0 apart

    first_middle : get_or first (PAGE_NARROW + place / 256 % PAGE_MIDDLE) 0 ≡ get_or (page_at old (place / WIDE_PLACES)) (PAGE_NARROW + place / 256 % PAGE_MIDDLE) 0
    first_middle = first_other (PAGE_NARROW + place / 256 % PAGE_MIDDLE) (λ e. omega arith)

    pub first_sum : get_or first (PAGE_NARROW + place / 256 % PAGE_MIDDLE) 0 ≡ group_sum old Middle (place / 256)
    first_sum = first_middle ∙ middle_sum

    -- then the middle one, and the wide one in the last page
    module _ (page last : List ℕ)
        (is_page : page ≡ set first (PAGE_NARROW + place / 256 % PAGE_MIDDLE) ((get_or first (PAGE_NARROW + place / 256 % PAGE_MIDDLE) 0 - less) + more))
        (is_last : last ≡ set (page_at old WIDE_GROUPS) (place / WIDE_PLACES) ((get_or (page_at old WIDE_GROUPS) (place / WIDE_PLACES) 0 - less) + more)) where
      page_here : get_or page (PAGE_NARROW + place / 256 % PAGE_MIDDLE) 0 ≡ (get_or (page_at old (place / WIDE_PLACES)) (PAGE_NARROW + place / 256 % PAGE_MIDDLE) 0 - less) + more
      page_here =
          ap (λ (p : List ℕ). get_or p (PAGE_NARROW + place / 256 % PAGE_MIDDLE) 0) is_page
          ∙ get_or-set_same first (PAGE_NARROW + place / 256 % PAGE_MIDDLE) _ 0 first_slot
          ∙ ap (λ (n : ℕ). (n - less) + more) first_middle

      page_other : (k : ℕ) → k ≢ PAGE_NARROW + place / 256 % PAGE_MIDDLE → get_or page k 0 ≡ get_or first k 0
      page_other k apart = ap (λ (p : List ℕ). get_or p k 0) is_page ∙ get_or-set_other first (PAGE_NARROW + place / 256 % PAGE_MIDDLE) k _ 0 apart

      pages_last : page_at (set (set old (place / WIDE_PLACES) page) WIDE_GROUPS last) WIDE_GROUPS ≡ last
      pages_last = page-here (set old (place / WIDE_PLACES) page) WIDE_GROUPS last (last_inside page)

      pages_here : page_at (set (set old (place / WIDE_PLACES) page) WIDE_GROUPS last) (place / WIDE_PLACES) ≡ page
      pages_here =
          page-other (set old (place / WIDE_PLACES) page) WIDE_GROUPS last (place / WIDE_PLACES) (λ e. omega arith)
          ∙ page-here old (place / WIDE_PLACES) page page_inside

      pages_other : (i : ℕ) → i ≢ place / WIDE_PLACES → i ≢ WIDE_GROUPS → page_at (set (set old (place / WIDE_PLACES) page) WIDE_GROUPS last) i ≡ page_at old i
      pages_other i apart low =
          page-other (set old (place / WIDE_PLACES) page) WIDE_GROUPS last i low
          ∙ page-other old (place / WIDE_PLACES) page i apart

      -- what is put into slot k of the place's page, and nothing else of the lower pages
      lower_put : (i k : ℕ) → i < WIDE_GROUPS → (i ≡ place / WIDE_PLACES → get_or page k 0 ≡ get_or (page_at old (place / WIDE_PLACES)) k 0) → slot_at 0 (set (set old (place / WIDE_PLACES) page) WIDE_GROUPS last) i k ≡ slot_at 0 old i k
      lower_put i k low kept =
          elim (cases_eq i (place / WIDE_PLACES)) [
            | inl same ↦ rw (same, pages_here) (kept same)
            | inr apart ↦ ap (λ (p : List ℕ). get_or p k 0) (pages_other i apart (λ e. omega arith))
          ]

      narrow_put : (group : ℕ) → group < 65536 → slot_at 0 (set (set old (place / WIDE_PLACES) page) WIDE_GROUPS last) (group / PAGE_NARROW) (group % PAGE_NARROW) ≡ (if group == place / 16 then (slot_at 0 old (group / PAGE_NARROW) (group % PAGE_NARROW) - less) + more else slot_at 0 old (group / PAGE_NARROW) (group % PAGE_NARROW))
      narrow_put group within =
          elim (cases_eq group (place / 16)) [
            | inl same ↦
                rw (eq-eqb group (place / 16) same, same, narrow_page place, pages_here)
                (page_other (place / 16 % PAGE_NARROW) (λ e. omega arith) ∙ first_here)
            | inr apart ↦
                rw (ne_eqb group (place / 16) apart)
                (lower_put (group / PAGE_NARROW) (group % PAGE_NARROW) (omega arith)
                (λ same. page_other (group % PAGE_NARROW) (λ e. omega arith) ∙ first_other (group % PAGE_NARROW) (λ e. apart (omega arith))))
          ]

      middle_put : (group : ℕ) → group < 4096 → slot_at 0 (set (set old (place / WIDE_PLACES) page) WIDE_GROUPS last) (group / PAGE_MIDDLE) (PAGE_NARROW + group % PAGE_MIDDLE) ≡ (if group == place / 256 then (slot_at 0 old (group / PAGE_MIDDLE) (PAGE_NARROW + group % PAGE_MIDDLE) - less) + more else slot_at 0 old (group / PAGE_MIDDLE) (PAGE_NARROW + group % PAGE_MIDDLE))
      middle_put group within =
          elim (cases_eq group (place / 256)) [
            | inl same ↦ rw (eq-eqb group (place / 256) same, same, middle_page place, pages_here) page_here
            | inr apart ↦
                rw (ne_eqb group (place / 256) apart)
                (lower_put (group / PAGE_MIDDLE) (PAGE_NARROW + group % PAGE_MIDDLE) (omega arith)
                (λ same. page_other (PAGE_NARROW + group % PAGE_MIDDLE) (λ e. apart (omega arith)) ∙ first_other (PAGE_NARROW + group % PAGE_MIDDLE) (λ e. omega arith)))
          ]

      last_put : (group : ℕ) → get_or last group 0 ≡ (if group == place / WIDE_PLACES then (get_or (page_at old WIDE_GROUPS) group 0 - less) + more else get_or (page_at old WIDE_GROUPS) group 0)
      last_put group =
          elim (cases_eq group (place / WIDE_PLACES)) [
            | inl same ↦ rw (eq-eqb group (place / WIDE_PLACES) same, same, is_last) (get_or-set_same (page_at old WIDE_GROUPS) (place / WIDE_PLACES) _ 0 wide_slot)
            | inr apart ↦ rw (ne_eqb group (place / WIDE_PLACES) apart, is_last) (get_or-set_other (page_at old WIDE_GROUPS) (place / WIDE_PLACES) group _ 0 apart)
          ]

      pub sums_put : (width : GroupWidth) (group : ℕ) → group < groups_of width → group_sum (set (set old (place / WIDE_PLACES) page) WIDE_GROUPS last) width group ≡ (if group == place / places_of width then (group_sum old width group - less) + more else group_sum old width group)
      unfolding group_sum
      sums_put Narrow group within = narrow_put group within
      sums_put Middle group within = middle_put group within
      sums_put Wide group within = rw pages_last (last_put group)

      pub shape_put : SameShape old (set (set old (place / WIDE_PLACES) page) WIDE_GROUPS last)
      shape_put = record {
        len = length-set (set old (place / WIDE_PLACES) page) WIDE_GROUPS last ∙ length-set old (place / WIDE_PLACES) page;
        pages = λ i.
            elim (cases_eq i WIDE_GROUPS) [
              | inl same ↦ rw (same, pages_last, is_last) (length-set (page_at old WIDE_GROUPS) (place / WIDE_PLACES) _)
              | inr low ↦ elim (cases_eq i (place / WIDE_PLACES)) [
                | inl same ↦ rw (same, pages_here, is_page) (length-set first (PAGE_NARROW + place / 256 % PAGE_MIDDLE) _ ∙ first_len)
                | inr apart ↦ ap (length {A = ℕ}) (pages_other i apart low)
              ]
            ];
      }

-- a page of sums of nothing is made for a place in `base`, in the place of an absent one
module _ (base : List (List ℕ)) (place : ℕ) (small : place < PRICES) (page : List ℕ) (filled : page ≡ replicate PAGE_SUMS 0) (count : length base ≡ PAGES) (absent : length (page_at base (place / WIDE_PLACES)) ≡ 0) where
  inside : place / WIDE_PLACES < length base
  inside = rw count (omega arith)

  pub made_slots : (i k : ℕ) → slot_at 0 (set base (place / WIDE_PLACES) page) i k ≡ slot_at 0 base i k
  made_slots i k = slot-unchanged base (place / WIDE_PLACES) page PAGE_SUMS 0 inside absent filled i k

  pub made_shaped : IsSumShaped base → IsSumShaped (set base (place / WIDE_PLACES) page)
  made_shaped shaped = record {
    count = λ some. length-set base (place / WIDE_PLACES) page ∙ count;
    whole = λ i low some.
        elim (cases_eq i (place / WIDE_PLACES)) [
          | inl same ↦ rw same (len-here base (place / WIDE_PLACES) page PAGE_SUMS 0 inside absent filled)
          | inr apart ↦
              let e = len-other base (place / WIDE_PLACES) page PAGE_SUMS 0 inside absent filled i apart in
              e ∙ shaped.whole i low (rw e at some)
        ];
    wide = λ some. len-other base (place / WIDE_PLACES) page PAGE_SUMS 0 inside absent filled WIDE_GROUPS (λ e. omega arith) ∙ shaped.wide (omega arith);
  }

  pub made_room : HasSumRoom (set base (place / WIDE_PLACES) page) place
  made_room = has_room (set base (place / WIDE_PLACES) page) place (rw (len-here base (place / WIDE_PLACES) page PAGE_SUMS 0 inside absent filled) (omega arith))

  pub made_kept : (p : ℕ) → HasSumRoom base p → HasSumRoom (set base (place / WIDE_PLACES) page) p
  made_kept p room =
      let there = room_there base p room in
      let more = not_less base (place / WIDE_PLACES) page PAGE_SUMS 0 inside absent filled (p / WIDE_PLACES) in
      has_room (set base (place / WIDE_PLACES) page) p (omega arith)

-- the pages of sums that have room for no place
module _ (base : List (List ℕ)) (wide : List ℕ) (absent : base ≡ replicate PAGES []) (filled : wide ≡ replicate WIDE_GROUPS 0) where
  count : length base ≡ PAGES
  count = ap (length {A = List ℕ}) absent ∙ length-replicate {A = List ℕ} PAGES []

  none_there : (i : ℕ) → length (page_at base i) ≡ 0
  none_there i = rw absent (none_in_replicate ℕ PAGES i)

  within : WIDE_GROUPS < length base
  within = rw count (omega arith)

  pub unused_absent : (i : ℕ) → i < WIDE_GROUPS → length (page_at (set base WIDE_GROUPS wide) i) ≡ 0
  unused_absent i low = len-other base WIDE_GROUPS wide WIDE_GROUPS 0 within (none_there WIDE_GROUPS) filled i (λ e. omega arith) ∙ none_there i

  pub unused_clear : (i k : ℕ) → slot_at 0 (set base WIDE_GROUPS wide) i k ≡ 0
  unused_clear i k =
      slot-unchanged base WIDE_GROUPS wide WIDE_GROUPS 0 within (none_there WIDE_GROUPS) filled i k
      ∙ none_in_absent 0 base i k (none_there i)

  here : length (page_at (set base WIDE_GROUPS wide) WIDE_GROUPS) ≡ WIDE_GROUPS
  here = len-here base WIDE_GROUPS wide WIDE_GROUPS 0 within (none_there WIDE_GROUPS) filled

  pub unused_shaped : IsSumShaped (set base WIDE_GROUPS wide)
  unused_shaped = record {
    count = λ some. length-set base WIDE_GROUPS wide ∙ count;
    whole = λ i low some. absurd (let none = unused_absent i low in omega arith);
    wide = λ some. here;
  }
