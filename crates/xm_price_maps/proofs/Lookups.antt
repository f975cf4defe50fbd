-- The values of a map in their pages.
use Rattle.std.proofs.Common.{◌≡◌, ◌==◌, if◌then◌else◌, eq-eqb, ne_eqb, ℕ, ◌/◌, ◌%◌, ◌<◌, List, [], Option, None, length, set, replicate, ◌∙◌, ap, sym, refl, inl, inr, arith, length-set}
use Rattle.std.proofs.lemmas.Bool.{cases_eq}
use Rattle.std.proofs.lemmas.List.{length-replicate}
use Rattle.xm_price_maps.specs.Slots.{page_at, slot_at, SameShape}
use Rattle.xm_price_maps.specs.Map.{value_at, HasValueRoom, IsMapShaped}
use Rattle.xm_price_maps.proofs.Paging.{has_page, none_in_absent, none_in_replicate, none_of_none, slot-written, slot-kept, shape-kept, slot-unchanged, len-here, len-other, not_less}
use Rattle.xm_price_maps.specs.declared.map.TheConstants.{PAGES, PAGE_SLOTS}
use Rattle.xm_price_maps.specs.declared.marks.TheConstants.{PRICES}

module _ {V : Type 0} where
  pub room_page : (pages : List (List (Option V))) (p : ℕ) → HasValueRoom pages p → p / PAGE_SLOTS < length pages
  unfolding HasValueRoom
  room_page pages p room = has_page pages (p / PAGE_SLOTS) (p % PAGE_SLOTS) room

  pub room_slot : (pages : List (List (Option V))) (p : ℕ) → HasValueRoom pages p → p % PAGE_SLOTS < length (page_at pages (p / PAGE_SLOTS))
  unfolding HasValueRoom
  room_slot pages p room = room

  pub lookup_is : (pages : List (List (Option V))) (p : ℕ) → value_at pages p ≡ slot_at None pages (p / PAGE_SLOTS) (p % PAGE_SLOTS)
  unfolding value_at
  lookup_is pages p = refl

  pub lookup_absent : (pages : List (List (Option V))) (p : ℕ) → length (page_at pages (p / PAGE_SLOTS)) ≡ 0 → value_at pages p ≡ None
  unfolding value_at
  lookup_absent pages p absent = none_in_absent None pages (p / PAGE_SLOTS) (p % PAGE_SLOTS) absent

  pub lookup_none : (pages : List (List (Option V))) → length pages ≡ 0 → (p : ℕ) → value_at pages p ≡ None
  lookup_none pages none p = lookup_absent pages p (none_of_none pages (p / PAGE_SLOTS) none)

  pub same_shaped : (old new : List (List (Option V))) → SameShape old new → IsMapShaped old → IsMapShaped new
  same_shaped old new shape shaped = record {
    count = λ some. shape.len ∙ shaped.count (rw shape.len at some);
    whole = λ i some. shape.pages i ∙ shaped.whole i (rw (shape.pages i) at some);
  }

  same_room : (old new : List (List (Option V))) → SameShape old new → (p : ℕ) → HasValueRoom old p → HasValueRoom new p
  unfolding HasValueRoom
  same_room old new shape p room = rw (shape.pages (p / PAGE_SLOTS)) room

  -- a page that is there has room for its prices
  pub has_room : (pages : List (List (Option V))) → IsMapShaped pages → (p : ℕ) → 0 < length (page_at pages (p / PAGE_SLOTS)) → HasValueRoom pages p
  unfolding HasValueRoom
  has_room pages shaped p some = rw (shaped.whole (p / PAGE_SLOTS) some) (omega arith)

  pub no_room : (pages : List (List (Option V))) → IsMapShaped pages → (p : ℕ) → (HasValueRoom pages p → ⊥) → length (page_at pages (p / PAGE_SLOTS)) ≡ 0
  no_room pages shaped p none =
      elim (cases_eq (length (page_at pages (p / PAGE_SLOTS))) 0) [
        | inl absent ↦ absent
        | inr there ↦ absurd (none (has_room pages shaped p (omega arith)))
      ]

  pub room_there : (pages : List (List (Option V))) (p : ℕ) → HasValueRoom pages p → 0 < length (page_at pages (p / PAGE_SLOTS))
  unfolding HasValueRoom
  room_there pages p room = omega arith

  -- a value is written under a price
  module _ (pages : List (List (Option V))) (price : ℕ) (page : List (Option V)) (x : Option V) (room : HasValueRoom pages price) (written : page ≡ set (page_at pages (price / PAGE_SLOTS)) (price % PAGE_SLOTS) x) where
    lookup_other : (p : ℕ) → (p ≡ price → ⊥) → value_at (set pages (price / PAGE_SLOTS) page) p ≡ value_at pages p
    unfolding value_at
    lookup_other p differs = rw written (slot-kept pages (price / PAGE_SLOTS) (price % PAGE_SLOTS) x (room_slot pages price room) None (p / PAGE_SLOTS) (p % PAGE_SLOTS) (λ i k. differs (omega arith)))

    lookup_same : value_at (set pages (price / PAGE_SLOTS) page) price ≡ x
    unfolding value_at
    lookup_same = rw written (slot-written pages (price / PAGE_SLOTS) (price % PAGE_SLOTS) x (room_slot pages price room) None)

    pub lookup_written : (p : ℕ) → value_at (set pages (price / PAGE_SLOTS) page) p ≡ (if p == price then x else value_at pages p)
    lookup_written p =
        elim (cases_eq p price) [
          | inl same ↦ rw (eq-eqb p price same, same) lookup_same
          | inr differs ↦ rw (ne_eqb p price differs) (lookup_other p differs)
        ]

    pub shape_written : SameShape pages (set pages (price / PAGE_SLOTS) page)
    shape_written = rw written (shape-kept pages (price / PAGE_SLOTS) (price % PAGE_SLOTS) x (room_slot pages price room))

    pub room_written : (p : ℕ) → HasValueRoom pages p → HasValueRoom (set pages (price / PAGE_SLOTS) page) p
    room_written = same_room pages (set pages (price / PAGE_SLOTS) page) shape_written

  -- a page of empty slots is made in the place of an absent one
  module _ (pages : List (List (Option V))) (price : ℕ) (page : List (Option V)) (filled : page ≡ replicate PAGE_SLOTS None) (inside : price / PAGE_SLOTS < length pages) (absent : length (page_at pages (price / PAGE_SLOTS)) ≡ 0) where
    pub lookup_unchanged : (p : ℕ) → value_at (set pages (price / PAGE_SLOTS) page) p ≡ value_at pages p
    unfolding value_at
    lookup_unchanged p = slot-unchanged pages (price / PAGE_SLOTS) page PAGE_SLOTS None inside absent filled (p / PAGE_SLOTS) (p % PAGE_SLOTS)

    pub room_made : HasValueRoom (set pages (price / PAGE_SLOTS) page) price
    unfolding HasValueRoom
    room_made = rw (len-here pages (price / PAGE_SLOTS) page PAGE_SLOTS None inside absent filled) (omega arith)

    pub room_kept : (p : ℕ) → HasValueRoom pages p → HasValueRoom (set pages (price / PAGE_SLOTS) page) p
    unfolding HasValueRoom
    room_kept p room =
        let more = not_less pages (price / PAGE_SLOTS) page PAGE_SLOTS None inside absent filled (p / PAGE_SLOTS) in
        omega arith

    pub shaped_made : length pages ≡ PAGES → ((i : ℕ) → 0 < length (page_at pages i) → length (page_at pages i) ≡ PAGE_SLOTS) → IsMapShaped (set pages (price / PAGE_SLOTS) page)
    shaped_made count whole = record {
      count = λ some. length-set pages (price / PAGE_SLOTS) page ∙ count;
      whole = λ i some.
          elim (cases_eq i (price / PAGE_SLOTS)) [
            | inl same ↦ rw same (len-here pages (price / PAGE_SLOTS) page PAGE_SLOTS None inside absent filled)
            | inr apart ↦
                let e = len-other pages (price / PAGE_SLOTS) page PAGE_SLOTS None inside absent filled i apart in
                e ∙ whole i (rw e at some)
          ];
    }

  pub first_inside : (base : List (List (Option V))) → base ≡ replicate PAGES [] → (price : ℕ) → price < PRICES → price / PAGE_SLOTS < length base
  first_inside base absent price small =
      let count = ap (length {A = List (Option V)}) absent ∙ length-replicate {A = List (Option V)} PAGES [] in
      rw count (omega arith)

  -- the first page of all is made
  module _ (old base : List (List (Option V))) (none : length old ≡ 0) (absent : base ≡ replicate PAGES []) (price : ℕ) (small : price < PRICES) (page : List (Option V)) (filled : page ≡ replicate PAGE_SLOTS None) where
    absent_here : (i : ℕ) → length (page_at base i) ≡ 0
    absent_here i = rw absent (none_in_replicate (Option V) PAGES i)

    count : length base ≡ PAGES
    count = ap (length {A = List (Option V)}) absent ∙ length-replicate {A = List (Option V)} PAGES []

    inside : price / PAGE_SLOTS < length base
    inside = rw count (omega arith)

    pub first_room : HasValueRoom (set base (price / PAGE_SLOTS) page) price
    first_room = room_made base price page filled inside (absent_here (price / PAGE_SLOTS))

    pub first_kept : (p : ℕ) → HasValueRoom old p → HasValueRoom (set base (price / PAGE_SLOTS) page) p
    first_kept p room = absurd (let there = room_page old p room in omega arith)

    pub first_same : (p : ℕ) → value_at (set base (price / PAGE_SLOTS) page) p ≡ value_at old p
    first_same p =
        lookup_unchanged base price page filled inside (absent_here (price / PAGE_SLOTS)) p ∙ lookup_absent base p (absent_here (p / PAGE_SLOTS)) ∙ sym (lookup_none old none p)

    pub first_shaped : IsMapShaped (set base (price / PAGE_SLOTS) page)
    first_shaped = shaped_made base price page filled inside (absent_here (price / PAGE_SLOTS)) count (λ i some. absurd (let none = absent_here i in omega arith))
