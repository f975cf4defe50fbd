-- Sums of numbers under places by groups of three widths, in pages that are made as they are needed: each page has the
-- narrow groups of one wide group, and after them its middle ones. The wide groups fill the last page, which is made with
-- the first page of all.
use Rattle.std.specs.Prelude.{◌≡◌, ℕ, ◌+◌, ◌/◌, ◌%◌, ◌<◌, List, length}
use Rattle.xm_price_maps.specs.declared.sums.GroupWidth.{GroupWidth}
use Rattle.xm_price_maps.specs.declared.sums.GroupWidth.TheVariants.{Narrow, Middle, Wide}
use Rattle.xm_price_maps.specs.Slots.{page_at, slot_at}
use Rattle.xm_price_maps.specs.declared.sums.TheConstants.{PAGES, PAGE_MIDDLE, PAGE_NARROW, PAGE_SUMS, WIDE_GROUPS, WIDE_PLACES}

-- how many places a group has
abbrev pub places_of : GroupWidth → ℕ
places_of Narrow = 16
places_of Middle = 256
places_of Wide = 4096

-- how many groups there are
abbrev pub groups_of : GroupWidth → ℕ
groups_of Narrow = 65536
groups_of Middle = 4096
groups_of Wide = 256

-- the page that has the sum of a group
abbrev pub page_under : GroupWidth → ℕ → ℕ
page_under Narrow group = group / PAGE_NARROW
page_under Middle group = group / PAGE_MIDDLE
page_under Wide group = WIDE_GROUPS

-- the slot of that page that has it
abbrev pub slot_under : GroupWidth → ℕ → ℕ
slot_under Narrow group = group % PAGE_NARROW
slot_under Middle group = PAGE_NARROW + group % PAGE_MIDDLE
slot_under Wide group = group

-- the sum of a group
unfoldable pub group_sum : List (List ℕ) → GroupWidth → ℕ → ℕ
group_sum pages width group = slot_at 0 pages (page_under width group) (slot_under width group)

-- the sums of a place's groups can change with no memory
unfoldable pub HasSumRoom : List (List ℕ) → ℕ → Type 0
HasSumRoom pages place = 0 < length (page_at pages (place / WIDE_PLACES))

-- the slots of a place's groups are there
abbrev pub HasSumSlots : List (List ℕ) → ℕ → Type 0
HasSumSlots pages place = (width : GroupWidth) → slot_under width (place / places_of width) < length (page_at pages (page_under width (place / places_of width)))

-- there are no pages, or as many as the groups take, which are absent or whole; the one of the wide groups is whole
pub record IsSumShaped (pages : List (List ℕ)) : Type 0 where
  pub count : 0 < length pages → length pages ≡ PAGES
  pub whole : (i : ℕ) → i < WIDE_GROUPS → 0 < length (page_at pages i) → length (page_at pages i) ≡ PAGE_SUMS
  pub wide : 0 < length pages → length (page_at pages WIDE_GROUPS) ≡ WIDE_GROUPS
