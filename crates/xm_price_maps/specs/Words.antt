-- The words of a set in their pages: the lower words, which have a bit for each price, in pages that are made as they
-- are needed; those above in one whole page and one of a few words, which are made with the first page of all.
use Rattle.std.specs.Prelude.{◌≡◌, ℕ, ◌+◌, ◌/◌, ◌%◌, ◌<◌, List, length}
use Rattle.xm_price_maps.specs.Slots.{page_at, slot_at}
use Rattle.xm_price_maps.specs.declared.words.TheConstants.{LAST_PAGE_WORDS, LOWER_PAGES, PAGES, PAGE_WORDS}

-- a word, which is 0 where its page is absent
unfoldable pub word : List (List ℕ) → ℕ → ℕ
word pages w = slot_at 0 pages (w / PAGE_WORDS) (w % PAGE_WORDS)

-- a word's page is there
unfoldable pub HasWord : List (List ℕ) → ℕ → Type 0
HasWord pages w = w % PAGE_WORDS < length (page_at pages (w / PAGE_WORDS))

-- no page is there, or those of the upper words are; each page of the lower words is absent or whole
pub record IsShaped (pages : List (List ℕ)) : Type 0 where
  pub count : 0 < length pages → length pages ≡ PAGES
  pub lower : (i : ℕ) → i < LOWER_PAGES → 0 < length (page_at pages i) → length (page_at pages i) ≡ PAGE_WORDS
  pub upper : 0 < length pages → length (page_at pages LOWER_PAGES) ≡ PAGE_WORDS
  pub last : 0 < length pages → length (page_at pages (LOWER_PAGES + 1)) ≡ LAST_PAGE_WORDS
