-- Room for prices in a set.
use Rattle.std.proofs.Common.{◌≡◌, ℕ, ◌/◌, ◌<◌, List, length, set, replicate, ◌∙◌, inl, inr, arith}
use Rattle.std.proofs.lemmas.Bool.{cases_eq}
use Rattle.xm_price_maps.specs.Slots.{page_at}
use Rattle.xm_price_maps.specs.Words.{word, IsShaped}
use Rattle.xm_price_maps.specs.Marks.{AreMarksSound}
use Rattle.xm_price_maps.specs.Set.{Prices, has, HasRoom}
use Rattle.xm_price_maps.proofs.Members.{same_sound, same_members}
use Rattle.xm_price_maps.proofs.Stored.{has_word, word_page, word_slot, word-unchanged, room-made, room-kept, shaped_made}
use Rattle.xm_price_maps.specs.declared.marks.TheConstants.{PRICES}
use Rattle.xm_price_maps.specs.declared.set.TheConstants.{PAGE_PRICES}
use Rattle.xm_price_maps.specs.declared.words.TheConstants.{PAGES, PAGE_WORDS}

pub has_room : (s : Prices) (n : ℕ) → n < PRICES → IsShaped s.pages → 0 < length (page_at s.pages (n / PAGE_PRICES)) → HasRoom s n
unfolding HasRoom
has_room s n small shaped there =
    let e : n / 64 / PAGE_WORDS ≡ n / PAGE_PRICES = omega arith in
    has_word s.pages shaped (n / 64) (omega arith) (rw e there)

pub room_there : (s : Prices) (n : ℕ) → HasRoom s n → 0 < length (page_at s.pages (n / PAGE_PRICES))
unfolding HasRoom
room_there s n room =
    let e : n / 64 / PAGE_WORDS ≡ n / PAGE_PRICES = omega arith in
    let slot = rw e at (word_slot s.pages (n / 64) room) in
    omega arith

pub room_inside : (s : Prices) (n : ℕ) → HasRoom s n → 0 < length s.pages
unfolding HasRoom
room_inside s n room =
    let page = word_page s.pages (n / 64) room in
    omega arith

pub no_room : (s : Prices) (n : ℕ) → n < PRICES → IsShaped s.pages → (HasRoom s n → ⊥) → length (page_at s.pages (n / PAGE_PRICES)) ≡ 0
no_room s n small shaped none =
    elim (cases_eq (length (page_at s.pages (n / PAGE_PRICES))) 0) [
      | inl absent ↦ absent
      | inr there ↦ absurd (none (has_room s n small shaped (omega arith)))
    ]

-- a page is made for price n in `base`, whose words are those of the set
module _ (old : Prices) (base : List (List ℕ)) (n : ℕ) (small : n < PRICES) (page : List ℕ) (filled : page ≡ replicate PAGE_WORDS 0) (count : length base ≡ PAGES) (absent : length (page_at base (n / PAGE_PRICES)) ≡ 0) (shaped : IsShaped base) (same : (w : ℕ) → word base w ≡ word old.pages w) where
  inside : n / PAGE_PRICES < length base
  inside = rw count (omega arith)

  same_words : (w : ℕ) → word (set base (n / PAGE_PRICES) page) w ≡ word old.pages w
  same_words w = word-unchanged base n small page filled inside absent w ∙ same w

  pub made_room : HasRoom (record { pages = set base (n / PAGE_PRICES) page }) n
  unfolding HasRoom
  made_room = room-made base n small page filled inside absent

  pub made_same : (m : ℕ) → has (record { pages = set base (n / PAGE_PRICES) page }) m ≡ has old m
  made_same m = same_members old (record { pages = set base (n / PAGE_PRICES) page }) same_words m

  pub made_sound : AreMarksSound old.pages → AreMarksSound (set base (n / PAGE_PRICES) page)
  made_sound sound = same_sound old.pages (set base (n / PAGE_PRICES) page) same_words sound

  pub made_shaped : IsShaped (set base (n / PAGE_PRICES) page)
  made_shaped = shaped_made base n small page filled inside absent count shaped

  pub made_kept : (m : ℕ) → HasRoom (record { pages = base }) m → HasRoom (record { pages = set base (n / PAGE_PRICES) page }) m
  unfolding HasRoom
  made_kept m room = room-kept base n small page filled inside absent (m / 64) room
