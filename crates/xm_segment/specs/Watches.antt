-- A row of watches, one for each security of a segment.
use Rattle.std.specs.Prelude.{◌≡◌, ℕ, ◌+◌, List, [], ◌∷◌, map, slice_get, Option, None, Some}
use Rattle.xm_board.specs.Journals.{HasOwnEntries, known_by, opening_of}
use Rattle.xm_board.specs.declared.watch.Known.{Known}
use Rattle.xm_rules.specs.declared.settings.DeskSettings.{DeskSettings}

-- its number, and of each of eight lanes what its watch knows, where the segment has that security
pub record RowView : Type 0 where
  pub number : ℕ
  pub watches : List (Option Known)

-- the indices of the lanes
abbrev pub lanes : List ℕ
lanes = 0 ∷ 1 ∷ 2 ∷ 3 ∷ 4 ∷ 5 ∷ 6 ∷ 7 ∷ []

-- nothing is seen at the opening, and nothing is a watch's own
abbrev pub fresh_watch : ℕ → Option DeskSettings → Option Known
fresh_watch number None = None
fresh_watch number (Some opened) = Some (known_by number (opening_of opened) [])

-- the row with this number as it opens
abbrev pub fresh_row : List DeskSettings → ℕ → RowView
fresh_row settings number = record { number = number; watches = map (λ lane. fresh_watch number (slice_get settings lane)) lanes }

-- a watch with this number on the board of a security with these settings; there is none where the segment doesn't have it
abbrev pub IsWatch : ℕ → Option DeskSettings → Option Known → Type 0
IsWatch number None None = Unit {0}
IsWatch number (Some opened) (Some w) = (w.number ≡ number) × (w.seen.settings ≡ opened)
IsWatch number _ _ = ⊥

-- the watches of a row, the first of them that of the lane with this index
abbrev pub AreWatchesFrom : ℕ → List DeskSettings → ℕ → List (Option Known) → Type 0
AreWatchesFrom lane settings number [] = Unit {0}
AreWatchesFrom lane settings number (w ∷ ws) = IsWatch number (slice_get settings lane) w × AreWatchesFrom (lane + 1) settings number ws

-- the watches of a row of a segment with these settings
abbrev pub AreWatches : List DeskSettings → RowView → Type 0
AreWatches settings row = AreWatchesFrom 0 settings row.number row.watches

-- the own entries of a watch stand in what it has seen, each once, in their order, with its number
abbrev pub HasOwn : Option Known → Type 0
HasOwn None = Unit {0}
HasOwn (Some w) = HasOwnEntries w
