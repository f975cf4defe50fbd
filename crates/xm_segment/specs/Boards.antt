-- The boards of a segment while it opens.
use Rattle.atomic_table.specs.Seated.{TableId}
use Rattle.std.specs.Prelude.{◌≡◌, ℕ, ◌+◌, List, [], ◌∷◌, length, map, slice_get, Option, None, Some}
use Rattle.xm_board.specs.Journals.{known_by, opening_of}
use Rattle.xm_board.specs.Opened.{Unnamed}
use Rattle.xm_board.specs.declared.journal.NumberedJournal.{NumberedJournal}
use Rattle.xm_board.specs.declared.watch.Known.{Known}
use Rattle.xm_rules.specs.declared.settings.DeskSettings.{DeskSettings}
use Rattle.xm_segment.specs.Watches.{RowView, fresh_row}

-- the boards of securities with these settings, each with its name
pub record AreBoards (settings : List DeskSettings) (names : ℕ → TableId) (boards : List Unnamed) : Type 0 where
  pub settings_are : map (λ board. board.settings) boards ≡ settings
  pub names_are : (lane : ℕ) (board : Unnamed) → slice_get boards lane ≡ Some board → board.table ≡ names lane

-- a board that has its name: what its pen has published, and what each of its watches knows
pub record NamedView : Type 0 where
  pub published : NumberedJournal
  pub watches : List Known

-- the watches of a security that opens, one for each row
pub record AreFresh (opened : DeskSettings) (rows : ℕ) (watches : List Known) : Type 0 where
  pub all : length watches ≡ rows
  pub each : (number : ℕ) (w : Known) → slice_get watches number ≡ Some w → w ≡ known_by number (opening_of opened) []

-- the board of a security that opens, if the segment has that security
abbrev pub IsFresh : ℕ → Option DeskSettings → Option NamedView → Type 0
IsFresh rows None None = Unit {0}
IsFresh rows (Some opened) (Some board) = (board.published ≡ opening_of opened) × AreFresh opened rows board.watches
IsFresh rows _ _ = ⊥

abbrev pub AreFreshFrom : ℕ → List DeskSettings → ℕ → List (Option NamedView) → Type 0
AreFreshFrom lane settings rows [] = Unit {0}
AreFreshFrom lane settings rows (board ∷ boards) = IsFresh rows (slice_get settings lane) board × AreFreshFrom (lane + 1) settings rows boards

-- the watches of so many rows of a security, if the segment has it
abbrev pub IsColumn : ℕ → Option DeskSettings → Option (List Known) → Type 0
IsColumn rows None None = Unit {0}
IsColumn rows (Some opened) (Some watches) = AreFresh opened rows watches
IsColumn rows _ _ = ⊥

abbrev pub AreColumnsFrom : ℕ → List DeskSettings → ℕ → List (Option (List Known)) → Type 0
AreColumnsFrom lane settings rows [] = Unit {0}
AreColumnsFrom lane settings rows (column ∷ columns) = IsColumn rows (slice_get settings lane) column × AreColumnsFrom (lane + 1) settings rows columns

-- the rows with the numbers from the first on and below this count, the greatest first
pub record AreLeft (settings : List DeskSettings) (count first : ℕ) (rows : List RowView) : Type 0 where
  pub all : length rows + first ≡ count
  pub each : (i number : ℕ) (row : RowView) → i + number + 1 ≡ count → slice_get rows i ≡ Some row → row ≡ fresh_row settings number
