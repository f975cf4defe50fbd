-- What names a segment: a type stands for the one whose settings, ledgers and boards it has.
use Rattle.atomic_table.specs.Seated.{TableId}
use Rattle.std.specs.Prelude.{◌≡◌, ℕ, zero, suc, List, [], ◌∷◌}
use Rattle.xm_board.specs.Opened.{Unnamed, no_table}
use Rattle.xm_rules.specs.declared.settings.DeskSettings.{DeskSettings}
use Rattle.xm_segment.specs.Ledgers.{BlankLedgers, LedgerNames}

-- each ledger has so many parts
abbrev pub HaveParts : ℕ → List BlankLedgers → Type 0
HaveParts parts [] = Unit {0}
HaveParts parts (blank ∷ blanks) = (blank.parts ≡ parts) × HaveParts parts blanks

-- a segment that is opened and has no name yet: the settings of its securities and their boards, in index order, the ledgers of
-- each of eight lanes, and for how many workers and watchers it is
pub record UnnamedSegment : Type 0 where
  pub settings : List DeskSettings
  pub boards : List Unnamed
  pub ledgers : List BlankLedgers
  pub workers : ℕ
  pub watchers : ℕ

-- the names of each lane's ledgers
abbrev pub ledger_names : List BlankLedgers → ℕ → LedgerNames
ledger_names [] lane = record { accepted = 0; quantity = 0; money = 0 }
ledger_names (blank ∷ blanks) zero = blank.names
ledger_names (blank ∷ blanks) (suc lane) = ledger_names blanks lane

-- the name of each lane's board
abbrev pub board_names : List Unnamed → ℕ → TableId
board_names [] lane = no_table
board_names (board ∷ boards) zero = board.table
board_names (board ∷ boards) (suc lane) = board_names boards lane

-- it is the segment that has this name
pub record NamesSegment (settings : List DeskSettings) (ledgers : ℕ → LedgerNames) (boards : ℕ → TableId) (workers : ℕ) (opened : UnnamedSegment) : Type 0 where
  pub settings_are : settings ≡ opened.settings
  pub ledgers_are : ledgers ≡ ledger_names opened.ledgers
  pub boards_are : boards ≡ board_names opened.boards
  pub workers_are : workers ≡ opened.workers
