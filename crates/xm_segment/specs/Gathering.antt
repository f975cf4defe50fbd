-- What comes together where all seats of a segment come back.
use Rattle.std.specs.Prelude.{◌≡◌, ℕ, ◌*◌, List, [], ◌∷◌, map, slice_get, true, Option, None, Some}
use Rattle.xm_board.specs.Journals.{Begins, Own, known_by, unnumbered}
use Rattle.xm_board.specs.declared.journal.NumberedJournal.{NumberedJournal}
use Rattle.xm_board.specs.declared.watch.Known.{Known}
use Rattle.xm_rules.specs.Step.{Journal, is_lawful, replay}
use Rattle.xm_rules.specs.Sums.{total_money, total_quantity}
use Rattle.xm_rules.specs.declared.replies.Totals.{Totals}
use Rattle.xm_rules.specs.declared.settings.DeskSettings.{DeskSettings}
use Rattle.xm_segment.specs.Ledgers.{FitLanes, Sums, added, nothing_counted, ledger_sums}
use Rattle.xm_segment.specs.Seats.{SeatView}
use Rattle.xm_segment.specs.Watches.{RowView}

-- sums, with those of seats added
abbrev pub sums_from : List Sums → List SeatView → List Sums
sums_from sums [] = sums
sums_from sums (seat ∷ seats) = sums_from (added sums seat.sums) seats

-- what the accepted commands of all seats counted, for each security
abbrev pub all_sums : List SeatView → List Sums
all_sums seats = sums_from nothing_counted seats

-- the journal is lawful, was opened with these settings, and has what was counted
pub record IsGathered (opened : DeskSettings) (counted : Sums) (journal : Journal) : Type 0 where
  pub settings : journal.settings ≡ opened
  pub lawful : is_lawful journal ≡ true
  pub sums : counted ≡ ledger_sums journal

-- there is a journal for each of some securities
abbrev pub EachGathered : List DeskSettings → List Sums → List Journal → Type 0
EachGathered [] counted [] = Unit {0}
EachGathered (opened ∷ more) (counted ∷ rest) (journal ∷ journals) = IsGathered opened counted journal × EachGathered more rest journals
EachGathered _ _ _ = ⊥

-- there is a journal for each security of the segment, and nothing else is counted
abbrev pub AreGathered : List DeskSettings → List Sums → List Journal → Type 0
AreGathered settings counted journals = EachGathered settings counted journals × FitLanes settings counted

-- there is one where the segment has this security
abbrev pub IsClosed : Option DeskSettings → Sums → Option Journal → Type 0
IsClosed None counted None = Unit {0}
IsClosed (Some opened) counted (Some journal) = IsGathered opened counted journal
IsClosed _ _ _ = ⊥

-- what a journal traded, in units and in ticks times units
abbrev pub totals_of : Journal → Totals
totals_of journal = record { quantity = total_quantity (replay journal).trades; money = total_money (replay journal).trades }

-- in ten-thousandths of a euro
abbrev pub value_of : Journal → ℕ
value_of journal = (totals_of journal).money * journal.settings.tick

-- what a watch has seen begins the journal, and its own entries stand there, each at its version and with its number
pub record IsPart (w : Known) (journal : NumberedJournal) : Type 0 where
  pub seen : Begins w.seen journal
  pub own : Own w.number journal.entries 0 w.own_entries

-- each watch of a row, to that of the last security
abbrev pub AreParts : List NumberedJournal → List (Option Known) → Type 0
AreParts [] ws = Unit {0}
AreParts (j ∷ js) (Some w ∷ ws) = IsPart w j × AreParts js ws
AreParts _ _ = ⊥

-- there is one history of each security: its desk's journal with a number for each command, of which all watches of all seats and
-- rows are parts
pub record IsOneHistory (desks : List Journal) (seats : List SeatView) (rows : List RowView) : Type 0 where
  pub journals : List NumberedJournal
  pub published : map unnumbered journals ≡ desks
  pub of_seats : (i : ℕ) (seat : SeatView) → slice_get seats i ≡ Some seat → AreParts journals seat.row.watches
  pub of_rows : (i : ℕ) (row : RowView) → slice_get rows i ≡ Some row → AreParts journals row.watches

-- the watches of a row that was told the journal of each security: each has seen the whole of it, and keeps its number and its own
-- entries
abbrev pub watches_told : List NumberedJournal → List (Option Known) → List (Option Known)
watches_told (j ∷ js) (Some w ∷ ws) = Some (known_by w.number j w.own_entries) ∷ watches_told js ws
watches_told _ ws = ws

abbrev pub row_told : List NumberedJournal → RowView → RowView
row_told journals row = record { number = row.number; watches = watches_told journals row.watches }

-- rows before and after they were told the one history
pub record WereTold (desks : List Journal) (seats : List SeatView) (before after : List RowView) : Type 0 where
  pub history : IsOneHistory desks seats before
  pub told : after ≡ map (row_told history.journals) before
