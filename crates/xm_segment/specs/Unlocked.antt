-- The lanes of a segment that has no locks any more: of each the journal that it has published, if the segment has its security.
use Rattle.std.specs.Prelude.{◌≡◌, ℕ, ◌+◌, ◌++◌, List, [], ◌∷◌, Option, None, Some, is_some, slice_get}
use Rattle.xm_board.specs.Journals.{known_by, unnumbered}
use Rattle.xm_board.specs.declared.journal.NumberedJournal.{NumberedJournal}
use Rattle.xm_board.specs.declared.watch.Known.{Known}
use Rattle.xm_rules.specs.Step.{Journal}
use Rattle.xm_rules.specs.declared.settings.DeskSettings.{DeskSettings}
use Rattle.xm_segment.specs.Gathering.{IsPart}
use Rattle.xm_segment.specs.Watches.{RowView}

-- there is a journal in each lane of a segment with these settings, the first of them that of the lane with this index
abbrev pub FillLanes : ℕ → List DeskSettings → List (Option NumberedJournal) → Type 0
FillLanes lane settings [] = Unit {0}
FillLanes lane settings (j ∷ js) = (is_some j ≡ is_some (slice_get settings lane)) × FillLanes (lane + 1) settings js

-- a watch is part of its lane's journal
abbrev pub IsPartIn : Option NumberedJournal → Option Known → Type 0
IsPartIn None None = Unit {0}
IsPartIn (Some j) (Some w) = IsPart w j
IsPartIn _ _ = ⊥

abbrev pub ArePartsIn : List (Option NumberedJournal) → List (Option Known) → Type 0
ArePartsIn [] [] = Unit {0}
ArePartsIn (j ∷ js) (w ∷ ws) = IsPartIn j w × ArePartsIn js ws
ArePartsIn _ _ = ⊥

-- a watch that its lane told all that was published
abbrev pub watch_told : Option NumberedJournal → Option Known → Option Known
watch_told None w = w
watch_told (Some j) None = None
watch_told (Some j) (Some w) = Some (known_by w.number j w.own_entries)

abbrev pub told_in : List (Option NumberedJournal) → List (Option Known) → List (Option Known)
told_in [] ws = ws
told_in (j ∷ js) [] = []
told_in (j ∷ js) (w ∷ ws) = watch_told j w ∷ told_in js ws

-- a row that its lanes told
abbrev pub told_by : List (Option NumberedJournal) → RowView → RowView
told_by lanes row = record { number = row.number; watches = told_in lanes row.watches }

-- the journals of the lanes that have one
abbrev pub journals_in : List (Option NumberedJournal) → List NumberedJournal
journals_in [] = []
journals_in (None ∷ js) = journals_in js
journals_in (Some j ∷ js) = j ∷ journals_in js

-- desks, and behind them that of a lane, if it has one
abbrev pub with_desk : List Journal → Option NumberedJournal → List Journal
with_desk desks None = desks
with_desk desks (Some j) = desks ++ unnumbered j ∷ []
