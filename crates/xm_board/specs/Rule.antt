-- The rule of the board's words, which holds at every moment, and what each step tells.
-- Word 0 is the sequence: twice the version of the pen's journal, and 1 more while the pen writes the words of the next one. It never goes down.
use Rattle.std.specs.Prelude.{◌≡◌, ◌≢◌, ℕ, ◌+◌, ◌-◌, ◌*◌, ◌%◌, ◌<◌, ◌≤◌, ◌++◌, List, [], ◌∷◌, length, slice_index, Bool, if◌then◌else◌}
use mathlib.Core.Option.{Option, none, some}
use lib.ListN.{get_elem?}
use Rattle.atomic_table.specs.Table.{State, Me, Step}
use Rattle.xm_board.specs.declared.journal.Entry.{Entry}
use Rattle.xm_rules.specs.Entries.{none_left}
use Rattle.xm_rules.specs.declared.settings.DeskSettings.{DeskSettings}
use Rattle.xm_board.specs.declared.journal.NumberedJournal.{NumberedJournal}
use Rattle.xm_board.specs.declared.seats.View.{View}
use Rattle.xm_board.specs.declared.seats.Role.{Role}
use Rattle.xm_board.specs.declared.seats.Role.TheVariants.{Pen, Watch, Spent}
use Rattle.xm_board.specs.declared.seats.Stage.{Stage}
use Rattle.xm_board.specs.declared.seats.Stage.TheVariants.{Idle, Reading, Writing}
use Rattle.xm_board.specs.Journals.{opening_of, Begins, Own, version_of, last_own_in, last_number_in}

module _ (Lawful : NumberedJournal → Type 0) (words : NumberedJournal → List ℕ) (n : ℕ) where
  -- of the pen's journal, the sequence, and what a watch has seen
  abbrev pub Reads : NumberedJournal → ℕ → NumberedJournal → Stage → Type 0
  Reads j v seen Idle = Unit {0}
  Reads j v seen (Reading first last) = Begins seen first × Begins first j × Lawful first × (2 * version_of first ≤ last) × (last ≤ v)
  Reads j v seen (Writing next k) = ⊥

  -- what a seat other than the pen's knows
  abbrev pub KnowsAs : Role → NumberedJournal → ℕ → View → Type 0
  KnowsAs Pen j v d = ⊥
  KnowsAs Watch j v d = Begins d.seen j × Lawful d.seen × Own d.number d.seen.entries 0 d.own_entries × Reads j v d.seen d.stage
  KnowsAs Spent j v d = Unit {0}

  abbrev pub Knows : NumberedJournal → ℕ → View → Type 0
  Knows j v d = KnowsAs d.role j v d

  -- the words, by the pen's journal and by what it does
  abbrev pub Laid : List ℕ → NumberedJournal → Stage → Type 0
  Laid ws j Idle = (slice_index ws 0 ≡ 2 * version_of j) × ((i : ℕ) → i < n → slice_index ws (i + 1) ≡ slice_index (words j) i)
  Laid ws j (Reading first last) = ⊥
  Laid ws j (Writing next k) =
      (slice_index ws 0 ≡ 2 * version_of j + 1) × Begins j next × (version_of next ≡ version_of j + 1) × Lawful next
      × ((i : ℕ) → i < k → slice_index ws (i + 1) ≡ slice_index (words next) i)
      × ((i : ℕ) → k ≤ i → i < n → slice_index ws (i + 1) ≡ slice_index (words j) i)

-- What holds at every moment. One seat is the pen's, whose journal is published. The words are the sequence and those of the quote of that
-- journal, or, while the pen writes, some of the next one's; each other seat has seen a beginning of the journal.
pub record Kept (Lawful : NumberedJournal → Type 0) (words : NumberedJournal → List ℕ) (n : ℕ) (s : State Entry View) : Type 0 where
  -- the pen's seat and its view
  pub pen : ℕ
  pub held : View
  pub there : get_elem? s.views pen ≡ some held
  pub writes : held.role ≡ Pen
  -- the words behind them are not used
  pub wide : n + 1 ≤ length s.words
  pub right : Lawful held.seen
  pub asked : Begins held.asked held.seen
  pub laid : Laid Lawful words n s.words held.seen held.stage
  pub others : (j : ℕ) (d : View) → j ≢ pen → get_elem? s.views j ≡ some d → Knows Lawful words n held.seen (slice_index s.words 0) d

-- what the pen knows at the opening
abbrev pub opening_pen : DeskSettings → View
opening_pen s = record { role = Pen; number = 0; seen = opening_of s; own_entries = []; asked = opening_of s; stage = Idle }

-- the pen that has made so many watches
abbrev pub numbered : DeskSettings → ℕ → View
numbered s n = record { role = Pen; number = n; seen = opening_of s; own_entries = []; asked = opening_of s; stage = Idle }

abbrev pub watcher : ℕ → NumberedJournal → List (ℕ × Entry) → View
watcher number seen own_entries = record { role = Watch; number = number; seen = seen; own_entries = own_entries; asked = seen; stage = Idle }

abbrev pub with_next_number : View → View
with_next_number d = record { role = d.role; number = d.number + 1; seen = d.seen; own_entries = d.own_entries; asked = d.asked; stage = d.stage }

abbrev pub first_watch : View → View
first_watch d = watcher d.number d.seen []

abbrev pub shared_seen : View → View
shared_seen d = watcher 0 d.seen []

abbrev pub shared_last : View → View
shared_last d = watcher (last_number_in d.seen.entries) d.seen (last_own_in d.seen.entries 0)

abbrev pub shared_as : Bool → View → View
shared_as own d = if own then shared_last d else shared_seen d

abbrev pub asking : View → View → View
asking d e = record { role = d.role; number = d.number; seen = d.seen; own_entries = d.own_entries; asked = e.seen; stage = d.stage }

abbrev pub taking : View → View → View
taking d e = record { role = d.role; number = d.number; seen = e.seen; own_entries = d.own_entries ++ e.own_entries; asked = d.asked; stage = Idle }

-- the settings of a seat that was joined to another, of which nothing is said
abbrev pub some_settings : DeskSettings
some_settings = record { today = 0; members = 0; tick = 1; reference = 1; widths = record { dynamic = 1; statics = 1; wide = 2 }; limit = 1; carried = none_left }

abbrev pub spent_of : View
spent_of = record { role = Spent; number = 0; seen = opening_of some_settings; own_entries = []; asked = opening_of some_settings; stage = Idle }

-- the steps
abbrev Sat : Type 0
Sat = Me Entry View

abbrev pub with_stage : View → Stage → View
with_stage d st = record { role = d.role; number = d.number; seen = d.seen; own_entries = d.own_entries; asked = d.asked; stage = st }

abbrev pub with_seen : View → NumberedJournal → List (ℕ × Entry) → View
with_seen d j m = record { role = d.role; number = d.number; seen = j; own_entries = m; asked = d.asked; stage = Idle }

-- a watch has read the sequence
abbrev pub ReadsSequence : Step Entry → Sat → ℕ → Sat → Type 0
ReadsSequence st m r m' = (stage : Stage) × (m'.0 ≡ with_stage m.0 stage) × (r % 2 ≡ 0 → (first : NumberedJournal) × (stage ≡ Reading first r) × (r ≡ 2 * version_of first))

-- a watch has read a word, which is that of the journal read first if the sequence is still no greater
abbrev pub ReadsWord : (NumberedJournal → List ℕ) → Step Entry → Sat → ℕ → Sat → Type 0
ReadsWord words st m r m' =
    (first : NumberedJournal) (last : ℕ) → m.0.stage ≡ Reading first last
    → (now : ℕ) × (m'.0 ≡ with_stage m.0 (Reading first now)) × (now ≤ 2 * version_of first → (last ≤ 2 * version_of first) × (r ≡ slice_index (words first) (st.word - 1)))

-- a watch has read the sequence again: where it is still that of the journal read first, the watch has seen that journal
abbrev pub ChecksSequence : (NumberedJournal → Type 0) → Step Entry → Sat → ℕ → Sat → Type 0
ChecksSequence Lawful st m r m' =
    (first : NumberedJournal) (last : ℕ) → m.0.stage ≡ Reading first last
    → (r ≡ 2 * version_of first → (last ≤ 2 * version_of first) × (m'.0 ≡ with_seen m.0 first m.0.own_entries) × Begins m.0.seen first × Lawful first)
    × (r ≢ 2 * version_of first → m'.0 ≡ with_stage m.0 Idle)

abbrev pub said_list : Option Entry → List Entry
said_list none = []
said_list (some e) = e ∷ []

abbrev pub with_entry : NumberedJournal → Option Entry → NumberedJournal
with_entry j e = record { settings = j.settings; entries = j.entries ++ said_list e }

-- the pen begins to write the words of the journal with one entry more
abbrev pub BeginsWrite : Step Entry → Sat → ℕ → Sat → Type 0
BeginsWrite st m r m' = m'.0 ≡ with_stage m.0 (Writing (with_entry m.0.seen st.said) 0)

-- the pen has written a word more
abbrev pub WritesWord : Step Entry → Sat → ℕ → Sat → Type 0
WritesWord st m r m' = (next : NumberedJournal) (k : ℕ) → m.0.stage ≡ Writing next k → m'.0 ≡ with_stage m.0 (Writing next (k + 1))

-- the pen publishes
abbrev pub EndsWrite : Step Entry → Sat → ℕ → Sat → Type 0
EndsWrite st m r m' = (next : NumberedJournal) (k : ℕ) → m.0.stage ≡ Writing next k → m'.0 ≡ with_seen m.0 next m.0.own_entries

-- the pen finds that what it was asked about is a beginning of its journal
abbrev pub ComparesSeen : Step Entry → Sat → ℕ → Sat → Type 0
ComparesSeen st m r m' = (m'.0 ≡ m.0) × Begins m.0.asked m.0.seen

-- the words read so far are those of the journal read first, if the sequence is still no greater
abbrev pub AreReadWords : (NumberedJournal → List ℕ) → ℕ → List ℕ → View → View → Type 0
AreReadWords words count bits v w =
    (first : NumberedJournal) (last : ℕ) → v.stage ≡ Reading first last
    → (now : ℕ) × (w ≡ with_stage v (Reading first now)) × (now ≤ 2 * version_of first → (last ≤ 2 * version_of first) × ((i : ℕ) → i < count → slice_index bits i ≡ slice_index (words first) i))
