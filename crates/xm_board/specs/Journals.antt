-- The journal of one security, each command with the number of the watch that it is for, and what a watch has of it.
use Rattle.std.specs.Prelude.{◌≡◌, ℕ, ◌+◌, ◌-◌, ◌<◌, ◌≤◌, ◌++◌, true, List, [], ◌∷◌, length, map, slice_get, Some}
use mathlib.Core.List.{IsPrefix}
use Rattle.xm_board.specs.declared.journal.Entry.{Entry}
use Rattle.xm_board.specs.declared.journal.NumberedJournal.{NumberedJournal}
use Rattle.xm_board.specs.declared.watch.Known.{Known}
use Rattle.xm_rules.specs.Quote.{quote}
use Rattle.xm_rules.specs.Step.{Journal, is_lawful, replay}
use Rattle.xm_rules.specs.declared.commands.Command.{Command}
use Rattle.xm_rules.specs.declared.replies.Quote.{Quote}
use Rattle.xm_rules.specs.declared.settings.DeskSettings.{DeskSettings}

-- the journal before the day
abbrev pub opening_of : DeskSettings → NumberedJournal
opening_of settings = record { settings = settings; entries = [] }

abbrev pub entry_of : ℕ → Command → Entry
entry_of number command = record { number = number; command = command }

-- the journal with one entry more
abbrev pub grown : NumberedJournal → Entry → NumberedJournal
grown j e = record { settings = j.settings; entries = j.entries ++ e ∷ [] }

-- its commands alone, a journal of the market model
abbrev pub unnumbered : NumberedJournal → Journal
unnumbered j = record { settings = j.settings; commands = map (λ e. e.command) j.entries }

abbrev pub IsLawful : NumberedJournal → Type 0
IsLawful j = is_lawful (unnumbered j) ≡ true

-- the quote of the state to which the commands lead
unfoldable pub quote_of : NumberedJournal → Quote
quote_of j = quote (replay (unnumbered j))

-- the second journal begins with the first
abbrev pub Begins : NumberedJournal → NumberedJournal → Type 0
Begins j k = (j.settings ≡ k.settings) × IsPrefix j.entries k.entries

-- the number of entries, which is the version of the journal
abbrev pub version_of : NumberedJournal → ℕ
version_of j = length j.entries

-- own entries, each with its version: the versions rise from `from` on, and each entry stands at its version in what was seen, with the number
abbrev pub Own : ℕ → List Entry → ℕ → List (ℕ × Entry) → Type 0
Own number seen from [] = from ≤ length seen
Own number seen from (x ∷ xs) = (from < x.0) × (slice_get seen (x.0 - 1) ≡ Some x.1) × (x.1.number ≡ number) × Own number seen x.0 xs

-- the version and the entry of the last one, where the first has the version after `n`
abbrev pub last_own_in : List Entry → ℕ → List (ℕ × Entry)
last_own_in [] n = []
last_own_in (e ∷ []) n = (n + 1, e) ∷ []
last_own_in (e ∷ f ∷ es) n = last_own_in (f ∷ es) (n + 1)

-- the number of the watch that the last entry is for
abbrev pub last_number_in : List Entry → ℕ
last_number_in [] = 0
last_number_in (e ∷ []) = e.number
last_number_in (e ∷ f ∷ es) = last_number_in (f ∷ es)

-- the last entry of a journal with its version, if it has one
abbrev pub last_own : NumberedJournal → List (ℕ × Entry)
last_own j = last_own_in j.entries 0

abbrev pub last_number : NumberedJournal → ℕ
last_number j = last_number_in j.entries

-- what a watch knows: its number, the journal that it has seen, and its own entries with their versions
abbrev pub known_by : ℕ → NumberedJournal → List (ℕ × Entry) → Known
known_by number seen own_entries = record { number = number; seen = seen; own_entries = own_entries }

-- its own entries stand in what it has seen, with its number
abbrev pub HasOwnEntries : Known → Type 0
HasOwnEntries w = Own w.number w.seen.entries 0 w.own_entries
