-- The rounds of a day's rows, and the share that a worker has in a round.
use Rattle.std.specs.Prelude.{ℕ, ◌+◌, ◌-◌, ◌%◌, ◌==◌, Bool, true, false, not, ◌&&◌, if◌then◌else◌, nat_lt, List, [], ◌∷◌, length, is_some, slice_get}
use Rattle.std.specs.List.{filter, list_all}
use Rattle.std.specs.Option.{option_map_or}
use Rattle.xm_rules.specs.Commands.{member_of}
use Rattle.xm_files.specs.declared.timetable.Round.{Round}
use Rattle.xm_config.specs.declared.rows.Row.{Row}

-- a member gives the row's command; one of the phases has none
abbrev pub is_of_member : Row → Bool
is_of_member row = is_some (member_of row.command)

-- a member's row that comes before rounds joins the first of them
abbrev pub with_member : ℕ → List Round → List Round
with_member at [] = record { first = at; phase = at + 1; end = at + 1 } ∷ []
with_member at (round ∷ more) = record { first = at; phase = round.phase; end = round.end } ∷ more

-- a phase row that comes before rounds joins the first of them where that has no member's row, and is a round of its own where it has
abbrev pub with_phase : ℕ → List Round → List Round
with_phase at [] = record { first = at; phase = at; end = at + 1 } ∷ []
with_phase at (round ∷ more) =
    if nat_lt round.first round.phase then record { first = at; phase = at; end = at + 1 } ∷ round ∷ more
    else record { first = at; phase = at; end = round.end } ∷ more

-- the rounds of rows, of which the first has this index
abbrev pub rounds_from : ℕ → List Row → List Round
rounds_from at [] = []
rounds_from at (row ∷ rows) = if is_of_member row then with_member at (rounds_from (at + 1) rows) else with_phase at (rounds_from (at + 1) rows)

-- a round is a longest run of members' rows, and the phase rows after it; the rounds cover the rows in order
abbrev pub rounds_of : List Row → List Round
rounds_of rows = rounds_from 0 rows

-- the last row is one of the phases
abbrev pub ends_with_phase : List Row → Bool
ends_with_phase rows = option_map_or (λ row. not (is_of_member row)) (slice_get rows (length rows - 1)) false

-- rows of one round: members' rows, and then phase rows alone
abbrev pub is_one_round : List Row → Bool
is_one_round [] = true
is_one_round (row ∷ rows) = if is_of_member row then is_one_round rows else list_all (λ other. not (is_of_member other)) rows

-- a round ends between rows and those after them: there are none after them, or a member's row follows a phase row
abbrev pub ends_round : List Row → List Row → Bool
ends_round rows [] = true
ends_round rows (next ∷ more) = ends_with_phase rows && is_of_member next

-- a worker works the rows of the members whose index leaves its number, divided by the number of workers
abbrev pub is_worked_by : ℕ → ℕ → Row → Bool
is_worked_by worker workers row = option_map_or (λ member. (member % workers) == worker) (member_of row.command) false

-- the rows that a worker works, in their order
abbrev pub share_of : ℕ → ℕ → List Row → List Row
share_of worker workers rows = filter (is_worked_by worker workers) rows
