-- Rows of which something is kept, one after another, until they are told in that order.
use Rattle.std.specs.Prelude.{◌≤◌, ℕ, ◌+◌, List, [], ◌∷◌, length, slice_range}
use Rattle.xm_threads.specs.declared.kept_lines.Span.{Span}

-- what is kept of a row: the fields of its answer from the security on, those of each of its trades, the lines of the levels behind it,
-- and those of its events
pub record KeptRow : Type 0 where
  pub answer : List ℕ
  pub trades : List (List ℕ)
  pub levels : List ℕ
  pub events : List ℕ

abbrev pub part_at : {A : Type 0} → List A → Span → List A
part_at xs s = slice_range xs s.begin s.end

-- a row of which these lines are kept
abbrev pub row_of_lines : List (List ℕ) → KeptRow
row_of_lines (answer ∷ levels ∷ events ∷ trades) = record { answer = answer; trades = trades; levels = levels; events = events }
row_of_lines (answer ∷ levels ∷ []) = record { answer = answer; trades = []; levels = levels; events = [] }
row_of_lines (answer ∷ []) = record { answer = answer; trades = []; levels = []; events = [] }
row_of_lines [] = record { answer = []; trades = []; levels = []; events = [] }

-- a part of this length at least
pub record IsPartOf {A : Type 0} (least : ℕ) (xs : List A) (s : Span) : Type 0 where
  pub order : s.begin + least ≤ s.end
  pub within : s.end ≤ length xs

abbrev pub behind_first : List KeptRow → List KeptRow
behind_first [] = []
behind_first (row ∷ rows) = rows
