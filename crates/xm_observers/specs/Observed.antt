-- What an observer has seen of the rows of a day, which the desks of its segment took.
use Rattle.std.specs.Prelude.{◌≡◌, ℕ, ◌+◌, List, [], ◌∷◌, ◌++◌, length, None, Result, Ok, Err}
use Rattle.xm_config.specs.Day.{Day, after_row, day, day_of, opening_day}
use Rattle.xm_config.specs.Opening.{segment_fault}
use Rattle.xm_config.specs.declared.config.SegmentConfig.{SegmentConfig}
use Rattle.xm_config.specs.declared.rows.Row.{Row}
use Rattle.xm_observers.specs.declared.observing.ObservedDay.{ObservedDay}
use Rattle.xm_replay.specs.Taken.{IsOpenFault}
use Rattle.xm_replay.specs.declared.faults.DayFault.{DayFault}
use Rattle.xm_replay.specs.declared.faults.DayFault.TheVariants.{Open, OutOfMemory}

-- what is seen of rows, one after another, by what is seen of one
abbrev pub seen_of_rows : {S : Type 0} → (S → Day → Row → S) → S → Day → List Row → S
seen_of_rows next seen d [] = seen
seen_of_rows next seen d (row ∷ rows) = seen_of_rows next (next seen d row) (after_row d row) rows

-- desks have taken these rows in their order, whose day theirs is, and the observer, which had seen so much, has seen them
pub record ObservedRows {O S : Type 0} (seen : O → S) (next : S → Day → Row → S) (first : S) (config : SegmentConfig) (rows : List Row) (d : ObservedDay O) : Type 0 where
  pub sound : segment_fault config ≡ None
  pub each : length d.desks.items ≡ length config.securities
  pub day_is : day_of d.desks.items d.report.accepted d.report.refused ≡ day config rows
  pub all : d.report.accepted + d.report.refused ≡ length rows
  pub seen_is : seen d.observer ≡ seen_of_rows next first (opening_day config) rows

-- the same, unless the segment can't be opened or memory is wanting
abbrev pub HasObserved : {O S : Type 0} → (O → S) → (S → Day → Row → S) → S → SegmentConfig → List Row → Result (ObservedDay O) DayFault → Type 0
HasObserved seen next first config rows (Ok d) = ObservedRows seen next first config rows d
HasObserved seen next first config rows (Err (Open fault)) = IsOpenFault config fault
HasObserved seen next first config rows (Err (OutOfMemory _)) = segment_fault config ≡ None
HasObserved seen next first config rows (Err fault) = ⊥

-- how many rows desks have taken, where nothing went wrong
abbrev pub observed_so_far : {O : Type 0} → Result (ObservedDay O) DayFault → ℕ
observed_so_far (Ok d) = d.report.accepted + d.report.refused
observed_so_far (Err fault) = 0

-- where desks had taken any rows, and an observer had seen these, so it is with these more
abbrev pub ObservesOn : {O S : Type 0} → (O → S) → (S → Day → Row → S) → Result (ObservedDay O) DayFault → SegmentConfig → List Row → Result (ObservedDay O) DayFault → Type 0
ObservesOn {S = S} seen next before config rows after =
    (first : S) (earlier : List Row) → HasObserved seen next first config earlier before → HasObserved seen next first config (earlier ++ rows) after
