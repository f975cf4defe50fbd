-- What comes of a call that met no fault, and the status that tells it.
use Rattle.std.specs.Prelude.{ℕ, List, codes, Result, Ok, Err}
use Rattle.xm_day.specs.declared.value.Completeness.{Completeness}
use Rattle.xm_day.specs.declared.value.Completeness.TheVariants as day
use Rattle.xm_explanations.specs.declared.explaining.Explanation.{Explanation}
use Rattle.xm_explanations.specs.declared.explaining.Explanation.TheVariants as explanation
use Rattle.xm_replay.specs.declared.faults.DayFault.{DayFault}
use Rattle.xm_program.specs.declared.outcome.Outcome.{Outcome}
use Rattle.xm_program.specs.declared.outcome.Outcome.TheVariants.{Done, Incomplete, Mistaken, UnknownSecurity}
use Rattle.xm_program.specs.declared.outcome.Strictness.{Strictness}
use Rattle.xm_program.specs.declared.outcome.Strictness.TheVariants.{Lenient, Strict}

-- what comes of a day that was written: a strict one is done only where it is complete
abbrev pub outcome_after : Strictness → Completeness → Outcome
outcome_after Strict day.Complete = Done
outcome_after Strict day.Incomplete = Incomplete
outcome_after Lenient completeness = Done

-- what comes of a day that may have a fault
abbrev pub judged : Strictness → Result Completeness DayFault → Result Outcome DayFault
judged strictness (Ok completeness) = Ok (outcome_after strictness completeness)
judged strictness (Err fault) = Err fault

-- what comes of what is done where it meets no fault
abbrev pub done_after : Result (Unit {0}) DayFault → Result Outcome DayFault
done_after (Ok _) = Ok Done
done_after (Err fault) = Err fault

-- the status that the program ends with where it met no fault: 4 tells that a day is incomplete, 1 that its files are mistaken, as for a run of
-- them, and 2 that the words name no security
abbrev pub outcome_status : Outcome → ℕ
outcome_status Done = 0
outcome_status Incomplete = 4
outcome_status Mistaken = 1
outcome_status UnknownSecurity = 2

-- what comes of an explanation
abbrev pub explained : Explanation → Outcome
explained (explanation.Mistaken told) = Mistaken
explained (explanation.Faultless unsaid) = outcome_after Strict unsaid.completeness

-- the line that is told where the words name no security of the segment
abbrev pub unknown_line : List ℕ
unknown_line = codes "xetra-day: the segment file has no security of this name\n"
