-- What words lead to, by what is done for them.
use Rattle.std.proofs.Common.{◌≡◌, ◌≢◌, ◌⊎◌, ℕ, List, [], Option, Some, Result, Ok, Err, OnOk, OnErr, inl, inr, refl}
use Rattle.clap.specs.Values.{kind_of}
use Rattle.clap.specs.Words.{Kinds}
use Rattle.clap.specs.declared.error.Error.{Error}
use Rattle.xm_replay.specs.declared.faults.DayFault.{DayFault}
use Rattle.xm_replay.specs.declared.faults.DayFault.TheVariants.{Segment, Carry, Orders, Open, OutOfMemory, WriteFailed}
use Rattle.xm_program.specs.Ends.{AskedEnds, AsksHelp, HasDone, IsDone}
use Rattle.xm_program.specs.Requests.{AnswersWords, Asked, IsTold}
use Rattle.xm_program.specs.declared.outcome.Outcome.{Outcome}
use Rattle.xm_program.specs.declared.requests.Failure.{Failure}
use Rattle.xm_program.specs.declared.requests.Failure.TheVariants.{Day, Words}
use Rattle.xm_program.specs.declared.requests.Request.TheVariants.{Help}

-- words that are refused, before anything was written
pub refused-done : (faults : Kinds) (asked : Option Asked) (old : Option (List ℕ)) (failure : Failure) → IsTold failure → AnswersWords faults asked (Err failure) → IsDone faults asked old old (Err failure)
refused-done faults asked old (Day fault) told answered = rw answered refl
refused-done faults asked old (Words error) told answered = (answered, told, refl)

-- words that ask for help
pub asks-help : (faults : Kinds) (asked : Option Asked) (error : Error) → AnswersWords faults asked (Ok (Help error)) → AsksHelp faults
asks-help faults asked error answered = record { kind = kind_of error; is_help = answered.0; among = answered.1 }

module _ (faults : Kinds) (asked : Option Asked) (what : Asked) (old new : Option (List ℕ)) where
  has-done : (end : _) → faults ≡ [] → asked ≡ Some what → AskedEnds what old new end → HasDone faults asked old new end
  has-done end none named ends = record { faultless = none; what = what; named = named; ends = ends }

  -- what was asked for is done
  pub all-done : (outcome : Outcome) → faults ≡ [] → asked ≡ Some what → AskedEnds what old new (Ok outcome) → IsDone faults asked old new (Ok outcome)
  all-done outcome none named ends = inl (has-done (Ok outcome) none named ends)

  -- it met a fault
  pub fault-done : (fault : DayFault) → faults ≡ [] → asked ≡ Some what → AskedEnds what old new (Err fault) → (fault ≢ WriteFailed → new ≡ old) → IsDone faults asked old new (Err (Day fault))
  fault-done (Segment of_file) none named ends kept = (has-done (Err (Segment of_file)) none named ends, kept (λ e. absurd (cc)))
  fault-done (Carry of_file) none named ends kept = (has-done (Err (Carry of_file)) none named ends, kept (λ e. absurd (cc)))
  fault-done (Orders of_file) none named ends kept = (has-done (Err (Orders of_file)) none named ends, kept (λ e. absurd (cc)))
  fault-done (Open opening) none named ends kept = (has-done (Err (Open opening)) none named ends, kept (λ e. absurd (cc)))
  fault-done (OutOfMemory _) none named ends kept = kept (λ e. absurd (cc))
  fault-done WriteFailed none named ends kept = inl (has-done (Err WriteFailed) none named ends)

-- a text that was written, or a part of it
pub whole-or-part : {T E A B : Type 0} (written : Result T E) → OnOk written A → OnErr written B → A ⊎ B
whole-or-part (Ok done) whole part = inl whole
whole-or-part (Err error) whole part = inr part
