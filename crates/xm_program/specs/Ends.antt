-- What the words of a command line lead to on the two streams.
use Rattle.std.specs.Prelude.{◌≡◌, ℕ, false, true, ◌⊎◌, List, [], length, Option, Some, is_some, Result, Ok, Err, ⊤}
use Rattle.std.specs.Io.KnownBytes.{Appends}
use Rattle.clap.specs.Values.{kind_of}
use Rattle.clap.specs.Words.{IsAmong, Kinds}
use Rattle.clap.specs.declared.error.kind.ErrorKind.{ErrorKind}
use Rattle.xm_day.specs.declared.value.Completeness.{Completeness}
use Rattle.xm_replay.specs.declared.faults.DayFault.{DayFault}
use Rattle.xm_replay.specs.declared.faults.DayFault.TheVariants.{OutOfMemory, WriteFailed}
use Rattle.xm_day.specs.Days.{DayFiles}
use Rattle.xm_explanations.specs.declared.read_files.ReadDay.{ReadDay}
use Rattle.xm_program.specs.Days.{AuctionCallEnds, CheckCallEnds, ExplanationEnds, FilesEnd, IsReadFor}
use Rattle.xm_program.specs.FaultLines.{fault_line}
use Rattle.xm_program.specs.Outcomes.{done_after, judged, unknown_line}
use Rattle.xm_program.specs.declared.outcome.Outcome.{Outcome}
use Rattle.xm_program.specs.declared.outcome.Outcome.TheVariants.{Done, UnknownSecurity}
use Rattle.xm_program.specs.Requests.{Asked, IsOfWords, asked_texts, auction, check, day, end_status, explanation, is_mistake}
use Rattle.xm_program.specs.declared.requests.Failure.{Failure}
use Rattle.xm_program.specs.declared.requests.Failure.TheVariants.{Day, Words}
use Rattle.xm_ticks.specs.Writing.{AppendsPrefix}

-- what was asked for ended so, on files of some bytes: a day is judged as it is asked for; for the list of the order files of an auction, or
-- for what files to explain hold, there may be no memory
abbrev pub AskedEnds : Asked → Option (List ℕ) → Option (List ℕ) → Result Outcome DayFault → Type 0
AskedEnds (day d) old new end =
    (made : Result Completeness DayFault) × FilesEnd d.concurrency (asked_texts d) (is_some d.carrying) (length d.orders) old new made × (end ≡ judged d.strictness made)
AskedEnds (check segment) old new end =
    (segment_bytes : Option (List ℕ)) × (sent : Result (Unit {0}) DayFault) × CheckCallEnds segment_bytes (record { old = old; new = new }) sent × (end ≡ done_after sent)
AskedEnds (auction a) old new end =
    ((files : DayFiles) × (is_some files.carried ≡ is_some a.carried) × (length files.orders ≡ length a.orders) × AuctionCallEnds a files (record { old = old; new = new }) end)
    ⊎ ((end ≡ Err (OutOfMemory tt)) × (new ≡ old))
AskedEnds (explanation e) old new end =
    ((d : ReadDay) × IsReadFor e d × ExplanationEnds d (record { old = old; new = new }) end)
    ⊎ ((end ≡ Err (OutOfMemory tt)) × (new ≡ old))

-- the words have no fault and ask for what can be done, which ended so
pub record HasDone (faults : Kinds) (asked : Option Asked) (old new : Option (List ℕ)) (end : Result Outcome DayFault) : Type 0 where
  pub faultless : faults ≡ []
  pub what : Asked
  pub named : asked ≡ Some what
  pub ends : AskedEnds what old new end

-- the words ask for help or for the version
pub record AsksHelp (faults : Kinds) : Type 0 where
  pub kind : ErrorKind
  pub is_help : is_mistake kind ≡ false
  pub among : IsAmong kind faults

-- what words with these faults, which ask for this, lead to on standard output: a day writes its statement, a check the line of its
-- segment, an auction its tables, an explanation its lines, and nothing else; after a mistake, and after a fault, nothing was written, but where writing failed
abbrev pub IsDone : Kinds → Option Asked → Option (List ℕ) → Option (List ℕ) → Result Outcome Failure → Type 0
IsDone faults asked old new (Ok outcome) = HasDone faults asked old new (Ok outcome) ⊎ (AsksHelp faults × (outcome ≡ Done))
IsDone faults asked old new (Err (Day (OutOfMemory _))) = new ≡ old
IsDone faults asked old new (Err (Day WriteFailed)) = HasDone faults asked old new (Err WriteFailed) ⊎ AsksHelp faults
IsDone faults asked old new (Err (Day fault)) = HasDone faults asked old new (Err fault) × (new ≡ old)
IsDone faults asked old new (Err (Words error)) = IsOfWords faults asked error × (is_mistake (kind_of error) ≡ true) × (new ≡ old)

-- what is then told on standard error: nothing, that there is no such security, the line of the fault once, of which a part may be missing where writing
-- failed, or what is mistaken in the words
abbrev pub IsToldAs : Option (List ℕ) → Option (List ℕ) → Result Outcome Failure → Type 0
IsToldAs old new (Ok UnknownSecurity) = Appends old new unknown_line ⊎ AppendsPrefix old new unknown_line
IsToldAs old new (Ok outcome) = new ≡ old
IsToldAs old new (Err (Day fault)) = Appends old new (fault_line fault) ⊎ AppendsPrefix old new (fault_line fault)
IsToldAs old new (Err (Words error)) = ⊤

-- how a call with these words ends: what it did, what it told, and its status
pub record CallEnds (faults : Kinds) (asked : Option Asked) (old new told_before told_after : Option (List ℕ)) (status : ℕ) : Type 0 where
  pub end : Result Outcome Failure
  pub is_done : IsDone faults asked old new end
  pub is_told : IsToldAs told_before told_after end
  pub status_is : status ≡ end_status end
