-- How a day and a check end, as the program tells it.
use Rattle.std.specs.Prelude.{◌≡◌, ◌≢◌, ◌≤◌, ◌⊎◌, ℕ, Bool, true, false, List, [], ◌∷◌, length, take, Option, None, Some, is_some, option_map, map, Result, Ok, Err, ⊤, Vec}
use Rattle.std.specs.Global.{Global}
use Rattle.std.specs.List.{position_or_len}
use Rattle.std.specs.Str.{bytes_eq}
use Rattle.std.specs.Io.KnownBytes.{Appends}
use Rattle.xm_calls.specs.Calls.{HasTables}
use Rattle.xm_day.specs.Answers.{InFileOrder, IsFileFault, OrdersRun}
use Rattle.xm_day.specs.Checks.{IsCheck}
use Rattle.xm_day.specs.Days.{DayFiles, HasCarryFault, IsDay, OpensBy, nothing_asked}
use Rattle.xm_day.specs.declared.value.Completeness.{Completeness}
use Rattle.xm_day.specs.declared.value.DayTexts.{DayTexts}
use Rattle.xm_day.specs.declared.value.HandsOn.{HandsOn}
use Rattle.xm_day.specs.declared.value.HandsOn.TheVariants.{Nothing, WhatIsLeft}
use Rattle.xm_config.specs.Day.{Day}
use Rattle.xm_workers.specs.Workers.{IsShared}
use Rattle.xm_texts.specs.declared.asked.AskedTexts.{AskedTexts}
use Rattle.xm_replay.specs.declared.faults.DayFault.{DayFault}
use Rattle.xm_files.specs.Names.{NameLists}
use Rattle.xm_files.specs.Segment.{segment_of}
use Rattle.xm_replay.specs.declared.faults.DayFault.TheVariants.{Carry, OutOfMemory, Segment, WriteFailed}
use Rattle.xm_explanations.specs.Explained.{IsExplained}
use Rattle.xm_explanations.specs.Lines.{AreLines}
use Rattle.xm_explanations.specs.declared.explaining.Explanation.{Explanation}
use Rattle.xm_explanations.specs.declared.read_files.ReadDay.{ReadDay}
use Rattle.xm_explanations.specs.declared.read_files.ReadFile.{ReadFile}
use Rattle.xm_program.specs.Outcomes.{done_after, explained}
use Rattle.xm_program.specs.Requests.{AskedAuction, AskedExplanation, calls_asked}
use Rattle.xm_program.specs.declared.concurrency.Concurrency.{Concurrency}
use Rattle.xm_program.specs.declared.concurrency.Concurrency.TheVariants.{Threads, Workers}
use Rattle.xm_program.specs.declared.outcome.Outcome.{Outcome}
use Rattle.xm_program.specs.declared.outcome.Outcome.TheVariants.{UnknownSecurity}
use Rattle.xm_config.specs.declared.config.SegmentConfig.{SegmentConfig}
use Rattle.xm_config.specs.declared.rows.Row.{Row}

-- how a day ends whose rows so many workers take, by how it ends where the rows have such days
pub record EndsByWorkers (workers : ℕ) (Ends : (SegmentConfig → List Row → Day → Type 0) → Type 0) : Type 0 where
  -- one worker takes them in their order
  pub alone : workers ≡ 1 → Ends InFileOrder
  -- several take each member's in their order
  pub shared : workers ≢ 1 → Ends (IsShared workers)

-- how a day ends whose rows are taken so: on threads, whatever their number, in their order
abbrev pub EndsBy : Concurrency → ((SegmentConfig → List Row → Day → Type 0) → Type 0) → Type 0
EndsBy (Threads threads) Ends = Ends InFileOrder
EndsBy (Workers workers) Ends = EndsByWorkers workers Ends

-- rows are taken so where that is said of them: on any number of threads where none is
abbrev pub IsChosen : Concurrency → Concurrency → Type 0
IsChosen (Threads None) (Threads threads) = ⊤
IsChosen (Threads None) (Workers workers) = ⊥
IsChosen said chosen = chosen ≡ said

-- the texts that go with rows that are taken so: workers tell nothing of them
abbrev pub asked_with : Concurrency → AskedTexts → AskedTexts
asked_with (Threads threads) asked = asked
asked_with (Workers workers) asked = nothing_asked

-- what the day of these files is, whose rows are taken so
abbrev pub IsDayBy : Concurrency → AskedTexts → HandsOn → DayFiles → Result DayTexts DayFault → Type 0
IsDayBy concurrency asked handing files made = EndsBy concurrency (λ days. IsDay days (asked_with concurrency asked) handing files made)

-- ---- how texts go out

-- a text that goes out, with what held it before and after
pub record Sending : Type 0 where
  pub old : Option (List ℕ)
  pub new : Option (List ℕ)
  pub text : List ℕ

-- known bytes grow by a beginning of the text, which may be all of it
abbrev pub AppendsBeginning : Option (List ℕ) → Option (List ℕ) → List ℕ → Type 0
AppendsBeginning old new text = (n : ℕ) × (n ≤ length text) × Appends old new (take n text)

-- all of each text is out
abbrev pub AreSent : List Sending → Type 0
AreSent [] = Unit {0}
AreSent (s ∷ more) = Appends s.old s.new s.text × AreSent more

-- nothing of any is
abbrev pub AreUnsent : List Sending → Type 0
AreUnsent [] = Unit {0}
AreUnsent (s ∷ more) = (s.new ≡ s.old) × AreUnsent more

-- a beginning of these texts is out, in this order: nothing of one unless all of those before it
abbrev pub AreBegun : List Sending → Type 0
AreBegun [] = Unit {0}
AreBegun (s ∷ more) = (AppendsBeginning s.old s.new s.text × AreUnsent more) ⊎ (Appends s.old s.new s.text × AreBegun more)

-- how texts go out, one after the other
abbrev pub SendingEnds : List Sending → Result (Unit {0}) DayFault → Type 0
SendingEnds texts (Ok done) = AreSent texts
SendingEnds texts (Err fault) = (fault ≡ WriteFailed) × AreBegun texts

-- what an output holds, before and after
pub record Held : Type 0 where
  pub old : Option (List ℕ)
  pub new : Option (List ℕ)

-- what holds the texts of a day: the output of its statement, and the files of its answers, of its trades, of its events, of its
-- levels, and of what it leaves
pub record DayOutputs : Type 0 where
  pub statement : Held
  pub answers : Held
  pub trades : Held
  pub events : Held
  pub depth : Held
  pub carry : Held

abbrev sending : Held → List ℕ → Sending
sending held text = record { old = held.old; new = held.new; text = text }

-- the texts of a day, in the order in which they go out
abbrev pub sendings : DayOutputs → DayTexts → List Sending
sendings out t =
    sending out.statement t.statement ∷ sending out.answers t.answers.items ∷ sending out.trades t.trades.items ∷ sending out.events t.events.items
    ∷ sending out.depth t.depth.items ∷ sending out.carry t.carry.items ∷ []

-- nothing went out
pub record AreUntouched (out : DayOutputs) : Type 0 where
  pub statement : out.statement.new ≡ out.statement.old
  pub answers : out.answers.new ≡ out.answers.old
  pub trades : out.trades.new ≡ out.trades.old
  pub events : out.events.new ≡ out.events.old
  pub depth : out.depth.new ≡ out.depth.old
  pub carry : out.carry.new ≡ out.carry.old

-- the texts of a day go out, and whether it is complete is answered; or its fault is told
abbrev pub DayIsSent : DayOutputs → Result DayTexts DayFault → Result Completeness DayFault → Type 0
DayIsSent out (Ok t) (Ok completeness) = (completeness ≡ t.completeness) × AreSent (sendings out t)
DayIsSent out (Ok t) (Err fault) = (fault ≡ WriteFailed) × AreBegun (sendings out t)
DayIsSent out (Err fault) (Ok completeness) = ⊥
DayIsSent out (Err fault) (Err again) = (again ≡ fault) × AreUntouched out

-- how a call ends that makes the day of these files, whose rows are taken so, and sends out its texts
pub record DayCallEnds (concurrency : Concurrency) (asked : AskedTexts) (handing : HandsOn) (files : DayFiles) (out : DayOutputs) (result : Result Completeness DayFault) : Type 0 where
  pub made : Result DayTexts DayFault
  pub is_day : IsDayBy concurrency asked handing files made
  pub is_sent : DayIsSent out made result

-- what a day hands on that goes on from earlier ones, and what one that doesn't
abbrev pub handing : Bool → HandsOn
handing true = WhatIsLeft
handing false = Nothing

-- a day ends so before a file is read
abbrev pub EndsUnread : Result Completeness DayFault → Type 0
EndsUnread result = (result ≡ Err WriteFailed) ⊎ (result ≡ Err (OutOfMemory tt))

-- the same where the files have some bytes, so many of them order files, among them a carry file if the day goes on from earlier ones, and
-- one that is to be written may be none that can be made, which is a failed write before anything is read; or there is no memory for the
-- list of the order files
abbrev pub FilesEnd : Concurrency → AskedTexts → Bool → ℕ → Option (List ℕ) → Option (List ℕ) → Result Completeness DayFault → Type 0
FilesEnd concurrency asked goes_on count old new result =
    ((files : DayFiles) × (is_some files.carried ≡ goes_on) × (length files.orders ≡ count) × (answers trades events depth carry : Held) × DayCallEnds concurrency asked (handing goes_on) files
    (record { statement = record { old = old; new = new }; answers = answers; trades = trades; events = events; depth = depth; carry = carry }) result)
    ⊎ (EndsUnread result × (new ≡ old))

-- a text goes out, or the fault is told in place of it
abbrev pub TextIsSent : Held → Result (Vec ℕ Global) DayFault → Result (Unit {0}) DayFault → Type 0
TextIsSent out (Ok text) result = SendingEnds (sending out text.items ∷ []) result
TextIsSent out (Err fault) (Ok done) = ⊥
TextIsSent out (Err fault) (Err again) = (again ≡ fault) × (out.new ≡ out.old)

-- how a call ends that checks a segment file of these bytes
pub record CheckCallEnds (segment : Option (List ℕ)) (out : Held) (result : Result (Unit {0}) DayFault) : Type 0 where
  pub made : Result (Vec ℕ Global) DayFault
  pub is_check : IsCheck segment made
  pub is_sent : TextIsSent out made result

-- the tables of the calls of a security of these files, or a fault of the rows
abbrev pub CallsRun : AskedAuction → DayFiles → Result (Vec ℕ Global) DayFault → Type 0
CallsRun a files result =
    (config : SegmentConfig) × (names : NameLists) × OpensBy files.segment files.carried config names
    × OrdersRun (λ texts. HasTables names a.security (calls_asked a)) config names files.orders result

-- the segment of these files has no security of this name
abbrev pub LacksSecurity : List ℕ → DayFiles → Type 0
LacksSecurity name files =
    (config : SegmentConfig) × (names : NameLists) × OpensBy files.segment files.carried config names
    × (position_or_len (bytes_eq name) names.securities ≡ length names.securities)

-- what the calls of a security of these files are: those of the rows, none where there is no such security, or a fault of the segment file or
-- of the carry file before them
abbrev pub AreCalls : AskedAuction → DayFiles → Result (Option (Vec ℕ Global)) DayFault → Type 0
AreCalls a files (Ok (Some text)) = CallsRun a files (Ok text)
AreCalls a files (Ok None) = LacksSecurity a.security files
AreCalls a files (Err (Segment fault)) = IsFileFault segment_of files.segment fault
AreCalls a files (Err (Carry fault)) = HasCarryFault files.segment files.carried fault
AreCalls a files (Err fault) = CallsRun a files (Err fault)

-- they go out; where there is no such security that is the outcome; or the fault is told in place of them
abbrev pub CallsAreSent : Held → Result (Option (Vec ℕ Global)) DayFault → Result Outcome DayFault → Type 0
CallsAreSent out (Ok (Some text)) result = (sent : Result (Unit {0}) DayFault) × SendingEnds (sending out text.items ∷ []) sent × (result ≡ done_after sent)
CallsAreSent out (Ok None) result = (result ≡ Ok UnknownSecurity) × (out.new ≡ out.old)
CallsAreSent out (Err fault) result = (result ≡ Err fault) × (out.new ≡ out.old)

-- how a call ends that tells the calls of a security of these files
pub record AuctionCallEnds (a : AskedAuction) (files : DayFiles) (out : Held) (result : Result Outcome DayFault) : Type 0 where
  pub made : Result (Option (Vec ℕ Global)) DayFault
  pub are_calls : AreCalls a files made
  pub is_sent : CallsAreSent out made result

-- an explanation of a day, and its text
pub record HasExplained (d : ReadDay) (text : List ℕ) (outcome : Outcome) : Type 0 where
  pub explanation : Explanation
  pub is_explained : IsExplained d explanation
  pub are_lines : AreLines explanation text
  pub comes_to : outcome ≡ explained explanation

-- how a call ends that explains a day of files that were read so: the text of an explanation of it goes out; or there is no memory for it
abbrev pub ExplanationEnds : ReadDay → Held → Result Outcome DayFault → Type 0
ExplanationEnds d out (Ok outcome) = (text : List ℕ) × HasExplained d text outcome × Appends out.old out.new text
ExplanationEnds d out (Err WriteFailed) = (text : List ℕ) × (outcome : Outcome) × HasExplained d text outcome × AreBegun (sending out text ∷ [])
ExplanationEnds d out (Err (OutOfMemory _)) = out.new ≡ out.old
ExplanationEnds d out (Err fault) = ⊥

-- files were read for what is asked: they are told by the paths that the words give
pub record IsReadFor (e : AskedExplanation) (d : ReadDay) : Type 0 where
  pub segment : d.segment.path.now ≡ e.segment
  pub carried : option_map (λ (file : ReadFile). file.path.now) d.carried ≡ e.carried
  pub orders : map (λ (file : ReadFile). file.path.now) d.orders.items ≡ e.orders
