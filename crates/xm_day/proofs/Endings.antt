-- How a run of a day ends.
use Rattle.std.proofs.Common.{◌≡◌, ℕ, List, Option, Result, Ok, Err, IfErr, sym, subst, Vec}
use Rattle.std.specs.Global.{Global}
use Rattle.xm_day.specs.Answers.{IsOfWriting, IsSegmentOf, OrdersRun}
use Rattle.xm_replay.specs.Taken.{HasTaken, RowsTaken}
use Rattle.xm_day.specs.Checks.{IsCheck, OpensTo}
use Rattle.xm_replay.specs.declared.desks.OpenDay.{OpenDay}
use Rattle.xm_files.specs.Names.{NameLists}
use Rattle.xm_config.specs.declared.config.SegmentConfig.{SegmentConfig}
use Rattle.xm_replay.specs.declared.faults.DayFault.{DayFault}
use Rattle.xm_texts.specs.declared.asked.AskedTexts.{AskedTexts}
use Rattle.xm_replay.specs.declared.faults.DayFault.TheVariants.{Segment, Carry, Orders, Open, OutOfMemory, WriteFailed}

-- a failed write is one of writing
pub failed-of_writing : {A : Type 0} (r : Result A DayFault) → IfErr r (λ fault. fault ≡ WriteFailed) → IfErr r IsOfWriting
failed-of_writing (Ok done) is = tt
failed-of_writing (Err fault) is = subst IsOfWriting (sym is) tt

-- a segment file was read, and its segment checked
pub checked : (segment : Option (List ℕ)) (config : SegmentConfig) (names : NameLists) (result : Result (Vec ℕ Global) DayFault) → IsSegmentOf segment config names → OpensTo config result → IsCheck segment result
checked segment config names (Ok line) read opens = (config, names, read, opens)
checked segment config names (Err (Segment fault)) read opens = absurd opens
checked segment config names (Err (Carry fault)) read opens = absurd opens
checked segment config names (Err (Orders fault)) read opens = absurd opens
checked segment config names (Err (Open fault)) read opens = (config, names, read, opens)
checked segment config names (Err (OutOfMemory _)) read opens = (config, names, read, opens)
checked segment config names (Err WriteFailed) read opens = absurd opens

-- ---- a day whose rows are taken

-- it isn't told at which row memory was wanting
pub taken-anyhow : (asked : AskedTexts) (config : SegmentConfig) (names : NameLists) (orders : List (Option (List ℕ))) (taken : Result OpenDay DayFault) → OrdersRun (HasTaken asked names) config names orders taken → OrdersRun (RowsTaken asked names) config names orders taken
taken-anyhow asked config names orders (Ok d) run = run
taken-anyhow asked config names orders (Err (Segment fault)) run = run
taken-anyhow asked config names orders (Err (Carry fault)) run = run
taken-anyhow asked config names orders (Err (Orders fault)) run = run
taken-anyhow asked config names orders (Err (Open fault)) run = run
taken-anyhow asked config names orders (Err (OutOfMemory _)) run = (run.0, run.1, run.2, run.3, run.4.0)
taken-anyhow asked config names orders (Err WriteFailed) run = run
