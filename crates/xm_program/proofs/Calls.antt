-- The calls of a security, by the rows of its day, or the fault of its files.
use Rattle.std.proofs.Common.{ℕ, List, Some, Option, Result, Ok, Err}
use Rattle.std.specs.Global.{Global}
use Rattle.std.specs.Prelude.{Vec}
use Rattle.xm_calls.specs.Calls.{HasTables}
use Rattle.xm_config.specs.declared.config.SegmentConfig.{SegmentConfig}
use Rattle.xm_day.specs.Days.{DayFiles, OpeningRead, OpensBy}
use Rattle.xm_files.specs.Names.{NameLists}
use Rattle.xm_program.specs.Days.{AreCalls}
use Rattle.xm_program.specs.Requests.{AskedAuction, calls_asked}
use Rattle.xm_replay.specs.Taken.{FilesRun}
use Rattle.xm_replay.specs.declared.faults.DayFault.{DayFault}
use Rattle.xm_replay.specs.declared.faults.DayFault.TheVariants.{Segment, Carry, Orders, Open, OutOfMemory, WriteFailed}

module _ (a : AskedAuction) (files : DayFiles) where
  -- the segment file or the carry file has a fault
  pub calls-unopened : (fault : DayFault) → OpeningRead files.segment files.carried (Err fault) → AreCalls a files (Err fault)
  calls-unopened (Segment fault) read = read
  calls-unopened (Carry fault) read = read
  calls-unopened (Orders fault) read = absurd read
  calls-unopened (Open fault) read = absurd read
  calls-unopened (OutOfMemory _) read = absurd read
  calls-unopened WriteFailed read = absurd read

  module _ (config : SegmentConfig) (names : NameLists) (is : OpensBy files.segment files.carried config names) where
    -- they have none, and the rows have none
    pub calls-told : (text : Vec ℕ Global) → FilesRun (λ texts. HasTables names a.security (calls_asked a)) config names files.orders (Ok (Ok text)) → AreCalls a files (Ok (Some text))
    calls-told text run = (config, names, is, run)

    -- the segment can't be opened, or memory is wanting
    pub calls-not-run : (fault : DayFault) → FilesRun (λ texts. HasTables names a.security (calls_asked a)) config names files.orders (Ok (Err fault)) → AreCalls a files (Err fault)
    calls-not-run (Segment fault) run = absurd run.4
    calls-not-run (Carry fault) run = absurd run.4
    calls-not-run (Orders fault) run = absurd run.4
    calls-not-run (Open fault) run = (config, names, is, run)
    calls-not-run (OutOfMemory _) run = (config, names, is, run)
    calls-not-run WriteFailed run = absurd run.4
