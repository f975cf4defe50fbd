-- Rows that aren't all taken.
use Rattle.std.proofs.Common.{◌≡◌, ℕ, List, [], None, Result, Ok, Err, refl, sym, subst}
use Rattle.std.specs.Result.{IsErrAnd}
use Rattle.xm_config.specs.Day.{LacksMemoryAt, opening_day}
use Rattle.xm_texts.specs.Asked.{AsksNothing}
use Rattle.xm_texts.proofs.Tells.{agree-with_itself}
use Rattle.xm_replay.specs.Taken.{HasTaken, RowsRun, TakesOn, taken_so_far}
use Rattle.xm_replay.specs.declared.desks.OpenDay.{OpenDay}
use Rattle.xm_replay.specs.declared.faults.DayFault.{DayFault}
use Rattle.xm_replay.specs.declared.faults.DayFault.TheVariants.{OutOfMemory}
use Rattle.xm_texts.specs.declared.asked.AskedTexts.{AskedTexts}
use Rattle.xm_files.specs.Batches.{RowsLeft}
use Rattle.xm_files.specs.Names.{NameLists}
use Rattle.xm_files.specs.declared.file_faults.FileFault.{FileFault}
use Rattle.xm_config.specs.Opening.{segment_fault}
use Rattle.xm_config.specs.declared.config.SegmentConfig.{SegmentConfig}
use Rattle.xm_config.specs.declared.rows.Row.{Row}

-- want of memory is told as such
pub if_memory : (asked : AskedTexts) (names : NameLists) (texts : ℕ → List ℕ) (config : SegmentConfig) (rows : List Row) (result : Result OpenDay DayFault) → IsErrAnd result (λ fault. fault ≡ OutOfMemory tt) → segment_fault config ≡ None
    → (AsksNothing asked → LacksMemoryAt (opening_day config) rows) → HasTaken asked names texts config rows result
if_memory asked names texts config rows (Ok d) is sound lacks = absurd is
if_memory asked names texts config rows (Err fault) is sound lacks = subst (λ (f : DayFault). HasTaken asked names texts config rows (Err f)) (sym is) (sound, lacks)

-- desks that were opened just now have taken no row
pub none-taken : (asked : AskedTexts) (names : NameLists) (own : ℕ → List ℕ) (config : SegmentConfig) (day : Result OpenDay DayFault) → HasTaken asked names own config [] day → taken_so_far day ≡ 0
none-taken asked names own config (Ok d) begun = begun.all
none-taken asked names own config (Err fault) begun = refl

-- desks that were opened, and then took the rows of a file
pub run-begun : (asked : AskedTexts) (names : NameLists) (own : ℕ → List ℕ) (config : SegmentConfig) (file : RowsLeft) (day : Result OpenDay DayFault) (result : Result (Result OpenDay DayFault) FileFault)
    → HasTaken asked names own config [] day → RowsRun (TakesOn names own day) config names file result → RowsRun (HasTaken asked names own) config names file result
run-begun asked names own config file day (Ok after) begun run = (run.0, run.1, run.2 asked own [] (agree-with_itself own run.0) begun)
run-begun asked names own config file day (Err fault) begun run = run
