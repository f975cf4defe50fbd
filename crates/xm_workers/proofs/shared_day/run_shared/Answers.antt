use Rattle.std.proofs.Common.{◌≡◌, ℕ, Result, Ok, Err, refl, sym}
use Rattle.std.specs.Prelude.{IfOk}
use Rattle.xm_workers.proofs.Sharing.{opened-is}
use Rattle.xm_workers.proofs.shared_day.run_shared.Invariants.{opened_in}
use Rattle.xm_config.specs.declared.opening.OpenFault.{OpenFault}
use Rattle.xm_segment.specs.Names.{NamesSegment, UnnamedSegment, board_names, ledger_names}
use Rattle.xm_workers.proofs.shared_day.run_shared.Goals as goal

named : (workers : ℕ) (opened : Result UnnamedSegment OpenFault) → IfOk opened (λ o. o.workers ≡ workers)
    → IfOk opened (λ o. NamesSegment (opened_in opened).settings (ledger_names (opened_in opened).ledgers) (board_names (opened_in opened).boards) workers o)
named workers (Ok o) is = record { settings_are = refl; ledgers_are = refl; boards_are = refl; workers_are = sym is }
named workers (Err fault) is = tt

pub run_named-requires-clause-named : goal.run_named-requires-clause-named
run_named-requires-clause-named g c = λ κs within. named c.args.workers c.new-opened.result c.new-opened.ensures.workers

pub run_named-requires-clause-opened : goal.run_named-requires-clause-opened
run_named-requires-clause-opened g c = λ κs within.
    let o = c.new-opened.ensures in
    opened-is c.args.config.now c.args.workers c.new-opened.result c.requires.few o.settings o.workers o.sound o.refused o.memory
