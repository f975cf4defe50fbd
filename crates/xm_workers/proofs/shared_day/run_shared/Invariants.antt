use Rattle.std.proofs.Common.{Result, Ok, Err, []}
use Rattle.xm_config.specs.declared.opening.OpenFault.{OpenFault}
use Rattle.xm_segment.specs.Names.{UnnamedSegment, board_names, ledger_names}
use Rattle.xm_workers.proofs.shared_day.run_shared.Given as goal

-- where there is no segment, any name serves
abbrev pub opened_in : Result UnnamedSegment OpenFault → UnnamedSegment
opened_in (Ok opened) = opened
opened_in (Err fault) = record { settings = []; boards = []; ledgers = []; workers = 0; watchers = 0 }

abbrev pub ghosts-run_named : goal.ghosts-run_named
ghosts-run_named g a = record {
  settings = (opened_in a.opened).settings;
  ledgers = ledger_names (opened_in a.opened).ledgers;
  boards = board_names (opened_in a.opened).boards;
  workers = a.workers;
}
