use Rattle.xm_segment.specs.Names.{board_names, ledger_names}
use Rattle.xm_desk_tests.proofs.segment.many.run.Given as goal

abbrev pub ghosts-run_named : goal.ghosts-run_named
ghosts-run_named g a = record {
  settings = a.opened.settings;
  ledgers = ledger_names a.opened.ledgers;
  boards = board_names a.opened.boards;
  workers = a.opened.workers;
}
