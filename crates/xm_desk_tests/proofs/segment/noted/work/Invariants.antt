use Rattle.xm_segment.specs.Names.{board_names, ledger_names}
use Rattle.xm_desk_tests.proofs.segment.noted.work.Given as goal

abbrev pub ghosts-work_named : goal.ghosts-work_named
ghosts-work_named g a = record {
  settings = a.opened.settings;
  ledgers = ledger_names a.opened.ledgers;
  boards = board_names a.opened.boards;
  workers = a.opened.workers;
}
