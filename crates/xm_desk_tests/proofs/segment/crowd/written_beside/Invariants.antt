use Rattle.xm_segment.specs.Names.{board_names, ledger_names}
use Rattle.xm_desk_tests.proofs.segment.crowd.written_beside.Given as goal

abbrev pub ghosts-crowd_named : goal.ghosts-crowd_named
ghosts-crowd_named g a = record {
  settings = a.opened.settings;
  ledgers = ledger_names a.opened.ledgers;
  boards = board_names a.opened.boards;
  workers = a.opened.workers;
}
