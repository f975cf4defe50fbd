use Rattle.xm_segment.specs.Names.{board_names, ledger_names}
use Rattle.xm_desk_tests.proofs.segment.held.quote_while_held.Given as goal

abbrev pub ghosts-held_named : goal.ghosts-held_named
ghosts-held_named g a = record {
  settings = a.opened.settings;
  ledgers = ledger_names a.opened.ledgers;
  boards = board_names a.opened.boards;
  workers = a.opened.workers;
}
