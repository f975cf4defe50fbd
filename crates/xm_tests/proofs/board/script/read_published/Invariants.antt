use Rattle.xm_tests.proofs.board.script.read_published.Given as goal

abbrev pub ghosts-read_beside : goal.ghosts-read_beside
ghosts-read_beside g a = record { table = a.opened.table }
