use Rattle.xm_tests.proofs.board.read.Given as goal

abbrev pub ghosts-read_on : goal.ghosts-read_on
ghosts-read_on g a = record { table = a.opened.table }
