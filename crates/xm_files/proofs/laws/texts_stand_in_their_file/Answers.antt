use Rattle.xm_files.proofs.TextsInFiles.{text-in-done, text-in-next}
use Rattle.xm_files.proofs.laws.texts_stand_in_their_file.Goals as goal

pub returns-clause-own : goal.returns-clause-own
returns-clause-own c = text-in-next

pub returns-clause-earlier : goal.returns-clause-earlier
returns-clause-earlier c = text-in-done
