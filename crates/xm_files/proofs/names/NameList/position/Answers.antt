use Rattle.std.proofs.Common.{sym}
use Rattle.xm_files.proofs.NameFacts.{no_text}
use Rattle.xm_files.proofs.names.NameList.position.Goals as goal

pub returns-in-Err : goal.returns-in-Err
returns-in-Err c = rw (← c.self.view_is) (sym (no_text c.args.bytes.now c.self.inside.names.items c.in-Err.ensures.cases.0))
