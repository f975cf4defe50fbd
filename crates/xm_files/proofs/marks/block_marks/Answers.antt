use Rattle.std.proofs.Common.{ap, ◌∙◌}
use Rattle.xm_files.proofs.Marked.{loaded}
use Rattle.xm_files.specs.Plain.{is_mark}
use Rattle.xm_files.proofs.marks.block_marks.Goals as goal

pub returns : goal.returns
returns c k below mark = c.marks_of.ensures k below (ap is_mark (loaded c.args.text.now c.args.block k below) ∙ mark)
