use Rattle.xm_files.proofs.WideRecords.{HasRead}
use Rattle.xm_files.specs.Plain.{rest_of}
use Rattle.xm_files.proofs.wide.begin_wide.Given as goal

abbrev pub invariant-loop-place : goal.invariant-loop-place
invariant-loop-place l = HasRead (rest_of l.fn.marks) l._place (rest_of l.marks)
