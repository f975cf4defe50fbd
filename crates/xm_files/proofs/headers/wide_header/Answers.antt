use Rattle.xm_files.proofs.WideRecords.{wide-carry, wide-header}
use Rattle.xm_files.proofs.headers.wide_header.Goals as goal

pub returns-clause-orders : goal.returns-clause-orders
returns-clause-orders c = wide-header c.args.text.now c.in_ok-unmarked.ensures.unmarked (rw c.in_ok-unmarked.ensures.whole at c.in_ok-begin_wide.ensures)

pub returns-clause-carry : goal.returns-clause-carry
returns-clause-carry c = wide-carry c.args.text.now c.in_ok-unmarked.ensures.unmarked (rw c.in_ok-unmarked.ensures.whole at c.in_ok-begin_wide.ensures)
