use Rattle.xm_files.proofs.WideRecords.{wide-listed}
use Rattle.xm_files.proofs.carry.wide_line.Goals as goal

pub returns : goal.returns
returns c = wide-listed c.args.text.now _ c.in_ok-behind_line_feed.ensures.fed c.in_ok-begin_wide.ensures
