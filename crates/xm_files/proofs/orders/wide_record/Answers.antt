use Rattle.xm_files.proofs.WideRecords.{wide-record}
use Rattle.xm_files.proofs.orders.wide_record.Goals as goal

pub returns : goal.returns
returns c = wide-record c.args.text.now _ c.in_ok-behind_line_feed.ensures.fed c.in_ok-begin_wide.ensures
