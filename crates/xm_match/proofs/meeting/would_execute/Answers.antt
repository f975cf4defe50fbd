use Rattle.std.proofs.Common.{◌∙◌}
use Rattle.xm_match.proofs.Meetings.{meets-any}
use Rattle.xm_match.proofs.meeting.would_execute.Goals as goal

pub returns : goal.returns
returns g c = c.meets_any.ensures ∙ meets-any c.args.book.now.orders c.args.order.now
