use Rattle.xm_stories.proofs.Retelling.{put_together}
use Rattle.xm_stories.proofs.stories.seen_story.Goals as goal

pub returns : goal.returns
returns g c = λ s t b a.
    put_together s t c.args.command.now c.args.before.now c.args.after.now c.args.trades.now c.args.triggered.now b a c.new-events.result.items c.push_own.new.events.items
    c.push_arrivals.new.events.items c.between-between.result c.numbered_so.result c.last_price-last.result c.split_at.result.0.now c.split_at.result.1.now
    c.new-events.ensures.items (c.in_ok-push_own.ensures s b) c.between-between.ensures c.numbered_so.ensures.count c.split_at.ensures.front c.split_at.ensures.back
    c.last_price-last.ensures c.in_ok-push_arrivals.ensures
