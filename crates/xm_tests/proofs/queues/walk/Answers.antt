use Rattle.xm_tests.proofs.Keys.{has_room}
use Rattle.xm_tests.proofs.queues.walk.Goals as goal

pub next-at-requires : goal.next-at-requires
next-at-requires g c =
    let within = rw c.deref-key-items.ensures.value at c.loop-key-test.true in
    rw c.deref-key-items.ensures.value
    (has_room c.args.queues.now c.args.line.now.ends c.args.line.now.keys.items c.loop-key.key-index c.requires within)
