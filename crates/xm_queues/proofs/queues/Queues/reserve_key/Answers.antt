use Rattle.std.proofs.Common.{◌≡◌, ℕ, ◌≤◌, Bool, true, false, cond, ◌∙◌, ◌+◌, is_ok, length, vec_len, ap, arith}
use Rattle.xm_queues.proofs.Changes.{queue_kept}
use Rattle.xm_queues.specs.Queue.{no_link}
use Rattle.xm_queues.proofs.queues.Queues.reserve_key.Goals as goal

longer_if : (b : Bool) (old new more : ℕ) → new ≡ cond b more old → old ≤ more → old ≤ new
longer_if true old new more is longer = omega arith
longer_if false old new more is longer = omega arith

pub returns-clause-same : goal.returns-clause-same
returns-clause-same g c = λ ends keys q.
    let old : vec_len c.self.inside.links ≡ length c.args.self.now = c.self.inside.links.ok.0 ∙ ap length c.self.view_is in
    let new : vec_len c.resize.new.self ≡ length c.resize.new.self.items = c.resize.new.self.ok.0 in
    let more : vec_len c.self.inside.links ≤ vec_len c.resize.new.self = longer_if (is_ok c.resize.result) (vec_len c.self.inside.links) (vec_len c.resize.new.self) (c.args.key + 1) c.resize.ensures.len (omega arith) in
    queue_kept c.args.self.now c.resize.new.self.items ends keys (omega arith)
    (λ k at within. rw (← c.self.view_is) (c.resize.ensures.by_index.0 k no_link (omega arith) (omega arith))) q
