use Rattle.std.proofs.Common.{◌≡◌, ℕ, true, refl, subst, arith}
use Rattle.std.specs.List.{list_all}
use Rattle.xm_slots.specs.Listing.{is_below, is_other_key, is_done, stays}
use Rattle.xm_stops.specs.Reasons.{is_leaving}
use Rattle.xm_stops.specs.declared.taking.Reason.TheVariants.{Expired}
use Rattle.xm_stops.proofs.Draining.{drained-more, none-drained, some-room}
use Rattle.xm_slots.proofs.Expiring.{all-kept, all-more, left-more, none-done, none-leaves}
use Rattle.xm_stops.proofs.taking.drain_expired.Goals as goal
use Rattle.xm_stops.proofs.taking.drain_expired.Goals.{then-has_expired, else-has_expired}

pub loop-key-init : goal.loop-key-init
loop-key-init g c = record {
  indexed = c.requires.indexed;
  drained = none-drained (is_leaving (Expired c.args.today)) c.args.queues.now c.args.pending.now;
  below = c.key_limit-key-end.ensures;
  done = none-done (stays (is_leaving (Expired c.args.today))) c.args.queues.now.stops;
}

pub take_at-requires-clause-room : goal.take_at-requires-clause-room
take_at-requires-clause-room g c =
    some-room (is_leaving (Expired c.args.today)) c.args.queues.now c.loop-key.queues c.args.pending.now c.loop-key.pending c.loop-key.invariant.drained c.loop-key.key (c.if-has_expired.ensures.expired refl) c.requires.room

pub loop-key-preserved : goal.loop-key-preserved
loop-key-preserved g c =
    let leaves = is_leaving (Expired c.args.today) in
    let q = c.loop-key.queues in
    let key = c.loop-key.key in
    let kept = c.loop-key.invariant in
    elim c.if-has_expired.branch [
      | then-has_expired w ↦
          (let out = w.take_at in
          let at = w.if-has_expired.ensures.expired refl in
          let some = some-room leaves c.args.queues.now q c.args.pending.now c.loop-key.pending kept.drained key at c.requires.room in
          rw (w.queues-is, w.names-is, w.pending-is) (record {
            indexed = out.ensures.indexed;
            drained = drained-more leaves c.args.queues.now q out.new.queues c.args.pending.now c.loop-key.pending out.new.pending key at out.ensures.distinct out.ensures.left some out.ensures.pending kept.drained;
            below = rw out.ensures.left (all-kept (is_below c.key_limit-key-end.result) (is_other_key key) q.stops kept.below);
            done = rw out.ensures.left (left-more (stays leaves) key q.stops kept.done);
          }))
      | else-has_expired w ↦
          rw (w.queues-is, w.names-is, w.pending-is) (record {
            indexed = kept.indexed;
            drained = kept.drained;
            below = kept.below;
            done = all-more (stays leaves) key q.stops kept.done (w.if-has_expired.ensures.valid refl);
          })
    ]

pub returns-clause-all : goal.returns-clause-all
returns-clause-all g c =
    let at = c.loop-key in
    let leaves = is_leaving (Expired c.args.today) in
    let limit = c.key_limit-key-end.result in
    let last : at.key ≡ limit = omega (arith, c.loop-key-test.false, at.auto.key-end) in
    none-leaves leaves limit at.queues.stops at.invariant.below (subst (λ (n : ℕ). list_all (is_done (stays leaves) n) at.queues.stops ≡ true) last at.invariant.done)
