use Rattle.std.proofs.Common.{◌++◌, ◌∷◌, [], ◌-◌, ◌∙◌}
use Rattle.xm_stops.proofs.Indexing.{stop-taken}
use Rattle.xm_stops.proofs.taking.take_at.Goals as goal

pub returns-clause-indexed : goal.returns-clause-indexed
returns-clause-indexed g c =
    let out = c.take-entry in
    stop-taken c.args.queues.now c.args.names.now c.requires.indexed c.args.key c.requires.there out.result out.ensures.entry out.ensures.distinct out.new.self out.ensures.left c.remove.new.self c.remove.ensures.names c.remove.ensures.reserved

pub returns-clause-pending : goal.returns-clause-pending
returns-clause-pending g c x there same =
    c.push.ensures ∙ (λ i. record (c.args.pending.now) { entries = c.args.pending.now.entries ++ c.take-entry.ensures.entry x there same i ∷ []; room = c.args.pending.now.room - 1 })
