use Rattle.std.proofs.Common.{sym, ◌∙◌}
use Rattle.xm_stops.proofs.Indexing.{entry-found, unnamed}
use Rattle.xm_stops.proofs.stops.Stops.find.Goals as goal

pub returns : goal.returns
returns g c =
    let b = c.self.inside in
    rw (← c.self.view_is) (c.stop_of.ensures ∙ entry-found b.queues b.names c.self.invariant c.args.member c.args.reference c.in_ok-key.key c.in_ok-key.ensures _ c.get-2.ensures.there)

pub returns-in_err-key : goal.returns-in_err-key
returns-in_err-key g c =
    let b = c.self.inside in
    rw (c.from_residual.ensures, ← c.self.view_is) (sym (unnamed b.queues b.names c.self.invariant c.args.member c.args.reference c.in_err-key.ensures))
