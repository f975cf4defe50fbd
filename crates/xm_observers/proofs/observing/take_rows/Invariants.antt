use Rattle.std.proofs.Common.{◌≡◌, ◌≤◌, ◌+◌, take}
use Rattle.xm_config.specs.Day.{after_rows, day_of}
use Rattle.xm_observers.specs.Observed.{seen_of_rows}
use Rattle.xm_observers.proofs.observing.take_rows.Given as goal

abbrev pub invariant-loop-row : goal.invariant-loop-row
invariant-loop-row g l = record {
  so_far : day_of l.desks l.report.accepted l.report.refused ≡ after_rows (day_of l.initial.desks l.fn.before.accepted l.fn.before.refused) (take l.row-index l.rows);
  seen : g.O.Observer.seen l.observer ≡ seen_of_rows g.O.Observer.next (g.O.Observer.seen l.initial.observer) (day_of l.initial.desks l.fn.before.accepted l.fn.before.refused) (take l.row-index l.rows);
  counted : l.report.accepted + l.report.refused ≡ l.fn.before.accepted + l.fn.before.refused + l.row-index;
  rows : g.O.Observer.rows (g.O.Observer.seen l.observer) ≤ l.report.accepted + l.report.refused;
}
