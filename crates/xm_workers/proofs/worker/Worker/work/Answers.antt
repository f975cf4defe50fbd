use Rattle.std.proofs.Common.{◌≡◌, ◌+◌, ap, arith, refl, rules, subst}
use Rattle.std.specs.Prelude.{None, sum}
use Rattle.xm_workers.proofs.Chains.{worked-by}
use Rattle.xm_workers.proofs.Worked.{accepted-within}
use Rattle.xm_workers.specs.Workers.{HasWorked, WorkerView}
use Rattle.xm_workers.proofs.worker.Worker.work.Goals as goal

pub overflow_add-self : goal.overflow_add-self
overflow_add-self g c =
    let more = accepted-within g.S.Naming.settings c.self.inside.seat c.work-report.new.seat c.args.rows.now c.work-report.result c.work-report.ensures.answers in
    let before = ap (λ (w : WorkerView). w.report.accepted + w.report.refused) c.self.view_is in
    omega (arith, more, before, c.requires.0)

pub work-report-requires : goal.work-report-requires
work-report-requires g c = c.requires.1

pub returns : goal.returns
returns g c =
    let report = c.work-report.result in
    let none : report.wanting ≡ None = search rules in
    let all : c.sum.result ≡ sum report.refused = search rules in
    let before : WorkerView = record { seat = c.self.inside.seat; report = c.self.inside.report } in
    let after : WorkerView = record { seat = c.work-report.new.seat; report = record { accepted = c.self.inside.report.accepted + report.accepted; refused = c.self.inside.report.refused + c.sum.result } } in
    let refused = ap (λ n. c.self.inside.report.refused + n) all in
    let worked = worked-by g.S.Naming.settings before after c.args.rows.now report c.work-report.ensures.answers none (c.work-report.ensures.all none) refl refused in
    subst (λ (w : WorkerView). HasWorked g.S.Naming.settings c.args.rows.now w after) c.self.view_is worked
