use Rattle.std.proofs.Common.{◌∙◌, ◌<◌, length, refl, ap, sym, arith}
use Rattle.std.proofs.lemmas.List.{take_all}
use Rattle.xm_config.proofs.Days.{rows-step}
use Rattle.xm_config.specs.Day.{after_rows, day_of}
use Rattle.xm_observers.proofs.Seeing.{seen-more}
use Rattle.xm_observers.specs.Observed.{seen_of_rows}
use Rattle.xm_observers.proofs.observing.take_rows.Goals as goal

pub loop-row-init : goal.loop-row-init
loop-row-init g c = record { so_far = refl; seen = refl; counted = omega arith; rows = c.requires.rows }

pub loop-row-preserved : goal.loop-row-preserved
loop-row-preserved g c =
    let rows = c.args.rows.now in
    let old = c.loop-row.report in
    let begun = day_of c.args.desks.now c.args.before.accepted c.args.before.refused in
    let i = c.loop-row.row-index in
    let within : i < length rows = omega arith in
    record {
      so_far = rows-step begun c.loop-row.desks rows i _ old.accepted old.refused _ within c.loop-row.invariant.so_far (sym c.in_ok-take_row.ensures.taken);
      seen = seen-more g.O.Observer.next (g.O.Observer.seen c.args.observer.now) _ _ begun _ rows i _ within c.loop-row.invariant.so_far c.loop-row.invariant.seen c.in_ok-take_row.ensures.seen;
      counted = omega (arith, c.loop-row.invariant.counted, c.in_ok-take_row.ensures.counted);
      rows = c.in_ok-take_row.ensures.rows;
    }

pub returns-clause-taken : goal.returns-clause-taken
returns-clause-taken g c =
    let rows = c.args.rows.now in
    c.loop-row.invariant.so_far ∙ ap (after_rows (day_of c.args.desks.now c.args.before.accepted c.args.before.refused)) (take_all c.loop-row.row-index rows (omega arith))

pub returns-clause-seen : goal.returns-clause-seen
returns-clause-seen g c =
    let rows = c.args.rows.now in
    c.loop-row.invariant.seen
    ∙ ap (seen_of_rows g.O.Observer.next (g.O.Observer.seen c.args.observer.now) (day_of c.args.desks.now c.args.before.accepted c.args.before.refused)) (take_all c.loop-row.row-index rows (omega arith))
