use Rattle.std.proofs.Common.{List, ◌++◌, length, ap, sym, subst, ◌∙◌, arith}
use Rattle.std.proofs.lemmas.List.{length-append}
use Rattle.xm_config.proofs.Days.{after_rows-append, lent_back}
use Rattle.xm_config.specs.Day.{Day, after_rows, day_of, opening_day}
use Rattle.xm_rules.specs.Step.{Journal}
use Rattle.xm_observers.proofs.Seeing.{if_memory, seen-append}
use Rattle.xm_observers.specs.Observed.{HasObserved, seen_of_rows}
use Rattle.xm_observers.proofs.observing.observe_more.Goals as goal

pub returns-clause-taken : goal.returns-clause-taken
returns-clause-taken g c = λ config first taken has.
    let seen = g.O.Observer.seen in
    let next = g.O.Observer.next in
    let old = c.in_ok-desks.field-0 in
    let new = c.take_rows.new.desks in
    let report = c.in_ok-report.report in
    let rows = c.args.rows.now in
    let before = subst (HasObserved seen next first config taken) c.in_ok-desks.was has in
    let kept = c.take_rows.auto.desks ∙ ap length c.as_mut_slice.ensures.value in
    let lent = lent_back new old.desks.items old.desks.len kept old.desks.ok.0 in
    let day = ap (λ (js : List Journal). day_of js old.report.accepted old.report.refused) c.as_mut_slice.ensures.value ∙ before.day_is in
    let both = length-append taken rows in
    let counted = c.in_ok-report.ensures.counted in
    let count = before.all in
    record {
      sound = before.sound;
      each = ap length lent ∙ kept ∙ before.each;
      day_is = ap (λ (js : List Journal). day_of js report.accepted report.refused) lent
          ∙ c.in_ok-report.ensures.taken
          ∙ ap (λ (d : Day). after_rows d rows) day
          ∙ sym (after_rows-append (opening_day config) taken rows);
      all = omega (arith, both, counted, count);
      seen_is = c.in_ok-report.ensures.seen
          ∙ ap (λ (d : Day). seen_of_rows next (seen old.observer) d rows) day
          ∙ ap (λ s. seen_of_rows next s (after_rows (opening_day config) taken) rows) before.seen_is
          ∙ sym (seen-append next first (opening_day config) taken rows);
    }

pub returns-in_err-report-clause-taken : goal.returns-in_err-report-clause-taken
returns-in_err-report-clause-taken g c = λ config first taken has.
    let before = subst (HasObserved g.O.Observer.seen g.O.Observer.next first config taken) c.in_ok-desks.was has in
    if_memory g.O.Observer.seen g.O.Observer.next first config (taken ++ c.args.rows.now) c.from_residual-in_err-report.result c.from_residual-in_err-report.ensures.1 before.sound
