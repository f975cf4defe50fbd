use Rattle.std.proofs.Common.{rules, ◌≡◌, ◌++◌, Some, drop, length, take, take-append-drop, true, ap, arith, subst, sym, ◌∙◌}
use Rattle.std.specs.Prelude.{List, slice_get, slice_set}
use Rattle.std.specs.List.{list_all}
use Rattle.std.proofs.lemmas.List.{length-append}
use Rattle.std.proofs.lemmas.Option.{gets}
use Rattle.xm_workers.proofs.Chains.{round-work, set-taken}
use Rattle.xm_workers.proofs.RoundRows.{is_phase, phases-after}
use Rattle.xm_workers.specs.Workers.{HaveWorked, WorkerView, rows_of, taken_by}
use Rattle.xm_files.specs.Timetable.{is_of_member}
use Rattle.xm_config.specs.declared.rows.Row.{Row}
use Rattle.xm_workers.proofs.shared_day.SharedDay.take_round.Goals as goal

pub returns-clause-worked : goal.returns-clause-worked
returns-clause-worked g c =
    let settings = g.S.Naming.settings in
    let rows = c.args.rows.now in
    let k = c.first_phase.result in
    let members = c.split_at.result.0.now in
    let phases = c.split_at.result.1.now in
    let ws = c.self.inside.workers.items in
    let first = c.index_mut.result.now in
    let at : slice_get c.in_ok-workers.workers.items 0 ≡ Some first = search (rules, gets) in
    let front : members ≡ take k rows = c.split_at.ensures.front in
    let back : phases ≡ drop k rows = c.split_at.ensures.back in
    let whole : members ++ phases ≡ rows = (λ i. front i ++ back i) ∙ take-append-drop k rows in
    let all : list_all is_of_member members ≡ true = ap (λ (rs : List Row). list_all is_of_member rs) front ∙ c.first_phase.ensures.members in
    let later : list_all is_phase phases ≡ true = ap (λ (rs : List Row). list_all is_phase rs) back ∙ ap (λ n. list_all is_phase (drop n rows)) c.first_phase.ensures.place ∙ phases-after rows c.requires.round in
    subst (λ (before : List WorkerView). HaveWorked settings (λ number. rows_of number g.S.Naming.workers rows) before (slice_set c.in_ok-workers.workers.items 0 c.work.new.self)) c.self.view_is
    (round-work settings g.S.Naming.workers rows members phases ws c.in_ok-workers.workers.items first c.work.new.self c.self.invariant.all c.in_ok-workers.ensures.worked at c.in_ok-work.ensures whole all later)

pub returns-clause-taken : goal.returns-clause-taken
returns-clause-taken g c =
    let rows = c.args.rows.now in
    let k = c.first_phase.result in
    let members = c.split_at.result.0.now in
    let phases = c.split_at.result.1.now in
    let first = c.index_mut.result.now in
    let at : slice_get c.in_ok-workers.workers.items 0 ≡ Some first = search (rules, gets) in
    let front : members ≡ take k rows = c.split_at.ensures.front in
    let back : phases ≡ drop k rows = c.split_at.ensures.back in
    let whole : members ++ phases ≡ rows = (λ i. front i ++ back i) ∙ take-append-drop k rows in
    let long = sym (ap (λ (rs : List Row). length rs) whole) ∙ length-append members phases in
    let before = ap taken_by c.self.view_is in
    let one = set-taken c.in_ok-workers.workers.items 0 (length phases) first c.work.new.self at c.in_ok-work.ensures.all in
    omega (arith, long, before, one, c.in_ok-workers.ensures.taken)
