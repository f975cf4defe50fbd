use Rattle.std.proofs.Common.{◌≡◌, ◌∙◌, ◌++◌, List, ℕ, ap, subst}
use Rattle.xm_calls.proofs.Telling.{finished-told, told-seen}
use Rattle.xm_calls.specs.Calls.{CallsTold, next_told, told_before}
use Rattle.xm_config.specs.Day.{opening_day, told_of_rows}
use Rattle.xm_observers.specs.Observed.{HasObserved}
use Rattle.xm_calls.proofs.tables.call_tables.Goals as goal

pub returns-in-Ok-Ok : goal.returns-in-Ok-Ok
returns-in-Ok-Ok g c =
    let names = c.args.names.now in
    let name = c.args.name.now in
    let asked = c.args.asked in
    let config = c.args.config.now in
    let run = c.in-Ok-Ok.ensures in
    let rows = run.2 in
    let observed = subst (HasObserved _ next_told (record { names = names; name = name; asked = asked; text = c.new.result.items }) config rows) c.in-Ok-Ok.field-0-is run.4 in
    let calls = told_of_rows (told_before names name asked) (opening_day config) rows in
    let told : c.in-Ok-Ok.day.observer.text.items ≡ calls =
    ap (λ (t : CallsTold). t.text) (observed.seen_is ∙ told-seen names name asked c.new.result.items (opening_day config) rows) ∙ ap (λ (begun : List ℕ). begun ++ calls) c.new.ensures.items in
    (run.0, run.1, rows, run.3, finished-told names name asked config rows c.in-Ok-Ok.day.observer.text.items c.finished.result observed.sound told c.finished.ensures.text c.finished.ensures.memory)
