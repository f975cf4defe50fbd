use Rattle.std.proofs.Common.{Result, Ok, Err, length, ◌∙◌}
use Rattle.std.specs.Prelude.{IfOk}
use Rattle.xm_workers.proofs.Chains.{joined-work}
use Rattle.xm_files.specs.Timetable.{share_of}
use Rattle.xm_workers.proofs.shares.fn.take_members.scope.Goals as goal

ok-from : {A E : Type 0} {P Q R T : A → Type 0} (r : Result A E) → ((a : A) → P a → Q a → R a → T a) → IfOk r P → IfOk r Q → IfOk r R → IfOk r T
ok-from (Ok a) f p q r = f a p q r
ok-from (Err e) f p q r = tt

pub returns : goal.returns
returns g c =
    let started = c.in_ok-standing.ensures in
    let rows = c.captures.rows.now in
    let workers = c.captures.workers.items in
    let back = c.join_all.ensures in
    ok-from c.join_all.result
    (λ after all each taken. (joined-work g.S.Naming.settings (λ number. share_of number (length workers) rows) workers after.items c.in_ok-standing.standing.items started.all all started.each each, taken ∙ started.taken))
    back.all back.each back.taken
