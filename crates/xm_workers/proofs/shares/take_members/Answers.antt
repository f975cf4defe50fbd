use Rattle.std.proofs.Common.{rules, ◌≡◌, List, Some, length, arith, subst, sym}
use Rattle.std.specs.Prelude.{slice_get}
use Rattle.std.proofs.lemmas.Option.{gets}
use Rattle.xm_workers.proofs.Chains.{one-works}
use Rattle.xm_workers.proofs.RoundRows.{sole-share}
use Rattle.xm_workers.specs.Workers.{HasWorked}
use Rattle.xm_files.specs.Timetable.{share_of}
use Rattle.xm_config.specs.declared.rows.Row.{Row}
use Rattle.xm_workers.proofs.shares.take_members.Goals as goal

pub returns-in-Some-clause-worked : goal.returns-in-Some-clause-worked
returns-in-Some-clause-worked g c =
    let settings = g.S.Naming.settings in
    let workers = c.args.workers.items in
    let rows = c.args.rows.now in
    let sole = c.in-Some.sole in
    let whole : share_of sole (length workers) rows ≡ rows = search (rules, arith) in
    let at : slice_get workers sole ≡ Some c.index_mut.result.now = search (rules, gets) in
    let worked = subst (λ (rs : List Row). HasWorked settings rs c.index_mut.result.now c.work.new.self) (sym whole) c.in_ok-work.ensures in
    one-works settings (λ number. share_of number (length workers) rows) workers sole c.index_mut.result.now c.work.new.self at worked (λ number other. sole-share sole number (length workers) rows other whole)
