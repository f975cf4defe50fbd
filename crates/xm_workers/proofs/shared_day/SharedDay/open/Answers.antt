use Rattle.std.proofs.Common.{◌∙◌, subst, sym}
use Rattle.std.specs.Prelude.{IfOk, []}
use Rattle.xm_workers.proofs.Chains.{worked-none}
use Rattle.xm_workers.specs.Workers.{HasOpened, HasWorked, WorkerView, fresh_worker}
use Rattle.xm_segment.specs.Names.{NamesSegment}
use Rattle.xm_workers.proofs.shared_day.SharedDay.open.Goals as goal

pub returns : goal.returns
returns g c =
    let settings = g.S.Naming.settings in
    let was = c.in_ok-opened.was in
    let opened = subst (HasOpened c.args.config.now c.args.workers) was c.requires.opened in
    let named = subst (λ o. IfOk o (λ u. NamesSegment settings g.S.Naming.ledgers g.S.Naming.boards g.S.Naming.workers u)) was c.requires.named in
    let seats = c.in_ok-workers.ensures in
    record {
      sound = opened.0;
      opened = named.settings_are ∙ opened.1;
      each = seats.all;
      worked = λ number w at. subst (λ (v : WorkerView). HasWorked settings [] (fresh_worker settings number) v) (sym (seats.each number w at)) (worked-none settings (fresh_worker settings number));
      all = seats.none;
    }
