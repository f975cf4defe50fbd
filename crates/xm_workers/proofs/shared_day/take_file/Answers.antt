use Rattle.std.proofs.Common.{◌≡◌, ℕ, ◌++◌, append_assoc, [], Bool, false, length, List, Ok, Result, refl, ap, arith, sym, subst, rules, ◌∙◌}
use Rattle.std.proofs.lemmas.List.{append-nil, length-append}
use Rattle.xm_workers.specs.Workers.{HasShared, SharesOn, WorkerView}
use Rattle.xm_files.specs.Batches.{rows_from, rows_so_far}
use Rattle.xm_files.specs.declared.file_faults.FileFault.{FileFault}
use Rattle.xm_replay.specs.declared.faults.DayFault.{DayFault}
use Rattle.xm_rules.specs.declared.settings.DeskSettings.{DeskSettings}
use Rattle.xm_config.specs.declared.config.SegmentConfig.{SegmentConfig}
use Rattle.xm_config.specs.declared.rows.Row.{Row}
use Rattle.xm_workers.proofs.shared_day.take_file.Goals as goal

-- workers that have taken the rows of a file so far take more of them
shared-on : (settings : List DeskSettings) (workers : ℕ) (config : SegmentConfig) (before more rows : List Row) (first old new : Result (List WorkerView) DayFault) → before ++ more ≡ rows
    → SharesOn settings workers old config more new → SharesOn settings workers first config before old → SharesOn settings workers first config rows new
shared-on settings workers config before more rows first old new joined takes took = λ earlier has.
    subst (λ (all : List Row). HasShared settings workers config all new) (append_assoc earlier before more ∙ ap (λ (all : List Row). earlier ++ all) joined) (takes (earlier ++ before) (took earlier has))

pub rounds-init : goal.rounds-init
rounds-init g c =
    let config = c.args.config.now in
    let none : rows_so_far c.new-batch.result ≡ [] = ap rows_so_far c.new-batch.ensures in
    record {
      read = ap (rows_from c.args.names.now config c.args.file.now) (sym none);
      taken = λ earlier has. subst (λ (rows : List Row). HasShared g.S.Naming.settings g.S.Naming.workers config rows c.args.day) (sym (ap (λ (rows : List Row). earlier ++ rows) none ∙ append-nil earlier)) has;
      stands = refl;
      counted = omega arith;
    }

pub returns-then-not-more : goal.returns-then-not-more
returns-then-not-more g c =
    let config = c.args.config.now in
    let batch = c.read.new.batch in
    let no_more : c.in-Ok.more ≡ false = search rules in
    let ended : ◌≡◌ {A = Result Bool FileFault} (Ok c.in-Ok.more) (Ok false) = ap Ok no_more in
    let none = ap length (c.in-Ok.ensures.none ended) in
    let joined : rows_so_far c.rounds.batch ++ c.rows.result.now ≡ rows_so_far batch = λ i. (sym c.in-Ok.ensures.earlier) i ++ c.rows.ensures i in
    let size = sym (length-append (rows_so_far c.rounds.batch) c.rows.result.now) ∙ ap length joined in
    record {
      taken = (
        rows_so_far batch,
        c.rounds.invariant.read ∙ c.in-Ok.ensures.read ∙ c.in-Ok.ensures.ended ended,
        shared-on g.S.Naming.settings g.S.Naming.workers config (rows_so_far c.rounds.batch) c.rows.result.now (rows_so_far batch) c.args.day c.rounds.day c.take_more-day.result joined (c.take_more-day.ensures.taken config) c.rounds.invariant.taken,
      );
      counted = omega (arith, size, c.in-Ok.ensures.few, c.take_more-day.ensures.counted, c.rounds.invariant.counted);
      end = omega (arith, none, c.in-Ok.ensures.counted, c.rounds.invariant.stands);
    }

pub rounds-preserved : goal.rounds-preserved
rounds-preserved g c =
    let config = c.args.config.now in
    let joined : rows_so_far c.rounds.batch ++ c.rows.result.now ≡ rows_so_far c.read.new.batch = λ i. (sym c.in-Ok.ensures.earlier) i ++ c.rows.ensures i in
    let size = sym (length-append (rows_so_far c.rounds.batch) c.rows.result.now) ∙ ap length joined in
    record {
      read = c.rounds.invariant.read ∙ c.in-Ok.ensures.read;
      taken = shared-on g.S.Naming.settings g.S.Naming.workers config (rows_so_far c.rounds.batch) c.rows.result.now (rows_so_far c.read.new.batch) c.args.day c.rounds.day c.take_more-day.result joined (c.take_more-day.ensures.taken config)
          c.rounds.invariant.taken;
      stands = c.in-Ok.ensures.counted ∙ c.rounds.invariant.stands;
      counted = omega (arith, size, c.take_more-day.ensures.counted, c.rounds.invariant.counted);
    }
