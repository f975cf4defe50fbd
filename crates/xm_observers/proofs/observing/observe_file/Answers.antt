use Rattle.std.proofs.Common.{◌≡◌, ◌++◌, append_assoc, [], Bool, false, length, List, Ok, Result, refl, ap, arith, sym, subst, rules, ◌∙◌}
use Rattle.std.proofs.lemmas.List.{append-nil, length-append}
use Rattle.xm_config.specs.Day.{Day as TheDay}
use Rattle.xm_config.specs.declared.config.SegmentConfig.{SegmentConfig}
use Rattle.xm_config.specs.declared.rows.Row.{Row}
use Rattle.xm_files.specs.Batches.{rows_from, rows_so_far}
use Rattle.xm_files.specs.declared.file_faults.FileFault.{FileFault}
use Rattle.xm_observers.specs.Observed.{HasObserved, ObservesOn}
use Rattle.xm_observers.specs.declared.observing.ObservedDay.{ObservedDay}
use Rattle.xm_replay.specs.declared.faults.DayFault.{DayFault}
use Rattle.xm_observers.proofs.observing.observe_file.Goals as goal

-- desks that have taken the rows of a file so far take more of them
taken-on : {O S : Type 0} (seen : O → S) (next : S → TheDay → Row → S) (config : SegmentConfig) (before more rows : List Row) (begun old new : Result (ObservedDay O) DayFault) → before ++ more ≡ rows
    → ObservesOn seen next old config more new → ObservesOn seen next begun config before old → ObservesOn seen next begun config rows new
taken-on seen next config before more rows begun old new joined takes took = λ first earlier has.
    subst (λ (all : List Row). HasObserved seen next first config all new) (append_assoc earlier before more ∙ ap (λ (all : List Row). earlier ++ all) joined) (takes first (earlier ++ before) (took first earlier has))

pub parts-init : goal.parts-init
parts-init g c =
    let config = c.args.config.now in
    let names = c.args.names.now in
    let none : rows_so_far c.new-batch.result ≡ [] = ap rows_so_far c.new-batch.ensures in
    record {
      read = ap (rows_from names config c.args.file.now) (sym none);
      taken = λ first earlier has. subst (λ (rows : List Row). HasObserved g.O.Observer.seen g.O.Observer.next first config rows c.args.day) (sym (ap (λ (rows : List Row). earlier ++ rows) none ∙ append-nil earlier)) has;
      stands = refl;
      counted = omega arith;
      rows = c.requires.rows;
    }

pub returns-then-not-more : goal.returns-then-not-more
returns-then-not-more g c =
    let config = c.args.config.now in
    let batch = c.read.new.batch in
    let no_more : c.in-Ok.more ≡ false = search rules in
    let ended : ◌≡◌ {A = Result Bool FileFault} (Ok c.in-Ok.more) (Ok false) = ap Ok no_more in
    let joined : rows_so_far c.parts.batch ++ c.rows.result.now ≡ rows_so_far batch = λ i. (sym c.in-Ok.ensures.earlier) i ++ c.rows.ensures i in
    let size = sym (length-append (rows_so_far c.parts.batch) c.rows.result.now) ∙ ap length joined in
    record {
      taken = (
        rows_so_far batch,
        c.parts.invariant.read ∙ c.in-Ok.ensures.read ∙ c.in-Ok.ensures.ended ended,
        taken-on g.O.Observer.seen g.O.Observer.next config (rows_so_far c.parts.batch) c.rows.result.now (rows_so_far batch) c.args.day c.parts.day c.observe_more-day.result joined (c.observe_more-day.ensures.taken config) c.parts.invariant.taken,
      );
      end = (let none = ap length (c.in-Ok.ensures.none ended) in omega (arith, none, c.in-Ok.ensures.counted, c.parts.invariant.stands));
      counted = omega (arith, size, c.in-Ok.ensures.few, c.observe_more-day.ensures.counted, c.parts.invariant.counted);
      rows = c.observe_more-day.ensures.rows;
    }

pub parts-preserved : goal.parts-preserved
parts-preserved g c =
    let config = c.args.config.now in
    let joined : rows_so_far c.parts.batch ++ c.rows.result.now ≡ rows_so_far c.read.new.batch = λ i. (sym c.in-Ok.ensures.earlier) i ++ c.rows.ensures i in
    let size = sym (length-append (rows_so_far c.parts.batch) c.rows.result.now) ∙ ap length joined in
    record {
      read = c.parts.invariant.read ∙ c.in-Ok.ensures.read;
      taken = taken-on g.O.Observer.seen g.O.Observer.next config (rows_so_far c.parts.batch) c.rows.result.now (rows_so_far c.read.new.batch) c.args.day c.parts.day c.observe_more-day.result joined (c.observe_more-day.ensures.taken config) c.parts.invariant.taken;
      stands = c.in-Ok.ensures.counted ∙ c.parts.invariant.stands;
      counted = omega (arith, size, c.observe_more-day.ensures.counted, c.parts.invariant.counted);
      rows = c.observe_more-day.ensures.rows;
    }
