use Rattle.std.proofs.Common.{◌≡◌, ℕ, ◌++◌, append_assoc, [], Bool, false, length, List, Ok, Result, refl, ap, arith, sym, subst, rules, ◌∙◌}
use Rattle.std.proofs.lemmas.List.{append-nil, length-append}
use Rattle.xm_texts.proofs.Tells.{agree-left, agree-right}
use Rattle.xm_replay.specs.Taken.{HasTaken, TakesOn}
use Rattle.xm_files.specs.Batches.{rows_from, rows_so_far}
use Rattle.xm_files.specs.Names.{NameLists}
use Rattle.xm_files.specs.RecordTexts.{texts_in}
use Rattle.xm_files.specs.declared.file_faults.FileFault.{FileFault}
use Rattle.xm_replay.specs.declared.desks.OpenDay.{OpenDay}
use Rattle.xm_replay.specs.declared.faults.DayFault.{DayFault}
use Rattle.xm_texts.specs.RowAnswers.{AgreeOn}
use Rattle.xm_config.specs.declared.config.SegmentConfig.{SegmentConfig}
use Rattle.xm_config.specs.declared.rows.Row.{Row}
use Rattle.xm_replay.proofs.runs.take_file.Goals as goal

-- desks that have taken the rows of a file so far take more of them
taken-on : (names : NameLists) (at own : ℕ → List ℕ) (config : SegmentConfig) (before more rows : List Row) (first old new : Result OpenDay DayFault) → at ≡ own → before ++ more ≡ rows
    → TakesOn names at old config more new → TakesOn names own first config before old → TakesOn names own first config rows new
taken-on names at own config before more rows first old new same joined takes took = λ asked texts earlier agree has.
    let agreed = subst (AgreeOn texts own) (sym joined) agree in
    let so_far = took asked texts earlier (agree-left texts own before more agreed) has in
    let later = takes asked texts (earlier ++ before) (subst (λ (by_number : ℕ → List ℕ). AgreeOn texts by_number more) (sym same) (agree-right texts own before more agreed)) so_far in
    subst (λ (all : List Row). HasTaken asked names texts config all new) (append_assoc earlier before more ∙ ap (λ (all : List Row). earlier ++ all) joined) later

pub parts-init : goal.parts-init
parts-init c =
    let config = c.args.config.now in
    let names = c.args.names.now in
    let none : rows_so_far c.new-batch.result ≡ [] = ap rows_so_far c.new-batch.ensures in
    record {
      read = ap (rows_from names config c.args.file.now) (sym none);
      taken = λ asked texts earlier agree has. subst (λ (rows : List Row). HasTaken asked names texts config rows c.args.day) (sym (ap (λ (rows : List Row). earlier ++ rows) none ∙ append-nil earlier)) has;
      texts = refl;
      stands = refl;
      counted = omega arith;
    }

pub returns-then-not-more : goal.returns-then-not-more
returns-then-not-more c =
    let config = c.args.config.now in
    let names = c.args.names.now in
    let batch = c.read.new.batch in
    let no_more : c.in-Ok.more ≡ false = search rules in
    let ended : ◌≡◌ {A = Result Bool FileFault} (Ok c.in-Ok.more) (Ok false) = ap Ok no_more in
    let joined : rows_so_far c.parts.batch ++ c.rows.result.now ≡ rows_so_far batch = λ i. (sym c.in-Ok.ensures.earlier) i ++ c.rows.ensures i in
    let size = sym (length-append (rows_so_far c.parts.batch) c.rows.result.now) ∙ ap length joined in
    record {
      taken = (
        rows_so_far batch,
        c.parts.invariant.read ∙ c.in-Ok.ensures.read ∙ c.in-Ok.ensures.ended ended,
        taken-on names (texts_in c.parts.texts) (texts_in c.args.texts.now) config (rows_so_far c.parts.batch) c.rows.result.now (rows_so_far batch) c.args.day c.parts.day c.take_more-day.result c.parts.invariant.texts joined
            (c.take_more-day.ensures.taken config) c.parts.invariant.taken,
      );
      end = (let none = ap length (c.in-Ok.ensures.none ended) in omega (arith, none, c.in-Ok.ensures.counted, c.parts.invariant.stands));
      counted = omega (arith, size, c.in-Ok.ensures.few, c.take_more-day.ensures.counted, c.parts.invariant.counted);
    }

pub parts-preserved : goal.parts-preserved
parts-preserved c =
    let config = c.args.config.now in
    let names = c.args.names.now in
    let joined : rows_so_far c.parts.batch ++ c.rows.result.now ≡ rows_so_far c.read.new.batch = λ i. (sym c.in-Ok.ensures.earlier) i ++ c.rows.ensures i in
    let size = sym (length-append (rows_so_far c.parts.batch) c.rows.result.now) ∙ ap length joined in
    record {
      read = c.parts.invariant.read ∙ c.in-Ok.ensures.read;
      taken = taken-on names (texts_in c.parts.texts) (texts_in c.args.texts.now) config (rows_so_far c.parts.batch) c.rows.result.now (rows_so_far c.read.new.batch) c.args.day c.parts.day c.take_more-day.result c.parts.invariant.texts joined
          (c.take_more-day.ensures.taken config) c.parts.invariant.taken;
      texts = c.take_more-day.ensures.texts ∙ c.parts.invariant.texts;
      stands = c.in-Ok.ensures.counted ∙ c.parts.invariant.stands;
      counted = omega (arith, size, c.take_more-day.ensures.counted, c.parts.invariant.counted);
    }
