use Rattle.std.proofs.Common.{◌≡◌, arith, length, false, ℕ, List, [], Ok, refl, ap, rules, subst, sym, ◌∙◌}
use Rattle.xm_threads.proofs.Merging.{took-none, took-then}
use Rattle.xm_threads.specs.Lanes.{TookMore}
use Rattle.xm_files.specs.Batches.{RowsRead, rows_from, rows_so_far}
use Rattle.xm_files.specs.RecordTexts.{texts_in}
use Rattle.xm_config.specs.declared.rows.Row.{Row}
use Rattle.xm_threads.proofs.batches.take_file.Goals as goal

pub batches-init : goal.batches-init
batches-init g c =
    let config = c.args.config.now in
    let names = c.args.names.now in
    let own = texts_in c.args.texts.now in
    let did = c.in-Ok-read_behind.ensures in
    let none : rows_so_far c.new-next.result ≡ [] = ap rows_so_far c.new-next.ensures in
    record {
      read = ◌∙◌ {c = rows_from names config c.read_behind.new.file (rows_so_far c.read_behind.new.next)} (ap (rows_from names config c.args.file.now) (sym none)) did.read;
      ended = λ no. did.ended (ap Ok no);
      stands = did.counted;
      none = λ no. did.none (ap Ok no);
      texts = refl;
      took = subst (λ (rows : List Row). TookMore names own rows c.args.lanes.now c.args.merged.now c.args.lanes.now c.args.merged.now) (sym (did.earlier ∙ none)) (took-none names own c.args.lanes.now c.args.merged.now);
    }

pub batches-preserved : goal.batches-preserved
batches-preserved g c =
    let config = c.args.config.now in
    let names = c.args.names.now in
    let own = texts_in c.args.texts.now in
    let file = c.take_beside.new.file in
    let lanes = c.take_beside.new.lanes in
    let merged = c.take_beside.new.merged in
    let old = c.batches.invariant in
    let did = c.in-Ok-take_beside.ensures in
    let swapped = c.swap.ensures.x_after in
    let earlier = ap (λ (b : RowsRead). b.earlier) swapped ∙ did.read.earlier in
    let more = subst (λ (by_number : ℕ → List ℕ). TookMore names by_number c.batches.batch.rows c.batches.lanes c.batches.merged lanes merged) old.texts did.taken in
    record {
      read = old.read ∙ did.read.read ∙ ap (λ (b : RowsRead). rows_from names config file (rows_so_far b)) (sym swapped);
      ended = λ no. subst (λ (b : RowsRead). rows_from names config file (rows_so_far b) ≡ Ok (rows_so_far b)) (sym swapped) (did.read.ended (ap Ok no));
      stands = did.read.counted ∙ old.stands;
      none = λ no. did.read.none (ap Ok no);
      texts = did.texts ∙ old.texts;
      took = subst (λ (rows : List Row). TookMore names own rows c.args.lanes.now c.args.merged.now lanes merged) (sym earlier)
          (took-then names own c.batches.batch.earlier c.batches.batch.rows c.args.lanes.now c.batches.lanes lanes c.args.merged.now c.batches.merged merged c.batches.auto.lanes old.took more);
    }

pub returns : goal.returns
returns g c =
    let old = c.batches.invariant in
    let names = c.args.names.now in
    let own = texts_in c.args.texts.now in
    let batch = c.batches.batch in
    let lanes = c.take_apart.new.lanes in
    let merged = c.take_apart.new.merged in
    let no : c.batches.more ≡ false = search rules in
    let more = subst (λ (by_number : ℕ → List ℕ). TookMore names by_number batch.rows c.batches.lanes c.batches.merged lanes merged) old.texts c.take_apart.ensures.more in
    record {
      taken = (
        rows_so_far batch,
        old.read ∙ old.ended no,
        record {
          counted = c.total.ensures.total;
          took = took-then names own batch.earlier batch.rows c.args.lanes.now c.batches.lanes lanes c.args.merged.now c.batches.merged merged c.batches.auto.lanes old.took more;
        },
      );
      few = c.total.ensures.few;
      end = (let none = ap length (old.none no) in let stands = old.stands in omega (arith, none, stands));
    }
