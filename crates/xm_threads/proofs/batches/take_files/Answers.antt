use Rattle.std.proofs.Common.{◌+◌, ◌<◌, ◌^◌, Ok, [], ◌∷◌, ◌++◌, map, refl, ap, arith, ◌∙◌}
use Rattle.std.proofs.lemmas.List.{length-append, length-map}
use Rattle.xm_files.proofs.FilesRead.{file-faults, files-begin, files-end, files-more, next-fails, none-before, number-within, outside-fails}
use Rattle.xm_files.specs.OrderFiles.{ReadsFile, text_in_files}
use Rattle.xm_files.specs.RecordTexts.{texts_in}
use Rattle.xm_texts.proofs.FileTexts.{agree-earlier, agree-own}
use Rattle.xm_texts.proofs.Tells.{agree-with_itself}
use Rattle.xm_threads.proofs.Merging.{took-alike, took-none, took-then}
use Rattle.xm_files.specs.declared.file_faults.OrdersFault.{OrdersFault}
use Rattle.xm_threads.proofs.batches.take_files.Goals as goal

pub files-init : goal.files-init
files-init g c =
    let names = c.args.names.now in
    ([], [], files-begin names c.args.config.now (map g.R.Read.remaining c.args.orders.now) c.of-files.result c.of-files.ensures, refl, took-none names (text_in_files []) c.args.lanes.now c.args.merged.now)

pub returns-in-Ok-None : goal.returns-in-Ok-None
returns-in-Ok-None g c =
    let inv = c.files.invariant in
    let ends = files-end c.args.names.now c.args.config.now (map g.R.Read.remaining c.args.orders.now) c.files.files inv.0 inv.1 inv.2 (c.in-Ok-None.ensures.none (ap Ok c.in-Ok-None.field-0-is)) in
    (inv.0, ends.0, inv.1, ends.1, record { counted = inv.3; took = inv.4 })

pub returns-in-Err : goal.returns-in-Err
returns-in-Err g c =
    let inv = c.files.invariant in
    let known = map g.R.Read.remaining c.args.orders.now in
    let fails = c.in-Err.ensures.fault in (
      next-fails c.args.names.now c.args.config.now known c.files.files inv.0 inv.1 c.in-Err.fault inv.2 fails,
      fails.outside,
      none-before c.args.names.now c.args.config.now known c.files.files inv.0 inv.1 fails.told fails.more c.in-Err.fault.file inv.2 fails.left fails.number,
    )

pub returns-in-Err-take_file : goal.returns-in-Err-take_file
returns-in-Err-take_file g c =
    let inv = c.files.invariant in
    let reads : ReadsFile c.files.files c.next.new.self c.in-Ok-Some.file = rw c.in-Ok-Some.field-0-is at c.in-Ok-Some.ensures.file in
    let fails = c.in-Err-take_file.ensures.taken in (
      file-faults c.args.names.now c.args.config.now (map g.R.Read.remaining c.args.orders.now) c.files.files c.next.new.self c.in-Ok-Some.file c.rows-rows.result inv.0 inv.1 c.in-Err-take_file.fault c.fault.result inv.2 reads c.rows-rows.ensures
          fails.0 c.fault.ensures,
      outside-fails c.next.new.self.number _ c.in-Err-take_file.fault c.fault.result fails.1 c.fault.ensures,
      none-before c.args.names.now c.args.config.now (map g.R.Read.remaining c.args.orders.now) c.files.files inv.0 inv.1 reads.told c.next.new.self.left c.fault.result.file inv.2 reads.left (ap (λ (f : OrdersFault). f.file) c.fault.ensures ∙ reads.number),
    )

pub overflow_add-count : goal.overflow_add-count
overflow_add-count g c =
    let inv = c.files.invariant in
    let all = number-within c.args.names.now c.args.config.now (map g.R.Read.remaining c.args.orders.now) c.files.files inv.0 inv.1 inv.2 in
    let size = length-map c.args.orders.now g.R.Read.remaining in
    let few = inv.2.few_rows in
    let count = inv.3 in
    let sum : c.files.count + c.in-Ok.own < 2 ^ 64 = omega (arith, all, size, few, count, c.in-Ok.ensures.few, c.requires.files) in
    record { fits = sum }

pub files-preserved : goal.files-preserved
files-preserved g c =
    let names = c.args.names.now in
    let config = c.args.config.now in
    let known = map g.R.Read.remaining c.args.orders.now in
    let inv = c.files.invariant in
    let files = inv.0 in
    let rows = inv.1 in
    let p = inv.2 in
    let file = c.in-Ok-Some.file in
    let reader = c.rows-rows.result in
    let told = c.texts-texts.result in
    let middle = c.next.new.self in
    let reads : ReadsFile c.files.files middle file = rw c.in-Ok-Some.field-0-is at c.in-Ok-Some.ensures.file in
    let run = c.in-Ok.ensures.taken in
    let own = run.0 in
    let day = text_in_files (files ++ file.bytes ∷ []) in
    let agree = agree-with_itself day (rows ++ own) in
    let earlier = agree-earlier names config known c.files.files file.bytes files rows own day p agree in
    let later = agree-own names config known c.files.files middle file reader told files rows own day p reads c.rows-rows.ensures run.1 c.texts-texts.ensures agree in
    let mid = c.files.lanes in
    let between = c.files.merged in
    let lanes = c.take_file.new.lanes in
    let merged = c.take_file.new.merged in
    let size = length-append rows own in
    let before = inv.3 in
    let here = run.2.counted in (
      files ++ file.bytes ∷ [],
      rows ++ own,
      files-more names config known c.files.files middle c.end.new.self file reader c.line.result files rows own p reads c.rows-rows.ensures run.1 (c.line.ensures ∙ c.in-Ok.ensures.end) c.end.ensures,
      omega (arith, size, before, here),
      took-then names day rows own c.args.lanes.now mid lanes c.args.merged.now between merged c.files.auto.lanes (took-alike names day (text_in_files files) rows c.args.lanes.now mid c.args.merged.now between earlier inv.4)
          (took-alike names day (texts_in told) own mid lanes between merged later run.2.took),
    )
