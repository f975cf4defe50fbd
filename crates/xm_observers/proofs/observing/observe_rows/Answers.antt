use Rattle.std.proofs.Common.{Ok, [], ◌∷◌, ◌++◌, map, ap, arith, ◌∙◌}
use Rattle.std.proofs.lemmas.List.{length-map}
use Rattle.xm_files.proofs.FilesRead.{file-faults, files-begin, files-end, files-more, next-fails, none-before, number-within, outside-fails}
use Rattle.xm_files.specs.OrderFiles.{FilesLeft, ReadsFile}
use Rattle.xm_files.specs.declared.file_faults.OrdersFault.{OrdersFault}
use Rattle.xm_observers.proofs.Seeing.{none-observed}
use Rattle.xm_observers.proofs.observing.observe_rows.Goals as goal

pub files-init : goal.files-init
files-init g c =
    let names = c.args.names.now in
    let config = c.args.config.now in
    let none = none-observed g.O.Observer.seen g.O.Observer.next (g.O.Observer.seen c.args.observer) config c.open_day-day.result c.open_day-day.ensures.opened in (
      [],
      [],
      files-begin names config (map g.R.Read.remaining c.args.orders.now) c.of-files.result c.of-files.ensures,
      c.open_day-day.ensures.opened,
      omega (arith, none),
      c.open_day-day.ensures.rows,
    )

pub returns-in-Ok-None : goal.returns-in-Ok-None
returns-in-Ok-None g c =
    let inv = c.files.invariant in
    let ends = files-end c.args.names.now c.args.config.now (map g.R.Read.remaining c.args.orders.now) c.files.files inv.0 inv.1 inv.2 (c.in-Ok-None.ensures.none (ap Ok c.in-Ok-None.field-0-is)) in
    (inv.0, ends.0, inv.1, ends.1, inv.3)

pub returns-in-Err : goal.returns-in-Err
returns-in-Err g c =
    let inv = c.files.invariant in
    let known = map g.R.Read.remaining c.args.orders.now in
    let fails = c.in-Err.ensures.fault in (
      next-fails c.args.names.now c.args.config.now known c.files.files inv.0 inv.1 c.in-Err.fault inv.2 fails,
      fails.outside,
      none-before c.args.names.now c.args.config.now known c.files.files inv.0 inv.1 fails.told fails.more c.in-Err.fault.file inv.2 fails.left fails.number,
    )

pub observe_file-requires-clause-room : goal.observe_file-requires-clause-room
observe_file-requires-clause-room g c =
    let inv = c.files.invariant in
    let all = number-within c.args.names.now c.args.config.now (map g.R.Read.remaining c.args.orders.now) c.files.files inv.0 inv.1 inv.2 in
    let size = length-map c.args.orders.now g.R.Read.remaining in
    let taken = inv.4 in
    omega (arith, all, size, taken, c.requires.files)

pub observe_file-requires-clause-rows : goal.observe_file-requires-clause-rows
observe_file-requires-clause-rows g c = let inv = c.files.invariant in inv.5

pub returns-in-Err-observe_file : goal.returns-in-Err-observe_file
returns-in-Err-observe_file g c =
    let inv = c.files.invariant in
    let reads : ReadsFile c.files.files c.next.new.self c.in-Ok-Some.file = rw c.in-Ok-Some.field-0-is at c.in-Ok-Some.ensures.file in
    let fails = c.in-Err-observe_file.ensures.taken in (
      file-faults c.args.names.now c.args.config.now (map g.R.Read.remaining c.args.orders.now) c.files.files c.next.new.self c.in-Ok-Some.file c.rows-rows.result inv.0 inv.1 c.in-Err-observe_file.fault c.fault.result inv.2 reads c.rows-rows.ensures
          fails.0 c.fault.ensures,
      outside-fails c.next.new.self.number _ c.in-Err-observe_file.fault c.fault.result fails.1 c.fault.ensures,
      none-before c.args.names.now c.args.config.now (map g.R.Read.remaining c.args.orders.now) c.files.files inv.0 inv.1 reads.told c.next.new.self.left c.fault.result.file inv.2 reads.left (ap (λ (f : OrdersFault). f.file) c.fault.ensures ∙ reads.number),
    )

pub files-preserved : goal.files-preserved
files-preserved g c =
    let names = c.args.names.now in
    let config = c.args.config.now in
    let inv = c.files.invariant in
    let file = c.in-Ok-Some.file in
    let reads : ReadsFile c.files.files c.next.new.self file = rw c.in-Ok-Some.field-0-is at c.in-Ok-Some.ensures.file in
    let own = c.in-Ok.ensures.taken in
    let taken = inv.4 in
    let number = ap (λ (f : FilesLeft). f.number) c.end.ensures in
    let more = files-more names config (map g.R.Read.remaining c.args.orders.now) c.files.files c.next.new.self c.end.new.self file c.rows-rows.result c.line.result inv.0 inv.1 own.0 inv.2 reads c.rows-rows.ensures own.1
    (c.line.ensures ∙ c.in-Ok.ensures.end) c.end.ensures in (
      inv.0 ++ file.bytes ∷ [],
      inv.1 ++ own.0,
      more,
      own.2 (g.O.Observer.seen c.args.observer) inv.1 inv.3,
      omega (arith, taken, c.in-Ok.ensures.counted, reads.number, number),
      c.in-Ok.ensures.rows,
    )
