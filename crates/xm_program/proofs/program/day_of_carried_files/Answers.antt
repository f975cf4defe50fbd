use Rattle.std.proofs.Common.{map, Some, Err, sym, subst}
use Rattle.xm_day.proofs.Days.{opened-day, texted, unopened-day}
use Rattle.xm_day.specs.Days.{DayFiles, IsDay, TakesFile}
use Rattle.xm_day.specs.declared.value.HandsOn.TheVariants.{WhatIsLeft}
use Rattle.xm_files.proofs.PassedErrors.{is_passed}
use Rattle.xm_program.proofs.Sent.{ends-anyhow, ends-by}
use Rattle.xm_program.specs.Days.{IsDayBy, asked_with}
use Rattle.xm_program.proofs.program.day_of_carried_files.Goals as goal

pub returns-in_err-config : goal.returns-in_err-config
returns-in_err-config g c =
    let files : DayFiles = record { segment = g.S.Read.remaining c.args.segment.now; carried = Some (g.C.Read.remaining c.args.carried.now); orders = map g.O.Read.remaining c.args.orders.now } in
    let asked = asked_with c.args.concurrency c.args.asked in
    let met = c.in_err-config in
    subst (IsDayBy c.args.concurrency c.args.asked WhatIsLeft files) (sym (is_passed c.from_residual.result met.field-0.0 c.from_residual.ensures.1))
    (ends-anyhow c.args.concurrency (λ days. IsDay days asked WhatIsLeft files (Err met.field-0.0)) (λ days. unopened-day days asked WhatIsLeft files met.field-0.0 met.ensures.read))

pub returns : goal.returns
returns g c =
    let files : DayFiles = record { segment = g.S.Read.remaining c.args.segment.now; carried = Some (g.C.Read.remaining c.args.carried.now); orders = map g.O.Read.remaining c.args.orders.now } in
    let asked = asked_with c.args.concurrency c.args.asked in
    let read = c.in_ok-config in
    let config = read.config in
    let names = read.names in
    let taken = c.take_rows-taken.result in
    ends-by c.args.concurrency (λ days. TakesFile days asked config names files.orders taken) (λ days. IsDay days asked WhatIsLeft files c.day_texts.result)
    (λ days took. opened-day days asked WhatIsLeft files config names c.day_texts.result read.ensures.read (texted days asked WhatIsLeft config names files.orders taken c.day_texts.result took c.day_texts.ensures)) c.take_rows-taken.ensures.taken
