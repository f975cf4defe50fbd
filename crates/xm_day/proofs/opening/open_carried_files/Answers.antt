use Rattle.std.proofs.Common.{Some, sym, subst}
use Rattle.xm_day.proofs.Days.{uncarried}
use Rattle.xm_day.specs.Days.{OpeningRead}
use Rattle.xm_files.proofs.PassedErrors.{is_passed}
use Rattle.xm_day.proofs.opening.open_carried_files.Goals as goal

pub returns-in_err-config-clause-read : goal.returns-in_err-config-clause-read
returns-in_err-config-clause-read g c =
    let met = c.in_err-config in
    let segment = g.S.Read.remaining c.args.segment.now in
    let carried = g.C.Read.remaining c.args.carried.now in
    subst (OpeningRead segment (Some carried)) (sym (is_passed c.from_residual.result met.field-0.0 c.from_residual.ensures.1)) (uncarried segment carried met.field-0.0 met.ensures.read)

pub returns-in-Ok-clause-read : goal.returns-in-Ok-clause-read
returns-in-Ok-clause-read g c = record { config = c.in_ok-config.config; is_segment = c.in_ok-config.ensures.read; is_carried = c.in-Ok.ensures.read }

pub returns-in-Err-clause-read : goal.returns-in-Err-clause-read
returns-in-Err-clause-read g c =
    let fault = c.in-Err.ensures in
    record { config = c.in_ok-config.config; names = c.in_ok-config.names; is_segment = c.in_ok-config.ensures.read; is_fault = record { of_bytes = fault.fault; from_outside = fault.outside } }
