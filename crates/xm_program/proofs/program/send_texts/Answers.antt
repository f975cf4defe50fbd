use Rattle.std.proofs.Common.{inl, inr, refl}
use Rattle.xm_files.proofs.PassedErrors.{is_passed}
use Rattle.xm_program.proofs.Sent.{begun-of}
use Rattle.xm_program.proofs.program.send_texts.Goals as goal

pub returns-in_err-send_statement : goal.returns-in_err-send_statement
returns-in_err-send_statement g c =
    let met = c.in_err-send_statement in
    rw (is_passed c.from_residual.result met.field-0.0 c.from_residual.ensures.1)
    (met.ensures.fault, inl (begun-of _ _ c.args.texts.now.statement met.ensures.failed, (refl, (refl, (refl, (refl, (refl, tt)))))))

pub returns-in_err-send : goal.returns-in_err-send
returns-in_err-send g c =
    let met = c.in_err-send in
    let is = c.from_residual-in_err-send in
    rw (is_passed is.result met.field-0.0 is.ensures.1)
    (met.ensures.failed.0, inr (c.in_ok-send_statement.ensures.sent, inl (met.ensures.failed.1, (refl, (refl, (refl, (refl, tt)))))))

pub returns-in_err-send-2 : goal.returns-in_err-send-2
returns-in_err-send-2 g c =
    let met = c.in_err-send-2 in
    let is = c.from_residual-in_err-send-2 in
    rw (is_passed is.result met.field-0.0 is.ensures.1)
    (met.ensures.failed.0, inr (c.in_ok-send_statement.ensures.sent, inr (c.in_ok-send.ensures.sent, inl (met.ensures.failed.1, (refl, (refl, (refl, tt)))))))

pub returns-in_err-send-3 : goal.returns-in_err-send-3
returns-in_err-send-3 g c =
    let met = c.in_err-send-3 in
    let is = c.from_residual-in_err-send-3 in
    rw (is_passed is.result met.field-0.0 is.ensures.1)
    (met.ensures.failed.0, inr (c.in_ok-send_statement.ensures.sent, inr (c.in_ok-send.ensures.sent, inr (c.in_ok-send-2.ensures.sent, inl (met.ensures.failed.1, (refl, (refl, tt)))))))

pub returns-in_err-send-4 : goal.returns-in_err-send-4
returns-in_err-send-4 g c =
    let met = c.in_err-send-4 in
    let is = c.from_residual-in_err-send-4 in
    rw (is_passed is.result met.field-0.0 is.ensures.1)
    (met.ensures.failed.0, inr (c.in_ok-send_statement.ensures.sent, inr (c.in_ok-send.ensures.sent, inr (c.in_ok-send-2.ensures.sent, inr (c.in_ok-send-3.ensures.sent, inl (met.ensures.failed.1, (refl, tt)))))))

pub returns-in_err-send-5 : goal.returns-in_err-send-5
returns-in_err-send-5 g c =
    let met = c.in_err-send-5 in
    let is = c.from_residual-in_err-send-5 in
    rw (is_passed is.result met.field-0.0 is.ensures.1)
    (met.ensures.failed.0, inr (c.in_ok-send_statement.ensures.sent, inr (c.in_ok-send.ensures.sent, inr (c.in_ok-send-2.ensures.sent, inr (c.in_ok-send-3.ensures.sent, inr (c.in_ok-send-4.ensures.sent, inl (met.ensures.failed.1, tt)))))))

pub returns : goal.returns
returns g c = (c.in_ok-send_statement.ensures.sent, (c.in_ok-send.ensures.sent, (c.in_ok-send-2.ensures.sent, (c.in_ok-send-3.ensures.sent, (c.in_ok-send-4.ensures.sent, (c.in_ok-send-5.ensures.sent, tt))))))
