use Rattle.std.proofs.Common.{rules, ◌≡◌, ◌∙◌, Option, Err, refl, subst, map, string_bytes}
use Rattle.clap.specs.Words.{fault_of, kind_of}
use Rattle.clap.specs.declared.error.kind.ErrorKind.TheVariants as kind
use Rattle.xm_replay.specs.declared.faults.DayFault.TheVariants.{OutOfMemory}
use Rattle.xm_program.specs.Requests.{Asked, IsRequest, asked_of, day_app}
use Rattle.xm_program.specs.declared.requests.Failure.TheVariants.{Day}
use Rattle.xm_program.proofs.Runs.{answer-memory, answered, of_kind, requested, taken}
use Rattle.xm_program.proofs.requests.read_words.Goals as goal

pub returns-in_err-command_line-clause-granted : goal.returns-in_err-command_line-clause-granted
returns-in_err-command_line-clause-granted c = λ asked asks.
    let is : c.from_residual.result ≡ Err (Day (OutOfMemory tt)) = search rules in
    rw is refl

pub returns-in-Ok-clause-granted : goal.returns-in-Ok-clause-granted
returns-in-Ok-clause-granted c = λ asked asks.
    subst (λ (o : Option Asked). IsRequest o c.in-Ok.request) (taken _ asked asks).asks c.in-Ok.ensures.ok

pub returns-in-Ok-clause-answered : goal.returns-in-Ok-clause-answered
returns-in-Ok-clause-answered c = requested _ _ c.in-Ok.request c.in-Ok.ensures.faultless c.in-Ok.ensures.ok

pub returns-in-Err-clause-granted : goal.returns-in-Err-clause-granted
returns-in-Err-clause-granted c = λ asked asks.
    let is = taken _ asked asks in
    let memory : kind_of c.in-Err.error ≡ kind.OutOfMemory = c.in-Err.ensures.err is.taken (rw is.asks refl) in
    rw (c.answer.ensures, answer-memory c.hinted.result (c.hinted.ensures ∙ memory)) refl

pub returns-in-Err-clause-answered : goal.returns-in-Err-clause-answered
returns-in-Err-clause-answered c =
    let words = map string_bytes c.args.words.now in
    let of = of_kind (fault_of day_app words) (asked_of words) c.in-Err.error c.hinted.result c.hinted.ensures c.in-Err.ensures.fault in
    rw c.answer.ensures (answered (fault_of day_app words) (asked_of words) c.hinted.result of)
