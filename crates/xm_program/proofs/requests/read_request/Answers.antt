use Rattle.std.proofs.Common.{ap, ◌≡◌, ◌∙◌, None, Some, inr, refl, true, map, string_bytes}
use Rattle.clap.specs.Words.{App, app_of, fault_of, kind_of, takes}
use Rattle.clap.specs.declared.error.kind.ErrorKind.TheVariants as kind
use Rattle.xm_program.specs.Requests.{asked_of, day_app, is_mistake}
use Rattle.xm_program.proofs.Runs.{asked-met, err_from, fault-met, no_fault, of_words, unasked}
use Rattle.xm_program.proofs.requests.read_request.Goals as goal

pub returns-in_err-matches-clause-err : goal.returns-in_err-matches-clause-err
returns-in_err-matches-clause-err c =
    let app : app_of c.args.command ≡ day_app = c.requires in
    let passes : takes day_app (map string_bytes c.args.words.now) ≡ true → kind_of c.in_err-matches.field-0.0 ≡ kind.OutOfMemory =
    λ t. c.in_err-matches.ensures.passes (ap (λ (a : App). takes a (map string_bytes c.args.words.now)) app ∙ t) in
    err_from _ c.in_err-matches.field-0.0 _ c.from_residual.ensures.1 (λ t named. passes t)

pub returns-in_err-matches-clause-fault : goal.returns-in_err-matches-clause-fault
returns-in_err-matches-clause-fault c =
    let words = map string_bytes c.args.words.now in
    let met = fault-met _ words c.in_err-matches.field-0.0 c.requires c.in_err-matches.ensures.kinds in
    err_from _ c.in_err-matches.field-0.0 _ c.from_residual.ensures.1 (of_words (fault_of day_app words) (asked_of words) c.in_err-matches.field-0.0 met)

pub returns-in-Some-clause-ok : goal.returns-in-Some-clause-ok
returns-in-Some-clause-ok c = asked-met c.in_ok-matches.matches (map string_bytes c.args.words.now) _ c.request_in.result c.requires c.in_ok-matches.ensures.ok.2 c.request_in.ensures (Some c.in-Some.request) c.in-Some.is

pub returns-in-Some-clause-faultless : goal.returns-in-Some-clause-faultless
returns-in-Some-clause-faultless c = no_fault _ (map string_bytes c.args.words.now) c.requires c.in_ok-matches.ensures.kinds

pub returns-clause-err : goal.returns-clause-err
returns-clause-err c = λ t some.
    unasked _ (asked-met c.in_ok-matches.matches (map string_bytes c.args.words.now) _ c.request_in.result c.requires c.in_ok-matches.ensures.ok.2 c.request_in.ensures None c.in-None.is) some

pub returns-clause-fault : goal.returns-clause-fault
returns-clause-fault c =
    let words = map string_bytes c.args.words.now in
    let mistake : is_mistake (kind_of c.in_ok-error-in-None.field-0) ≡ true = rw c.in_ok-error-in-None.ensures.kind refl in
    let none : asked_of words ≡ None = asked-met c.in_ok-matches.matches words _ c.request_in.result c.requires c.in_ok-matches.ensures.ok.2 c.request_in.ensures None c.in-None.is in
    inr (inr (mistake, no_fault _ words c.requires c.in_ok-matches.ensures.kinds, none))
