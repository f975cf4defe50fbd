use Rattle.std.proofs.Common.{rules, ap, sym, ◌≡◌, ◌∙◌, None, option_and_then}
use Rattle.std.specs.Str.Parse.{ExplainsUnsignedError, HasUnsignedDigitsIfOk, ParsesUnsigned}
use Rattle.clap.specs.Words.{found_of, one_text}
use Rattle.clap.proofs.WalkLemmas.{one_text-rows}
use Rattle.xm_program.specs.Requests.{count_in}
use Rattle.xm_program.proofs.Numbers.{read-none, read-some}
use Rattle.xm_program.proofs.requests.count_in.Goals as goal

pub returns-in_err-get_one : goal.returns-in_err-get_one
returns-in_err-get_one c =
    let found = found_of c.args.values.now in
    let is : c.from_residual.result ≡ None = search rules in
    let none = read-none _ (λ bs r. ParsesUnsigned 32 10 bs r × ExplainsUnsignedError 10 bs r × HasUnsignedDigitsIfOk bs r) (λ u x g. g.0) (one_text found c.args.name.now) c.in_err-get_one.ensures.value in
    is ∙ sym none ∙ ap (option_and_then count_in) (one_text-rows found c.args.name.now)

pub returns : goal.returns
returns c =
    let found = found_of c.args.values.now in
    let some = read-some _ (λ bs r. ParsesUnsigned 32 10 bs r × ExplainsUnsignedError 10 bs r × HasUnsignedDigitsIfOk bs r) (λ u x g. g.0) (one_text found c.args.name.now) c.in_ok-get_one.field-0 c.in_ok-get_one.ensures.none c.in_ok-get_one.ensures.value c.new.result c.new.ensures in
    some ∙ ap (option_and_then count_in) (one_text-rows found c.args.name.now)
