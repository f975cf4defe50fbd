use Rattle.std.proofs.Common.{rules, ap, ◌≡◌, Ok, Err, inr, map, string_bytes}
use Rattle.clap.specs.Words.{fault_of}
use Rattle.xm_replay.specs.declared.faults.DayFault.TheVariants.{WriteFailed}
use Rattle.xm_program.specs.Requests.{AnswersWords, asked_of, auction, check, day, day_app, explanation, named_auction, named_day, named_explanation}
use Rattle.xm_program.specs.declared.requests.Failure.TheVariants.{Day}
use Rattle.xm_program.specs.declared.requests.Request.TheVariants as request
use Rattle.xm_program.proofs.Ends.{all-done, asks-help, fault-done, refused-done}
use Rattle.xm_program.proofs.program.answer.Goals as goal

pub returns-in_err-request : goal.returns-in_err-request
returns-in_err-request g c =
    let is : c.from_residual.result ≡ Err c.in_err-request.field-0.0 = search rules in
    rw is (refused-done _ _ _ _ c.in_err-request.ensures.told c.in_err-request.ensures.answered)

pub returns-in_err-write_day-in-Day : goal.returns-in_err-write_day-in-Day
returns-in_err-write_day-in-Day g c =
    let words = map string_bytes c.args.words.now in
    let met = c.in_err-write_day-in-Day in
    let answered : AnswersWords (fault_of day_app words) (asked_of words) (Ok (request.Day c.in-Day.request)) = search rules in
    let is : c.from_residual-in_err-write_day-in-Day.result ≡ Err (Day met.field-0.0) = search rules in
    rw is (fault-done _ _ (day (named_day c.in-Day.request)) _ _ met.field-0.0 answered.0 answered.1 met.ensures.ends (λ h. ap g.W.Write.contents (met.ensures.untouched h)))

pub returns-in_err-check_file-in-Check : goal.returns-in_err-check_file-in-Check
returns-in_err-check_file-in-Check g c =
    let words = map string_bytes c.args.words.now in
    let met = c.in_err-check_file-in-Check in
    let answered : AnswersWords (fault_of day_app words) (asked_of words) (Ok (request.Check c.in-Check.segment)) = search rules in
    let is : c.from_residual-in_err-check_file-in-Check.result ≡ Err (Day met.field-0.0) = search rules in
    rw is (fault-done _ _ (check c.in-Check.segment.now) _ _ met.field-0.0 answered.0 answered.1 met.ensures.ends (λ h. ap g.W.Write.contents (met.ensures.untouched h)))

pub returns-in_err-print_help-in-Help : goal.returns-in_err-print_help-in-Help
returns-in_err-print_help-in-Help g c =
    let words = map string_bytes c.args.words.now in
    let answered : AnswersWords (fault_of day_app words) (asked_of words) (Ok (request.Help c.in-Help.text)) = search rules in
    let is : c.from_residual-in_err-print_help-in-Help.result ≡ Err (Day WriteFailed) = search rules in
    rw is (inr (asks-help (fault_of day_app words) (asked_of words) c.in-Help.text answered))

pub returns-in_ok-write_day-in-Day : goal.returns-in_ok-write_day-in-Day
returns-in_ok-write_day-in-Day g c =
    let words = map string_bytes c.args.words.now in
    let answered : AnswersWords (fault_of day_app words) (asked_of words) (Ok (request.Day c.in-Day.request)) = search rules in
    all-done _ _ (day (named_day c.in-Day.request)) _ _ _ answered.0 answered.1 c.in_ok-write_day-in-Day.ensures.ends

pub returns-in_ok-check_file-in-Check : goal.returns-in_ok-check_file-in-Check
returns-in_ok-check_file-in-Check g c =
    let words = map string_bytes c.args.words.now in
    let answered : AnswersWords (fault_of day_app words) (asked_of words) (Ok (request.Check c.in-Check.segment)) = search rules in
    all-done _ _ (check c.in-Check.segment.now) _ _ _ answered.0 answered.1 c.in_ok-check_file-in-Check.ensures.ends

pub returns-in_ok-print_help-in-Help : goal.returns-in_ok-print_help-in-Help
returns-in_ok-print_help-in-Help g c =
    let words = map string_bytes c.args.words.now in
    let answered : AnswersWords (fault_of day_app words) (asked_of words) (Ok (request.Help c.in-Help.text)) = search rules in
    inr (asks-help (fault_of day_app words) (asked_of words) c.in-Help.text answered, c.in_ok-print_help-in-Help.ensures.done)

pub returns-in_err-write_auction-in-Auction : goal.returns-in_err-write_auction-in-Auction
returns-in_err-write_auction-in-Auction g c =
    let words = map string_bytes c.args.words.now in
    let met = c.in_err-write_auction-in-Auction in
    let answered : AnswersWords (fault_of day_app words) (asked_of words) (Ok (request.Auction c.in-Auction.request)) = search rules in
    let is : c.from_residual-in_err-write_auction-in-Auction.result ≡ Err (Day met.field-0.0) = search rules in
    rw is (fault-done _ _ (auction (named_auction c.in-Auction.request)) _ _ met.field-0.0 answered.0 answered.1 met.ensures.ends (λ h. ap g.W.Write.contents (met.ensures.untouched h)))

pub returns-in_ok-write_auction-in-Auction : goal.returns-in_ok-write_auction-in-Auction
returns-in_ok-write_auction-in-Auction g c =
    let words = map string_bytes c.args.words.now in
    let answered : AnswersWords (fault_of day_app words) (asked_of words) (Ok (request.Auction c.in-Auction.request)) = search rules in
    all-done _ _ (auction (named_auction c.in-Auction.request)) _ _ _ answered.0 answered.1 c.in_ok-write_auction-in-Auction.ensures.ends

pub returns-in_err-write_explanation-in-Explanation : goal.returns-in_err-write_explanation-in-Explanation
returns-in_err-write_explanation-in-Explanation g c =
    let words = map string_bytes c.args.words.now in
    let met = c.in_err-write_explanation-in-Explanation in
    let answered : AnswersWords (fault_of day_app words) (asked_of words) (Ok (request.Explanation c.in-Explanation.request)) = search rules in
    let is : c.from_residual-in_err-write_explanation-in-Explanation.result ≡ Err (Day met.field-0.0) = search rules in
    rw is (fault-done _ _ (explanation (named_explanation c.in-Explanation.request)) _ _ met.field-0.0 answered.0 answered.1 met.ensures.ends (λ h. ap g.W.Write.contents (met.ensures.untouched h)))

pub returns-in_ok-write_explanation-in-Explanation : goal.returns-in_ok-write_explanation-in-Explanation
returns-in_ok-write_explanation-in-Explanation g c =
    let words = map string_bytes c.args.words.now in
    let answered : AnswersWords (fault_of day_app words) (asked_of words) (Ok (request.Explanation c.in-Explanation.request)) = search rules in
    all-done _ _ (explanation (named_explanation c.in-Explanation.request)) _ _ _ answered.0 answered.1 c.in_ok-write_explanation-in-Explanation.ensures.ends
