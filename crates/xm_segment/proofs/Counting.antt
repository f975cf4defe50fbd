-- A command more in the ledgers of a security.
use Rattle.std.proofs.Common.{◌≡◌, ◌+◌, List, [], ◌∷◌, ◌++◌, length, None, Some, Result, Ok, Err, sym, ap, ◌∙◌}
use Rattle.std.specs.Prelude.{◌≢◌, IfErr, IfOk, OnErr, OnOk}
use Rattle.std.proofs.lemmas.List.{length-append}
use Rattle.std.proofs.lemmas.List.Sums.{sum_by-append}
use Rattle.xm_rules.proofs.Journals.{journal_of, replay-opening, replay-push, reply-parts}
use Rattle.xm_rules.proofs.Opening.{opening-is}
use Rattle.xm_rules.specs.Refusals.{refusal_of}
use Rattle.xm_rules.specs.Opening.{opening}
use Rattle.xm_rules.specs.State.{State}
use Rattle.xm_rules.specs.Step.{Journal, new_trades, replay, reply, step}
use Rattle.xm_rules.specs.Sums.{money_of, total_money, total_quantity}
use Rattle.xm_rules.specs.declared.commands.Command.{Command}
use Rattle.xm_rules.specs.declared.orders.Trade.{Trade}
use Rattle.xm_rules.specs.declared.replies.Refusal.{Refusal}
use Rattle.xm_rules.specs.declared.replies.Refusal.TheVariants.{OutOfMemory}
use Rattle.xm_rules.specs.declared.replies.Reply.{Reply}
use Rattle.xm_segment.specs.Answers.{IsAnswer}
use Rattle.xm_segment.specs.Ledgers.{no_sums, ledger_sums, with_answer}

-- the journal that takes the command has by so much more
counts : (j k : Journal) (c : Command) (r : Reply) → k ≡ journal_of j.settings (j.commands ++ c ∷ []) → (replay k).trades ≡ (replay j).trades ++ new_trades (replay j) (replay k) → r ≡ reply (replay j) (replay k)
    → with_answer (ledger_sums j) (Ok r) ≡ ledger_sums k
counts j k c r is appended replied =
    let s = replay j in
    let t = replay k in
    let parts = replied ∙ reply-parts s t in
    let commands : length j.commands + 1 ≡ length k.commands = sym (ap (λ (x : Journal). length x.commands) is ∙ length-append j.commands (c ∷ [])) in
    let quantity : total_quantity s.trades + r.quantity ≡ total_quantity t.trades =
    ap (λ (x : Reply). total_quantity s.trades + x.quantity) parts ∙ sym (ap total_quantity appended ∙ sum_by-append (λ (x : Trade). x.quantity) s.trades (new_trades s t)) in
    let money : total_money s.trades + r.money ≡ total_money t.trades = ap (λ (x : Reply). total_money s.trades + x.money) parts ∙ sym (ap total_money appended ∙ sum_by-append money_of s.trades (new_trades s t)) in
    λ i. record { accepted = commands i; quantity = quantity i; money = money i }

-- the reply to the step of a journal
replied : (j k : Journal) (c : Command) (r : Reply) → k ≡ journal_of j.settings (j.commands ++ c ∷ []) → r ≡ reply (replay j) (replay k) → r ≡ reply (replay j) (step (replay j) c)
replied j k c r is answered = answered ∙ ap (reply (replay j)) (ap replay is ∙ replay-push j c)

-- what a desk answers, before which one journal stood and after which another, is the model's answer at the first
pub answered : (j k : Journal) (c : Command) (answer : Result Reply Refusal) → OnOk answer (refusal_of (replay j) c ≡ None) → OnOk answer (k ≡ journal_of j.settings (j.commands ++ c ∷ []))
    → IfOk answer (λ r. r ≡ reply (replay j) (replay k)) → IfErr answer (λ e. e ≢ OutOfMemory tt → refusal_of (replay j) c ≡ Some e) → (answer ≡ Err (OutOfMemory tt) → refusal_of (replay j) c ≡ None)
    → IsAnswer (replay j) c answer
answered j k c (Ok r) passes is gives refused memory = (passes, replied j k c r is gives)
answered j k c (Err e) passes is gives refused memory = (refused, λ same. memory (ap Err same))

-- and the second has what the first had, with the answer
pub counted : (j k : Journal) (c : Command) (answer : Result Reply Refusal) → OnOk answer (k ≡ journal_of j.settings (j.commands ++ c ∷ []))
    → OnOk answer ((replay k).trades ≡ (replay j).trades ++ new_trades (replay j) (replay k)) → IfOk answer (λ r. r ≡ reply (replay j) (replay k)) → OnErr answer (k ≡ j)
    → ledger_sums k ≡ with_answer (ledger_sums j) answer
counted j k c (Ok r) is appended gives kept = sym (counts j k c r is appended gives)
counted j k c (Err e) is appended gives kept = ap ledger_sums kept

-- nothing is counted of a journal without a command
pub fresh-counts : (j : Journal) → j.commands ≡ [] → no_sums ≡ ledger_sums j
fresh-counts j none =
    let opened : replay j ≡ opening j.settings = ap (λ (cs : List Command). replay (journal_of j.settings cs)) none ∙ replay-opening j.settings in
    let untraded : (replay j).trades ≡ [] = ap (λ (s : State). s.trades) (opened ∙ opening-is j.settings) in
    λ i. record { accepted = length (sym none i); quantity = total_quantity (sym untraded i); money = total_money (sym untraded i) }
