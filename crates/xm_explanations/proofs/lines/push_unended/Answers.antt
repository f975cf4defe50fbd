use Rattle.std.specs.Prelude.{codes, ◌++◌}
use Rattle.std.proofs.Common.{◌≡◌, ◌∙◌, List, ℕ, ap}
use Rattle.xm_explanations.proofs.Pushes.{then-others}
use Rattle.xm_texts.proofs.Then.{ok-then}
use Rattle.xm_explanations.specs.Lines.{since_text}
use Rattle.xm_texts.specs.Statement.{phase_word}
use Rattle.xm_explanations.proofs.lines.push_unended.Goals as goal

pub returns : goal.returns
returns c =
    let old = c.args.text.now.items in
    let t1 = c.push_text.new.text.items in
    let t2 = c.push_text-2.new.text.items in
    let t3 = c.push_text-3.new.text.items in
    let t4 = c.push_text-4.new.text.items in
    let t5 = c.push_text-5.new.text.items in
    let whole = c.push_since.new.text.items in
    let name = c.args.name.now in
    let not_ended = codes " has not ended: " in
    let word = phase_word c.args.standing.now.phase in
    let since = codes " " ++ since_text c.args.standing.now.since in
    let e4 : t4 ≡ t3 ++ word = c.in_ok-push_text-4.ensures ∙ ap (λ (p : List ℕ). t3 ++ p) c.phase_word.ensures in
    ok-then c.push_since.result c.push_since.ensures
    (λ e. then-others old t1 whole (codes "security ") (name ++ (not_ended ++ (word ++ since))) c.in_ok-push_text.ensures
    (then-others t1 t2 whole name (not_ended ++ (word ++ since)) c.in_ok-push_text-2.ensures
    (then-others t2 t3 whole not_ended (word ++ since) c.in_ok-push_text-3.ensures
    (then-others t3 t4 whole word since e4 (then-others t4 t5 whole (codes " ") (since_text c.args.standing.now.since) c.in_ok-push_text-5.ensures (e ∙ ap (λ (n : ℕ). t5 ++ since_text n) c.from.ensures))))))
