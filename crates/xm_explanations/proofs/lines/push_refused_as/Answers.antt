use Rattle.std.specs.Prelude.{codes, string_bytes, ◌++◌}
use Rattle.std.proofs.Common.{◌≡◌, ◌∙◌, List, ℕ, ap}
use Rattle.xm_explanations.proofs.Pushes.{then-others}
use Rattle.xm_texts.proofs.Then.{ok-then}
use Rattle.xm_texts.specs.RowAnswers.{refusal_word}
use Rattle.xm_explanations.proofs.lines.push_refused_as.Goals as goal

pub returns : goal.returns
returns c =
    let old = c.args.text.now.items in
    let t1 = c.push_text.new.text.items in
    let t2 = c.push_text-2.new.text.items in
    let t3 = c.push_text-3.new.text.items in
    let whole = c.push_text-4.new.text.items in
    let place = string_bytes c.args.note.now.place in
    let told = codes ": refused as " in
    let word = refusal_word c.args.note.now.rows.refusal in
    let end = codes ": " in
    let e1 : t1 ≡ old ++ place = c.in_ok-push_text.ensures ∙ ap (λ (p : List ℕ). old ++ p) c.as_str.ensures.value in
    let e3 : t3 ≡ t2 ++ word = c.in_ok-push_text-3.ensures ∙ ap (λ (p : List ℕ). t2 ++ p) c.refusal_word.ensures in
    ok-then c.push_text-4.result c.push_text-4.ensures
    (λ e. then-others old t1 whole place (told ++ (word ++ end)) e1 (then-others t1 t2 whole told (word ++ end) c.in_ok-push_text-2.ensures (then-others t2 t3 whole word end e3 e)))
