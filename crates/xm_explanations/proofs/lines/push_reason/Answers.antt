use Rattle.std.specs.Fmt.{decimal}
use Rattle.std.specs.Prelude.{codes, string_bytes, ◌++◌}
use Rattle.std.proofs.Common.{◌≡◌, ◌∙◌, List, ℕ, ap}
use Rattle.xm_explanations.proofs.Pushes.{then-others}
use Rattle.xm_texts.proofs.Then.{ok-then}
use Rattle.xm_explanations.proofs.lines.push_reason.Goals as goal

pub returns : goal.returns
returns c =
    let old = c.args.text.now.items in
    let t1 = c.push_text.new.text.items in
    let t2 = c.push_text-2.new.text.items in
    let t3 = c.push_number.new.text.items in
    let whole = c.push_text-3.new.text.items in
    let reason = string_bytes c.args.note.now.reason in
    let so = codes "; rows refused so: " in
    let rows = decimal c.args.note.now.rows.rows in
    let end = codes "\n" in
    let e1 : t1 ≡ old ++ reason = c.in_ok-push_text.ensures ∙ ap (λ (p : List ℕ). old ++ p) c.as_str.ensures.value in
    ok-then c.push_text-3.result c.push_text-3.ensures
    (λ e. then-others old t1 whole reason (so ++ (rows ++ end)) e1 (then-others t1 t2 whole so (rows ++ end) c.in_ok-push_text-2.ensures (then-others t2 t3 whole rows end c.in_ok-push_number.ensures e)))
