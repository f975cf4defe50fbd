use Rattle.std.proofs.Common.{rules, ◌≡◌, ◌<◌, ◌++◌, ◌∷◌, ℕ, suc, Global, List, Vec, ap, drop, get_or, length, subst, sym, take, take-append-drop, ◌∙◌}
use Rattle.std.specs.List.{flat_map}
use Rattle.std.proofs.Math.Seq.{drop-cons}
use Rattle.std.proofs.lemmas.List.Concat.{flat_map-append}
use Rattle.xm_day.proofs.Written.{part-behind, part-first}
use Rattle.xm_files.proofs.PassedErrors.{on_err}
use Rattle.xm_ticks.specs.Writing.{AppendsPrefix}
use Rattle.xm_day.proofs.calls.write_each.Goals as goal

abbrev joined : List (Vec ℕ Global) → List ℕ
joined ts = flat_map (λ (t : Vec ℕ Global). t.items) ts

parts-of : (texts : List (Vec ℕ Global)) (at : ℕ) (one : Vec ℕ Global) → at < length texts → get_or texts at one ≡ one → joined texts ≡ joined (take at texts) ++ (one.items ++ joined (drop (suc at) texts))
parts-of texts at one within is =
    ap joined (sym (take-append-drop at texts) ∙ ap (λ (ts : List (Vec ℕ Global)). take at texts ++ ts) (drop-cons texts at one within ∙ ap (λ (t : Vec ℕ Global). t ∷ drop (suc at) texts) is))
    ∙ flat_map-append (λ (t : Vec ℕ Global). t.items) (take at texts) (one ∷ drop (suc at) texts)

pub returns-in_err-write_text-clause-failed : goal.returns-in_err-write_text-clause-failed
returns-in_err-write_text-clause-failed g c =
    let old = g.W.Write.contents c.args.out.now in
    let mid = g.W.Write.contents c.loop-text.out in
    let new = g.W.Write.contents c.write_text.new.out in
    let texts = c.args.texts.now in
    let at = c.loop-text.text-index in
    let one = c.text-item.result in
    let rest = joined (drop (suc at) texts) in
    let parts = parts-of texts at one (search rules) (search (rules, c.text-item.is)) in
    let failed : AppendsPrefix mid new one.items = search (rules, c.in_err-write_text.ensures.failed, c.as_slice.ensures.value) in
    on_err c.from_residual.result (subst (AppendsPrefix old new) (sym parts) (part-behind old mid new (joined (take at texts)) (one.items ++ rest) c.loop-text.invariant (part-first mid new one.items rest failed)))
