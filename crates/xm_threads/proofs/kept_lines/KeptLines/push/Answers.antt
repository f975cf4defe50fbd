use Rattle.std.proofs.Common.{rules, ◌≡◌, ◌+◌, ◌++◌, ◌∷◌, [], ℕ, List, length, map, ap, arith, ◌∙◌}
use Rattle.xm_threads.proofs.Kept.{parts-push, parts-stay}
use Rattle.xm_threads.specs.KeptRows.{part_at}
use Rattle.xm_threads.specs.declared.kept_lines.Span.{Span}
use Rattle.xm_threads.proofs.kept_lines.KeptLines.push.Goals as goal

pub returns-in_err-push-clause-kept : goal.returns-in_err-push-clause-kept
returns-in_err-push-clause-kept c =
    let text = c.self.inside.text.items in
    let spans = c.self.inside.spans.items in
    let grown : c.extend_from_slice.new.self.items ≡ text ++ c.args.line.now = search rules in
    let same : c.push.new.self.items ≡ spans = search rules in
    let seen = ap (λ (ss : List Span). map (part_at c.extend_from_slice.new.self.items) ss) same ∙ ap (λ (t : List ℕ). map (part_at t) spans) grown ∙ parts-stay (λ line. line) 0 text c.args.line.now spans c.self.invariant ∙ c.self.view_is in
    search (rules, seen)

pub returns-clause-pushed : goal.returns-clause-pushed
returns-clause-pushed c =
    let line = c.args.line.now in
    let text = c.self.inside.text.items in
    let spans = c.self.inside.spans.items in
    let span : Span = record { begin = c.len-begin.result; end = c.len-end.result } in
    let grown : c.extend_from_slice.new.self.items ≡ text ++ line = search rules in
    let pushed : c.push.new.self.items ≡ spans ++ span ∷ [] = search rules in
    let begins : c.len-begin.result ≡ length text = search rules in
    let ends : c.len-end.result ≡ length text + length line = search rules in
    ap (λ (ss : List Span). map (part_at c.extend_from_slice.new.self.items) ss) pushed
    ∙ ap (λ (t : List ℕ). map (part_at t) (spans ++ span ∷ [])) grown
    ∙ parts-push (λ line. line) 0 text line spans 0 span c.self.invariant (omega arith) begins ends
    ∙ ap (λ ls. ls ++ line ∷ []) c.self.view_is
