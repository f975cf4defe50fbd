use Rattle.std.proofs.Common.{◌≡◌, ℕ, ◌+◌, ◌-◌, List, take, drop, get_or, rules, sym, subst, ap, ◌∙◌}
use Rattle.xm_files.proofs.PlainFields.{behind-mark, field-to}
use Rattle.xm_files.specs.Plain.{EndsAt, TextFrom, rest_of}
use Rattle.xm_files.proofs.marks.Marks.field.Goals as goal

pub returns-clause-field : goal.returns-clause-field
returns-clause-field c =
    let t = c.args.self.now in
    let at = c.in_ok-at.at in
    let is : get_or t.text at 0 ≡ c.args.mark = search rules in
    let from : t.at ≡ c.self.inside.at = sym (ap (λ (v : TextFrom). v.at) c.self.view_is) in
    let text : t.text ≡ c.self-2.inside.text.now = sym (ap (λ (v : TextFrom). v.text) c.self-2.view_is ∙ c.next.ensures.text) in
    let field : take (at - t.at) (rest_of t) ≡ take (at - c.self.inside.at) (drop c.self.inside.at c.self-2.inside.text.now) = λ i. take (at - from i) (drop (from i) (text i)) in
    rw c.in_ok-at.ensures.read (subst (λ (f : List ℕ). EndsAt c.args.mark (rest_of t) f (drop (at + 1) t.text)) field (field-to c.args.mark t at c.in_ok-at.ensures.next is))

pub returns-clause-behind : goal.returns-clause-behind
returns-clause-behind c =
    let t = c.args.self.now in
    let at = c.in_ok-at.at in
    let is : get_or t.text at 0 ≡ c.args.mark = search rules in
    let within = c.in_ok-at.ensures.next.within in
    rw c.in_ok-at.ensures.read (behind-mark c.args.mark t.text at within is)
