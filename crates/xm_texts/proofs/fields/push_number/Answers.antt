use Rattle.std.proofs.Common.{◌++◌, ◌∙◌, List, ℕ, ap, sym}
use Rattle.std.proofs.lemmas.Fmt.{decimal_digit}
use Rattle.std.specs.Fmt.{decimal}
use Rattle.xm_texts.proofs.FewDigits.{four, grown-twice, three, two}
use Rattle.xm_texts.proofs.Then.{ok-then}
use Rattle.xm_texts.proofs.fields.push_number.Goals as goal

pub returns-then-number-lt10 : goal.returns-then-number-lt10
returns-then-number-lt10 g c =
    ok-then c.push_digit.result c.push_digit.ensures (λ pushed. pushed ∙ ap (λ (ds : List ℕ). c.args.text.now.items ++ ds) (sym (decimal_digit c.args.number c.if-number-lt10.true)))

pub returns-then-number-lt100 : goal.returns-then-number-lt100
returns-then-number-lt100 g c =
    ok-then c.push_pair.result c.push_pair.ensures (λ pushed. pushed ∙ ap (λ (ds : List ℕ). c.args.text.now.items ++ ds) (sym (two c.args.number c.if-number-lt10.false c.if-number-lt100.true)))

pub returns-then-number-lt1000 : goal.returns-then-number-lt1000
returns-then-number-lt1000 g c =
    let n = c.args.number in
    let text = c.args.text.now.items in
    let new = c.push_pair-then-number-lt1000.new.text.items in
    let first = c.in_ok-push_digit.ensures in
    ok-then c.push_pair-then-number-lt1000.result c.push_pair-then-number-lt1000.ensures
    (λ pushed. grown-twice text c.push_digit-then-number-lt1000.new.text.items new _ _ (decimal n) first pushed (three n c.if-number-lt100.false c.if-number-lt1000.true))

pub returns-then-number-lt10000 : goal.returns-then-number-lt10000
returns-then-number-lt10000 g c =
    let n = c.args.number in
    let text = c.args.text.now.items in
    let new = c.push_pair-then-number-lt10000-2.new.text.items in
    let first = c.in_ok-push_pair.ensures in
    ok-then c.push_pair-then-number-lt10000-2.result c.push_pair-then-number-lt10000-2.ensures
    (λ pushed. grown-twice text c.push_pair-then-number-lt10000.new.text.items new _ _ (decimal n) first pushed (four n c.if-number-lt1000.false c.if-number-lt10000.true))
