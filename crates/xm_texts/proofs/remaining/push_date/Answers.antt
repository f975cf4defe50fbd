use Rattle.std.proofs.Common.{◌≡◌, ℕ, List, [], ◌∷◌, ◌+◌, ◌-◌, ◌++◌, length, replicate, append_assoc, arith, ap, sym, ◌∙◌}
use Rattle.std.proofs.lemmas.Grind.{replicate_next}
use Rattle.xm_texts.proofs.remaining.push_date.Goals as goal

pub returns : goal.returns
returns g c =
    let text = c.args.text.now.items in
    let digits = c.format-digits.result.now in
    let zeros : c.loop.counter - length digits ≡ 8 - length digits = omega arith in
    c.in_ok-push_text-2.ensures
    ∙ ap (λ (xs : List ℕ). xs ++ digits) (c.loop.invariant.text ∙ ap (λ (n : ℕ). text ++ replicate n 48) zeros)
    ∙ append_assoc text (replicate (8 - length digits) 48) digits
    ∙ ap (λ (ds : List ℕ). text ++ (replicate (8 - length ds) 48 ++ ds)) c.format-digits.ensures.text

pub loop-preserved : goal.loop-preserved
loop-preserved g c =
    let text = c.args.text.now.items in
    let digits = length c.format-digits.result.now in
    let zeros = c.loop.counter - digits in
    let kept = c.loop.invariant in
    let next : c.loop.counter + 1 - digits ≡ zeros + 1 = omega (arith, kept.from) in
    record {
      text =
          c.in_ok-push_text.ensures
          ∙ ap (λ (xs : List ℕ). xs ++ 48 ∷ []) kept.text
          ∙ append_assoc text (replicate zeros 48) (48 ∷ [])
          ∙ ap (λ (zs : List ℕ). text ++ zs) (sym (ap (λ (n : ℕ). replicate n 48) next ∙ replicate_next zeros 48));
      from = omega (arith, kept.from);
      upto = omega (arith, c.loop-test.true);
    }
