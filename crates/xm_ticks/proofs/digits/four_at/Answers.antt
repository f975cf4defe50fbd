use Rattle.std.proofs.Common.{◌∙◌, ap, bit_xor, get_or, sym, ◌+◌}
use Rattle.xm_ticks.specs.Digits.{digits_word}
use Rattle.xm_ticks.proofs.Words.{four_xor, four_taken}
use Rattle.xm_ticks.proofs.digits.four_at.Goals as goal

pub returns : goal.returns
returns c =
    let bytes = c.args.text.now in
    let at = c.args.at in
    ap (λ x. bit_xor x 808464432) c.from_le_bytes.ensures ∙ four_xor (get_or bytes at 0) (get_or bytes (at + 1) 0) (get_or bytes (at + 2) 0) (get_or bytes (at + 3) 0) (c.type_inv.text at).fits (c.type_inv.text (at + 1)).fits (c.type_inv.text (at + 2)).fits (c.type_inv.text (at + 3)).fits ∙ ap digits_word (sym (four_taken bytes at c.requires))
