use Rattle.std.proofs.Common.{◌∙◌, w64, sym, ap}
use Rattle.std.proofs.lemmas.Nat.Bits.{bit_at_set_same, bit_at_set_other, bit_at_clear_same, bit_at_clear_other}
use Rattle.xm_price_maps.specs.Marks.{bit_of}
use Rattle.xm_price_maps.proofs.words.changed.Goals as goal

pub returns-in-Clear-clause-marked : goal.returns-in-Clear-clause-marked
returns-in-Clear-clause-marked c = bit_at_clear_same w64 c.args.word c.args.k c.requires ∙ sym (ap bit_of c.in-Clear.is)

pub returns-in-Clear-clause-same : goal.returns-in-Clear-clause-same
returns-in-Clear-clause-same c = λ i within differs. bit_at_clear_other w64 c.args.word c.args.k c.requires i within differs

pub returns-in-Set-clause-marked : goal.returns-in-Set-clause-marked
returns-in-Set-clause-marked c = bit_at_set_same w64 c.args.word c.args.k c.requires ∙ sym (ap bit_of c.in-Set.is)

pub returns-in-Set-clause-same : goal.returns-in-Set-clause-same
returns-in-Set-clause-same c = λ i within differs. bit_at_set_other w64 c.args.word c.args.k c.requires i differs
