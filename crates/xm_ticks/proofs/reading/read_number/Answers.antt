use Rattle.std.proofs.Common.{Some, rules, ◌∙◌, ap, sym}
use Rattle.xm_ticks.proofs.Texts.{short_number}
use Rattle.xm_ticks.proofs.reading.read_number.Goals as goal

pub returns-clause-value : goal.returns-clause-value
returns-clause-value c = ap Some c.from.ensures ∙ sym (short_number c.args.text.now c.in-Some.number (search rules) c.in-Some.ensures)
