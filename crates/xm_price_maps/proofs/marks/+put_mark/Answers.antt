use Rattle.std.proofs.Common.{arith, rules}
use Rattle.xm_price_maps.specs.Marks.{bit_of}
use Rattle.xm_price_maps.proofs.Changes.{ready_up, changed_up, changed_last}
use Rattle.xm_price_maps.proofs.marks.+put_mark.Goals.{else-put_bit-via-then-put_bit+else-w-ne-ROOT, else-put_bit-via-else-put_bit}
use Rattle.xm_price_maps.proofs.marks.+put_mark.Goals as goal

pub put_mark-requires : goal.put_mark-requires
put_mark-requires g t c κs within =
    (search rules, (within, (ready_up c.args.pages.now c.put_bit.new.pages c.args.place (bit_of c.args.mark) c.requires.place c.requires.ready c.put_bit.ensures.put (omega arith) (c.put_bit.ensures.turned c.if-put_bit.true), omega arith)))

pub returns-then-w-ne-ROOT : goal.returns-then-w-ne-ROOT
returns-then-w-ne-ROOT g t c = changed_up c.args.pages.now c.put_bit.new.pages c.args.place (bit_of c.args.mark) c.requires.place c.requires.ready c.put_bit.ensures.put (omega arith) c.put_mark.new.pages c.put_mark.ensures

pub returns-else-put_bit : goal.returns-else-put_bit
returns-else-put_bit g t c =
    changed_last c.args.pages.now c.put_bit.new.pages c.args.place (bit_of c.args.mark) c.requires.place c.requires.ready c.put_bit.ensures.put
    (λ below. elim c.else-put_bit.branch [ else-put_bit-via-then-put_bit+else-w-ne-ROOT w ↦ absurd (omega arith) | else-put_bit-via-else-put_bit w ↦ c.put_bit.ensures.stayed w.if-put_bit.false ])
