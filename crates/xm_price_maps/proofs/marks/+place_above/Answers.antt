use Rattle.std.proofs.Common.{arith}
use Rattle.xm_price_maps.proofs.Places.{found_above, used, none_above_up, some_above_up}
use Rattle.xm_price_maps.proofs.marks.+place_above.Goals as goal

pub returns-in-Some-clause-some : goal.returns-in-Some-clause-some
returns-in-Some-clause-some g t c = found_above c.args.pages.now c.requires.sound c.args.place c.requires.place c.in-Some.b (rw c.word.ensures at c.in-Some.ensures.some)

pub first_bit-requires : goal.first_bit-requires
first_bit-requires g t c =
    let found = c.in-Some-place_above.ensures.some in
    let above = found.above in
    rw c.word-in-Some-place_above.ensures (used c.args.pages.now c.requires.sound c.in-Some-place_above.up (omega arith) found.marked)

pub returns-in-None-clause-none : goal.returns-in-None-clause-none
returns-in-None-clause-none g t c = none_above_up c.args.pages.now c.requires.sound c.args.place c.requires.place (rw c.word.ensures at c.in_default.ensures.none) (omega arith) c.in-None.ensures.none

pub returns-in-Some-place_above-clause-some : goal.returns-in-Some-place_above-clause-some
returns-in-Some-place_above-clause-some g t c =
    some_above_up c.args.pages.now c.requires.sound c.args.place c.requires.place (rw c.word.ensures at c.in_default.ensures.none) (omega arith) c.in-Some-place_above.up c.first_bit.result
    c.in-Some-place_above.ensures.some c.first_bit.ensures.within (rw c.word-in-Some-place_above.ensures at c.first_bit.ensures.marked) (rw c.word-in-Some-place_above.ensures at c.first_bit.ensures.first)
