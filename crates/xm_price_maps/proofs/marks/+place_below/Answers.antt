use Rattle.std.proofs.Common.{arith}
use Rattle.xm_price_maps.proofs.Places.{upper_starts, used, none_below_up, some_below_up}
use Rattle.xm_price_maps.proofs.marks.+place_below.Goals as goal

pub overflow_sub-result : goal.overflow_sub-result
overflow_sub-result g t c = upper_starts c.args.place c.in-Some-place_below.up c.requires.place c.in-Some-place_below.ensures.some.level (omega arith)

pub overflow_sub-up : goal.overflow_sub-up
overflow_sub-up g t c = upper_starts c.args.place c.in-Some-place_below.up c.requires.place c.in-Some-place_below.ensures.some.level (omega arith)

pub last_bit-requires : goal.last_bit-requires
last_bit-requires g t c =
    let found = c.in-Some-place_below.ensures.some in
    rw c.word-in-Some-place_below.ensures
    (used c.args.pages.now c.requires.sound c.in-Some-place_below.up
    (upper_starts c.args.place c.in-Some-place_below.up c.requires.place found.level (omega arith)) found.marked)

pub returns-in-None-clause-none : goal.returns-in-None-clause-none
returns-in-None-clause-none g t c = none_below_up c.args.pages.now c.requires.sound c.args.place c.requires.place (rw c.word.ensures at c.in_default.ensures.none) (omega arith) c.in-None.ensures.none

pub returns-in-Some-place_below-clause-some : goal.returns-in-Some-place_below-clause-some
returns-in-Some-place_below-clause-some g t c =
    some_below_up c.args.pages.now c.requires.sound c.args.place c.requires.place (rw c.word.ensures at c.in_default.ensures.none) (omega arith) c.in-Some-place_below.up c.last_bit.result
    c.in-Some-place_below.ensures.some c.last_bit.ensures.within (rw c.word-in-Some-place_below.ensures at c.last_bit.ensures.marked) (rw c.word-in-Some-place_below.ensures at c.last_bit.ensures.last)
