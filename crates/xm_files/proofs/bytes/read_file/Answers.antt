use Rattle.std.proofs.Common.{◌≡◌, ◌<◌, ◌≤◌, ◌-◌, length, take, arith, refl}
use Rattle.xm_files.proofs.Known.{all_given, too_many}
use Rattle.xm_files.proofs.bytes.read_file.Goals as goal

pub returns-then-count-eq0-clause-ok : goal.returns-then-count-eq0-clause-ok
returns-then-count-eq0-clause-ok g c =
    let bytes = c.in-Ok.ensures.bytes in
    let zero : c.in-Ok.count ≡ 0 = omega arith in
    all_given _ _ _ c.loop-turn.bytes.items (take c.in-Ok.count c.read.new.buf) c.loop-turn.invariant.consumed bytes.0 (rw zero refl) (bytes.1 zero (omega arith))

pub returns-then-len-count-clause-long : goal.returns-then-len-count-clause-long
returns-then-len-count-clause-long g c = λ _.
    let bytes = c.in-Ok.ensures.bytes in
    let within : length c.loop-turn.bytes.items ≤ 16777216 = c.loop-turn.invariant.within in
    let more : 16777216 - length c.loop-turn.bytes.items < length (take c.in-Ok.count c.read.new.buf) = omega (arith, c.loop-turn.bytes.ok.0, c.in-Ok.ensures.bound.1) in
    too_many _ _ _ c.loop-turn.bytes.items (take c.in-Ok.count c.read.new.buf) 16777216 c.loop-turn.invariant.consumed bytes.0 within more
