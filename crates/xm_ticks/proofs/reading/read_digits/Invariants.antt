use Rattle.std.proofs.Common.{◌≡◌, ◌+◌, ◌-◌, ◌*◌, ◌<◌, ◌^◌, true, take, fold}
use Rattle.std.specs.List.{list_all}
use Rattle.xm_ticks.specs.Reading.{is_digit}
use Rattle.xm_ticks.proofs.reading.read_digits.Given as goal

abbrev pub invariant-loop-byte : goal.invariant-loop-byte
invariant-loop-byte l = record {
  so_far : l.number ≡ fold (λ n byte. n * 10 + (byte - 48)) 0 (take l.byte-index l.text);
  digits : list_all is_digit (take l.byte-index l.text) ≡ true;
  small : l.number < 10 ^ l.byte-index;
}
