use Rattle.std.proofs.Common.{◌≡◌, ◌+◌, ◌*◌, ◌<◌, ◌^◌, take, fold}
use Rattle.xm_files.proofs.names.packed.Given as goal

abbrev pub invariant-loop-byte : goal.invariant-loop-byte
invariant-loop-byte l = record {
  so_far : l.number ≡ fold (λ n byte. n * 256 + byte) 0 (take l.byte-index l.name);
  small : l.number < 256 ^ l.byte-index;
}
