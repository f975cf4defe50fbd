use Rattle.std.proofs.Common.{◌+◌, ◌*◌, ◌%◌, ◌^◌, ◌≡◌, ℕ, take}
use Rattle.std.specs.List.{fold}
use Rattle.xm_name_index.proofs.seed.SeededHasherHasher.write.Given as goal

abbrev pub invariant-loop-byte : goal.invariant-loop-byte
invariant-loop-byte l = l.self ≡ record l.initial.self { number = fold (λ (number byte : ℕ). (number * 256 + byte) % 2 ^ 64) l.initial.self.number (take l.byte-index l.bytes) }
