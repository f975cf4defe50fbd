-- Short names as numbers.
use Rattle.std.specs.Prelude.{◌≡◌, ℕ, ◌+◌, ◌*◌, ◌<◌, ◌≤◌, List, fold, length, slice_get, Some}
use Rattle.std.specs.List.{All}
use Rattle.xm_files.specs.declared.names.Hint.{Hint}

-- the number that bytes write, the first one highest
abbrev pub packed : List ℕ → ℕ
packed bytes = fold (λ n byte. n * 256 + byte) 0 bytes

-- a short name of this length that packs to this number stands at this index
abbrev pub LeadsInto : List (List ℕ) → Hint → Type 0
LeadsInto names hint = (name : List ℕ) → All (λ (byte : ℕ). byte < 256) name → length name ≤ 12 → length name ≡ hint.length → packed name ≡ hint.number → slice_get names hint.index ≡ Some name
