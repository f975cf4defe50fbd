-- The table of a member's names, by buckets.
use Rattle.std.specs.Prelude.{◌≡◌, ℕ, ◌+◌, ◌*◌, ◌%◌, ◌/◌, ◌^◌, ◌<◌, ◌≤◌, List, Option, Some, None, IsSome, bit_xor, length, slice_get}
use Rattle.xm_name_index.specs.Buckets.{key_in}
use Rattle.xm_name_index.specs.declared.seed.Seed.{Seed}
use Rattle.xm_name_index.specs.declared.slot.Slot.{Slot}

-- a number's product with one random number and its sum with another, in 64 bits
abbrev pub sum_of : Seed → ℕ → ℕ
sum_of seed number = (number * seed.factor % 2 ^ 64 + seed.summand) % 2 ^ 64

-- the hash of a number: the upper half of the product of that sum, its halves joined by bits, with the first number
abbrev pub hash : Seed → ℕ → ℕ
hash seed number = bit_xor (sum_of seed number) (sum_of seed number / 2 ^ 32) * seed.factor % 2 ^ 64 / 2 ^ 32

-- buckets, and the seed that says in which of them a reference is at home
pub record TableView : Type 0 where
  pub buckets : List (List Slot)
  pub seed : Seed

-- the home of a number among so many buckets: they share the hashes, of 32 bits, in their order
abbrev pub home_among : Seed → ℕ → ℕ → ℕ
home_among seed buckets number = hash seed number * buckets / 2 ^ 32

-- the bucket of a reference
unfoldable pub home : TableView → ℕ → ℕ
home table reference = home_among table.seed (length table.buckets) reference

abbrev pub key_in_bucket : ℕ → Option (List Slot) → Option ℕ
key_in_bucket reference None = None
key_in_bucket reference (Some slots) = key_in reference slots

-- the key that the bucket at an index gives a reference
abbrev pub key_at : TableView → ℕ → ℕ → Option ℕ
key_at table index reference = key_in_bucket reference (slice_get table.buckets index)

-- the key of a reference: what its bucket gives
abbrev pub table_key : TableView → ℕ → Option ℕ
table_key table reference = key_at table (home table reference) reference

-- each reference is in its own bucket, and the buckets before the first one are empty
pub record IsPlaced (table : TableView) (first : ℕ) : Type 0 where
  pub few : length table.buckets ≤ 2 ^ 32
  pub home : (index reference : ℕ) → IsSome (key_at table index reference) → home table reference ≡ index
  pub empty : (index reference : ℕ) → index < first → key_at table index reference ≡ None
