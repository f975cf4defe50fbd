-- The names of members: a member's own references, each with a key.
use Rattle.std.specs.Prelude.{◌≡◌, ◌≢◌, ◌≤◌, ℕ, Bool, false, if◌then◌else◌, nat_eq, nat_lt, List, Option, Some, None, IfSome, length, position, slice_get}
use Rattle.std.specs.List.{IsDistinct}
use Rattle.std.specs.Map.{keys_of}
use Rattle.std.specs.Map as map
use Rattle.xm_name_index.specs.declared.members.TheConstants.{NOWHERE}
use Rattle.xm_name_index.specs.declared.seed.Seed.{Seed}
use Rattle.xm_name_index.specs.Tables.{TableView, table_key}

-- the keys of one member's references, in a table and, of those that found no place there, in a list, and for how many
-- names more room is reserved
pub record NamesOfMember : Type 0 where
  pub table : TableView
  pub rest : List (ℕ × ℕ)
  pub reserved : ℕ

abbrev pub first_of : Option ℕ → Option ℕ → Option ℕ
first_of None other = other
first_of (Some key) other = Some key

-- the key of a reference
abbrev pub key_of : ℕ → NamesOfMember → Option ℕ
key_of reference names = first_of (table_key names.table reference) (map.lookup (nat_eq reference) names.rest)

abbrev pub key_among : ℕ → Option NamesOfMember → Option ℕ
key_among reference None = None
key_among reference (Some names) = key_of reference names

abbrev pub reserved_among : Option NamesOfMember → ℕ
reserved_among None = 0
reserved_among (Some names) = names.reserved

-- a key that passes a test stays, and another goes
abbrev pub Retains : (ℕ → Bool → Type 0) → Option ℕ → Option ℕ → Type 0
Retains answers None left = left ≡ None
Retains answers (Some key) left = (passes : Bool) × answers key passes × (left ≡ (if passes then Some key else None))

-- these are all names that have keys, each once
pub record AreAllNames (keys : ℕ → Option ℕ) (names : List (ℕ × ℕ)) : Type 0 where
  pub keyed : (reference : ℕ) → map.lookup (nat_eq reference) names ≡ keys reference
  pub once : IsDistinct nat_eq (keys_of names)

-- the names of a member, where it has had any
abbrev pub names_of : List (ℕ × NamesOfMember) → ℕ → Option NamesOfMember
names_of names member = map.lookup (nat_eq member) names

-- the table of a member is at this position
pub record StandsAt (names : List (ℕ × NamesOfMember)) (member place : ℕ) : Type 0 where
  pub table : NamesOfMember
  pub at : slice_get names place ≡ Some (member, table)
  pub found : names_of names member ≡ Some table

-- a place that is noted of a member is its own among those that have tables, which are fewer than `NOWHERE`
pub record AreNoted (places members : List ℕ) : Type 0 where
  pub few : length members ≤ NOWHERE
  pub own : (member place : ℕ) → slice_get places member ≡ Some place → place ≢ NOWHERE → position (nat_eq member) members ≡ Some place

-- the tables of all members hash by this seed
abbrev pub HaveSeed : Seed → List (ℕ × NamesOfMember) → Type 0
HaveSeed seed names = (member : ℕ) → IfSome (names_of names member) (λ own. own.table.seed ≡ seed)

-- the key of the name of this member and reference
unfoldable pub lookup : List (ℕ × NamesOfMember) → ℕ → ℕ → Option ℕ
lookup names member reference = key_among reference (names_of names member)

-- for how many names more of this member room is reserved
unfoldable pub reserved : List (ℕ × NamesOfMember) → ℕ → ℕ
reserved names member = reserved_among (names_of names member)

abbrev pub exceeds : ℕ → Option ℕ → Bool
exceeds reference None = false
exceeds reference (Some noted) = nat_lt noted reference

-- a reference is above the highest one that is noted of a member
abbrev pub is_above : List ℕ → ℕ → ℕ → Bool
is_above highest member reference = exceeds reference (slice_get highest member)
