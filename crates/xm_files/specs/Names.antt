-- Names by their bytes.
use Rattle.std.specs.Prelude.{◌≡◌, ℕ, Bool, List, String, position}
use Rattle.std.specs.Global.{Global}
use Rattle.std.specs.BTreeMap.{BTreeMap, get_by_text}
use Rattle.std.specs.List.{list_any}
use Rattle.std.specs.Str.{bytes_eq}

-- the names of the members and of the securities, in index order
pub record NameLists : Type 0 where
  pub members : List (List ℕ)
  pub securities : List (List ℕ)

-- the name is one of these
abbrev pub is_among : List ℕ → List (List ℕ) → Bool
is_among name names = list_any (bytes_eq name) names

-- the map leads from each of the names to its place, and from no other
abbrev pub ArePlaces : List (List ℕ) → BTreeMap (String Global) ℕ → Type 0
ArePlaces names places = (name : List ℕ) → get_by_text places name ≡ position (bytes_eq name) names
