-- The keys of a table, and the items of an array as a loop goes over them.
use Rattle.std.proofs.Common.{Bor, ◌≡◌, ℕ, List, [], ◌∷◌, ◌++◌, map, Option, option_map, refl, String, Global, string_bytes}
use Rattle.std.specs.List.{list_all, list_any}
use Rattle.std.specs.Str.{bytes_eq}
use Rattle.toml.specs.Data.{Data, Items}
use Rattle.toml.specs.declared.value.Value.{Value}
use Rattle.toml.specs.View.{members_view}
use Rattle.xm_files.proofs.NameFacts.{list_any-map}
use Rattle.xm_files.specs.Segment.{all_in, has_only}

-- the keys of a table are those of its members
pub only-members : (allowed : List (Bor (List ℕ))) (es : List (String Global × Value))
    → list_all (λ key. list_any (λ other. bytes_eq (string_bytes key) other.now) allowed) (map (λ e. e.0) es) ≡ has_only (map (λ k. k.now) allowed) (members_view es)
only-members allowed [] = refl
only-members allowed (e ∷ es) =
    rw (list_any-map (bytes_eq (string_bytes e.0)) (λ (k : Bor (List ℕ)). k.now) allowed, only-members allowed es) refl

-- the values are these and then what is left
abbrev pub SoFar : {A : Type 0} → (Data → Option A) → Items → List A → Items → Type 0
SoFar is all done left = all_in is all ≡ option_map (λ rest. done ++ rest) (all_in is left)
