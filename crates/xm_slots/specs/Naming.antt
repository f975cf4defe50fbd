-- Items by their names: each has an owner, and a number that is the owner's own.
use Rattle.std.specs.Prelude.{◌≡◌, ℕ, Bool, true, ◌&&◌, ◌==◌, not, nat_eq, List, [], ◌∷◌, find, map, Option, option_map}
use Rattle.std.specs.List.{IsDistinct, list_any}
use Rattle.std.specs.Map.{keys_of, lookup}
use Rattle.xm_slots.specs.Listing.{listed_item}
use Rattle.xm_slots.specs.declared.entry.Entry.{Entry}
use Rattle.xm_slots.specs.declared.listing.Listed.{Listed}

module _ {I : Type 0} (owner_of number_of : I → ℕ) where
  -- this owner and number are the item's name
  abbrev pub bears : ℕ → ℕ → I → Bool
  bears owner number x = (owner_of x == owner) && (number_of x == number)

  -- no two items have one name
  abbrev pub have_own_names : List I → Bool
  have_own_names [] = true
  have_own_names (x ∷ xs) = not (list_any (bears (owner_of x) (number_of x)) xs) && have_own_names xs

  abbrev pub has_name : ℕ → ℕ → Listed I → Bool
  has_name owner number x = bears owner number x.item

  -- the key of the item of a name
  abbrev pub key_by_name : ℕ → ℕ → List (Listed I) → Option ℕ
  key_by_name owner number xs = option_map (λ (x : Listed I). x.key) (find (has_name owner number) xs)

  -- an entry of this owner
  abbrev pub is_owned : ℕ → Entry I → Bool
  is_owned owner e = owner_of e.item == owner

  -- no two items have one name, and these are the numbers of an owner's items, each once, with their keys
  pub record AreNamesOf (owner : ℕ) (xs : List (Listed I)) (names : List (ℕ × ℕ)) : Type 0 where
    pub own : have_own_names (map listed_item xs) ≡ true
    pub keyed : (number : ℕ) → lookup (nat_eq number) names ≡ key_by_name owner number xs
    pub once : IsDistinct nat_eq (keys_of names)
