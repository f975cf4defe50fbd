-- What is found for each element of a list, one element after another.
use Rattle.std.proofs.Common.{◌≡◌, ℕ, ◌+◌, ◌<◌, List, [], ◌∷◌, ◌++◌, length, get_or, take, Option, Some, None, refl, sym, ap, ◌∙◌}
use Rattle.std.specs.List.{cons_option, filter_map}
use Rattle.std.specs.Option.{option_to_list}
use Rattle.std.proofs.lemmas.List.{take_more}
use Rattle.std.proofs.lemmas.List.Elements.{filter_map-append}

module _ {X Y : Type 0} (f : X → Option Y) where
  one : (found : Option Y) → cons_option found [] ≡ option_to_list found
  one None = refl
  one (Some y) = refl

  -- and once more
  pub found-more : (xs : List X) (i : ℕ) (d : X) (found : Option Y) → i < length xs → found ≡ f (get_or xs i d) → filter_map f (take (i + 1) xs) ≡ filter_map f (take i xs) ++ option_to_list found
  found-more xs i d found within is =
      ap (filter_map f) (take_more xs i d within) ∙ filter_map-append f (take i xs) (get_or xs i d ∷ [])
      ∙ ap (λ (ys : List Y). filter_map f (take i xs) ++ ys) (one (f (get_or xs i d)) ∙ ap option_to_list (sym is))
