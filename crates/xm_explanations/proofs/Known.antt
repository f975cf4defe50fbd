-- Files of which all bytes are known.
use Rattle.std.proofs.Common.{◌≡◌, ℕ, List, [], ◌∷◌, Some, map, refl, ap₂}
use Rattle.xm_files.specs.OrderFiles.{AreBytesOf}

pub known-are : {S : Type 0} (now : S → List ℕ) (texts : List S) (files : List (List ℕ)) → AreBytesOf (map (λ text. Some (now text)) texts) files → files ≡ map now texts
known-are now [] [] are = refl
known-are now (text ∷ texts) (file ∷ files) are = ap₂ (λ (f : List ℕ) (fs : List (List ℕ)). f ∷ fs) are.0 (known-are now texts files are.1)
known-are now [] (file ∷ files) are = absurd are
known-are now (text ∷ texts) [] are = absurd are
