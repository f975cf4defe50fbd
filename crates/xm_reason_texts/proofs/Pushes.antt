-- Texts that grow piece by piece.
use Rattle.std.proofs.Common.{◌≡◌, ◌++◌, ◌∙◌, ℕ, List, ap, append_assoc}

-- a piece, and others behind it
pub behind : (old new newer piece others : List ℕ) → new ≡ old ++ piece → newer ≡ new ++ others → newer ≡ old ++ (piece ++ others)
behind old new newer piece others p q = q ∙ ap (λ (l : List ℕ). l ++ others) p ∙ append_assoc old piece others
