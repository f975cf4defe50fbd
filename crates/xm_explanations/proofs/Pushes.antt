-- Texts that grow piece by piece.
use Rattle.std.proofs.Common.{◌≡◌, ◌++◌, ◌∙◌, List, ℕ, ap, append_assoc}

-- a piece, and others behind it
pub then-others : (old new whole piece others : List ℕ) → new ≡ old ++ piece → whole ≡ new ++ others → whole ≡ old ++ (piece ++ others)
then-others old new whole piece others p q = q ∙ ap (λ (l : List ℕ). l ++ others) p ∙ append_assoc old piece others
