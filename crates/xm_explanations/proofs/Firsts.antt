-- The first of faults, and of the mistakes of files that are told one behind the other.
use Rattle.std.proofs.Common.{◌≡◌, ◌∙◌, ◌++◌, List, [], ◌∷◌, Option, Some, None, refl, sym, ap}
use Rattle.xm_explanations.specs.Explained.{after_first, first_told, found_fault}
use Rattle.xm_explanations.specs.declared.mistaken.MistakenFile.{MistakenFile}

pub after-none : {A : Type 0} (fault : Option A) → after_first fault None ≡ fault
after-none None = refl
after-none (Some x) = refl

pub after-both : {A : Type 0} (first second third : Option A) → after_first (after_first first second) third ≡ after_first first (after_first second third)
after-both None second third = refl
after-both (Some x) second third = refl

-- of files, and of one behind them
pub told-more : (told : List MistakenFile) (file : MistakenFile) → first_told (told ++ file ∷ []) ≡ after_first (first_told told) (found_fault file.found)
told-more [] file = after-none (found_fault file.found)
told-more (first ∷ told) file =
    ap (after_first (found_fault first.found)) (told-more told file) ∙ sym (after-both (found_fault first.found) (first_told told) (found_fault file.found))
