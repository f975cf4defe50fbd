-- Lists of checks: which is the first that fails, and what passed where none does.
use Rattle.std.proofs.Common.{◌≡◌, Bool, true, false, if◌then◌else◌, List, [], ◌∷◌, ◌++◌, Option, Some, None, refl}
use Rattle.xm_rules.specs.Refusals.{Check, first_failing}
use Rattle.xm_rules.specs.declared.replies.Refusal.{Refusal}

pub passes : (fails : Bool) (refusal : Refusal) (rest : Option Refusal) → (if fails then Some refusal else rest) ≡ None → (fails ≡ false) × (rest ≡ None)
passes true refusal rest h = cc
passes false refusal rest h = (refl, h)

fails_first : (fails : Bool) (own : Refusal) (rest more : Option Refusal) (refusal : Refusal) → (rest ≡ Some refusal → more ≡ Some refusal)
    → (if fails then Some own else rest) ≡ Some refusal → (if fails then Some own else more) ≡ Some refusal
fails_first true own rest more refusal same h = h
fails_first false own rest more refusal same h = same h

-- checks one after another: the first that fails is of the first ones, or else of the others
pub first_failing-append : (cs ds : List Check) (refusal : Refusal) → first_failing cs ≡ Some refusal → first_failing (cs ++ ds) ≡ Some refusal
first_failing-append [] ds refusal h = cc
first_failing-append (c ∷ cs) ds refusal h = fails_first c.fails c.refusal (first_failing cs) (first_failing (cs ++ ds)) refusal (first_failing-append cs ds refusal) h

pub first_failing-passed : (cs ds : List Check) → first_failing cs ≡ None → first_failing (cs ++ ds) ≡ first_failing ds
first_failing-passed [] ds h = refl
first_failing-passed (c ∷ cs) ds h = let passed = passes c.fails c.refusal (first_failing cs) h in rw passed.0 (first_failing-passed cs ds passed.1)

front_if : (b : Bool) (own rest more : Option Refusal) → (more ≡ None → rest ≡ None) → (if b then own else more) ≡ None → (if b then own else rest) ≡ None
front_if true own rest more later h = h
front_if false own rest more later h = later h

-- where no check fails, none of the first ones does, nor the last
pub first_failing-front : (cs ds : List Check) → first_failing (cs ++ ds) ≡ None → first_failing cs ≡ None
first_failing-front [] ds h = refl
first_failing-front (c ∷ cs) ds h = front_if c.fails (Some c.refusal) (first_failing cs) (first_failing (cs ++ ds)) (first_failing-front cs ds) h

pub last_passes : (cs : List Check) (c : Check) → first_failing (cs ++ c ∷ []) ≡ None → c.fails ≡ false
last_passes [] c h = (passes c.fails c.refusal None h).0
last_passes (d ∷ cs) c h = last_passes cs c (passes d.fails d.refusal (first_failing (cs ++ c ∷ [])) h).1
