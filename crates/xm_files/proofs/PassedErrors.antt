-- The error that a `?` passes on.
use Rattle.std.proofs.Common.{◌≡◌, Result, Ok, Err, IfErr, OnErr, subst, sym, ap}
use Rattle.std.specs.Result.{IsErrAnd}

-- what is answered is an error
pub is_passed : {A E : Type 0} (r : Result A E) (given : E) → IsErrAnd r (λ e. e ≡ given) → r ≡ Err given
is_passed (Ok x) given h = absurd h
is_passed (Err e) given h = ap Err h

-- what holds of the error holds of the one that is answered
pub if_passed : {A E : Type 0} (Q : E → Type 0) (r : Result A E) (given : E) → IsErrAnd r (λ e. e ≡ given) → Q given → IfErr r Q
if_passed Q (Ok x) given h q = absurd h
if_passed Q (Err e) given h q = subst Q (sym h) q

-- so it is where the error isn't named
pub on_err : {A E P : Type 0} (r : Result A E) → P → OnErr r P
on_err (Ok x) p = tt
on_err (Err e) p = p
