-- The best of prices is that of the best of a part and of the rest.
use Rattle.std.proofs.Common.{◌≡◌, ℕ, if◌then◌else◌, List, [], ◌∷◌, ◌++◌, refl, sym, ap, ◌∙◌, arith}
use Rattle.std.specs.Option.{option_to_list}
use Rattle.std.specs.Prelude.{nat_le}
use Rattle.std.proofs.lemmas.Bool.Decides.{nat_tests}
use Rattle.xm_rules.specs.Sides.{best, best_from, better}
use Rattle.xm_rules.specs.declared.orders.Side.{Side}
use Rattle.xm_rules.specs.declared.orders.Side.TheVariants.{Buy, Sell}

highest : (p q r : ℕ) → ◌≡◌ {A = ℕ} (if nat_le r (if nat_le q p then p else q) then (if nat_le q p then p else q) else r) (if nat_le (if nat_le r q then q else r) p then p else (if nat_le r q then q else r))
highest p q r = grind (arith, nat_tests)

lowest : (p q r : ℕ) → ◌≡◌ {A = ℕ} (if nat_le (if nat_le p q then p else q) r then (if nat_le p q then p else q) else r) (if nat_le p (if nat_le q r then q else r) then p else (if nat_le q r then q else r))
lowest p q r = grind (arith, nat_tests)

of_three : (side : Side) (p q r : ℕ) → better side (better side p q) r ≡ better side p (better side q r)
of_three Buy p q r = highest p q r
of_three Sell p q r = lowest p q r

from_better : (side : Side) (p q : ℕ) (qs : List ℕ) → best_from side (better side p q) qs ≡ better side p (best_from side q qs)
from_better side p q [] = refl
from_better side p q (r ∷ rs) = ap (λ (x : ℕ). best_from side x rs) (of_three side p q r) ∙ from_better side p (better side q r) rs

pub from_best : (side : Side) (p : ℕ) (ps : List ℕ) → best_from side p (option_to_list (best side ps)) ≡ best_from side p ps
from_best side p [] = refl
from_best side p (q ∷ qs) = sym (from_better side p q qs)

from_both : (side : Side) (p : ℕ) (ps qs : List ℕ) → best_from side p (ps ++ qs) ≡ best_from side (best_from side p ps) qs
from_both side p [] qs = refl
from_both side p (q ∷ ps) qs = from_both side (better side p q) ps qs

pub in_two_steps : (side : Side) (p : ℕ) (ps qs : List ℕ) → best_from side (best_from side p (option_to_list (best side ps))) qs ≡ best_from side p (ps ++ qs)
in_two_steps side p ps qs = ap (λ (x : ℕ). best_from side x qs) (from_best side p ps) ∙ sym (from_both side p ps qs)
