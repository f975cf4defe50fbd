-- Settings of securities that are given their lists one after the other.
use Rattle.std.proofs.Common.{◌≡◌, ℕ, zero, suc, ◌<◌, List, [], ◌∷◌, get_or, length, refl, ap, arith}
use Rattle.std.specs.Prelude.{slice_set}
use Rattle.xm_files.specs.Carry.{with_lists}
use Rattle.xm_rules.specs.Entries.{Entries, none_left}
use Rattle.xm_config.specs.declared.config.SecurityConfig.{SecurityConfig}

-- so many of them have their lists
abbrev pub filled_to : ℕ → List SecurityConfig → List Entries → List SecurityConfig
filled_to zero securities lists = securities
filled_to (suc n) [] lists = []
filled_to (suc n) (security ∷ securities) [] = security ∷ securities
filled_to (suc n) (security ∷ securities) (left ∷ lists) = record security { carried = left } ∷ filled_to n securities lists

pub filled-more : (n : ℕ) (securities : List SecurityConfig) (lists : List Entries) (d : SecurityConfig) → n < length securities → length lists ≡ length securities
    → filled_to (suc n) securities lists ≡ slice_set (filled_to n securities lists) n (record (get_or (filled_to n securities lists) n d) { carried = get_or lists n none_left })
filled-more n [] lists d within same = absurd (omega arith)
filled-more n (security ∷ securities) [] d within same = absurd (omega (arith, same))
filled-more zero (security ∷ securities) (left ∷ lists) d within same = refl
filled-more (suc n) (security ∷ securities) (left ∷ lists) d within same =
    ap (λ (rest : List SecurityConfig). record security { carried = left } ∷ rest) (filled-more n securities lists d (omega arith) (omega (arith, same)))

-- all have
pub filled-all : (securities : List SecurityConfig) (lists : List Entries) → filled_to (length securities) securities lists ≡ with_lists securities lists
filled-all [] lists = refl
filled-all (security ∷ securities) [] = refl
filled-all (security ∷ securities) (left ∷ lists) = ap (λ (rest : List SecurityConfig). record security { carried = left } ∷ rest) (filled-all securities lists)
