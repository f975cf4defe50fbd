-- How a number keeps a key or none.
use Rattle.std.specs.Prelude.{◌≡◌, ℕ, eqb, cond, Option, Some, None, refl}
use Rattle.std.proofs.Common.{ap, inl, inr, ne_eqb}
use Rattle.std.proofs.lemmas.Bool.{cases_eq}
use Rattle.xm_queues.specs.declared.links.MaybeKey.TheInside.{Inside}
use Rattle.xm_queues.specs.declared.links.TheConstants.{MAX_KEYS}

-- the key that a number stands for
abbrev pub key_of_number : ℕ → Option ℕ
key_of_number n = cond (eqb n MAX_KEYS) None (Some n)

-- the number that stands for a key, or for none
abbrev pub number_of_key : Option ℕ → ℕ
number_of_key None = MAX_KEYS
number_of_key (Some key) = key

same_number : (n : ℕ) → number_of_key (key_of_number n) ≡ n
same_number n =
    elim (cases_eq n MAX_KEYS) [ inl same ↦ rw same refl | inr differs ↦ rw (ne_eqb n MAX_KEYS differs) refl ]

-- the number of the key of a number is that number
pub number_again : (k : Inside) → record { number = number_of_key (key_of_number k.number) } ≡ k
number_again k = ap (λ (n : ℕ). record { number = n }) (same_number k.number)
