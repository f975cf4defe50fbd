-- The keys of a member's table and of the names that found no place in it.
use Rattle.std.proofs.Common.{◌≡◌, ℕ, Bool, true, false, if◌then◌else◌, Option, Some, None, IsSome, refl, sym, subst, ap, ◌∙◌}
use Rattle.xm_name_index.specs.Names.{Retains, first_of}

module _ (A : ℕ → Bool → Type 0) where
  kept-none : (o left : Option ℕ) → Retains A o left → o ≡ None → left ≡ None
  kept-none None left kept none = kept
  kept-none (Some key) left kept none = absurd (cc)

  -- a name is in one of both, and stays there
  retains-some : (key : ℕ) (b : Bool) (first rest rest' : Option ℕ) → A key b → first ≡ (if b then Some key else None) → rest' ≡ None → Retains A (Some key) (first_of first rest')
  retains-some key true first rest rest' a is none = (true, a, ap (λ (o : Option ℕ). first_of o rest') is)
  retains-some key false first rest rest' a is none = (false, a, ap (λ (o : Option ℕ). first_of o rest') is ∙ none)

  pub retains-first : (old old' rest rest' : Option ℕ) → Retains A old old' → Retains A rest rest' → (IsSome old → rest ≡ None) → Retains A (first_of old rest) (first_of old' rest')
  retains-first None old' rest rest' kept later apart = subst (λ (o : Option ℕ). Retains A rest (first_of o rest')) (sym kept) later
  retains-first (Some key) old' rest rest' kept later apart = retains-some key kept.0 old' rest rest' kept.1 kept.2 (kept-none rest rest' later (apart refl))

  -- what stays was there
  pub was-some : (o left : Option ℕ) → Retains A o left → IsSome left → IsSome o
  was-some None left kept some = subst IsSome kept some
  was-some (Some key) left kept some = refl

  pub still-none : (o left : Option ℕ) → o ≡ None → Retains A o left → left ≡ None
  still-none o left none kept = kept-none o left kept none
