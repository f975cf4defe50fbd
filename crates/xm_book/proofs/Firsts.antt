-- The order of a queue that has none ahead of it.
use Rattle.std.proofs.Common.{◌≡◌, ◌<◌, Bool, true, false, not, List, [], ◌∷◌, Contains, Some, subst, ◌⊎◌, inl, inr}
use Rattle.std.specs.List.{list_any}
use Rattle.std.proofs.lemmas.Bool.{both_ways, cases_eq, not-true, not_from_false, or_cases}
use Rattle.xm_book.specs.Queues.{first}
use Rattle.xm_slots.proofs.Members.{Contains-cases, Contains-none, find-only, list_any-false, list_any-none}
use Rattle.xm_rules.specs.Active.{Positioned}
use Rattle.xm_rules.specs.Priority.{is_ahead}
use Rattle.xm_rules.specs.declared.orders.Side.{Side}
use Rattle.xm_rules.proofs.Ahead.{ahead_one}
use Rattle.xm_rules.proofs.Positions.{Later, Rising, same_at_position}

later_by : (x z : Positioned) (xs : List Positioned) (y : Positioned) → x.position < z.position → (Contains xs y → x.position < y.position)
    → (z ≡ y) ⊎ Contains xs y → x.position < y.position
later_by x z xs y h rest (inl e) = subst (λ (i : Positioned). x.position < i.position) e h
later_by x z xs y h rest (inr at) = rest at

-- those that stand later in a list have later positions
pub later_in : (x : Positioned) (xs : List Positioned) (y : Positioned) → Later x xs → Contains xs y → x.position < y.position
later_in x [] y h at = absurd (Contains-none y at)
later_in x (z ∷ xs) y h at = later_by x z xs y h.0 (λ i. later_in x xs y h.1 i) (Contains-cases z xs y at)

-- of two in a queue either is ahead, or they are one
pub one_or_ahead : (side : Side) (queue : List Positioned) → Rising queue → (i j : Positioned) → Contains queue i → Contains queue j
    → (i ≡ j) ⊎ ((is_ahead side i j ≡ true) ⊎ (is_ahead side j i ≡ true))
one_or_ahead side queue rising i j at to = by_position (cases_eq i.position j.position)
  where
    by_position : (i.position ≡ j.position) ⊎ (i.position ≡ j.position → ⊥) → (i ≡ j) ⊎ ((is_ahead side i j ≡ true) ⊎ (is_ahead side j i ≡ true))
    by_position (inl e) = inl (same_at_position queue rising i j at.0 at.1 at.2 to.0 to.1 to.2 e)
    by_position (inr d) = inr (or_cases (is_ahead side i j) (is_ahead side j i) (ahead_one side i j d))

pub first_is : (side : Side) (queue : List Positioned) → Rising queue → (x : Positioned) → Contains queue x
    → ((i : Positioned) → Contains queue i → is_ahead side i x ≡ false) → first side queue ≡ Some x
first_is side queue rising x at none =
    find-only passes queue x (record { contains = at; passes = not_from_false (list_any (λ (i : Positioned). is_ahead side i x) queue) (list_any-none (λ (i : Positioned). is_ahead side i x) queue none) })
    (λ z to h. only z to h (one_or_ahead side queue rising z x to at))
  where
    passes : Positioned → Bool
    passes = λ (j : Positioned). not (list_any (λ (i : Positioned). is_ahead side i j) queue)

    only : (z : Positioned) → Contains queue z → passes z ≡ true → (z ≡ x) ⊎ ((is_ahead side z x ≡ true) ⊎ (is_ahead side x z ≡ true)) → z ≡ x
    only z to h (inl e) = e
    only z to h (inr (inl e)) = absurd (both_ways (is_ahead side z x) (none z to) e)
    only z to h (inr (inr e)) =
        absurd (both_ways (is_ahead side x z)
        (list_any-false (λ (i : Positioned). is_ahead side i z) queue x (not-true (list_any (λ (i : Positioned). is_ahead side i z) queue) h) at) e)
