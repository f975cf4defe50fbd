-- A sum that rises with an order that comes in by no more than it falls with its stop's release doesn't rise while stops are settled.
use Rattle.std.proofs.Common.{◌≡◌, ℕ, zero, suc, ◌+◌, ◌≤◌, Bool, true, false, not, if◌then◌else◌, List, [], ◌∷◌, ◌++◌, filter, length, sum_by, arith}
use Rattle.std.proofs.lemmas.List.Sums.{sum_by-append, sum_by-cons}
use Rattle.xm_rules.specs.Settling.{come, order_of_stop, reached, released, settle, settle_in, take_pending}
use Rattle.xm_rules.specs.State.{State}
use Rattle.xm_rules.specs.declared.orders.Stop.{Stop}
use Rattle.xm_rules.proofs.Orderings.{sum-filter}
use Rattle.xm_rules.proofs.Sums.{sum-add, sum-each}

split_by : (b : Bool) (n : ℕ) → (if b then n else 0) + (if not b then n else 0) ≡ n
split_by true n = omega arith
split_by false n = omega arith

-- those that pass a test and those that don't
pub split : {X : Type 0} (f : X → ℕ) (p : X → Bool) (xs : List X) → sum_by f (filter p xs) + sum_by f (filter (λ x. not (p x)) xs) ≡ sum_by f xs
split f p xs =
    omega (
      arith,
      sum-filter f p xs,
      sum-filter f (λ x. not (p x)) xs,
      sum-add (λ x. if p x then f x else 0) (λ x. if not (p x) then f x else 0) xs,
      sum-each (λ x. (if p x then f x else 0) + (if not (p x) then f x else 0)) f xs (λ x. split_by (p x) (f x)),
    )

pub part : {X : Type 0} (f : X → ℕ) (p : X → Bool) (xs : List X) → sum_by f (filter p xs) ≤ sum_by f xs
part f p xs = omega (arith, split f p xs)

module _ (sum_of : State → ℕ) (of_stop : Stop → ℕ) (comes : (s : State) (stop : Stop) → sum_of (come s (order_of_stop stop)) ≤ sum_of s + of_stop stop)
    (releases : (s : State) → sum_of (released s) + sum_by of_stop (reached s) ≤ sum_of s) where
  taken-within : (more : State → List Stop → State) → ((s : State) (pending : List Stop) → sum_of (more s pending) ≤ sum_of s + sum_by of_stop pending)
      → (s : State) (pending : List Stop) → sum_of (take_pending more s pending) ≤ sum_of s + sum_by of_stop pending
  taken-within more keeps s [] = omega arith
  taken-within more keeps s (stop ∷ stops) = omega (arith, keeps (come s (order_of_stop stop)) stops, comes s stop, sum_by-cons of_stop stop stops)

  settled-within : (turns : ℕ) (s : State) (pending : List Stop) → sum_of (settle_in turns s pending) ≤ sum_of s + sum_by of_stop pending
  settled-within zero s pending = omega arith
  settled-within (suc turns) s pending =
      omega (arith, taken-within (settle_in turns) (settled-within turns) (released s) (pending ++ reached s), releases s, sum_by-append of_stop pending (reached s))

  pub settle-within : (s : State) → sum_of (settle s []) ≤ sum_of s
  settle-within s = omega (arith, settled-within (length s.stops + 0) s [])
