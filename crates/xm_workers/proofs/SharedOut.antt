-- The shares of all workers are the members' rows.
use Rattle.std.proofs.Common.{◌≡◌, ℕ, zero, suc, ◌+◌, ◌<◌, ◌≤◌, ◌%◌, ◌==◌, Bool, true, false, ◌&&◌, List, [], ◌∷◌, length, Option, None, Some, is_some, refl, ap, arith}
use Rattle.std.proofs.lemmas.Bool.Decides.{nat_tests}
use Rattle.std.proofs.lemmas.Nat.{mod_below}
use Rattle.std.specs.List.{filter, list_all}
use Rattle.std.specs.Option.{option_map_or}
use Rattle.xm_workers.specs.Workers.{shared_out}
use Rattle.xm_files.specs.Timetable.{is_of_member, is_worked_by, share_of}
use Rattle.xm_rules.specs.Commands.{member_of}
use Rattle.xm_config.specs.declared.rows.Row.{Row}

-- one, where a number is the worker's
abbrev one_if : Bool → ℕ
one_if true = 1
one_if false = 0

-- how many of the first workers have this number
abbrev ones : ℕ → ℕ → ℕ
ones zero number = 0
ones (suc worker) number = ones worker number + one_if (number == worker)

ones-past : (worker number : ℕ) → worker ≤ number → ones worker number ≡ 0
ones-past zero number past = refl
ones-past (suc worker) number past =
    let other : (number == worker) ≡ false = grind (arith, nat_tests) in
    let before = ones-past worker number (omega arith) in
    rw other (omega (arith, before))

ones-next : (worker number : ℕ) (b : Bool) → (number == worker) ≡ b → number < suc worker → (number < worker → ones worker number ≡ 1) → ones worker number + one_if b ≡ 1
ones-next worker number true is within before =
    let same : worker ≤ number = grind (arith, nat_tests) in
    omega (arith, ones-past worker number same)
ones-next worker number false is within before =
    let below : number < worker = grind (arith, nat_tests) in
    omega (arith, before below)

ones-within : (worker number : ℕ) → number < worker → ones worker number ≡ 1
ones-within zero number within = absurd (omega arith)
ones-within (suc worker) number within = ones-next worker number (number == worker) refl within (ones-within worker number)

filter-cons : (p : Row → Bool) (row : Row) (rows : List Row) (b : Bool) → p row ≡ b → length (filter p (row ∷ rows)) ≡ one_if b + length (filter p rows)
filter-cons p row rows true is = rw is (omega arith)
filter-cons p row rows false is = rw is (omega arith)

shared_out-cons : (worker workers member : ℕ) (row : Row) (rows : List Row) → member_of row.command ≡ Some member
    → shared_out worker workers (row ∷ rows) ≡ ones worker (member % workers) + shared_out worker workers rows
shared_out-cons zero workers member row rows of = refl
shared_out-cons (suc worker) workers member row rows of =
    let before = shared_out-cons worker workers member row rows of in
    let is : is_worked_by worker workers row ≡ ((member % workers) == worker) = ap (λ (m : Option ℕ). option_map_or (λ member. (member % workers) == worker) m false) of in
    let next = filter-cons (is_worked_by worker workers) row rows ((member % workers) == worker) is in
    omega (arith, before, next)

member-of : (m : Option ℕ) → is_some m ≡ true → (member : ℕ) × (m ≡ Some member)
member-of None is = absurd (cc)
member-of (Some member) is = (member, refl)

both-true : (a b : Bool) → (a && b) ≡ true → (a ≡ true) × (b ≡ true)
both-true true b is = (refl, is)
both-true false b is = absurd (cc)

-- each member's row is in one share
pub shared_out-all : (workers : ℕ) (rows : List Row) → 0 < workers → list_all is_of_member rows ≡ true → shared_out workers workers rows ≡ length rows
shared_out-all workers [] some all = shared_out-none workers
  where
    shared_out-none : (worker : ℕ) → shared_out worker workers [] ≡ 0
    shared_out-none zero = refl
    shared_out-none (suc worker) = omega (arith, shared_out-none worker)
shared_out-all workers (row ∷ rows) some all =
    let both = both-true (is_of_member row) (list_all is_of_member rows) all in
    let of = member-of (member_of row.command) both.0 in
    let cons = shared_out-cons workers workers of.0 row rows of.1 in
    let one = ones-within workers (of.0 % workers) (mod_below of.0 workers some) in
    let rest = shared_out-all workers rows some both.1 in
    omega (arith, cons, one, rest)

-- the share of one worker more
pub shared_out-step : (n k workers : ℕ) (rows : List Row) → n ≡ k + 1 → shared_out n workers rows ≡ shared_out k workers rows + length (share_of k workers rows)
shared_out-step n k workers rows is =
    let next : n ≡ suc k = omega arith in
    ap (λ (m : ℕ). shared_out m workers rows) next
