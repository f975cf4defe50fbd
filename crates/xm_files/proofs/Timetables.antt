-- The first round of rows, and the rounds after it.
use Rattle.std.proofs.Common.{◌≡◌, ℕ, ◌+◌, ◌-◌, ◌<◌, zero, suc, take, append_assoc, length-drop, Bool, true, false, not, List, [], ◌∷◌, ◌++◌, drop, length, refl, sym, ap, subst, ◌∙◌, arith, nat_lt}
use Rattle.std.proofs.Math.Seq.{drop-nil, take-length}
use Rattle.std.proofs.lemmas.Bool.Decides.{nat_tests}
use Rattle.std.specs.List.{position_or_len}
use Rattle.xm_files.specs.Timetable.{is_of_member, rounds_from, rounds_of, with_member, with_phase}
use Rattle.xm_files.specs.declared.timetable.Round.{Round}
use Rattle.xm_config.specs.declared.rows.Row.{Row}

-- how many members' rows come first, and how many phase rows
abbrev pub members_first : List Row → ℕ
members_first rows = position_or_len (λ row. not (is_of_member row)) rows

abbrev pub phases_first : List Row → ℕ
phases_first rows = position_or_len is_of_member rows

abbrev pub round_at : ℕ → ℕ → ℕ → Round
round_at at members phases = record { first = at; phase = at + members; end = at + members + phases }

-- a member's row before rounds
joined : (at members phases : ℕ) (rounds more : List Round) → rounds ≡ round_at (at + 1) members phases ∷ more → with_member at rounds ≡ round_at at (1 + members) phases ∷ more
joined at members phases rounds more e =
    let later : at + 1 + members ≡ at + (1 + members) = omega arith in
    ap (with_member at) e ∙ ap (λ (k : ℕ). record { first = at; phase = k; end = k + phases } ∷ more) later

-- a phase row before rounds, of which the first has no member's row
joined-phase : (at members phases : ℕ) (rounds more : List Round) → rounds ≡ round_at (at + 1) members phases ∷ more → members ≡ 0 → with_phase at rounds ≡ round_at at 0 (1 + phases) ∷ more
joined-phase at members phases rounds more e none =
    let test : nat_lt (at + 1) (at + 1 + members) ≡ false = grind (arith, nat_tests, none) in
    let begins : at ≡ at + 0 = omega arith in
    let ends : at + 1 + members + phases ≡ at + 0 + (1 + phases) = omega (arith, none) in
    ap (with_phase at) e ∙ rw test (ap (λ (k : ℕ). record { first = at; phase = k; end = at + 1 + members + phases } ∷ more) begins ∙ ap (λ (k : ℕ). record { first = at; phase = at + 0; end = k } ∷ more) ends)

-- and of which the first has one
pub apart : (at members phases : ℕ) (rounds more : List Round) → rounds ≡ round_at (at + 1) members phases ∷ more → 0 < members → with_phase at rounds ≡ round_at at 0 1 ∷ rounds
apart at members phases rounds more e some =
    let test : nat_lt (at + 1) (at + 1 + members) ≡ true = grind (arith, nat_tests, some) in
    let begins : at ≡ at + 0 = omega arith in
    rw e (rw test (ap (λ (k : ℕ). record { first = at; phase = k; end = k + 1 } ∷ round_at (at + 1) members phases ∷ more) begins))

-- the first round of rows has so many rows of members and of phases
abbrev pub BeginsWith : ℕ → List Row → ℕ → ℕ → Type 0
BeginsWith at rows members phases = rounds_from at rows ≡ round_at at members phases ∷ rounds_from (at + members + phases) (drop (members + phases) rows)

abbrev pub Begins : ℕ → List Row → Type 0
Begins at rows = BeginsWith at rows (members_first rows) (phases_first (drop (members_first rows) rows))

to-begins : (at : ℕ) (rows : List Row) (members phases : ℕ) → members_first rows ≡ members → phases_first (drop members rows) ≡ phases → BeginsWith at rows members phases → Begins at rows
to-begins at rows members phases e f h =
    let g : phases_first (drop (members_first rows) rows) ≡ phases = ap (λ (k : ℕ). phases_first (drop k rows)) e ∙ f in
    subst (λ (k : ℕ). BeginsWith at rows k (phases_first (drop (members_first rows) rows))) (sym e) (subst (λ (k : ℕ). BeginsWith at rows members k) (sym g) h)

pub members-of-member : (row : Row) (rows : List Row) → is_of_member row ≡ true → members_first (row ∷ rows) ≡ 1 + members_first rows
members-of-member row rows of = rw of refl

members-of-phase : (row : Row) (rows : List Row) → is_of_member row ≡ false → members_first (row ∷ rows) ≡ 0
members-of-phase row rows of = rw of refl

phases-of-member : (row : Row) (rows : List Row) → is_of_member row ≡ true → phases_first (row ∷ rows) ≡ 0
phases-of-member row rows of = rw of refl

phases-of-phase : (row : Row) (rows : List Row) → is_of_member row ≡ false → phases_first (row ∷ rows) ≡ 1 + phases_first rows
phases-of-phase row rows of = rw of refl

pub rounds-of-member : (at : ℕ) (row : Row) (rows : List Row) → is_of_member row ≡ true → rounds_from at (row ∷ rows) ≡ with_member at (rounds_from (at + 1) rows)
rounds-of-member at row rows of = rw of refl

pub rounds-of-phase : (at : ℕ) (row : Row) (rows : List Row) → is_of_member row ≡ false → rounds_from at (row ∷ rows) ≡ with_phase at (rounds_from (at + 1) rows)
rounds-of-phase at row rows of = rw of refl

drop-next : (n k : ℕ) (row : Row) (rows : List Row) → n ≡ suc k → drop n (row ∷ rows) ≡ drop k rows
drop-next n k row rows e = ap (λ (j : ℕ). drop j (row ∷ rows)) e

after-member : (at : ℕ) (row : Row) (rows : List Row) → is_of_member row ≡ true → (0 < length rows → Begins (at + 1) rows) → Begins at (row ∷ rows)
after-member at row [] of later =
    let end : at + 1 ≡ at + 1 + 0 = omega arith in
    to-begins at (row ∷ []) 1 0 (members-of-member row [] of) refl (rounds-of-member at row [] of ∙ ap (λ (k : ℕ). record { first = at; phase = at + 1; end = k } ∷ []) end)
after-member at row (next ∷ rows) of later =
    let rest = next ∷ rows in
    let members = members_first rest in
    let phases = phases_first (drop members rest) in
    let place : at + 1 + members + phases ≡ at + (1 + members) + phases = omega arith in
    let one : 1 + members ≡ suc members = omega arith in
    let all : 1 + members + phases ≡ suc (members + phases) = omega arith in
    to-begins at (row ∷ rest) (1 + members) phases (members-of-member row rest of) (ap phases_first (drop-next (1 + members) members row rest one))
    (rounds-of-member at row rest of
    ∙ joined at members phases (rounds_from (at + 1) rest) _ (later (omega arith))
    ∙ ap (λ (k : ℕ). round_at at (1 + members) phases ∷ rounds_from k (drop (members + phases) rest)) place
    ∙ ap (λ (left : List Row). round_at at (1 + members) phases ∷ rounds_from (at + (1 + members) + phases) left) (sym (drop-next (1 + members + phases) (members + phases) row rest all)))

phase-by : (at : ℕ) (row next : Row) (rows : List Row) (t : Bool) → is_of_member next ≡ t → is_of_member row ≡ false → Begins (at + 1) (next ∷ rows) → Begins at (row ∷ next ∷ rows)
phase-by at row next rows true is of begins =
    let rest = next ∷ rows in
    let members = members_first rest in
    let one = members-of-member next rows is in
    let some : 0 < members = omega (arith, one) in
    let place : at + 1 ≡ at + 0 + 1 = omega arith in
    to-begins at (row ∷ rest) 0 1 (members-of-phase row rest of) (phases-of-phase row rest of ∙ ap (λ (k : ℕ). 1 + k) (phases-of-member next rows is))
    (rounds-of-phase at row rest of
    ∙ apart at members (phases_first (drop members rest)) (rounds_from (at + 1) rest) _ begins some
    ∙ ap (λ (k : ℕ). round_at at 0 1 ∷ rounds_from k rest) place)
phase-by at row next rows false is of begins =
    let rest = next ∷ rows in
    let members = members_first rest in
    let phases = phases_first (drop members rest) in
    let none : members ≡ 0 = members-of-phase next rows is in
    let same : phases_first rest ≡ phases = sym (ap (λ (k : ℕ). phases_first (drop k rest)) none) in
    let place : at + 1 + members + phases ≡ at + 0 + (1 + phases) = omega (arith, none) in
    let all : 0 + (1 + phases) ≡ suc (members + phases) = omega (arith, none) in
    to-begins at (row ∷ rest) 0 (1 + phases) (members-of-phase row rest of) (phases-of-phase row rest of ∙ ap (λ (k : ℕ). 1 + k) same)
    (rounds-of-phase at row rest of
    ∙ joined-phase at members phases (rounds_from (at + 1) rest) _ begins none
    ∙ ap (λ (k : ℕ). round_at at 0 (1 + phases) ∷ rounds_from k (drop (members + phases) rest)) place
    ∙ ap (λ (left : List Row). round_at at 0 (1 + phases) ∷ rounds_from (at + 0 + (1 + phases)) left) (sym (drop-next (0 + (1 + phases)) (members + phases) row rest all)))

after-phase : (at : ℕ) (row : Row) (rows : List Row) → is_of_member row ≡ false → (0 < length rows → Begins (at + 1) rows) → Begins at (row ∷ rows)
after-phase at row [] of later =
    let begins : at ≡ at + 0 = omega arith in
    to-begins at (row ∷ []) 0 1 (members-of-phase row [] of) (phases-of-phase row [] of) (rounds-of-phase at row [] of ∙ ap (λ (k : ℕ). record { first = at; phase = k; end = k + 1 } ∷ []) begins)
after-phase at row (next ∷ rows) of later = phase-by at row next rows (is_of_member next) refl of (later (omega arith))

either : (at : ℕ) (row : Row) (rows : List Row) (t : Bool) → is_of_member row ≡ t → (0 < length rows → Begins (at + 1) rows) → Begins at (row ∷ rows)
either at row rows true of later = after-member at row rows of later
either at row rows false of later = after-phase at row rows of later

-- the first round has the members' rows that come first and the phase rows after them
pub first-round : (at : ℕ) (rows : List Row) → 0 < length rows → Begins at rows
first-round at [] some = absurd (omega arith)
first-round at (row ∷ rows) some = either at row rows (is_of_member row) refl (first-round (at + 1) rows)

drop-again : (n m : ℕ) (rows : List Row) → drop m (drop n rows) ≡ drop (n + m) rows
drop-again zero m rows =
    let same : 0 + m ≡ m = omega arith in
    ap (λ (k : ℕ). drop k rows) (sym same)
drop-again (suc n) m [] = drop-nil m ∙ sym (drop-nil (suc n + m))
drop-again (suc n) m (row ∷ rows) =
    let same : suc n + m ≡ suc (n + m) = omega arith in
    drop-again n m rows ∙ ap (λ (k : ℕ). drop k (row ∷ rows)) (sym same)

-- one more round
pub rounds-more : (rows : List Row) (done : List Round) (first phase end : ℕ) → first < length rows → rounds_of rows ≡ done ++ rounds_from first (drop first rows)
    → phase ≡ first + members_first (drop first rows) → end ≡ phase + phases_first (drop phase rows)
    → rounds_of rows ≡ (done ++ record { first = first; phase = phase; end = end } ∷ []) ++ rounds_from end (drop end rows)
rounds-more rows done first phase end within so_far p e =
    let rest = drop first rows in
    let members = members_first rest in
    let size = length-drop first rows in
    let some : 0 < length rest = omega (arith, size, within) in
    let there : phases_first (drop members rest) ≡ phases_first (drop phase rows) = ap phases_first (drop-again first members rows ∙ ap (λ (k : ℕ). drop k rows) (sym p)) in
    let to : first + members + phases_first (drop members rest) ≡ end = ap (λ (k : ℕ). first + members + k) there ∙ ap (λ (k : ℕ). k + phases_first (drop phase rows)) (sym p) ∙ sym e in
    let left : drop (members + phases_first (drop members rest)) rest ≡ drop end rows =
    drop-again first (members + phases_first (drop members rest)) rows ∙ ap (λ (k : ℕ). drop k rows) (let sum : first + (members + phases_first (drop members rest)) ≡ first + members + phases_first (drop members rest) = omega arith in sum ∙ to) in
    so_far
    ∙ ap (λ (rounds : List Round). done ++ rounds)
    (first-round first rest some
    ∙ ap (λ (k : ℕ). record { first = first; phase = k; end = first + members + phases_first (drop members rest) } ∷ rounds_from (first + members + phases_first (drop members rest)) (drop (members + phases_first (drop members rest)) rest)) (sym p)
    ∙ ap (λ (k : ℕ). record { first = first; phase = phase; end = k } ∷ rounds_from k (drop (members + phases_first (drop members rest)) rest)) to
    ∙ ap (λ (rs : List Row). record { first = first; phase = phase; end = end } ∷ rounds_from end rs) left)
    ∙ sym (append_assoc done (record { first = first; phase = phase; end = end } ∷ []) (rounds_from end (drop end rows)))

-- what is lent from a place on
pub lent-from : (rows : List Row) (n : ℕ) → take (length rows - n) (drop n rows) ≡ drop n rows
lent-from rows n = ap (λ (k : ℕ). take k (drop n rows)) (sym (length-drop n rows)) ∙ take-length (drop n rows)
