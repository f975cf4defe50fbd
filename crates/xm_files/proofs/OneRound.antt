-- Rounds that are read one by one: where one ends, and which rows make one.
use Rattle.std.proofs.Common.{◌≡◌, ℕ, ◌+◌, ◌-◌, ◌<◌, ◌≤◌, suc, Bool, true, false, not, ◌&&◌, if◌then◌else◌, List, [], ◌∷◌, ◌++◌, drop, length, nat_lt, refl, sym, ap, ◌∙◌, arith}
use Rattle.std.proofs.lemmas.Bool.Decides.{nat_tests}
use Rattle.std.proofs.lemmas.List.{append-nil}
use Rattle.std.specs.List.{list_all}
use Rattle.std.specs.Option.{option_map_or}
use Rattle.std.specs.Prelude.{slice_get}
use Rattle.xm_files.proofs.Timetables.{apart, first-round, members_first, members-of-member, phases_first, rounds-of-member, rounds-of-phase}
use Rattle.xm_files.specs.Timetable.{ends_round, ends_with_phase, is_of_member, is_one_round, rounds_from, with_member, with_phase}
use Rattle.xm_files.specs.declared.timetable.Round.{Round}
use Rattle.xm_config.specs.declared.rows.Row.{Row}

both : (a b : Bool) → (a && b) ≡ true → (a ≡ true) × (b ≡ true)
both true b h = (refl, h)
both false b h = cc

not-true : (t : Bool) → not t ≡ true → t ≡ false
not-true true h = cc
not-true false h = refl

abbrev pub is_phase : Row → Bool
is_phase row = not (is_of_member row)

all-parts : (p : Row → Bool) (row : Row) (rows : List Row) → list_all p (row ∷ rows) ≡ true → (p row ≡ true) × (list_all p rows ≡ true)
all-parts p row rows all = both (p row) (list_all p rows) all

phase-parts : (row : Row) (rows : List Row) → list_all is_phase (row ∷ rows) ≡ true → (is_of_member row ≡ false) × (list_all is_phase rows ≡ true)
phase-parts row rows all = let parts = all-parts is_phase row rows all in (not-true (is_of_member row) parts.0, parts.1)

-- the last row of rows is that of those behind their first
last-later : (row next : Row) (rows : List Row) → ends_with_phase (row ∷ next ∷ rows) ≡ ends_with_phase (next ∷ rows)
last-later row next rows =
    let place : length (row ∷ next ∷ rows) - 1 ≡ suc (length (next ∷ rows) - 1) = omega arith in
    ap (λ (k : ℕ). option_map_or is_phase (slice_get (row ∷ next ∷ rows) k) false) place

ends-later : (row next : Row) (rows more : List Row) → ends_round (row ∷ next ∷ rows) more ≡ true → ends_round (next ∷ rows) more ≡ true
ends-later row next rows [] ends = refl
ends-later row next rows (other ∷ more) ends = ap (λ (t : Bool). t && is_of_member other) (sym (last-later row next rows)) ∙ ends

-- a row that comes before rounds, of which there is one
abbrev with_row : ℕ → Bool → List Round → List Round
with_row at of_member rounds = if of_member then with_member at rounds else with_phase at rounds

phase-joined : (at : ℕ) (round : Round) (rounds more : List Round) (t : Bool) → nat_lt round.first round.phase ≡ t → with_phase at (round ∷ rounds ++ more) ≡ with_phase at (round ∷ rounds) ++ more
phase-joined at round rounds more true test = rw test refl
phase-joined at round rounds more false test = rw test refl

row-joined : (at : ℕ) (of_member : Bool) (round : Round) (rounds more : List Round) → with_row at of_member (round ∷ rounds ++ more) ≡ with_row at of_member (round ∷ rounds) ++ more
row-joined at true round rounds more = refl
row-joined at false round rounds more = phase-joined at round rounds more (nat_lt round.first round.phase) refl

-- the last row of a round
last-by : (at : ℕ) (row next : Row) (more : List Row) (t u : Bool) → is_of_member row ≡ t → is_of_member next ≡ u → (not t && u) ≡ true
    → rounds_from at (row ∷ next ∷ more) ≡ rounds_from at (row ∷ []) ++ rounds_from (at + 1) (next ∷ more)
last-by at row next more true u of other ends = cc
last-by at row next more false false of other ends = cc
last-by at row next more false true of other ends =
    let rest = next ∷ more in
    let members = members_first rest in
    let one = members-of-member next more other in
    let some : 0 < members = omega (arith, one) in
    let begins : at + 0 ≡ at = omega arith in
    rounds-of-phase at row rest of
    ∙ apart at members (phases_first (drop members rest)) (rounds_from (at + 1) rest) _ (first-round (at + 1) rest (omega arith)) some
    ∙ ap (λ (k : ℕ). record { first = at; phase = k; end = k + 1 } ∷ rounds_from (at + 1) rest) begins
    ∙ ap (λ (rounds : List Round). rounds ++ rounds_from (at + 1) rest) (sym (rounds-of-phase at row [] of))

last-apart : (at : ℕ) (row : Row) (more : List Row) → ends_round (row ∷ []) more ≡ true → rounds_from at (row ∷ more) ≡ rounds_from at (row ∷ []) ++ rounds_from (at + 1) more
last-apart at row [] ends = sym (append-nil (rounds_from at (row ∷ [])))
last-apart at row (next ∷ more) ends = last-by at row next more (is_of_member row) (is_of_member next) refl refl ends

-- where a round ends, the rounds of the rows before and of those after are apart
pub rounds-apart : (at : ℕ) (rows more : List Row) → ends_round rows more ≡ true → rounds_from at (rows ++ more) ≡ rounds_from at rows ++ rounds_from (at + length rows) more
rounds-apart at [] [] ends = refl
rounds-apart at [] (next ∷ more) ends = cc
rounds-apart at (row ∷ []) more ends = last-apart at row more ends
rounds-apart at (row ∷ next ∷ rows) more ends =
    let rest = next ∷ rows in
    let later = rounds-apart (at + 1) (next ∷ rows) more (ends-later row next rows more ends) in
    let first = first-round (at + 1) rest (omega arith) in
    let after = rounds_from (at + 1 + length rest) more in
    let place : at + 1 + length rest ≡ at + length (row ∷ rest) = omega arith in
    ap (with_row at (is_of_member row)) (later ∙ ap (λ (rounds : List Round). rounds ++ after) first)
    ∙ row-joined at (is_of_member row) _ _ after
    ∙ ap (λ (rounds : List Round). with_row at (is_of_member row) rounds ++ after) (sym first)
    ∙ ap (λ (k : ℕ). rounds_from at (row ∷ rest) ++ rounds_from k more) place

-- phase rows alone are one round
phase-first : (at e : ℕ) → with_phase at (record { first = at + 1; phase = at + 1; end = e } ∷ []) ≡ record { first = at; phase = at; end = e } ∷ []
phase-first at e =
    let test : nat_lt (at + 1) (at + 1) ≡ false = grind (arith, nat_tests) in
    rw test refl

phases-round : (at : ℕ) (rows : List Row) → list_all is_phase rows ≡ true → 0 < length rows → (e : ℕ) × (rounds_from at rows ≡ record { first = at; phase = at; end = e } ∷ [])
phases-round at [] all some = absurd (omega arith)
phases-round at (row ∷ []) all some = (at + 1, rounds-of-phase at row [] (phase-parts row [] all).0)
phases-round at (row ∷ next ∷ rows) all some =
    let tests = phase-parts row (next ∷ rows) all in
    let later = phases-round (at + 1) (next ∷ rows) tests.1 (omega arith) in
    (later.0, rounds-of-phase at row (next ∷ rows) tests.0 ∙ ap (with_phase at) later.1 ∙ phase-first at later.0)

member-few : (at : ℕ) (rounds : List Round) → length rounds ≤ 1 → length (with_member at rounds) ≤ 1
member-few at [] few = omega arith
member-few at (round ∷ more) few = few

few-by : (at : ℕ) (row : Row) (rows : List Row) (t : Bool) → is_of_member row ≡ t → (if t then is_one_round rows else list_all is_phase rows) ≡ true → (is_one_round rows ≡ true → length (rounds_from (at + 1) rows) ≤ 1)
    → length (rounds_from at (row ∷ rows)) ≤ 1
few-by at row rows true of one later =
    let same = ap length (rounds-of-member at row rows of) in
    let few = member-few at (rounds_from (at + 1) rows) (later one) in
    omega (arith, same, few)
few-by at row rows false of all later =
    let only = phases-round at (row ∷ rows) (rw (of, all) refl) (omega arith) in
    let same = ap length only.1 in
    omega (arith, same)

-- rows of one round have no other
pub few-rounds : (at : ℕ) (rows : List Row) → is_one_round rows ≡ true → length (rounds_from at rows) ≤ 1
few-rounds at [] one = omega arith
few-rounds at (row ∷ rows) one = few-by at row rows (is_of_member row) refl one (few-rounds (at + 1) rows)

-- phase rows join any round
all-joined : (p : Row → Bool) (rows more : List Row) → list_all p rows ≡ true → list_all p more ≡ true → list_all p (rows ++ more) ≡ true
all-joined p [] more all every = every
all-joined p (row ∷ rows) more all every = let tests = all-parts p row rows all in rw (tests.0, all-joined p rows more tests.1 every) refl

phases-one : (rows : List Row) → list_all is_phase rows ≡ true → is_one_round rows ≡ true
phases-one [] all = refl
phases-one (row ∷ rows) all = let tests = phase-parts row rows all in rw tests.0 tests.1

phases-by : (rows more : List Row) (t : Bool) → (if t then is_one_round rows else list_all is_phase rows) ≡ true → list_all is_phase more ≡ true → (is_one_round rows ≡ true → is_one_round (rows ++ more) ≡ true)
    → (if t then is_one_round (rows ++ more) else list_all is_phase (rows ++ more)) ≡ true
phases-by rows more true one all later = later one
phases-by rows more false one all later = all-joined is_phase rows more one all

pub joined-phases : (rows more : List Row) → is_one_round rows ≡ true → list_all is_phase more ≡ true → is_one_round (rows ++ more) ≡ true
joined-phases [] more one all = phases-one more all
joined-phases (row ∷ rows) more one all = phases-by rows more (is_of_member row) one all (λ h. joined-phases rows more h all)

-- a member's row joins a round that doesn't end with a phase row
phases-end : (row : Row) (rows : List Row) → is_of_member row ≡ false → list_all is_phase rows ≡ true → ends_with_phase (row ∷ rows) ≡ true
phases-end row [] of all = rw of refl
phases-end row (next ∷ rows) of all = let tests = phase-parts next rows all in last-later row next rows ∙ phases-end next rows tests.0 tests.1

ends-behind : (row : Row) (rows : List Row) → ends_with_phase (row ∷ rows) ≡ false → ends_with_phase rows ≡ false
ends-behind row [] ends = refl
ends-behind row (next ∷ rows) ends = sym (last-later row next rows) ∙ ends

member-by : (row next : Row) (rows : List Row) (t : Bool) → is_of_member row ≡ t → (if t then is_one_round rows else list_all is_phase rows) ≡ true → ends_with_phase (row ∷ rows) ≡ false
    → (is_one_round rows ≡ true → is_one_round (rows ++ next ∷ []) ≡ true) → (if t then is_one_round (rows ++ next ∷ []) else list_all is_phase (rows ++ next ∷ [])) ≡ true
member-by row next rows true of one ends later = later one
member-by row next rows false of all ends later = let phase = phases-end row rows of all in cc

pub joined-member : (rows : List Row) (next : Row) → is_one_round rows ≡ true → ends_with_phase rows ≡ false → is_of_member next ≡ true → is_one_round (rows ++ next ∷ []) ≡ true
joined-member [] next one ends of = rw of refl
joined-member (row ∷ rows) next one ends of = member-by row next rows (is_of_member row) refl one ends (λ h. joined-member rows next h (ends-behind row rows ends) of)
