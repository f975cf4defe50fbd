-- The rows of a round, as workers take them.
use Rattle.std.proofs.Common.{◌≡◌, ◌≢◌, ℕ, suc, ◌+◌, ◌++◌, ◌%◌, ◌==◌, Bool, true, false, List, [], ◌∷◌, drop, Option, None, Some, is_some, refl, sym, ap, ◌∙◌, subst, arith}
use Rattle.std.specs.Prelude.{All, cond, if◌then◌else◌, not}
use Rattle.std.specs.List.{filter, list_all, position_or_len}
use Rattle.std.specs.Option.{option_map_or}
use Rattle.std.proofs.lemmas.Bool.{and_from, and_parts}
use Rattle.std.proofs.lemmas.Bool.Decides.{nat_tests}
use Rattle.std.proofs.lemmas.List.Elements.{All-head, All-tail, filter-append, filter_passes}
use Rattle.xm_workers.specs.Workers.{is_taken_by, rows_of}
use Rattle.xm_files.specs.Timetable.{is_of_member, is_one_round, is_worked_by, share_of}
use Rattle.xm_rules.specs.Commands.{member_of}
use Rattle.xm_config.specs.declared.rows.Row.{Row}

abbrev pub is_phase : Row → Bool
is_phase row = not (is_of_member row)

-- ---- what a worker takes of members' rows is its share, and of phase rows the first takes all

same-test : (f : ℕ → Bool) (o : Option ℕ) (d e : Bool) → is_some o ≡ true → option_map_or f o d ≡ option_map_or f o e
same-test f None d e is = absurd (cc)
same-test f (Some m) d e is = refl

filter-like : (p q : Row → Bool) (row : Row) (rows : List Row) → p row ≡ q row → filter p rows ≡ filter q rows → filter p (row ∷ rows) ≡ filter q (row ∷ rows)
filter-like p q row rows same rest = ap (λ (b : Bool). cond b (row ∷ filter p rows) (filter p rows)) same ∙ ap (λ (rs : List Row). cond (q row) (row ∷ rs) rs) rest

members-share : (worker workers : ℕ) (rows : List Row) → list_all is_of_member rows ≡ true → rows_of worker workers rows ≡ share_of worker workers rows
members-share worker workers [] all = refl
members-share worker workers (row ∷ rows) all =
    let both = and_parts (is_of_member row) (list_all is_of_member rows) all in
    filter-like (is_taken_by worker workers) (is_worked_by worker workers) row rows
    (same-test (λ member. (member % workers) == worker) (member_of row.command) (worker == 0) false both.0) (members-share worker workers rows both.1)

no-member : (f : ℕ → Bool) (o : Option ℕ) (d : Bool) → not (is_some o) ≡ true → option_map_or f o d ≡ d
no-member f None d is = refl
no-member f (Some m) d is = absurd (cc)

phases-kept : (worker workers : ℕ) (rows : List Row) (b : Bool) → (worker == 0) ≡ b → list_all is_phase rows ≡ true → rows_of worker workers rows ≡ cond b rows []
phases-kept worker workers [] true is all = refl
phases-kept worker workers [] false is all = refl
phases-kept worker workers (row ∷ rows) b is all =
    let both = and_parts (is_phase row) (list_all is_phase rows) all in
    let test = no-member (λ member. (member % workers) == worker) (member_of row.command) (worker == 0) both.0 ∙ is in
    let rest = phases-kept worker workers rows b is both.1 in
    ap (λ (t : Bool). cond t (row ∷ rows_of worker workers rows) (rows_of worker workers rows)) test ∙ ap (λ (rs : List Row). cond b (row ∷ rs) rs) rest ∙ joined b
  where
    joined : (t : Bool) → cond t (row ∷ cond t rows []) (cond t rows []) ≡ cond t (row ∷ rows) []
    joined true = refl
    joined false = refl

-- what a worker takes of a round's members' rows and of the phase rows behind them
pub round-rows : (worker workers : ℕ) (members phases : List Row) (b : Bool) → (worker == 0) ≡ b → list_all is_of_member members ≡ true → list_all is_phase phases ≡ true
    → rows_of worker workers (members ++ phases) ≡ share_of worker workers members ++ cond b phases []
round-rows worker workers members phases b is all others =
    filter-append (is_taken_by worker workers) members phases
    ∙ ap (λ (rs : List Row). rs ++ rows_of worker workers phases) (members-share worker workers members all)
    ∙ ap (λ (rs : List Row). share_of worker workers members ++ rs) (phases-kept worker workers phases b is others)

-- ---- where a share is all of some rows, no other worker has one

not-other : (o : Option ℕ) (sole worker workers : ℕ) → worker ≢ sole → option_map_or (λ member. (member % workers) == sole) o false ≡ true → option_map_or (λ member. (member % workers) == worker) o false ≡ false
not-other None sole worker workers other is = absurd (cc)
not-other (Some m) sole worker workers other is = by ((m % workers) == worker) refl
  where
    by : (b : Bool) → ((m % workers) == worker) ≡ b → ((m % workers) == worker) ≡ false
    by false apart = apart
    by true same_as = absurd (other (let same : worker ≡ sole = grind (arith, nat_tests) in same))

others-none : (sole worker workers : ℕ) (rows : List Row) → worker ≢ sole → All (λ row. is_worked_by sole workers row ≡ true) rows → share_of worker workers rows ≡ []
others-none sole worker workers [] other all = refl
others-none sole worker workers (row ∷ rows) other all =
    let first = not-other (member_of row.command) sole worker workers other (All-head (λ r. is_worked_by sole workers r ≡ true) row rows all) in
    ap (λ (b : Bool). cond b (row ∷ share_of worker workers rows) (share_of worker workers rows)) first
    ∙ others-none sole worker workers rows other (All-tail (λ r. is_worked_by sole workers r ≡ true) row rows all)

pub sole-share : (sole worker workers : ℕ) (rows : List Row) → worker ≢ sole → share_of sole workers rows ≡ rows → share_of worker workers rows ≡ []
sole-share sole worker workers rows other whole =
    others-none sole worker workers rows other (subst (λ (rs : List Row). All (λ row. is_worked_by sole workers row ≡ true) rs) whole (filter_passes (is_worked_by sole workers) rows))

-- ---- behind the members' rows of a round are phase rows alone

pub phases-after : (rows : List Row) → is_one_round rows ≡ true → list_all is_phase (drop (position_or_len is_phase rows) rows) ≡ true
phases-after [] one = refl
phases-after (row ∷ rows) one = by (is_of_member row) refl (phases-after rows)
  where
    at : Bool → List Row
    at t = drop (cond (not (not t)) (1 + position_or_len is_phase rows) 0) (row ∷ rows)

    by : (t : Bool) → is_of_member row ≡ t → (is_one_round rows ≡ true → list_all is_phase (drop (position_or_len is_phase rows) rows) ≡ true) → list_all is_phase (at (is_of_member row)) ≡ true
    by true is rest =
        let later = subst (λ (b : Bool). (if b then is_one_round rows else list_all is_phase rows) ≡ true) is one in
        let next : 1 + position_or_len is_phase rows ≡ suc (position_or_len is_phase rows) = omega arith in
        subst (λ (b : Bool). list_all is_phase (at b) ≡ true) (sym is) (subst (λ (k : ℕ). list_all is_phase (drop k (row ∷ rows)) ≡ true) (sym next) (rest later))
    by false is rest =
        let later = subst (λ (b : Bool). (if b then is_one_round rows else list_all is_phase rows) ≡ true) is one in
        subst (λ (b : Bool). list_all is_phase (at b) ≡ true) (sym is) (and_from (is_phase row) (list_all is_phase rows) (ap not is) later)
