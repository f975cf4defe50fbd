-- How a part of an order file goes on, and where it ends.
use Rattle.std.proofs.Common.{◌≡◌, ℕ, ◌+◌, ◌<◌, ◌==◌, Bool, true, false, not, ◌&&◌, if◌then◌else◌, nat_lt, List, [], ◌∷◌, ◌++◌, length, Option, Some, None, Result, Ok, Err, IfSome, append_assoc, refl, sym, ap, subst, ◌∙◌, arith}
use Rattle.std.proofs.lemmas.Bool.Decides.{nat_tests}
use Rattle.std.proofs.lemmas.List.{append-nil, append_cancel_left, length-append}
use Rattle.xm_files.proofs.RowKinds.{AreOfWord, record-rows}
use Rattle.xm_files.proofs.OneRound.{few-rounds, joined-member, joined-phases, rounds-apart}
use Rattle.xm_files.proofs.Progress.{other-record, row-record}
use Rattle.xm_files.specs.Batches.{RowsLeft, RowsRead, rows_from, rows_so_far}
use Rattle.xm_files.specs.FileFaults.{fault_at, result_then}
use Rattle.xm_files.specs.Names.{NameLists}
use Rattle.xm_files.specs.Orders.{max_rows, rows_after, with_record, with_rows}
use Rattle.xm_files.specs.Parts.{IsFull, IsRound, ends_before, is_whole_part, is_so_far}
use Rattle.xm_files.specs.Rows.{columns_of, command_in, names_members_command, rows_of_record}
use Rattle.xm_files.specs.Timetable.{ends_round, ends_with_phase, is_of_member, is_one_round, rounds_from}
use Rattle.xm_files.specs.declared.file_faults.FileCause.TheVariants.{Syntax, TooManyRows}
use Rattle.xm_files.specs.declared.file_faults.FileFault.{FileFault}
use Rattle.xm_files.specs.declared.order_format.OrderFormat.{OrderFormat}
use Rattle.xm_files.specs.declared.part.Part.{Part}
use Rattle.xm_files.specs.declared.part.Part.TheVariants.{Rows, Round}
use Rattle.xm_config.specs.declared.config.SegmentConfig.{SegmentConfig}
use Rattle.xm_config.specs.declared.rows.Row.{Row}

-- rows that were added to others
abbrev Extends : List Row → List Row → Type 0
Extends rows sum = (tail : List Row) × (sum ≡ rows ++ tail)

extends-more : (a b c : List Row) → Extends a b → Extends b c → Extends a c
extends-more a b c f g = (f.0 ++ g.0, g.1 ∙ ap (λ (rows : List Row). rows ++ g.0) f.1 ∙ append_assoc a f.0 g.0)

rows-if : (t : Bool) (line : ℕ) (rows more sum : List Row) → (if t then Err (fault_at line TooManyRows) else Ok (rows ++ more)) ≡ Ok sum → sum ≡ rows ++ more
rows-if true line rows more sum h = cc
rows-if false line rows more sum h = cc

-- the rows of a record that were added
pub rows-added : (line : ℕ) (rows sum : List Row) (o : Option (List Row)) → with_rows line rows o ≡ Ok sum → (more : List Row) × (o ≡ Some more) × (sum ≡ rows ++ more)
rows-added line rows sum None h = cc
rows-added line rows sum (Some more) h = (more, refl, rows-if (nat_lt max_rows (length rows + length more)) line rows more sum h)

fields-if : (t : Bool) (line : ℕ) (rows sum : List Row) (o : Option (List Row)) → (if t then Err (fault_at line Syntax) else with_rows line rows o) ≡ Ok sum → Extends rows sum
fields-if true line rows sum o h = cc
fields-if false line rows sum o h = let added = rows-added line rows sum o h in (added.0, added.2)

record-extends : (names : NameLists) (config : SegmentConfig) (format : OrderFormat) (line : ℕ) (rows sum : List Row) (fields : List (List ℕ)) → with_record names config format line rows fields ≡ Ok sum → Extends rows sum
record-extends names config format line rows sum fields h = fields-if (not (length fields == length (columns_of format))) line rows sum (rows_of_record format names config line fields) h

next-extends : (names : NameLists) (config : SegmentConfig) (format : OrderFormat) (line : ℕ) (rows sum : List Row) (r : Result (List Row) FileFault) (more : List (List (List ℕ)))
    → ((next : List Row) → r ≡ Ok next → Extends rows next) → ((next : List Row) → rows_after names config format line next more ≡ Ok sum → Extends next sum)
    → result_then r (λ next. rows_after names config format line next more) ≡ Ok sum → Extends rows sum
next-extends names config format line rows sum (Err fault) more first later h = cc
next-extends names config format line rows sum (Ok next) more first later h = extends-more rows next sum (first next refl) (later next h)

-- the rows of records come after those before them
after-extends : (names : NameLists) (config : SegmentConfig) (format : OrderFormat) (line : ℕ) (rows sum : List Row) (records : List (List (List ℕ))) → rows_after names config format line rows records ≡ Ok sum → Extends rows sum
after-extends names config format line rows sum [] h = let same : sum ≡ rows = cc in ([], same ∙ sym (append-nil rows))
after-extends names config format line rows sum (fields ∷ more) h =
    next-extends names config format (line + 1) rows sum (with_record names config format line rows fields) more (λ next. record-extends names config format line rows next fields) (λ next. after-extends names config format (line + 1) next sum more) h

-- the rows that may come after those that were read end the round
abbrev pub EndsRound : NameLists → SegmentConfig → RowsLeft → RowsRead → Type 0
EndsRound names config file batch = (more : List Row) → rows_from names config file (rows_so_far batch) ≡ Ok (rows_so_far batch ++ more) → ends_round batch.rows more ≡ true

pub is-round : (names : NameLists) (config : SegmentConfig) (file : RowsLeft) (batch : RowsRead) → is_one_round batch.rows ≡ true → EndsRound names config file batch → IsRound names config file batch
is-round names config file batch one ends = record {
  rows_are = one;
  one = few-rounds (length batch.earlier) batch.rows one;
  apart = λ more gives. rounds-apart (length batch.earlier) batch.rows more (ends more gives) ∙ ap (λ (k : ℕ). rounds_from (length batch.earlier) batch.rows ++ rounds_from k more) (sym (length-append batch.earlier batch.rows));
}

-- so it is at the end of the file
pub ended-round : (names : NameLists) (config : SegmentConfig) (file : RowsLeft) (batch : RowsRead) → rows_from names config file (rows_so_far batch) ≡ Ok (rows_so_far batch) → EndsRound names config file batch
ended-round names config file batch all more gives =
    let same : rows_so_far batch ++ [] ≡ rows_so_far batch ++ more = (let e : rows_so_far batch ≡ rows_so_far batch ++ more = cc in append-nil (rows_so_far batch) ∙ e) in
    let none : [] ≡ more = append_cancel_left (rows_so_far batch) [] more same in
    ap (λ (rows : List Row). ends_round batch.rows rows) (sym none)

-- and before a record of a member that follows a phase row
member-first : (rows sofar more tail : List Row) (row : Row) → sofar ++ more ≡ (sofar ++ row ∷ []) ++ tail → ends_with_phase rows ≡ true → is_of_member row ≡ true → ends_round rows more ≡ true
member-first rows sofar more tail row e ends of =
    let first : more ≡ row ∷ tail = append_cancel_left sofar more (row ∷ tail) (e ∙ append_assoc sofar (row ∷ []) tail) in
    ap (ends_round rows) first ∙ rw (ends, of) refl

ends-by : (names : NameLists) (config : SegmentConfig) (format : OrderFormat) (line : ℕ) (rows sofar more : List Row) (o : Option (List Row)) (records : List (List (List ℕ))) → ends_with_phase rows ≡ true → IfSome o (AreOfWord true)
    → result_then (with_rows line sofar o) (λ next. rows_after names config format (line + 1) next records) ≡ Ok (sofar ++ more) → ends_round rows more ≡ true
ends-by names config format line rows sofar more None records ends of h = cc
ends-by names config format line rows sofar more (Some added) records ends of h = ends-if (nat_lt max_rows (length sofar + length added)) h
  where
    ends-if : (t : Bool) → result_then (if t then Err (fault_at line TooManyRows) else Ok (sofar ++ added)) (λ next. rows_after names config format (line + 1) next records) ≡ Ok (sofar ++ more) → ends_round rows more ≡ true
    ends-if true h = cc
    ends-if false h =
        let after = after-extends names config format (line + 1) (sofar ++ added) (sofar ++ more) records h in
        member-first rows sofar more after.0 of.0 (after.1 ∙ ap (λ (a : List Row). (sofar ++ a) ++ after.0) of.1) ends of.2

both : (a b : Bool) → (a && b) ≡ true → (a ≡ true) × (b ≡ true)
both true b h = (refl, h)
both false b h = cc

ends-at : (names : NameLists) (config : SegmentConfig) (format : OrderFormat) (file : RowsLeft) (batch : RowsRead) (fields : List (List ℕ)) (records : List (List (List ℕ))) → length fields ≡ length (columns_of format)
    → rows_from names config file (rows_so_far batch) ≡ rows_after names config format file.line (rows_so_far batch) (fields ∷ records)
    → ends_before Round batch.rows (command_in format fields) ≡ true → EndsRound names config file batch
ends-at names config format file batch fields records count same ends more gives =
    let tests = both (ends_with_phase batch.rows) (names_members_command (command_in format fields)) ends in
    let rows = subst (λ (t : Bool). IfSome (rows_of_record format names config file.line fields) (AreOfWord t)) tests.1 (record-rows format names config file.line fields) in
    let next = ap (λ (r : Result (List Row) FileFault). result_then r (λ sum. rows_after names config format (file.line + 1) sum records)) (row-record names config format file.line (rows_so_far batch) fields count) in
    ends-by names config format file.line batch.rows (rows_so_far batch) more (rows_of_record format names config file.line fields) records tests.0 rows (sym next ∙ sym same ∙ gives)

-- the rows of a record that doesn't end a part go on it
keeps-by : (rows more : List Row) (t u : Bool) → (u && t) ≡ false → ends_with_phase rows ≡ u → AreOfWord t more → is_one_round rows ≡ true → is_one_round (rows ++ more) ≡ true
keeps-by rows more false u goes ends of one = joined-phases rows more one of
keeps-by rows more true true goes ends of one = cc
keeps-by rows more true false goes ends of one = ap (λ (a : List Row). is_one_round (rows ++ a)) of.1 ∙ joined-member rows of.0 one ends of.2

keeps : (part : Part) (names : NameLists) (config : SegmentConfig) (format : OrderFormat) (line : ℕ) (fields : List (List ℕ)) (rows more : List Row) → rows_of_record format names config line fields ≡ Some more → ends_before part rows (command_in format fields) ≡ false → is_so_far part rows ≡ true
    → is_so_far part (rows ++ more) ≡ true
keeps (Rows most) names config format line fields rows more gives goes one = refl
keeps Round names config format line fields rows more gives goes one =
    let text = command_in format fields in
    keeps-by rows more (names_members_command text) (ends_with_phase rows) goes refl (subst (λ (o : Option (List Row)). IfSome o (AreOfWord (names_members_command text))) gives (record-rows format names config line fields)) one

pub so-far-rows : (part : Part) (names : NameLists) (config : SegmentConfig) (format : OrderFormat) (line : ℕ) (fields : List (List ℕ)) (old new : RowsRead) → new.earlier ≡ old.earlier
    → with_rows line (rows_so_far old) (rows_of_record format names config line fields) ≡ Ok (rows_so_far new) → ends_before part old.rows (command_in format fields) ≡ false → is_so_far part old.rows ≡ true → is_so_far part new.rows ≡ true
so-far-rows part names config format line fields old new before good goes one =
    let added = rows-added line (rows_so_far old) (rows_so_far new) (rows_of_record format names config line fields) good in
    let rows : new.rows ≡ old.rows ++ added.0 =
    append_cancel_left old.earlier new.rows (old.rows ++ added.0) (ap (λ (a : List Row). a ++ new.rows) (sym before) ∙ added.2 ∙ append_assoc old.earlier old.rows added.0) in
    ap (is_so_far part) rows ∙ keeps part names config format line fields old.rows added.0 added.1 goes one

-- the same of a record that CSV read
record-if : (part : Part) (names : NameLists) (config : SegmentConfig) (format : OrderFormat) (line : ℕ) (fields : List (List ℕ)) (old new : RowsRead) (t : Bool) → (length fields == length (columns_of format)) ≡ t → new.earlier ≡ old.earlier
    → with_record names config format line (rows_so_far old) fields ≡ Ok (rows_so_far new) → (if t then ends_before part old.rows (command_in format fields) else false) ≡ false → is_so_far part old.rows ≡ true → is_so_far part new.rows ≡ true
record-if part names config format line fields old new true test before good goes one =
    let count : length fields ≡ length (columns_of format) = grind (arith, nat_tests) in
    so-far-rows part names config format line fields old new before (sym (row-record names config format line (rows_so_far old) fields count) ∙ good) goes one
record-if part names config format line fields old new false test before good goes one = let bad = other-record names config format line (rows_so_far old) fields test in cc

pub so-far-record : (part : Part) (names : NameLists) (config : SegmentConfig) (format : OrderFormat) (line : ℕ) (fields : List (List ℕ)) (old new : RowsRead) → new.earlier ≡ old.earlier → with_record names config format line (rows_so_far old) fields ≡ Ok (rows_so_far new)
    → (if length fields == length (columns_of format) then ends_before part old.rows (command_in format fields) else false) ≡ false → is_so_far part old.rows ≡ true → is_so_far part new.rows ≡ true
so-far-record part names config format line fields old new = record-if part names config format line fields old new (length fields == length (columns_of format)) refl

-- a part at its end is full
pub full-part : (part : Part) (rows : List Row) → is_whole_part part (length rows) ≡ true → IsFull part rows
full-part (Rows most) rows full = grind (arith, nat_tests)
full-part Round rows full = cc

some-rows : (rows : List Row) (t : Bool) → (ends_with_phase rows && t) ≡ true → 0 < length rows
some-rows [] t ends = cc
some-rows (row ∷ rows) t ends = omega arith

pub ended-part : (part : Part) (rows : List Row) (text : List ℕ) → ends_before part rows text ≡ true → (0 < length rows) × IsFull part rows
ended-part (Rows most) rows text ends = cc
ended-part Round rows text ends = let some = some-rows rows (names_members_command text) ends in (some, some)

-- a round is at its end where rows are so far and a record ends it
pub round-before : (names : NameLists) (config : SegmentConfig) (format : OrderFormat) (part : Part) (file : RowsLeft) (batch : RowsRead) (fields : List (List ℕ)) (records : List (List (List ℕ))) → length fields ≡ length (columns_of format)
    → rows_from names config file (rows_so_far batch) ≡ rows_after names config format file.line (rows_so_far batch) (fields ∷ records)
    → ends_before part batch.rows (command_in format fields) ≡ true → is_so_far part batch.rows ≡ true → part ≡ Round → IsRound names config file batch
round-before names config format part file batch fields records count same ends one round =
    is-round names config file batch (rw round at one) (ends-at names config format file batch fields records count same (rw round at ends))

-- where no more comes
pub round-ended : (names : NameLists) (config : SegmentConfig) (part : Part) (file : RowsLeft) (batch : RowsRead) → rows_from names config file (rows_so_far batch) ≡ Ok (rows_so_far batch) → is_so_far part batch.rows ≡ true → part ≡ Round → IsRound names config file batch
round-ended names config part file batch all one round = is-round names config file batch (rw round at one) (ended-round names config file batch all)

-- a part begins without rows
pub no-rows : (part : Part) (rows : List Row) → rows ≡ [] → is_so_far part rows ≡ true
no-rows (Rows most) rows none = refl
no-rows Round rows none = ap is_one_round none
