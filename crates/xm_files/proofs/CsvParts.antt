-- Parts of the records that CSV reads.
use Rattle.std.proofs.Common.{◌≡◌, ℕ, ◌+◌, ◌==◌, Bool, true, false, if◌then◌else◌, List, [], ◌∷◌, length, Option, Some, None, Result, Ok, Err, IfSome, IsSome, refl, ap, sym, subst, ◌∙◌, arith}
use Rattle.std.proofs.lemmas.Bool.Decides.{nat_tests}
use Rattle.xm_files.proofs.CsvFields.{same-number}
use Rattle.xm_files.specs.Batches.{rows_from}
use Rattle.xm_files.specs.Names.{NameLists}
use Rattle.xm_files.specs.Orders.{rows_after, with_record}
use Rattle.xm_files.specs.Unread.{CsvLeft, csv_left, with_ahead}
use Rattle.xm_files.specs.declared.file_faults.FileFault.{FileFault}
use Rattle.xm_files.specs.declared.order_format.OrderFormat.{OrderFormat}
use Rattle.xm_config.specs.declared.config.SegmentConfig.{SegmentConfig}
use Rattle.xm_config.specs.declared.rows.Row.{Row}

-- the fields of the record that waits
pub waiting : (ahead : Option (List (List ℕ))) → IsSome ahead → (fields : List (List ℕ)) × (ahead ≡ Some fields)
waiting None some = cc
waiting (Some fields) some = (fields, refl)

pub same-fields : (ahead : Option (List (List ℕ))) (fields row : List (List ℕ)) → ahead ≡ Some fields → IfSome ahead (λ other. row ≡ other) → row ≡ fields
same-fields ahead fields row e h = subst (λ (o : Option (List (List ℕ))). IfSome o (λ other. row ≡ other)) e h

-- what was read goes on with the record that waits
pub csv-next : (names : NameLists) (config : SegmentConfig) (format : OrderFormat) (all : Result (List Row) FileFault) (old new : CsvLeft) (rows : List Row) (fields : List (List ℕ)) → all ≡ rows_from names config (csv_left (Some format) old) rows
    → with_ahead new.ahead new.behind ≡ with_ahead old.ahead old.behind → new.line ≡ old.line → new.ahead ≡ Some fields → all ≡ rows_after names config format new.line rows (fields ∷ new.behind)
csv-next names config format all old new rows fields read same line ahead =
    read
    ∙ ap (λ (k : ℕ). rows_after names config format k rows (with_ahead old.ahead old.behind)) (sym line)
    ∙ ap (rows_after names config format new.line rows) (sym same ∙ ap (λ (o : Option (List (List ℕ))). with_ahead o new.behind) ahead)

pub csv-fault : (names : NameLists) (config : SegmentConfig) (format : OrderFormat) (all : Result (List Row) FileFault) (line : ℕ) (rows : List Row) (fields : List (List ℕ)) (more : List (List (List ℕ))) (fault : FileFault)
    → all ≡ rows_after names config format line rows (fields ∷ more) → with_record names config format line rows fields ≡ Err fault → all ≡ Err fault
csv-fault names config format all line rows fields more fault read bad = read ∙ rw bad refl

pub csv-more : (names : NameLists) (config : SegmentConfig) (format : OrderFormat) (all : Result (List Row) FileFault) (csv taken : CsvLeft) (rows sum : List Row) (fields : List (List ℕ)) → all ≡ rows_after names config format csv.line rows (fields ∷ csv.behind)
    → with_record names config format csv.line rows fields ≡ Ok sum → taken ≡ record { ahead = None; behind = csv.behind; line = csv.line + 1 } → all ≡ rows_from names config (csv_left (Some format) taken) sum
csv-more names config format all csv taken rows sum fields read good took = read ∙ rw (good, took) refl

-- no record is left
pub csv-ended : (names : NameLists) (config : SegmentConfig) (format : OrderFormat) (csv : CsvLeft) (rows : List Row) → with_ahead csv.ahead csv.behind ≡ [] → rows_from names config (csv_left (Some format) csv) rows ≡ Ok rows
csv-ended names config format csv rows none = ap (rows_after names config format csv.line rows) none

-- how many records there are in all, with those that were taken: a look at the next one changes nothing
pub csv-looked-count : (old new : CsvLeft) (total : ℕ) → with_ahead new.ahead new.behind ≡ with_ahead old.ahead old.behind → new.line ≡ old.line → old.line + length (with_ahead old.ahead old.behind) ≡ total
    → new.line + length (with_ahead new.ahead new.behind) ≡ total
csv-looked-count old new total same line counted = let count = ap length same in omega (arith, count, line, counted)

-- nor does it when one is taken
pub csv-taken-count : (csv taken : CsvLeft) (fields : List (List ℕ)) (total : ℕ) → csv.ahead ≡ Some fields → taken ≡ record { ahead = None; behind = csv.behind; line = csv.line + 1 } → csv.line + length (with_ahead csv.ahead csv.behind) ≡ total
    → taken.line + length (with_ahead taken.ahead taken.behind) ≡ total
csv-taken-count csv taken fields total ahead is counted =
    let line = ap (λ (t : CsvLeft). t.line) is in
    let count = ap (λ (t : CsvLeft). length (with_ahead t.ahead t.behind)) is in
    let before = ap (λ (a : Option (List (List ℕ))). length (with_ahead a csv.behind)) ahead in
    omega (arith, line, count, before, counted)

pub given-test : (n : ℕ) (fields : List (List ℕ)) (test : Bool) → length fields ≡ n → (if length fields == n then test else false) ≡ test
given-test n fields test e = rw (e, same-number n) refl

pub tested : (n : ℕ) (fields : List (List ℕ)) (t test : Bool) → (length fields == n) ≡ t → (if t then test else false) ≡ true → (length fields ≡ n) × (test ≡ true)
tested n fields true test e h = (grind (arith, nat_tests), h)
tested n fields false test e h = cc
