-- Lines whose fields have no marks are read back as the records of these fields.
use Rattle.std.proofs.Common.{◌≡◌, ℕ, Bool, true, false, ◌&&◌, List, [], ◌∷◌, ◌++◌, Some, refl, ap, ◌∙◌, append_assoc}
use Rattle.std.proofs.lemmas.Bool.{and_parts}
use Rattle.std.specs.List.{list_all}
use Rattle.csv.specs.Machine.{next_record}
use Rattle.csv.specs.Reading.{default_config, records, records_from}
use Rattle.csv.specs.declared.parser.State.TheVariants as st
use Rattle.xm_files.proofs.LineRecords.{fed-records, line-records}
use Rattle.xm_files.proofs.PlainFields.{first-field, last-field, next-field}
use Rattle.xm_files.specs.Plain.{ReadsLine, is_plain}

-- the line of a first field and these others, before a text
abbrev pub line_of : List ℕ → List (List ℕ) → List ℕ → List ℕ
line_of field [] text = field ++ 10 ∷ text
line_of field (next ∷ more) text = field ++ 44 ∷ line_of next more text

-- a record of two fields or more, none of which has a mark
abbrev pub is_plain_record : List (List ℕ) → Bool
is_plain_record [] = false
is_plain_record (field ∷ []) = false
is_plain_record (field ∷ next ∷ more) = is_plain field && (is_plain next && list_all is_plain more)

-- its line, before a text
abbrev pub record_line : List (List ℕ) → List ℕ → List ℕ
record_line [] text = text
record_line (field ∷ more) text = line_of field more text

-- the lines of records
abbrev pub lines_of : List (List (List ℕ)) → List ℕ
lines_of [] = []
lines_of (r ∷ more) = record_line r (lines_of more)

-- the fields behind the first
rest-read : (fields : List (List ℕ)) (field : List ℕ) (more : List (List ℕ)) (text : List ℕ) → is_plain field ≡ true → list_all is_plain more ≡ true
    → next_record default_config st.StartField fields [] (line_of field more text) ≡ Some (fields ++ field ∷ more, st.StartRecord, text)
rest-read fields field [] text plain others = last-field fields field text plain
rest-read fields field (next ∷ more) text plain others =
    let parts = and_parts (is_plain next) (list_all is_plain more) others in
    next-field fields field (line_of next more text) plain
    ∙ rest-read (fields ++ field ∷ []) next more text parts.0 parts.1
    ∙ ap (λ (all : List (List ℕ)). Some (all, st.StartRecord, text)) (append_assoc fields (field ∷ []) (next ∷ more))

line-reads : (r : List (List ℕ)) (text : List ℕ) → is_plain_record r ≡ true → ReadsLine (record_line r text) r text
line-reads [] text plain = cc
line-reads (field ∷ []) text plain = cc
line-reads (field ∷ next ∷ more) text plain =
    let first = and_parts (is_plain field) (is_plain next && list_all is_plain more) plain in
    let others = and_parts (is_plain next) (list_all is_plain more) first.1 in
    first-field field (line_of next more text) first.0 ∙ rest-read (field ∷ []) next more text others.0 others.1

nothing-read : records default_config [] ≡ []
unfolding records_from next_record
nothing-read = refl

-- the records of lines
pub lines-read : (rs : List (List (List ℕ))) → list_all is_plain_record rs ≡ true → records default_config (lines_of rs) ≡ rs
lines-read [] plain = nothing-read
lines-read (r ∷ more) plain =
    let parts = and_parts (is_plain_record r) (list_all is_plain_record more) plain in
    line-records (record_line r (lines_of more)) (lines_of more) r (line-reads r (lines_of more) parts.0)
    ∙ ap (λ (rest : List (List (List ℕ))). r ∷ rest) (fed-records (lines_of more) ∙ lines-read more parts.1)
