-- The fields of a record of a format, as they are kept.
use Rattle.std.proofs.Common.{◌≡◌, ◌≢◌, ℕ, zero, suc, Bool, true, false, ◌==◌, ◌+◌, ◌<◌, ◌≤◌, nat_le, Bor, List, [], ◌∷◌, ◌++◌, take, map, get_or, length, Some, refl, sym, ap, ◌∙◌, arith}
use Rattle.std.proofs.Math.ListN.{set}
use Rattle.std.proofs.lemmas.Bool.Decides.{nat_tests}
use Rattle.std.proofs.lemmas.List.{get_or_default, get_or-map, get_or-set_other, get_or-set_same, length-map, map-set, map_more, take_all, take_more}
use Rattle.std.proofs.lemmas.List.Elements.{All-get_or}
use Rattle.std.proofs.lemmas.List.FromFn.{get_or-range_with_len, length-range_with_len}
use Rattle.std.proofs.lemmas.List.Sums.{AllPass-from_list_all, fails_before_first}
use Rattle.std.specs.List.{AllPass, list_all, range_with_len}
use Rattle.std.specs.Str.{bytes_eq}
use Rattle.csv.specs.Machine.{next_record}
use Rattle.csv.specs.Reading.{default_config}
use Rattle.csv.specs.declared.parser.State.TheVariants.{StartField, StartRecord}
use Rattle.xm_files.proofs.CsvFields.{same-number}
use Rattle.xm_files.proofs.PlainFields.{first-of, last-of, next-of}
use Rattle.xm_files.specs.Plain.{EndsAt, ReadsLine}
use Rattle.xm_files.specs.Rows.{HasNoOthers, by_column, column_index, column_place, columns_of, field, is_header, title_of}
use Rattle.xm_files.specs.declared.columns.Column.{Column}
use Rattle.xm_files.specs.declared.columns.Column.TheVariants as column
use Rattle.xm_files.specs.declared.order_format.OrderFormat.{OrderFormat}
use Rattle.xm_files.specs.declared.order_format.OrderFormat.TheVariants.{First, Second, Carry}

-- how many columns a format has
pub at-most-thirteen : (format : OrderFormat) → length (columns_of format) ≤ 13
at-most-thirteen First = omega arith
at-most-thirteen Second = omega arith
at-most-thirteen Carry = omega arith

pub at-least-two : (format : OrderFormat) → 2 ≤ length (columns_of format)
at-least-two First = omega arith
at-least-two Second = omega arith
at-least-two Carry = omega arith

-- ---- where columns stand
-- a column of a list stands in no earlier place of it
abbrev stands_first : List Column → ℕ → Bool
stands_first columns place = nat_le place (column_place columns (get_or columns place column.Command))

each-first : (format : OrderFormat) → AllPass (stands_first (columns_of format)) (range_with_len 0 (length (columns_of format)))
each-first First = AllPass-from_list_all (stands_first (columns_of First)) (range_with_len 0 12) refl
each-first Second = AllPass-from_list_all (stands_first (columns_of Second)) (range_with_len 0 13) refl
each-first Carry = AllPass-from_list_all (stands_first (columns_of Carry)) (range_with_len 0 10) refl

zero-plus : (n : ℕ) → 0 + n ≡ n
zero-plus n = omega arith

-- so does each of a format
first-place : (format : OrderFormat) (place : ℕ) (d : Column) → place < length (columns_of format) → place ≤ column_place (columns_of format) (get_or (columns_of format) place d)
first-place format place d within =
    let columns = columns_of format in
    let size = length-range_with_len 0 (length columns) in
    let at = All-get_or (λ (k : ℕ). stands_first columns k ≡ true) (range_with_len 0 (length columns)) place 0 (omega (arith, size, within)) (each-first format) in
    let k : get_or (range_with_len 0 (length columns)) place 0 ≡ place = get_or-range_with_len 0 (length columns) place 0 within ∙ zero-plus place in
    let first : nat_le place (column_place columns (get_or columns place column.Command)) ≡ true = rw k at at in
    rw (get_or_default columns place d column.Command within) (grind (arith, nat_tests))

field-by-column : (columns : List Column) (fields : List (List ℕ)) (c : Column) → field c (by_column columns fields) ≡ get_or fields (column_place columns c) []
field-by-column columns fields column.Command = refl
field-by-column columns fields column.Member = refl
field-by-column columns fields column.Reference = refl
field-by-column columns fields column.Security = refl
field-by-column columns fields column.Side = refl
field-by-column columns fields column.Kind = refl
field-by-column columns fields column.Limit = refl
field-by-column columns fields column.Trigger = refl
field-by-column columns fields column.Quantity = refl
field-by-column columns fields column.Validity = refl
field-by-column columns fields column.Restriction = refl
field-by-column columns fields column.Condition = refl
field-by-column columns fields column.Text = refl

-- a record with the titles is the header
pub titled : (format : OrderFormat) (fields : List (List ℕ)) (answer : Bool) → length fields ≡ length (columns_of format)
    → answer ≡ list_all (λ (c : Column). bytes_eq (field c (by_column (columns_of format) fields)) (title_of c)) (columns_of format) → answer ≡ is_header format fields
titled format fields answer count titles = rw (count, same-number (length (columns_of format))) titles

-- ---- texts that are kept by column
abbrev pub text_of : Bor (List ℕ) → List ℕ
text_of text = text.now

abbrev kept : List (Bor (List ℕ)) → Column → List ℕ
kept texts c = field c (map text_of texts)

-- those of these columns, in their order
abbrev pub in_order : List Column → List (Bor (List ℕ)) → List (List ℕ)
in_order columns texts = map (kept texts) columns

found-if : (texts : List (List ℕ)) (o c : Column) (columns : List Column) (t : Bool) → (column_index o == column_index c) ≡ t → (column_place (o ∷ columns) c ≡ length (o ∷ columns) → field c texts ≡ [])
    → ((column_place columns c ≡ length columns → field c texts ≡ []) → get_or (map (λ (b : Column). field b texts) columns) (column_place columns c) [] ≡ field c texts)
    → get_or (map (λ (b : Column). field b texts) (o ∷ columns)) (column_place (o ∷ columns) c) [] ≡ field c texts
found-if texts o c columns true e none rest =
    let same : column_index o ≡ column_index c = grind (arith, nat_tests) in
    rw e (ap (λ (k : ℕ). get_or texts k []) same)
found-if texts o c columns false e none rest =
    let next : 1 + column_place columns c ≡ suc (column_place columns c) = omega arith in
    rw e (ap (λ (k : ℕ). get_or (map (λ (b : Column). field b texts) (o ∷ columns)) k []) next ∙ rest (λ h. none (rw e (omega (arith, h)))))

found : (texts : List (List ℕ)) (columns : List Column) (c : Column) → (column_place columns c ≡ length columns → field c texts ≡ []) → get_or (map (λ (b : Column). field b texts) columns) (column_place columns c) [] ≡ field c texts
found texts [] c none = sym (none refl)
found texts (o ∷ columns) c none = found-if texts o c columns (column_index o == column_index c) refl none (found texts columns c)

-- the text that is kept for a column is the field in it
pub kept-field : (columns : List Column) (texts : List (Bor (List ℕ))) (c : Column) (d : Bor (List ℕ)) → length texts ≡ 13 → column_index c < 13 → HasNoOthers columns (map text_of texts)
    → (get_or texts (column_index c) d).now ≡ field c (by_column columns (in_order columns texts))
kept-field columns texts c d thirteen within others =
    sym (get_or-map text_of texts (column_index c) d [] (omega (arith, within, thirteen)))
    ∙ sym (found (map text_of texts) columns c (others c))
    ∙ sym (field-by-column columns (in_order columns texts) c)

-- ---- one more text
kept-same : (texts : List (Bor (List ℕ))) (text : Bor (List ℕ)) (c : Column) → column_index c < length texts → kept (set texts (column_index c) text) c ≡ text.now
kept-same texts text c within =
    let size = length-map texts text_of in
    ap (field c) (map-set text_of texts (column_index c) text) ∙ get_or-set_same (map text_of texts) (column_index c) text.now [] (omega (arith, size, within))

kept-other : (texts : List (Bor (List ℕ))) (text : Bor (List ℕ)) (i : ℕ) (c : Column) → column_index c ≢ i → kept (set texts i text) c ≡ kept texts c
kept-other texts text i c other = ap (field c) (map-set text_of texts i text) ∙ get_or-set_other (map text_of texts) i (column_index c) text.now [] other

earlier-if : (texts : List (Bor (List ℕ))) (text : Bor (List ℕ)) (c o : Column) (columns : List Column) (place : ℕ) (t : Bool) → (column_index o == column_index c) ≡ t → suc place ≤ column_place (o ∷ columns) c
    → (place ≤ column_place columns c → in_order (take place columns) (set texts (column_index c) text) ≡ in_order (take place columns) texts)
    → in_order (take (suc place) (o ∷ columns)) (set texts (column_index c) text) ≡ in_order (take (suc place) (o ∷ columns)) texts
earlier-if texts text c o columns place true e before rest = absurd (let none = rw e at before in omega (arith, none))
earlier-if texts text c o columns place false e before rest =
    let other : column_index o ≢ column_index c = grind (arith, nat_tests) in
    let behind = rw e at before in
    λ i. kept-other texts text (column_index c) o other i ∷ rest (omega (arith, behind)) i

-- those of the columns before it stay
earlier : (texts : List (Bor (List ℕ))) (text : Bor (List ℕ)) (c : Column) (columns : List Column) (place : ℕ) → place ≤ column_place columns c
    → in_order (take place columns) (set texts (column_index c) text) ≡ in_order (take place columns) texts
earlier texts text c columns zero before = refl
earlier texts text c [] (suc place) before = refl
earlier texts text c (o ∷ columns) (suc place) before = earlier-if texts text c o columns place (column_index o == column_index c) refl before (earlier texts text c columns place)

-- the column at a place of a format has this index among all
pub record IsIndexAt (format : OrderFormat) (place index : ℕ) : Type 0 where
  pub other : Column
  pub is : index ≡ column_index (get_or (columns_of format) place other)
  pub inside : place < length (columns_of format)
  pub within : index < 13

pub index-at : (format : OrderFormat) (columns : List Column) (place index : ℕ) (d : Column) → columns ≡ columns_of format → index ≡ column_index (get_or columns place d) → place < length columns → index < 13 → IsIndexAt format place index
index-at format columns place index d e is inside within = record {
  other = d;
  is = is ∙ ap (λ (c : List Column). column_index (get_or c place d)) e;
  inside = rw e at inside;
  within = within;
}

one-more : (format : OrderFormat) (texts : List (Bor (List ℕ))) (place index : ℕ) (text : Bor (List ℕ)) → length texts ≡ 13 → IsIndexAt format place index
    → in_order (take (place + 1) (columns_of format)) (set texts index text) ≡ in_order (take place (columns_of format)) texts ++ text.now ∷ []
one-more format texts place index text thirteen at =
    let columns = columns_of format in
    let c = get_or columns place at.other in
    let is = at.is in
    let within = at.within in
    ap (λ (i : ℕ). in_order (take (place + 1) columns) (set texts i text)) is
    ∙ map_more (kept (set texts (column_index c) text)) columns place at.other at.inside
    ∙ ap (λ (rest : List (List ℕ)). rest ++ kept (set texts (column_index c) text) c ∷ []) (earlier texts text c columns place (first-place format place at.other at.inside))
    ∙ ap (λ (field : List ℕ). in_order (take place columns) texts ++ field ∷ []) (kept-same texts text c (omega (arith, is, within, thirteen)))

-- those of columns that the format doesn't have stay empty
pub still-none : (format : OrderFormat) (texts : List (Bor (List ℕ))) (place index : ℕ) (text : Bor (List ℕ)) → IsIndexAt format place index → HasNoOthers (columns_of format) (map text_of texts)
    → HasNoOthers (columns_of format) (map text_of (set texts index text))
still-none format texts place index text at others c none =
    let columns = columns_of format in
    let o = get_or columns place at.other in
    let inside = at.inside in
    let fails : (column_index o == column_index c) ≡ false = fails_before_first (λ (b : Column). column_index b == column_index c) columns place at.other (omega (arith, none, inside)) in
    let apart : column_index c ≢ column_index o = grind (arith, nat_tests) in
    kept-other texts text index c (λ e. apart (e ∙ at.is)) ∙ others c none

-- one more field of a record that CSV read
pub one-more-field : (format : OrderFormat) (fields : List (List ℕ)) (texts : List (Bor (List ℕ))) (place index : ℕ) (text : Bor (List ℕ)) → length texts ≡ 13 → IsIndexAt format place index → place < length fields → text.now ≡ get_or fields place []
    → in_order (take place (columns_of format)) texts ≡ take place fields → in_order (take (place + 1) (columns_of format)) (set texts index text) ≡ take (place + 1) fields
one-more-field format fields texts place index text thirteen at within is read =
    one-more format texts place index text thirteen at
    ∙ ap (λ (rest : List (List ℕ)). rest ++ text.now ∷ []) read
    ∙ ap (λ (field : List ℕ). take place fields ++ field ∷ []) is
    ∙ sym (take_more fields place [] within)

-- ---- one more field of a line
-- it is read up to a comma, and up to its end
abbrev pub Begun : OrderFormat → List ℕ → List (Bor (List ℕ)) → ℕ → List ℕ → Type 0
Begun format line texts place rest = next_record default_config StartRecord [] [] line ≡ next_record default_config StartField (in_order (take place (columns_of format)) texts) [] rest

pub line-begun : (format : OrderFormat) (texts : List (Bor (List ℕ))) (index : ℕ) (text : Bor (List ℕ)) (line rest : List ℕ) → length texts ≡ 13 → IsIndexAt format 0 index → EndsAt 44 line text.now rest → Begun format line (set texts index text) 1 rest
line-begun format texts index text line rest thirteen at ends =
    first-of line text.now rest ends
    ∙ ap (λ (fields : List (List ℕ)). next_record default_config StartField fields [] rest) (sym (one-more format texts 0 index text thirteen at))

pub line-more : (format : OrderFormat) (texts : List (Bor (List ℕ))) (place index : ℕ) (text : Bor (List ℕ)) (line left rest : List ℕ) → length texts ≡ 13 → IsIndexAt format place index → Begun format line texts place left → EndsAt 44 left text.now rest
    → Begun format line (set texts index text) (place + 1) rest
line-more format texts place index text line left rest thirteen at begun ends =
    begun
    ∙ next-of (in_order (take place (columns_of format)) texts) left text.now rest ends
    ∙ ap (λ (fields : List (List ℕ)). next_record default_config StartField fields [] rest) (sym (one-more format texts place index text thirteen at))

pub line-ended : (format : OrderFormat) (texts : List (Bor (List ℕ))) (last index : ℕ) (text : Bor (List ℕ)) (line left more : List ℕ) → length texts ≡ 13 → IsIndexAt format last index → last + 1 ≡ length (columns_of format) → Begun format line texts last left
    → EndsAt 10 left text.now more → ReadsLine line (in_order (columns_of format) (set texts index text)) more
line-ended format texts last index text line left more thirteen at count begun ends =
    let columns = columns_of format in
    let all : take (last + 1) columns ≡ columns = take_all (last + 1) columns (omega (arith, count)) in
    begun
    ∙ last-of (in_order (take last columns) texts) left text.now more ends
    ∙ ap (λ (fields : List (List ℕ)). Some (fields, StartRecord, more)) (sym (one-more format texts last index text thirteen at) ∙ ap (λ (taken : List Column). in_order taken (set texts index text)) all)
