-- The text of a record that CSV has found in a file, or hasn't.
use Rattle.std.proofs.Common.{◌≡◌, ℕ, ◌+◌, ◌-◌, ◌<◌, ◌≤◌, true, false, nat_lt, if◌then◌else◌, Bool, List, [], drop, get_or, get_or-drop, Option, IsSome, IfSome, refl, ap, sym, arith, ◌∙◌}
use Rattle.std.proofs.lemmas.Bool.Decides.{nat_tests}
use Rattle.xm_files.proofs.CsvParts.{same-fields, waiting}
use Rattle.xm_files.specs.Orders.{records_in}
use Rattle.xm_files.specs.RecordTexts.{have_texts, record_at, text_from, text_in}
use Rattle.xm_files.specs.Unread.{CsvLeft, IsWithin, with_ahead}

pub text-off : (first : ℕ) (bytes : List ℕ) (line : ℕ) → have_texts (records_in bytes) ≡ false → text_from first bytes line ≡ []
text-off first bytes line off = λ i. if off i then text_in (record_at first (records_in bytes) line) else []

-- below the header there is no record
pub text-below : (first : ℕ) (bytes : List ℕ) (line : ℕ) → line < first → text_from first bytes line ≡ []
text-below first bytes line below =
    let test : nat_lt line first ≡ true = grind (arith, nat_tests) in
    go (have_texts (records_in bytes)) test
  where
    go : (has : Bool) → nat_lt line first ≡ true → (if has then text_in (record_at first (records_in bytes) line) else []) ≡ []
    go true test = rw test refl
    go false test = refl

text-on : (first : ℕ) (bytes : List ℕ) (line : ℕ) → have_texts (records_in bytes) ≡ true → first ≤ line → text_from first bytes line ≡ text_in (get_or (records_in bytes) (line - first) [])
text-on first bytes line on behind =
    let test : nat_lt line first ≡ false = grind (arith, nat_tests) in
    (λ i. if on i then text_in (record_at first (records_in bytes) line) else []) ∙ rw test refl

first-left : (n : ℕ) (file : List (List (List ℕ))) → get_or (drop n file) 0 [] ≡ get_or file n []
first-left n file = get_or-drop n file 0 [] ∙ (let same : n + 0 ≡ n = omega arith in ap (λ (k : ℕ). get_or file k []) same)

-- where the file ends before it
pub text-none : (first : ℕ) (bytes : List ℕ) (line : ℕ) → have_texts (records_in bytes) ≡ true → first ≤ line → drop (line - first) (records_in bytes) ≡ [] → text_from first bytes line ≡ []
text-none first bytes line on behind none =
    let file = records_in bytes in
    text-on first bytes line on behind
    ∙ ap text_in (sym (first-left (line - first) file) ∙ ap (λ (left : List (List (List ℕ))). get_or left 0 []) none)

-- where it waits
pub text-found : (first : ℕ) (bytes : List ℕ) (line : ℕ) (csv : CsvLeft) (row : List (List ℕ)) → have_texts (records_in bytes) ≡ true → first ≤ line → IsWithin bytes first csv → csv.line ≡ line → IsSome csv.ahead
    → IfSome csv.ahead (λ fields. row ≡ fields) → text_from first bytes line ≡ text_in row
text-found first bytes line csv row on behind within here some is =
    let file = records_in bytes in
    let ahead = waiting csv.ahead some in
    let left = sym within.left ∙ ap (λ (ahead : Option (List (List ℕ))). with_ahead ahead csv.behind) ahead.1 in
    let place = ap (λ (n : ℕ). n - first) here in
    text-on first bytes line on behind
    ∙ ap (λ (n : ℕ). text_in (get_or file n [])) (sym place)
    ∙ ap text_in (sym (first-left (csv.line - first) file) ∙ ap (λ (records : List (List (List ℕ))). get_or records 0 []) left ∙ sym (same-fields csv.ahead ahead.0 row ahead.1 is))
