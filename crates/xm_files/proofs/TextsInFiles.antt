-- The texts of the records of several order files.
use Rattle.std.proofs.Common.{◌≡◌, ℕ, ◌+◌, ◌-◌, ◌<◌, ◌≤◌, Bool, true, false, nat_le, nat_lt, if◌then◌else◌, List, [], ◌∷◌, ◌++◌, length, refl, ap, arith, sym, ◌∙◌}
use Rattle.std.proofs.lemmas.Bool.Decides.{nat_tests}
use Rattle.std.proofs.lemmas.List.Elements.{All-weaker}
use Rattle.std.specs.List.{All}
use Rattle.xm_files.specs.OrderFiles.{StandsIn, records_of_files, text_in_files}
use Rattle.xm_files.specs.Orders.{records_in}
use Rattle.xm_files.specs.RecordTexts.{have_texts, record_at, text_from, text_in, text_of_record}
use Rattle.xm_config.specs.declared.rows.Row.{Row}

-- a record's text doesn't depend on the number of the header, where the record stands as far behind it
record-shift : (first line first' line' : ℕ) (file : List (List (List ℕ))) → first ≤ line → first' ≤ line' → line - first ≡ line' - first' → record_at first file line ≡ record_at first' file line'
record-shift first line first' line' file behind behind' same =
    let test : nat_lt line first ≡ false = grind (arith, nat_tests) in
    let test' : nat_lt line' first' ≡ false = grind (arith, nat_tests) in
    rw (test, test', same) refl

text-shift : (first line first' line' : ℕ) (bytes : List ℕ) → first ≤ line → first' ≤ line' → line - first ≡ line' - first' → text_from first bytes line ≡ text_from first' bytes line'
text-shift first line first' line' bytes behind behind' same =
    let file = records_in bytes in
    ap (λ (fields : List (List ℕ)). if have_texts file then text_in fields else []) (record-shift first line first' line' file behind behind' same)

-- the record stands in the first file, or in one behind it
text-here : (bytes : List ℕ) (more : List (List ℕ)) (line : ℕ) → line ≤ length (records_in bytes) → text_in_files (bytes ∷ more) line ≡ text_of_record bytes line
text-here bytes more line within =
    let test : nat_le line (length (records_in bytes)) ≡ true = grind (arith, nat_tests) in
    rw test refl

text-behind : (bytes : List ℕ) (more : List (List ℕ)) (line : ℕ) → length (records_in bytes) < line → text_in_files (bytes ∷ more) line ≡ text_in_files more (line - length (records_in bytes))
text-behind bytes more line behind =
    let test : nat_le line (length (records_in bytes)) ≡ false = grind (arith, nat_tests) in
    rw test refl

-- the text of a record of the file that comes behind these, whichever come behind it
pub text-in-next : (done : List (List ℕ)) (bytes : List ℕ) (more : List (List ℕ)) (line : ℕ) → records_of_files done < line → line ≤ records_of_files done + length (records_in bytes)
    → text_in_files (done ++ bytes ∷ more) line ≡ text_from (records_of_files done + 1) bytes line
text-in-next [] bytes more line behind within = text-here bytes more line (omega (arith, within))
text-in-next (own ∷ done) bytes more line behind within =
    let count = length (records_in own) in
    let before = records_of_files done in
    let later : count < line = omega (arith, behind) in
    let behind' : before < line - count = omega (arith, behind) in
    let within' : line - count ≤ before + length (records_in bytes) = omega (arith, within, behind) in
    text-behind own (done ++ bytes ∷ more) line later
    ∙ text-in-next done bytes more (line - count) behind' within'
    ∙ text-shift (before + 1) (line - count) ((count + before) + 1) line bytes (omega (arith, behind')) (omega (arith, behind)) (omega (arith, behind))

text-by : (own : List ℕ) (done more : List (List ℕ)) (line : ℕ) (here : Bool) → nat_le line (length (records_in own)) ≡ here
    → (length (records_in own) < line → text_in_files (done ++ more) (line - length (records_in own)) ≡ text_in_files done (line - length (records_in own)))
    → text_in_files (own ∷ (done ++ more)) line ≡ text_in_files (own ∷ done) line
text-by own done more line true test later =
    let within : line ≤ length (records_in own) = grind (arith, nat_tests) in
    text-here own (done ++ more) line within ∙ sym (text-here own done line within)
text-by own done more line false test later =
    let behind : length (records_in own) < line = grind (arith, nat_tests) in
    text-behind own (done ++ more) line behind ∙ later behind ∙ sym (text-behind own done line behind)

-- the text of a record of these files, whichever come behind them
pub text-in-done : (done more : List (List ℕ)) (line : ℕ) → 0 < line → line ≤ records_of_files done → text_in_files (done ++ more) line ≡ text_in_files done line
text-in-done [] more line counted within = absurd (omega (arith, counted, within))
text-in-done (own ∷ done) more line counted within =
    text-by own done more line (nat_le line (length (records_in own))) refl
    (λ behind. text-in-done done more (line - length (records_in own)) (omega (arith, behind)) (omega (arith, within, behind)))

-- so the texts of rows of these files stay
pub texts-stay : (done more : List (List ℕ)) (first : ℕ) (rows : List Row) → first ≡ records_of_files done + 1 → All (StandsIn 0 first) rows → All (λ row. text_in_files (done ++ more) row.line ≡ text_in_files done row.line) rows
texts-stay done more first rows is stand =
    All-weaker (StandsIn 0 first) (λ row. text_in_files (done ++ more) row.line ≡ text_in_files done row.line) (λ row at. let below = at.1 in text-in-done done more row.line at.0 (omega (arith, below, is))) rows stand

-- and those of rows of the next file are its own
pub texts-next : (done : List (List ℕ)) (bytes : List ℕ) (more : List (List ℕ)) (first : ℕ) (own : List Row) → first ≡ records_of_files done + 1 → All (StandsIn first (first + length (records_in bytes))) own
    → All (λ row. text_in_files (done ++ bytes ∷ more) row.line ≡ text_from first bytes row.line) own
texts-next done bytes more first own is stand =
    All-weaker (StandsIn first (first + length (records_in bytes))) (λ row. text_in_files (done ++ bytes ∷ more) row.line ≡ text_from first bytes row.line)
    (λ row at.
    let behind = at.0 in
    let below = at.1 in
    text-in-next done bytes more row.line (omega (arith, behind, is)) (omega (arith, below, is)) ∙ ap (λ (n : ℕ). text_from n bytes row.line) (sym is)) own stand
