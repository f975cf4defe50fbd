-- The records of a text that begins with a line without quotes.
use Rattle.std.proofs.Common.{◌≡◌, ◌≢◌, ℕ, Bool, true, ◌==◌, get_or, suc, zero, ◌+◌, ◌<◌, false, List, [], ◌∷◌, length, Option, Some, None, refl, sym, ap, ◌∙◌, arith, add-one}
use Rattle.std.proofs.lemmas.Bool.Decides.{nat_tests}
use Rattle.csv.specs.Machine.{Read, next_record, ends_at_end}
use Rattle.csv.specs.Reading.{default_config, records, records_from, strip_bom}
use Rattle.csv.specs.declared.parser.State.{State}
use Rattle.csv.specs.declared.parser.State.TheVariants as st
use Rattle.xm_files.proofs.Takes.{records-more, records-none, takes}
use Rattle.xm_files.specs.Plain.{ReadsLine}

-- more turns than there are bytes give no more records
same-by : (n m : ℕ) (s : State) (text : List ℕ) (o : Option Read) → next_record default_config s [] [] text ≡ o
    → ((read : Read) → next_record default_config s [] [] text ≡ Some read → records_from default_config n read.1 read.2 ≡ records_from default_config m read.1 read.2)
    → records_from default_config (suc n) s text ≡ records_from default_config (suc m) s text
same-by n m s text None e same = records-none n s text e ∙ sym (records-none m s text e)
same-by n m s text (Some read) e same =
    records-more n s text read e ∙ ap (λ (more : List (List (List ℕ))). read.0 ∷ more) (same read e) ∙ sym (records-more m s text read e)

pub same-records : (n m : ℕ) (s : State) (text : List ℕ) → ends_at_end s ≡ false → length text < n → length text < m → records_from default_config n s text ≡ records_from default_config m s text
same-records zero m s text between h k = absurd (omega arith)
same-records (suc n) zero s text between h k = absurd (omega arith)
same-records (suc n) (suc m) s text between h k =
    same-by n m s text (next_record default_config s [] [] text) refl
    (λ read e.
    let t = takes s text read between e in
    let fewer = t.0 in
    same-records n m read.1 read.2 t.1 (omega arith) (omega arith))

-- a line feed before a record is passed over
skipped : (n : ℕ) (line : List ℕ) → records_from default_config (suc n) st.StartRecord (10 ∷ line) ≡ records_from default_config (suc n) st.StartRecord line
unfolding next_record records_from
skipped n line = refl

pub fed-records : (line : List ℕ) → records default_config (10 ∷ line) ≡ records default_config line
fed-records line =
    let n : length (10 ∷ line) + 1 ≡ suc (length (10 ∷ line)) = add-one (length (10 ∷ line)) in
    ap (λ (k : ℕ). records_from default_config k st.StartRecord (10 ∷ line)) n
    ∙ skipped (length (10 ∷ line)) line
    ∙ same-records (suc (length (10 ∷ line))) (length line + 1) st.StartRecord line refl (omega arith) (omega arith)

pub line-shorter : (text more : List ℕ) (fields : List (List ℕ)) → ReadsLine text fields more → length more < length text
line-shorter text more fields e = let t = takes st.StartRecord text (fields, st.StartRecord, more) refl e in t.0

-- the first record of a text, and the others
pub line-records : (text more : List ℕ) (fields : List (List ℕ)) → ReadsLine text fields more → records default_config text ≡ fields ∷ records default_config (10 ∷ more)
line-records text more fields e =
    let fewer = line-shorter text more fields e in
    ap (λ (k : ℕ). records_from default_config k st.StartRecord text) (add-one (length text))
    ∙ records-more (length text) st.StartRecord text (fields, st.StartRecord, more) e
    ∙ ap (λ (rest : List (List (List ℕ))). fields ∷ rest) (same-records (length text) (length more + 1) st.StartRecord more refl fewer (omega arith) ∙ sym (fed-records more))

-- a text that begins with a line feed begins with no byte order mark
pub strip-fed : (line : List ℕ) → strip_bom (10 ∷ line) ≡ 10 ∷ line
unfolding strip_bom
strip-fed [] = refl
strip-fed (a ∷ []) = refl
strip-fed (a ∷ b ∷ rest) = refl

ne-test : (a b : ℕ) → a ≢ b → (a == b) ≡ false
ne-test a b other = grind (arith, nat_tests)

unmarked-if : (a b c : ℕ) (rest : List ℕ) (t : Bool) → (a == 239) ≡ t → t ≡ false → strip_bom (a ∷ b ∷ c ∷ rest) ≡ a ∷ b ∷ c ∷ rest
unfolding strip_bom
unmarked-if a b c rest true e h = cc
unmarked-if a b c rest false e h = rw e refl

-- nor does one whose first byte is another
pub strip-unmarked : (text : List ℕ) → get_or text 0 0 ≢ 239 → strip_bom text ≡ text
unfolding strip_bom
strip-unmarked [] other = refl
strip-unmarked (a ∷ []) other = refl
strip-unmarked (a ∷ b ∷ []) other = refl
strip-unmarked (a ∷ b ∷ c ∷ rest) other = unmarked-if a b c rest (a == 239) refl (ne-test a 239 other)
