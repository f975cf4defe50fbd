-- What CSV makes of fields that are written without quotes.
use Rattle.std.proofs.Common.{◌≡◌, ℕ, zero, suc, ◌+◌, ◌-◌, ◌<◌, ◌≤◌, Bool, true, false, not, ◌||◌, ◌==◌, List, [], ◌∷◌, ◌++◌, take, drop, get_or, get_or-drop, length, length-drop, take-append-drop, Some, refl, sym, ap, ◌∙◌, append_assoc, arith}
use Rattle.std.proofs.Math.Seq.{drop-cons, drop-nil}
use Rattle.std.proofs.lemmas.Bool.{and_parts}
use Rattle.std.proofs.lemmas.List.{append-nil, take_more}
use Rattle.std.proofs.lemmas.List.Folds.{list_all-append}
use Rattle.csv.specs.Machine.{next_record, step}
use Rattle.csv.specs.Reading.{default_config}
use Rattle.csv.specs.declared.parser.Action.TheVariants as act
use Rattle.csv.specs.declared.parser.State.{State}
use Rattle.csv.specs.declared.parser.State.TheVariants as st
use Rattle.xm_files.specs.Plain.{EndsAt, IsBehind, IsNextMark, TextFrom, is_mark, is_plain, rest_of}

none-of : (a b c d : Bool) → not (a || (b || (c || d))) ≡ true → (a ≡ false) × (b ≡ false) × (c ≡ false) × (d ≡ false)
none-of false false false false h = (refl, refl, refl, refl)
none-of true b c d h = cc
none-of false true c d h = cc
none-of false false true d h = cc
none-of false false false true h = cc

no-mark : (byte : ℕ) → not (is_mark byte) ≡ true → ((byte == 10) ≡ false) × ((byte == 13) ≡ false) × ((byte == 34) ≡ false) × ((byte == 44) ≡ false)
no-mark byte h = none-of (byte == 10) (byte == 13) (byte == 34) (byte == 44) h

-- a byte that is no mark joins the field at hand
joins-first : (byte : ℕ) → not (is_mark byte) ≡ true → step default_config st.StartRecord byte ≡ (st.InField, act.Copy)
joins-first byte h = let m = no-mark byte h in rw (m.0, m.1, m.2, m.3) refl

joins-next : (byte : ℕ) → not (is_mark byte) ≡ true → step default_config st.StartField byte ≡ (st.InField, act.Copy)
joins-next byte h = let m = no-mark byte h in rw (m.0, m.1, m.2, m.3) refl

joins-more : (byte : ℕ) → not (is_mark byte) ≡ true → step default_config st.InField byte ≡ (st.InField, act.Copy)
joins-more byte h = let m = no-mark byte h in rw (m.0, m.1, m.3) refl

copied : (s : State) (byte : ℕ) (fields : List (List ℕ)) (field rest : List ℕ) → step default_config s byte ≡ (st.InField, act.Copy)
    → next_record default_config s fields field (byte ∷ rest) ≡ next_record default_config st.InField fields (field ++ byte ∷ []) rest
unfolding next_record
copied s byte fields field rest e = rw e refl

-- up to a comma
to-comma : (fields : List (List ℕ)) (begun field rest : List ℕ) → is_plain field ≡ true
    → next_record default_config st.InField fields begun (field ++ 44 ∷ rest) ≡ next_record default_config st.StartField (fields ++ (begun ++ field) ∷ []) [] rest
unfolding next_record
to-comma fields begun [] rest plain = ap (λ (f : List ℕ). next_record default_config st.StartField (fields ++ f ∷ []) [] rest) (sym (append-nil begun))
to-comma fields begun (byte ∷ field) rest plain =
    let parts = and_parts (not (is_mark byte)) (is_plain field) plain in
    copied st.InField byte fields begun (field ++ 44 ∷ rest) (joins-more byte parts.0)
    ∙ to-comma fields (begun ++ byte ∷ []) field rest parts.1
    ∙ ap (λ (f : List ℕ). next_record default_config st.StartField (fields ++ f ∷ []) [] rest) (append_assoc begun (byte ∷ []) field)

-- the first field of a record
pub first-field : (field rest : List ℕ) → is_plain field ≡ true → next_record default_config st.StartRecord [] [] (field ++ 44 ∷ rest) ≡ next_record default_config st.StartField (field ∷ []) [] rest
unfolding next_record
first-field [] rest plain = refl
first-field (byte ∷ field) rest plain =
    let parts = and_parts (not (is_mark byte)) (is_plain field) plain in
    copied st.StartRecord byte [] [] (field ++ 44 ∷ rest) (joins-first byte parts.0) ∙ to-comma [] (byte ∷ []) field rest parts.1

-- one more field
pub next-field : (fields : List (List ℕ)) (field rest : List ℕ) → is_plain field ≡ true
    → next_record default_config st.StartField fields [] (field ++ 44 ∷ rest) ≡ next_record default_config st.StartField (fields ++ field ∷ []) [] rest
unfolding next_record
next-field fields [] rest plain = refl
next-field fields (byte ∷ field) rest plain =
    let parts = and_parts (not (is_mark byte)) (is_plain field) plain in
    copied st.StartField byte fields [] (field ++ 44 ∷ rest) (joins-next byte parts.0) ∙ to-comma fields (byte ∷ []) field rest parts.1

-- up to the end of the line
to-line : (fields : List (List ℕ)) (begun field more : List ℕ) → is_plain field ≡ true
    → next_record default_config st.InField fields begun (field ++ 10 ∷ more) ≡ Some (fields ++ (begun ++ field) ∷ [], st.StartRecord, more)
unfolding next_record
to-line fields begun [] more plain = ap (λ (f : List ℕ). Some (fields ++ f ∷ [], st.StartRecord, more)) (sym (append-nil begun))
to-line fields begun (byte ∷ field) more plain =
    let parts = and_parts (not (is_mark byte)) (is_plain field) plain in
    copied st.InField byte fields begun (field ++ 10 ∷ more) (joins-more byte parts.0)
    ∙ to-line fields (begun ++ byte ∷ []) field more parts.1
    ∙ ap (λ (f : List ℕ). Some (fields ++ f ∷ [], st.StartRecord, more)) (append_assoc begun (byte ∷ []) field)

-- the last field of a line
pub last-field : (fields : List (List ℕ)) (field more : List ℕ) → is_plain field ≡ true → next_record default_config st.StartField fields [] (field ++ 10 ∷ more) ≡ Some (fields ++ field ∷ [], st.StartRecord, more)
unfolding next_record
last-field fields [] more plain = refl
last-field fields (byte ∷ field) more plain =
    let parts = and_parts (not (is_mark byte)) (is_plain field) plain in
    copied st.StartField byte fields [] (field ++ 10 ∷ more) (joins-next byte parts.0) ∙ to-line fields (byte ∷ []) field more parts.1

pub first-of : (text field rest : List ℕ) → EndsAt 44 text field rest → next_record default_config st.StartRecord [] [] text ≡ next_record default_config st.StartField (field ∷ []) [] rest
first-of text field rest ends = ap (next_record default_config st.StartRecord [] []) ends.0 ∙ first-field field rest ends.1

pub next-of : (fields : List (List ℕ)) (text field rest : List ℕ) → EndsAt 44 text field rest → next_record default_config st.StartField fields [] text ≡ next_record default_config st.StartField (fields ++ field ∷ []) [] rest
next-of fields text field rest ends = ap (next_record default_config st.StartField fields []) ends.0 ∙ next-field fields field rest ends.1

pub last-of : (fields : List (List ℕ)) (text field more : List ℕ) → EndsAt 10 text field more → next_record default_config st.StartField fields [] text ≡ Some (fields ++ field ∷ [], st.StartRecord, more)
last-of fields text field more ends = ap (next_record default_config st.StartField fields []) ends.0 ∙ last-field fields field more ends.1

from-mark : (text : List ℕ) (n d mark : ℕ) → n < length text → get_or text n d ≡ mark → drop n text ≡ mark ∷ drop (n + 1) text
from-mark text n d mark within is =
    let next : suc n ≡ n + 1 = omega arith in
    drop-cons text n d within ∙ ap (λ (byte : ℕ). byte ∷ drop (suc n) text) is ∙ ap (λ (k : ℕ). mark ∷ drop k text) next

drop-again : (n m : ℕ) (text : List ℕ) → drop m (drop n text) ≡ drop (n + m) text
drop-again zero m text =
    let same : 0 + m ≡ m = omega arith in
    ap (λ (k : ℕ). drop k text) (sym same)
drop-again (suc n) m [] = drop-nil m ∙ sym (drop-nil (suc n + m))
drop-again (suc n) m (byte ∷ text) =
    let same : suc n + m ≡ suc (n + m) = omega arith in
    drop-again n m text ∙ ap (λ (k : ℕ). drop k (byte ∷ text)) (sym same)

between : (text : List ℕ) (from at : ℕ) → from ≤ at → drop (at - from) (drop from text) ≡ drop at text
between text from at below = drop-again from (at - from) text ∙ (let sum : from + (at - from) ≡ at = omega arith in ap (λ (k : ℕ). drop k text) sum)

-- what a mark is behind
pub behind-mark : (mark : ℕ) (text : List ℕ) (at : ℕ) → at < length text → get_or text at 0 ≡ mark → IsBehind mark (record { text = text; at = at + 1 })
behind-mark mark text at within is =
    let place : at + 1 - 1 ≡ at = omega arith in
    rw place (from-mark text at 0 mark within is)

plain-up-to : (t : TextFrom) (place : ℕ) → IsNextMark t place → (n : ℕ) → t.at + n ≤ place → is_plain (take n (rest_of t)) ≡ true
plain-up-to t place next zero below = refl
plain-up-to t place next (suc n) below =
    let within = next.within in
    let size = length-drop t.at t.text in
    let inside : n < length (rest_of t) = omega (arith, size, within, below) in
    let step : suc n ≡ n + 1 = omega arith in
    let no_mark = ap is_mark (get_or-drop t.at t.text n 0) ∙ next.before (t.at + n) (omega arith) (omega arith) in
    rw (step, take_more (rest_of t) n 0 inside, list_all-append (λ (byte : ℕ). not (is_mark byte)) (take n (rest_of t)) (get_or (rest_of t) n 0 ∷ []), plain-up-to t place next n (omega arith), no_mark) refl

-- the field before a mark
pub field-to : (mark : ℕ) (t : TextFrom) (place : ℕ) → IsNextMark t place → get_or t.text place 0 ≡ mark → EndsAt mark (rest_of t) (take (place - t.at) (rest_of t)) (drop (place + 1) t.text)
field-to mark t place next is =
    let rest = ap (λ (rest : List ℕ). take (place - t.at) (rest_of t) ++ rest) (between t.text t.at place next.ahead ∙ from-mark t.text place 0 mark next.within is) in
    (sym (take-append-drop (place - t.at) (rest_of t)) ∙ rest, plain-up-to t place next (place - t.at) (let ahead = next.ahead in omega arith))
