-- What a day tells of its rows.
use Rattle.std.proofs.Common.{◌≡◌, ℕ, ◌+◌, ◌<◌, Bool, true, false, List, [], ◌∷◌, ◌++◌, append_assoc, length, map, slice_get, get_or, take, Option, Some, None, Result, Ok, Err, refl, ap, sym, ◌∙◌}
use Rattle.std.proofs.lemmas.List.{append-nil, take_more}
use Rattle.std.proofs.lemmas.List.Elements.{All-cons, All-head, All-nil, All-tail}
use Rattle.xm_config.specs.Day.{Day as TheDay, after_row, after_rows, counted, day_of, opening_day, row_answer, told_behind, told_of_rows}
use Rattle.xm_texts.specs.RowAnswers.{AgreeOn, where_asked, with_text}
use Rattle.xm_rules.specs.State.{State}
use Rattle.xm_rules.specs.Step.{Journal, replay}
use Rattle.xm_rules.specs.declared.replies.Refusal.{Refusal}
use Rattle.xm_rules.specs.declared.replies.Reply.{Reply}
use Rattle.xm_config.specs.declared.config.SegmentConfig.{SegmentConfig}
use Rattle.xm_config.specs.declared.rows.Row.{Row}

-- what is told of some rows, and of more
pub told_of_rows-append : (told : TheDay → Row → List ℕ) (d : TheDay) (rows more : List Row) → told_of_rows told d (rows ++ more) ≡ told_of_rows told d rows ++ told_of_rows told (after_rows d rows) more
told_of_rows-append told d [] more = refl
told_of_rows-append told d (row ∷ rows) more =
    ap (λ (text : List ℕ). told d row ++ text) (told_of_rows-append told (after_row d row) rows more)
    ∙ sym (append_assoc (told d row) (told_of_rows told (after_row d row) rows) (told_of_rows told (after_rows (after_row d row) rows) more))

abbrev HasSame : (ℕ → List ℕ) → (ℕ → List ℕ) → Row → Type 0
HasSame texts own row = texts row.line ≡ own row.line

-- what is told of some rows by texts that are the same for their records
pub told-alike : (tells : Row → List ℕ → Result Reply Refusal → Option State → List ℕ) (texts own : ℕ → List ℕ) (d : TheDay) (rows : List Row) → AgreeOn texts own rows
    → told_of_rows (told_behind tells own) d rows ≡ told_of_rows (told_behind tells texts) d rows
told-alike tells texts own d [] same = refl
told-alike tells texts own d (row ∷ rows) same =
    let first = All-head (HasSame texts own) row rows same in
    let rest = told-alike tells texts own (after_row d row) rows (All-tail (HasSame texts own) row rows same) in
    λ i. tells row (sym first i) (row_answer d.states row) (slice_get (after_row d row).states row.security) ++ rest i

pub agree-left : (texts own : ℕ → List ℕ) (rows more : List Row) → AgreeOn texts own (rows ++ more) → AgreeOn texts own rows
agree-left texts own [] more both = All-nil (HasSame texts own)
agree-left texts own (row ∷ rows) more both = All-cons (HasSame texts own) row rows (All-head (HasSame texts own) row (rows ++ more) both) (agree-left texts own rows more (All-tail (HasSame texts own) row (rows ++ more) both))

pub agree-right : (texts own : ℕ → List ℕ) (rows more : List Row) → AgreeOn texts own (rows ++ more) → AgreeOn texts own more
agree-right texts own [] more both = both
agree-right texts own (row ∷ rows) more both = agree-right texts own rows more (All-tail (HasSame texts own) row (rows ++ more) both)

pub agree-with_itself : (texts : ℕ → List ℕ) (rows : List Row) → AgreeOn texts texts rows
agree-with_itself texts rows = λ k d within. refl

joined-parts : (t a b c d e f : List ℕ) → (((((t ++ a) ++ b) ++ c) ++ d) ++ e) ++ f ≡ t ++ (((((a ++ b) ++ c) ++ d) ++ e) ++ f)
joined-parts t a b c d e f = simp append_assoc

-- a text that goes on with one piece
abbrev with_piece : List ℕ → List ℕ → List ℕ
with_piece piece text = text ++ piece

-- and with six
pub line-parts : (t first second third fourth fifth sixth a b c d e f : List ℕ)
    → first ≡ t ++ a → second ≡ first ++ b → third ≡ second ++ c → fourth ≡ third ++ d → fifth ≡ fourth ++ e → sixth ≡ fifth ++ f → sixth ≡ t ++ (((((a ++ b) ++ c) ++ d) ++ e) ++ f)
line-parts t first second third fourth fifth sixth a b c d e f has_a has_b has_c has_d has_e has_f =
    has_f
    ∙ ap (with_piece f) (has_e ∙ ap (with_piece e) (has_d ∙ ap (with_piece d) (has_c ∙ ap (with_piece c) (has_b ∙ ap (with_piece b) has_a))))
    ∙ joined-parts t a b c d e f

-- a text that goes on with one piece, and with one more
pub with_text-append : (text more : List ℕ) (o : Option (List ℕ)) → with_text more (with_text text o) ≡ with_text (text ++ more) o
with_text-append text more None = refl
with_text-append text more (Some begun) = ap Some (append_assoc begun text more)

pub with_text-nil : (o : Option (List ℕ)) → o ≡ with_text [] o
with_text-nil None = refl
with_text-nil (Some begun) = ap Some (sym (append-nil begun))

pub with_text-asked : (asked : Bool) (text more : List ℕ) → with_text more (where_asked asked text) ≡ where_asked asked (text ++ more)
with_text-asked false text more = refl
with_text-asked true text more = refl

counted-states : (d : TheDay) (answer : Result Reply Refusal) → (counted d answer).states ≡ d.states
counted-states d (Ok reply) = refl
counted-states d (Err refusal) = refl

-- the state of the security of a row that desks took
pub state-behind : (old new : List Journal) (a r : ℕ) (row : Row) (answer : Result Reply Refusal) → after_row (day_of old a r) row ≡ counted (day_of new a r) answer
    → slice_get (after_row (day_of old a r) row).states row.security ≡ slice_get (map replay new) row.security
state-behind old new a r row answer after = ap (λ (states : List State). slice_get states row.security) (ap (λ (d : TheDay). d.states) after ∙ counted-states (day_of new a r) answer)

-- what is told of a row that desks took and answered so
pub told-row : (tells : Row → List ℕ → Result Reply Refusal → Option State → List ℕ) (texts : ℕ → List ℕ) (old new : List Journal) (a r : ℕ) (row : Row) (answer : Result Reply Refusal) → answer ≡ row_answer (map replay old) row
    → after_row (day_of old a r) row ≡ counted (day_of new a r) answer → tells row (texts row.line) answer (slice_get (map replay new) row.security) ≡ told_behind tells texts (day_of old a r) row
told-row tells texts old new a r row answer answers took =
    ap (λ (x : Result Reply Refusal). tells row (texts row.line) x (slice_get (map replay new) row.security)) answers
    ∙ sym (ap (tells row (texts row.line) (row_answer (map replay old) row)) (state-behind old new a r row answer took))

-- what is told of the rows so far, and of one more
pub told-more : (told : TheDay → Row → List ℕ) (begun d : TheDay) (rows : List Row) (i : ℕ) (row : Row) (first before after : Option (List ℕ)) → i < length rows → d ≡ after_rows begun (take i rows)
    → before ≡ with_text (told_of_rows told begun (take i rows)) first → after ≡ with_text (told d (get_or rows i row)) before → after ≡ with_text (told_of_rows told begun (take (i + 1) rows)) first
told-more told begun d rows i row first before after within is so_far step =
    let so = take i rows in
    let next = get_or rows i row in
    let line = told d next in
    let one : told_of_rows told (after_rows begun so) (next ∷ []) ≡ line = append-nil (told (after_rows begun so) next) ∙ ap (λ (e : TheDay). told e next) (sym is) in
    step
    ∙ ap (with_text line) so_far
    ∙ with_text-append (told_of_rows told begun so) line first
    ∙ ap (λ (text : List ℕ). with_text text first) (ap (λ (text : List ℕ). told_of_rows told begun so ++ text) (sym one) ∙ sym (told_of_rows-append told begun so (next ∷ [])) ∙ ap (told_of_rows told begun) (sym (take_more rows i row within)))

-- of the rows of a segment so far, behind a header, and of more
pub told-joined : (asked : Bool) (told : TheDay → Row → List ℕ) (header : List ℕ) (config : SegmentConfig) (taken rows : List Row) (at : TheDay) (before after : Option (List ℕ))
    → before ≡ where_asked asked (header ++ told_of_rows told (opening_day config) taken) → at ≡ after_rows (opening_day config) taken → after ≡ with_text (told_of_rows told at rows) before
    → after ≡ where_asked asked (header ++ told_of_rows told (opening_day config) (taken ++ rows))
told-joined asked told header config taken rows at before after so_far is step =
    let begun = opening_day config in
    step
    ∙ ap (with_text (told_of_rows told at rows)) so_far
    ∙ with_text-asked asked (header ++ told_of_rows told begun taken) (told_of_rows told at rows)
    ∙ ap (where_asked asked) (ap (λ (d : TheDay). (header ++ told_of_rows told begun taken) ++ told_of_rows told d rows) is
    ∙ append_assoc header (told_of_rows told begun taken) (told_of_rows told (after_rows begun taken) rows)
    ∙ ap (λ (text : List ℕ). header ++ text) (sym (told_of_rows-append told begun taken rows)))
