-- Rows that are told of all that was published, one after another, and the journals of the lanes then.
use Rattle.std.proofs.Common.{◌≡◌, ℕ, zero, suc, ◌+◌, ◌++◌, ◌<◌, List, [], ◌∷◌, length, get_or, map, take, drop, Option, Some, None, true, false, refl, sym, ap, ◌∙◌, subst, append_assoc, arith}
use Rattle.std.specs.Prelude.{All, is_some, slice_get}
use Rattle.std.proofs.lemmas.List.{append-nil, drop_more, get_or_at, length-map, length-take, take_more}
use Rattle.std.proofs.lemmas.List.Elements.{All-cons, All-nil}
use Rattle.xm_board.specs.Journals.{known_by, unnumbered}
use Rattle.xm_board.specs.declared.journal.NumberedJournal.{NumberedJournal}
use Rattle.xm_board.specs.declared.watch.Known.{Known}
use Rattle.xm_rules.specs.Step.{Journal}
use Rattle.xm_rules.specs.declared.settings.DeskSettings.{DeskSettings}
use Rattle.xm_segment.specs.Gathering.{AreParts, row_told, watches_told}
use Rattle.xm_segment.specs.Unlocked.{ArePartsIn, FillLanes, journals_in, told_by, told_in, with_desk}
use Rattle.xm_segment.specs.Watches.{RowView}

-- something holds of each
abbrev pub EachIn : {A : Type 0} → (A → Type 0) → List A → Type 0
EachIn P [] = Unit {0}
EachIn P (x ∷ xs) = P x × EachIn P xs

pub each-at : {A : Type 0} (P : A → Type 0) (xs : List A) → EachIn P xs → (i : ℕ) (x : A) → slice_get xs i ≡ Some x → P x
each-at P [] each i x at = absurd (cc)
each-at P (y ∷ ys) each zero x at = let same : y ≡ x = cc in subst P same each.0
each-at P (y ∷ ys) each (suc i) x at = each-at P ys each.1 i x at

each-push : {A : Type 0} (P : A → Type 0) (xs : List A) (x : A) → EachIn P xs → P x → EachIn P (xs ++ x ∷ [])
each-push P [] x each is = (is, tt)
each-push P (y ∷ ys) x each is = (each.0, each-push P ys x each.1 is)

pub each-more : {A : Type 0} (P : A → Type 0) (xs : List A) (i : ℕ) (x : A) → i < length xs → EachIn P (take i xs) → P (get_or xs i x) → EachIn P (take (i + 1) xs)
each-more P xs i x within each is = subst (EachIn P) (sym (take_more xs i x within)) (each-push P (take i xs) (get_or xs i x) each is)

-- where those before it were changed, the next is as it was
pub still-there : {A : Type 0} (f : A → A) (xs ys : List A) (i : ℕ) (x : A) → i < length xs → ys ≡ map f (take i xs) ++ drop i xs → get_or ys i x ≡ get_or xs i x
still-there f xs ys i x within are =
    let front = map f (take i xs) in
    let long : length front ≡ i = length-map (take i xs) f ∙ omega (arith, length-take i xs, within) in
    ap (λ zs. get_or zs i x) (are ∙ ap (λ zs. front ++ zs) (drop_more xs i x within)) ∙ get_or_at front _ _ x i long

pub all-each : {A : Type 0} (P : A → Type 0) (xs : List A) → EachIn P xs → All P xs
all-each P [] each = All-nil P
all-each P (x ∷ xs) each = All-cons P x xs each.0 (all-each P xs each.1)

pub none-there : {A : Type 0} (xs : List A) → length xs ≡ 0 → xs ≡ []
none-there [] none = refl
none-there (x ∷ xs) none = absurd (omega (arith, none))

-- ---- the journals of the lanes that have one

none-next : (settings : List DeskSettings) (lane : ℕ) → slice_get settings lane ≡ None → slice_get settings (lane + 1) ≡ None
none-next [] lane none = refl
none-next (s ∷ ss) zero none = absurd (cc)
none-next (s ∷ ss) (suc lane) none =
    let more : suc (lane + 1) ≡ suc lane + 1 = omega arith in
    subst (λ (n : ℕ). slice_get (s ∷ ss) n ≡ None) more (none-next ss lane none)

is-none : (here : Option DeskSettings) → false ≡ is_some here → here ≡ None
is-none None same = refl
is-none (Some s) same = absurd (cc)

-- past the last security no lane has one
ended : (lane : ℕ) (settings : List DeskSettings) (js : List (Option NumberedJournal)) → FillLanes lane settings js → slice_get settings lane ≡ None → journals_in js ≡ []
ended lane settings [] fill none = refl
ended lane settings (None ∷ js) fill none = ended (lane + 1) settings js fill.1 (none-next settings lane none)
ended lane settings (Some j ∷ js) fill none = absurd (let is : true ≡ false = fill.0 ∙ ap is_some none in cc)

-- so what is part of each lane's journal is part of each journal
pub parts-in : (lane : ℕ) (settings : List DeskSettings) (js : List (Option NumberedJournal)) (ws : List (Option Known)) → FillLanes lane settings js → ArePartsIn js ws → AreParts (journals_in js) ws
parts-in lane settings [] [] fill parts = tt
parts-in lane settings [] (w ∷ ws) fill parts = absurd parts
parts-in lane settings (j ∷ js) [] fill parts = absurd parts
parts-in lane settings (None ∷ js) (w ∷ ws) fill parts =
    subst (λ (is : List NumberedJournal). AreParts is (w ∷ ws)) (sym (ended (lane + 1) settings js fill.1 (none-next settings lane (is-none (slice_get settings lane) fill.0)))) tt
parts-in lane settings (Some j ∷ js) (None ∷ ws) fill parts = absurd parts.0
parts-in lane settings (Some j ∷ js) (Some w ∷ ws) fill parts = (parts.0, parts-in (lane + 1) settings js ws fill.1 parts.1)

-- what its lanes tell a row is each journal
told-in : (lane : ℕ) (settings : List DeskSettings) (js : List (Option NumberedJournal)) (ws : List (Option Known)) → FillLanes lane settings js → ArePartsIn js ws → told_in js ws ≡ watches_told (journals_in js) ws
told-in lane settings [] [] fill parts = refl
told-in lane settings [] (w ∷ ws) fill parts = absurd parts
told-in lane settings (j ∷ js) [] fill parts = absurd parts
told-in lane settings (None ∷ js) (w ∷ ws) fill parts =
    let none = ended (lane + 1) settings js fill.1 (none-next settings lane (is-none (slice_get settings lane) fill.0)) in
    let rest = told-in (lane + 1) settings js ws fill.1 parts.1 ∙ ap (λ (is : List NumberedJournal). watches_told is ws) none in
    ap (λ (vs : List (Option Known)). w ∷ vs) rest ∙ sym (ap (λ (is : List NumberedJournal). watches_told is (w ∷ ws)) none)
told-in lane settings (Some j ∷ js) (None ∷ ws) fill parts = absurd parts.0
told-in lane settings (Some j ∷ js) (Some w ∷ ws) fill parts = ap (λ (vs : List (Option Known)). Some (known_by w.number j w.own_entries) ∷ vs) (told-in (lane + 1) settings js ws fill.1 parts.1)

pub rows-told : (settings : List DeskSettings) (js : List (Option NumberedJournal)) (rows : List RowView) → FillLanes 0 settings js → ((i : ℕ) (row : RowView) → slice_get rows i ≡ Some row → ArePartsIn js row.watches)
    → map (told_by js) rows ≡ map (row_told (journals_in js)) rows
rows-told settings js [] fill parts = refl
rows-told settings js (row ∷ rows) fill parts =
    let first = told-in 0 settings js row.watches fill (parts 0 row refl) in
    let rest = rows-told settings js rows fill (λ i other at. parts (suc i) other at) in
    λ k. record { number = row.number; watches = first k } ∷ rest k

-- ---- the desks of the lanes

abbrev pub with_desks : List Journal → List (Option NumberedJournal) → List Journal
with_desks desks [] = desks
with_desks desks (j ∷ js) = with_desks (with_desk desks j) js

pub desks-are : (desks : List Journal) (js : List (Option NumberedJournal)) → with_desks desks js ≡ desks ++ map unnumbered (journals_in js)
desks-are desks [] = sym (append-nil desks)
desks-are desks (None ∷ js) = desks-are desks js
desks-are desks (Some j ∷ js) = desks-are (desks ++ unnumbered j ∷ []) js ∙ append_assoc desks (unnumbered j ∷ []) (map unnumbered (journals_in js))
