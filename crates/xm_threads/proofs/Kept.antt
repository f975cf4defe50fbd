-- What is kept, and one more.
use Rattle.std.proofs.Common.{◌≡◌, ℕ, zero, suc, ◌+◌, ◌-◌, ◌<◌, ◌≤◌, List, [], ◌∷◌, ◌++◌, append_assoc, All, drop, get_or, length, map, slice_range, take, refl, ap, arith, ◌∙◌}
use Rattle.std.proofs.lemmas.List.{drop-append-le, drop_at, drop_more, get_or-drop, length-drop, take-append-le, take_all, take_more}
use Rattle.std.proofs.lemmas.List.Elements.{All-tail}
use Rattle.xm_threads.specs.KeptRows.{IsPartOf, part_at, row_of_lines}
use Rattle.xm_threads.specs.declared.kept_lines.Span.{Span}

-- a part stays where it is
part-stays : {A : Type 0} (least : ℕ) (xs more : List A) (s : Span) → IsPartOf least xs s → part_at (xs ++ more) s ≡ part_at xs s
part-stays least xs more s is =
    let begins : s.begin ≤ length xs = omega (arith, is.order, is.within) in
    let long = length-drop s.begin xs in
    ap (take (s.end - s.begin)) (drop-append-le s.begin xs more begins) ∙ take-append-le (s.end - s.begin) (drop s.begin xs) more (omega (arith, long, is.order, is.within))

-- the last part is what was added
last-part : {A : Type 0} (xs more : List A) (s : Span) → s.begin ≡ length xs → s.end ≡ length xs + length more → part_at (xs ++ more) s ≡ more
last-part xs more s begins ends =
    let long : length more ≡ s.end - s.begin = omega (arith, begins, ends) in
    ap (λ (n : ℕ). take (s.end - s.begin) (drop n (xs ++ more))) begins ∙ ap (take (s.end - s.begin)) (drop_at xs more (length xs) refl) ∙ take_all (s.end - s.begin) more (omega (arith, long))

-- what is seen of parts stays
pub parts-stay : {A B : Type 0} (sees : List A → B) (least : ℕ) (xs more : List A) (spans : List Span) → All (IsPartOf least xs) spans → map (λ (s : Span). sees (part_at (xs ++ more) s)) spans ≡ map (λ (s : Span). sees (part_at xs s)) spans
parts-stay sees least xs more [] are = refl
parts-stay sees least xs more (s ∷ spans) are =
    ap (λ part. sees part ∷ map (λ (o : Span). sees (part_at (xs ++ more) o)) spans) (part-stays least xs more s (are 0 s (omega arith)))
    ∙ ap (λ seen. sees (part_at xs s) ∷ seen) (parts-stay sees least xs more spans (All-tail (IsPartOf least xs) s spans are))

-- and one part more is seen
pub parts-push : {A B : Type 0} (sees : List A → B) (least : ℕ) (xs more : List A) (spans : List Span) (told : ℕ) (s : Span) → All (IsPartOf least xs) spans → told ≤ length spans → s.begin ≡ length xs → s.end ≡ length xs + length more
    → map (λ (o : Span). sees (part_at (xs ++ more) o)) (drop told (spans ++ s ∷ [])) ≡ map (λ (o : Span). sees (part_at xs o)) (drop told spans) ++ sees more ∷ []
parts-push sees least xs more [] zero s are within begins ends = ap (λ part. sees part ∷ []) (last-part xs more s begins ends)
parts-push sees least xs more [] (suc n) s are within begins ends = absurd (omega (arith, within))
parts-push sees least xs more (o ∷ spans) zero s are within begins ends =
    ap (λ part. sees part ∷ map (λ (p : Span). sees (part_at (xs ++ more) p)) (spans ++ s ∷ [])) (part-stays least xs more o (are 0 o (omega arith)))
    ∙ ap (λ seen. sees (part_at xs o) ∷ seen) (parts-push sees least xs more spans zero s (All-tail (IsPartOf least xs) o spans are) (omega arith) begins ends)
parts-push sees least xs more (o ∷ spans) (suc n) s are within begins ends = parts-push sees least xs more spans n s (All-tail (IsPartOf least xs) o spans are) (omega (arith, within)) begins ends

-- parts of what is there are parts of what has more, and so is one part more
pub parts-more : {A : Type 0} (least : ℕ) (xs ys : List A) (spans : List Span) (s : Span) → length xs ≤ length ys → All (IsPartOf least xs) spans → IsPartOf least ys s → All (IsPartOf least ys) (spans ++ s ∷ [])
parts-more least xs ys [] s more are last zero d inside = last
parts-more least xs ys [] s more are last (suc k) d inside = absurd (omega (arith, inside))
parts-more least xs ys (o ∷ spans) s more are last zero d inside = let is = are 0 o (omega arith) in record { order = is.order; within = omega (arith, is.within, more) }
parts-more least xs ys (o ∷ spans) s more are last (suc k) d inside = parts-more least xs ys spans s more (All-tail (IsPartOf least xs) o spans are) last k d (omega (arith, inside))

-- an answer, levels, events and trades are added one after another
pub four-pushed : {A : Type 0} (xs one two three four trades : List A) (answer levels events : A) → one ≡ xs ++ answer ∷ [] → two ≡ one ++ levels ∷ [] → three ≡ two ++ events ∷ [] → four ≡ three ++ trades
    → four ≡ xs ++ answer ∷ levels ∷ events ∷ trades
four-pushed xs one two three four trades answer levels events first second third fourth =
    fourth ∙ ap (λ ys. ys ++ trades) (third ∙ ap (λ ys. ys ++ events ∷ []) (second ∙ ap (λ ys. ys ++ levels ∷ []) first)) ∙ append_assoc ((xs ++ answer ∷ []) ++ levels ∷ []) (events ∷ []) trades
    ∙ append_assoc (xs ++ answer ∷ []) (levels ∷ []) (events ∷ trades) ∙ append_assoc xs (answer ∷ []) (levels ∷ events ∷ trades)

-- a part that ends with one element more
pub range-more : {A : Type 0} (xs : List A) (begin i : ℕ) (d : A) → begin ≤ i → i < length xs → slice_range xs begin (i + 1) ≡ slice_range xs begin i ++ get_or xs i d ∷ []
range-more xs begin i d order within =
    let more : (i + 1) - begin ≡ (i - begin) + 1 = omega (arith, order) in
    let at : begin + (i - begin) ≡ i = omega (arith, order) in
    let inside : i - begin < length (drop begin xs) = omega (arith, length-drop begin xs, order, within) in
    ap (λ (n : ℕ). take n (drop begin xs)) more
    ∙ take_more (drop begin xs) (i - begin) d inside
    ∙ ap (λ x. slice_range xs begin i ++ x ∷ []) (get_or-drop begin xs (i - begin) d ∙ ap (λ (n : ℕ). get_or xs n d) at)

-- the lines of a row are its answer, its levels, its events, and each of its trades
pub row-lines : (lines : List (List ℕ)) (s : Span) → IsPartOf 3 lines s
    → row_of_lines (part_at lines s) ≡ record { answer = get_or lines s.begin []; trades = slice_range lines (s.begin + 3) s.end; levels = get_or lines (s.begin + 1) []; events = get_or lines (s.begin + 2) [] }
row-lines lines s is =
    let left = s.end - (s.begin + 3) in
    let long : s.end - s.begin ≡ suc (suc (suc left)) = omega (arith, is.order) in
    let third : s.begin + 1 + 1 ≡ s.begin + 2 = omega arith in
    let fourth : s.begin + 2 + 1 ≡ s.begin + 3 = omega arith in
    ap (λ (n : ℕ). row_of_lines (take n (drop s.begin lines))) long
    ∙ ap (λ more. row_of_lines (take (suc (suc (suc left))) more))
    (drop_more lines s.begin [] (omega (arith, is.order, is.within))
    ∙ ap (λ more. get_or lines s.begin [] ∷ more)
    (drop_more lines (s.begin + 1) [] (omega (arith, is.order, is.within))
    ∙ ap (λ more. get_or lines (s.begin + 1) [] ∷ more) (ap (λ (n : ℕ). drop n lines) third ∙ drop_more lines (s.begin + 2) [] (omega (arith, is.order, is.within)))))
    ∙ ap (λ (n : ℕ). record { answer = get_or lines s.begin []; trades = take left (drop n lines); levels = get_or lines (s.begin + 1) []; events = get_or lines (s.begin + 2) [] }) fourth
