-- Names of which none occurs again.
use Rattle.std.proofs.Common.{Bor, ◌≡◌, ℕ, zero, suc, ◌+◌, ◌<◌, Bool, true, false, not, ◌||◌, List, [], ◌∷◌, ◌++◌, length, map, get_or, slice_get, drop, append_assoc, Some, refl, ap, sym, ◌∙◌, arith}
use Rattle.std.proofs.lemmas.Bool.{and_parts, or_parts}
use Rattle.std.proofs.lemmas.List.{drop_more}
use Rattle.std.proofs.lemmas.List.Folds.{list_any-append}
use Rattle.std.proofs.lemmas.Slice.Eq.{bytes_eq-Decides}
use Rattle.std.proofs.Math.Bool.{and-false, or-true}
use Rattle.std.specs.List.{list_any, position_or_len}
use Rattle.std.specs.Str.{bytes_eq}
use Rattle.xm_files.specs.Names.{is_among}
use Rattle.xm_files.specs.Segment.{are_distinct_texts}

equal-back : (a b : List ℕ) → bytes_eq a b ≡ true → bytes_eq b a ≡ true
equal-back a b e = (bytes_eq-Decides b a).1 (sym ((bytes_eq-Decides a b).0 e))

differ-back : (a b : List ℕ) (t : Bool) → bytes_eq b a ≡ t → bytes_eq a b ≡ false → t ≡ false
differ-back a b false e h = refl
differ-back a b true e h = sym (equal-back b a e) ∙ h

not-true : (t : Bool) → not t ≡ true → t ≡ false
not-true false h = refl
not-true true h = cc

-- a name that is not there yet may go last
pub distinct-push : (names : List (List ℕ)) (name : List ℕ) → are_distinct_texts names ≡ true → is_among name names ≡ false → are_distinct_texts (names ++ name ∷ []) ≡ true
distinct-push [] name distinct none = refl
distinct-push (x ∷ xs) name distinct none =
    let (here, there) = and_parts (not (is_among x xs)) (are_distinct_texts xs) distinct in
    let (other, rest) = or_parts (bytes_eq name x) (is_among name xs) none in
    rw (list_any-append (bytes_eq x) xs (name ∷ []), not-true _ here, differ-back name x _ refl other, distinct-push xs name there rest) refl

again-if : (x : List ℕ) (xs : List (List ℕ)) (name : List ℕ) (more : List (List ℕ)) (t : Bool) → bytes_eq name x ≡ t → (is_among name xs ≡ true → are_distinct_texts (xs ++ name ∷ more) ≡ false) → (t || is_among name xs) ≡ true
    → are_distinct_texts (x ∷ (xs ++ name ∷ more)) ≡ false
again-if x xs name more true e rest h = rw (list_any-append (bytes_eq x) xs (name ∷ more), equal-back name x e, or-true (list_any (bytes_eq x) xs)) refl
again-if x xs name more false e rest h = rw (rest h, and-false (not (is_among x (xs ++ name ∷ more)))) refl

-- a name that is there already may not come again
pub distinct-again : (names : List (List ℕ)) (name : List ℕ) (more : List (List ℕ)) → is_among name names ≡ true → are_distinct_texts (names ++ name ∷ more) ≡ false
distinct-again [] name more h = cc
distinct-again (x ∷ xs) name more h = again-if x xs name more (bytes_eq name x) refl (distinct-again xs name more) h

-- the name at a place of a list whose names before it were taken
pub more-at : (names : List (Bor (List ℕ))) (list : List (List ℕ)) (i : ℕ) (d : Bor (List ℕ)) → i < length names → map (λ name. name.now) names ≡ list ++ map (λ name. name.now) (drop i names)
    → map (λ name. name.now) names ≡ (list ++ (get_or names i d).now ∷ []) ++ map (λ name. name.now) (drop (i + 1) names)
more-at names list i d h listed =
    listed ∙ rw (drop_more names i d h) (sym (append_assoc list ((get_or names i d).now ∷ []) (map (λ (name : Bor (List ℕ)). name.now) (drop (i + 1) names))))

pub again-at : (names : List (Bor (List ℕ))) (list : List (List ℕ)) (i : ℕ) (d : Bor (List ℕ)) → i < length names → map (λ name. name.now) names ≡ list ++ map (λ name. name.now) (drop i names)
    → is_among (get_or names i d).now list ≡ true → are_distinct_texts (map (λ name. name.now) names) ≡ false
again-at names list i d h listed again =
    rw (more-at names list i d h listed, append_assoc list ((get_or names i d).now ∷ []) (map (λ (name : Bor (List ℕ)). name.now) (drop (i + 1) names)))
    (distinct-again list (get_or names i d).now (map (λ (name : Bor (List ℕ)). name.now) (drop (i + 1) names)) again)

-- none of these names is the first one, so the one at a place isn't
other-at : (first : List ℕ) (names : List (List ℕ)) (i : ℕ) (name : List ℕ) → is_among first names ≡ false → slice_get names i ≡ Some name → bytes_eq first name ≡ false
other-at first [] i name none at = cc
other-at first (x ∷ xs) zero name none at =
    let (other, rest) = or_parts (bytes_eq first x) (is_among first xs) none in
    let same : x ≡ name = cc in
    rw (← same) other
other-at first (x ∷ xs) (suc i) name none at =
    let (other, rest) = or_parts (bytes_eq first x) (is_among first xs) none in
    other-at first xs i name rest at

-- the place of a name is the first that has it
pub place-of : (names : List (List ℕ)) (i : ℕ) (name : List ℕ) → are_distinct_texts names ≡ true → slice_get names i ≡ Some name → position_or_len (bytes_eq name) names ≡ i
place-of [] i name distinct at = cc
place-of (x ∷ xs) zero name distinct at =
    let same : x ≡ name = cc in
    let is : bytes_eq name x ≡ true = (bytes_eq-Decides name x).1 (sym same) in
    rw is refl
place-of (x ∷ xs) (suc i) name distinct at =
    let (here, there) = and_parts (not (is_among x xs)) (are_distinct_texts xs) distinct in
    let other = differ-back x name _ refl (other-at x xs i name (not-true _ here) at) in
    let next : 1 + i ≡ suc i = omega arith in
    rw other (ap (λ (k : ℕ). 1 + k) (place-of xs i name there at) ∙ next)
