-- The lines of a statement that securities tell apart, one after another.
use Rattle.std.proofs.Common.{◌≡◌, ℕ, suc, ◌+◌, ◌<◌, List, [], ◌∷◌, ◌++◌, get_or, length, map, refl, ap, arith, ◌∙◌}
use Rattle.std.specs.List.{flat_map}
use Rattle.xm_threads.specs.Sections.{SectionView, blank_sections, told_section}
use Rattle.xm_texts.specs.Statement.{each_text, security_text}
use Rattle.xm_files.specs.Names.{NameLists}
use Rattle.xm_rules.specs.Step.{Journal, replay}

-- a list whose elements are made each of one of another
pub map-each : {A : Type 0} (f : A → A) (xs ys : List A) → length ys ≡ length xs → ((k : ℕ) (d : A) → k < length xs → get_or ys k d ≡ f (get_or xs k d)) → ys ≡ map f xs
map-each f [] [] long each = refl
map-each f [] (y ∷ ys) long each = absurd (omega (arith, long))
map-each f (x ∷ xs) [] long each = absurd (omega (arith, long))
map-each f (x ∷ xs) (y ∷ ys) long each =
    ap (λ z. z ∷ ys) (each 0 x (omega arith)) ∙ ap (λ zs. f x ∷ zs) (map-each f xs ys (omega (arith, long)) (λ k d inside. each (suc k) d (omega (arith, inside))))

pub length-blank : (index : ℕ) (js : List Journal) → length (blank_sections index js) ≡ length js
length-blank index [] = refl
length-blank index (j ∷ js) = omega (arith, length-blank (index + 1) js)

-- what all have told
pub all-lines : (names : NameLists) (index : ℕ) (js : List Journal) → flat_map (λ (s : SectionView). s.text) (map (told_section names) (blank_sections index js)) ≡ each_text (security_text names) index (map replay js)
all-lines names index [] = refl
all-lines names index (j ∷ js) = ap (λ text. security_text names index (replay j) ++ text) (all-lines names (index + 1) js)

pub same-journals : (names : NameLists) (index : ℕ) (js : List Journal) → map (λ (s : SectionView). s.journal) (map (told_section names) (blank_sections index js)) ≡ js
same-journals names index [] = refl
same-journals names index (j ∷ js) = ap (λ is. j ∷ is) (same-journals names (index + 1) js)
