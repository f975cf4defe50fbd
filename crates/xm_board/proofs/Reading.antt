-- What the loops over the words know.
use Rattle.std.proofs.Common.{◌≡◌, ℕ, suc, ◌+◌, ◌-◌, ◌*◌, ◌<◌, ◌≤◌, List, [], ◌∷◌, length, get_or, set, refl, ap, ◌∙◌, arith, get_or-set_same, get_or-set_other}
use mathlib.Core.Logic.{dite}
use native.Mathlib.Decide.{ℕ_discrete}
use Rattle.xm_board.specs.declared.journal.NumberedJournal.{NumberedJournal}
use Rattle.xm_board.specs.declared.seats.View.{View}
use Rattle.xm_board.specs.declared.seats.Stage.TheVariants.{Reading}
use Rattle.xm_board.specs.Journals.{version_of}
use Rattle.xm_board.specs.Rule.{with_stage, AreReadWords}

pub reads_none : (words : NumberedJournal → List ℕ) (bits : List ℕ) (v : View) → AreReadWords words 0 bits v v
reads_none words bits v first last e = (last, ap (with_stage v) e, λ l. (l, λ i none. absurd (omega arith)))

pub reads_one : (words : NumberedJournal → List ℕ) (bits : List ℕ) (i r : ℕ) (a b c : View) → i < length bits → AreReadWords words i bits a b
    → ((first : NumberedJournal) (last : ℕ) → b.stage ≡ Reading first last → (now : ℕ) × (c ≡ with_stage b (Reading first now)) × (now ≤ 2 * version_of first → (last ≤ 2 * version_of first) × (r ≡ get_or (words first) ((i + 1) - 1) 0)))
    → AreReadWords words (i + 1) (set bits i r) a c
reads_one words bits i r a b c inside f g first last e =
    let p = f first last e in
    let q = g first p.0 (ap (λ (v : View). v.stage) p.1) in (
      q.0,
      q.1 ∙ ap (λ (v : View). with_stage v (Reading first q.0)) p.1,
      λ l. let m = q.2 l in let o = p.2 m.0 in (
        o.0,
        λ j short. dite (ℕ_discrete j i)
            (λ is. let back : (i + 1) - 1 ≡ j = omega arith in ap (λ (z : ℕ). get_or (set bits i r) z 0) is ∙ (get_or-set_same bits i r 0 inside ∙ (m.1 ∙ ap (λ (z : ℕ). get_or (words first) z 0) back)))
            (λ other. get_or-set_other bits i j r 0 other ∙ o.1 j (omega arith)),
      ),
    )

-- lists of one length are equal where their elements are
pub same_words : (xs ys : List ℕ) → length xs ≡ length ys → ((i : ℕ) → i < length ys → get_or xs i 0 ≡ get_or ys i 0) → xs ≡ ys
same_words [] [] e h = refl
same_words [] (y ∷ ys) e h = absurd (omega arith)
same_words (x ∷ xs) [] e h = absurd (omega arith)
same_words (x ∷ xs) (y ∷ ys) e h =
    let head : x ≡ y = h 0 (omega arith) in
    let tail = same_words xs ys (omega arith) (λ i l. h (suc i) (omega arith)) in
    λ k. head k ∷ tail k
