-- The records that are left of a file once some were taken.
use Rattle.std.proofs.Common.{◌≡◌, ℕ, zero, suc, ◌+◌, ◌-◌, ◌≤◌, List, [], ◌∷◌, drop, length, length-drop, Option, None, IsSome, ap, sym, arith, ◌∙◌}
use Rattle.std.proofs.lemmas.List.{drop_all}
use Rattle.xm_files.proofs.CsvParts.{waiting}
use Rattle.xm_files.specs.Orders.{records_in}
use Rattle.xm_files.specs.Unread.{CsvLeft, IsWithin, with_ahead}

abbrev pub records_of : CsvLeft → List (List (List ℕ))
records_of c = with_ahead c.ahead c.behind

-- those that were taken are the first of the records that were left before
pub record IsAdvanced (old now : CsvLeft) : Type 0 where
  pub left : records_of now ≡ drop (now.line - old.line) (records_of old)
  pub onward : old.line ≤ now.line

behind-first : {A : Type 0} (k : ℕ) (x : A) (xs rest : List A) → x ∷ rest ≡ drop k xs → rest ≡ drop (suc k) xs
behind-first zero x [] rest e = cc
behind-first zero x (y ∷ ys) rest e = cc
behind-first (suc k) x [] rest e = cc
behind-first (suc k) x (y ∷ ys) rest e = behind-first k x ys rest e

pub none-taken : (old : CsvLeft) → IsAdvanced old old
none-taken old = record {
  left = (let none : old.line - old.line ≡ 0 = omega arith in sym (ap (λ (k : ℕ). drop k (records_of old)) none));
  onward = omega arith;
}

-- looking ahead takes none
pub looked : (old before now : CsvLeft) → IsAdvanced old before → records_of now ≡ records_of before → now.line ≡ before.line → IsAdvanced old now
looked old before now a same line =
    let onward = a.onward in
    record {
      left = same ∙ a.left ∙ (let count : before.line - old.line ≡ now.line - old.line = omega (arith, line) in ap (λ (k : ℕ). drop k (records_of old)) count);
      onward = omega (arith, onward, line);
    }

pub taken : (old now next : CsvLeft) → IsAdvanced old now → IsSome now.ahead → next ≡ record { ahead = None; behind = now.behind; line = now.line + 1 } → IsAdvanced old next
taken old now next a some is =
    let onward = a.onward in
    let first = waiting now.ahead some in
    let head = ap (λ (ahead : Option (List (List ℕ))). with_ahead ahead now.behind) (sym first.1) ∙ a.left in
    let behind = behind-first (now.line - old.line) first.0 (records_of old) now.behind head in
    let line : next.line ≡ now.line + 1 = ap (λ (c : CsvLeft). c.line) is in
    let count : suc (now.line - old.line) ≡ next.line - old.line = omega (arith, onward, line) in
    record {
      left = ap records_of is ∙ behind ∙ ap (λ (k : ℕ). drop k (records_of old)) count;
      onward = omega (arith, onward, line);
    }

-- where none is left up to a number, a text has no record with that number
pub ended-within : (text : List ℕ) (first : ℕ) (csv now : CsvLeft) (line : ℕ) → IsWithin text first csv → records_of now ≡ drop (now.line - csv.line) (records_of csv) → csv.line ≤ now.line → now.line ≤ line → records_of now ≡ []
    → drop (line - first) (records_in text) ≡ []
ended-within text first csv now line within left onward up_to none =
    let begun = within.begun in
    let all = records_in text in
    let both = sym none ∙ left ∙ ap (drop (now.line - csv.line)) within.left in
    let size = ap length both in
    let outer = length-drop (now.line - csv.line) (drop (csv.line - first) all) in
    let inner = length-drop (csv.line - first) all in
    drop_all (line - first) all (omega (arith, size, outer, inner, begun, onward, up_to))
