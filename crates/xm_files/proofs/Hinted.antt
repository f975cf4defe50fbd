-- Names that hints lead to.
use Rattle.std.proofs.Common.{◌≡◌, ℕ, zero, suc, ◌+◌, ◌*◌, ◌<◌, ◌≤◌, ◌^◌, List, [], ◌∷◌, ◌++◌, length, fold, get_or, slice_get, Some, refl, sym, ap, ◌∙◌, Fits, w8, arith, lit<}
use Rattle.std.specs.List.{All}
use Rattle.std.proofs.Math.Nat.{pow-le-pow_right}
use Rattle.std.proofs.lemmas.List.{get_or_default}
use Rattle.std.proofs.lemmas.List.Elements.{All-head, All-tail}
use Rattle.xm_files.specs.Hints.{LeadsInto, packed}
use Rattle.xm_files.specs.declared.names.Hint.{Hint}

pub bytes_le : (i j : ℕ) → i ≤ j → 256 ^ i ≤ 256 ^ j
bytes_le i j h = pow-le-pow_right (let positive : 0 < 256 = lit< tt in positive) h

abbrev is_byte : ℕ → Type 0
is_byte byte = byte < 256

abbrev onto : ℕ → ℕ → ℕ
onto n byte = n * 256 + byte

-- as many bytes that write the same number are the same
same_bytes : (xs ys : List ℕ) (a b : ℕ) → All is_byte xs → All is_byte ys → length xs ≡ length ys → fold onto a xs ≡ fold onto b ys → (a ≡ b) × (xs ≡ ys)
same_bytes [] [] a b p q len same = (same, refl)
same_bytes [] (y ∷ ys) a b p q len same = absurd (omega arith)
same_bytes (x ∷ xs) [] a b p q len same = absurd (omega arith)
same_bytes (x ∷ xs) (y ∷ ys) a b p q len same =
    let low = All-head is_byte x xs p in
    let lower = All-head is_byte y ys q in
    let rest = same_bytes xs ys (onto a x) (onto b y) (All-tail is_byte x xs p) (All-tail is_byte y ys q) (omega arith) same in
    let first : x ≡ y = omega (arith, rest.0) in
    (omega (arith, rest.0), λ i. first i ∷ rest.1 i)

-- a name stays where it is when another one comes last
still-at : {X : Type 0} (xs : List X) (z : X) (i : ℕ) (x : X) → slice_get xs i ≡ Some x → slice_get (xs ++ z ∷ []) i ≡ Some x
still-at [] z i x e = absurd (cc)
still-at (y ∷ xs) z zero x e = e
still-at (y ∷ xs) z (suc i) x e = still-at xs z i x e

last-at : {X : Type 0} (xs : List X) (z : X) → slice_get (xs ++ z ∷ []) (length xs) ≡ Some z
last-at [] z = refl
last-at (y ∷ xs) z = last-at xs z

pub still-leads : (names : List (List ℕ)) (name : List ℕ) (hint : Hint) → LeadsInto names hint → LeadsInto (names ++ name ∷ []) hint
still-leads names name hint leads other bytes short len number = still-at names name hint.index other (leads other bytes short len number)

pub leads-to-last : (names : List (List ℕ)) (name : List ℕ) (hint : Hint) → All is_byte name → hint.index ≡ length names → hint.length ≡ length name → hint.number ≡ packed name → LeadsInto (names ++ name ∷ []) hint
leads-to-last names name hint bytes at long writes other other_bytes short len number =
    let same = same_bytes other name 0 0 other_bytes bytes (len ∙ long) (number ∙ writes) in
    ap (slice_get (names ++ name ∷ [])) at ∙ last-at names name ∙ ap (λ (bs : List ℕ). Some bs) (sym same.1)

pub leads-nowhere : (hint : Hint) → hint.length ≡ 13 → LeadsInto [] hint
leads-nowhere hint longer name bytes short len number = absurd (omega (arith, short, len, longer))

-- what a slice of bytes has
pub all-bytes : (bytes : List ℕ) → ((i : ℕ) → Fits w8 (get_or bytes i 0)) → All is_byte bytes
all-bytes bytes fits i d within = (let f = fits i in let same = get_or_default bytes i d 0 within in omega (arith, same, f.fits))

-- the hint at a place leads to its name
pub hint-leads : (names : List (List ℕ)) (hints : List Hint) (place : ℕ) (d : Hint) (name : List ℕ) → place < length hints → All (LeadsInto names) hints → All is_byte name → length name ≤ 12 → length name ≡ (get_or hints place d).length
    → packed name ≡ (get_or hints place d).number → slice_get names (get_or hints place d).index ≡ Some name
hint-leads names hints place d name within all bytes short len number = all place d within name bytes short len number
