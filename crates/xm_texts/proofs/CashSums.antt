-- The cash of a member, in one security and over one security after another.
use Rattle.std.proofs.Common.{◌≡◌, ◌^◌, Bool, true, false, if◌then◌else◌, Some, None, FitsSigned, ℕ, ℤ, pos, negsuc, suc, ◌+◌, ◌*◌, ◌<◌, ◌≤◌, ◌++◌, ◌-ℤ◌, ◌+ℤ◌, ◌*ℤ◌, unsigned_abs, List, [], ◌∷◌, length, map, get_or, take, arith, ap, sym, ◌∙◌}
use Rattle.std.specs.Prelude.{unwrap_or}
use Rattle.std.specs.Int.{w128, w64}
use Rattle.std.proofs.lemmas.Int.{fits_signed_from_abs, ints, unsigned_abs-mul}
use Rattle.std.proofs.Math.Nat.{mul-le-mul}
use Rattle.std.proofs.lemmas.List.{take_more, map-append}
use Rattle.xm_rules.specs.State.{State}
use Rattle.xm_rules.specs.Step.{Journal, replay}
use Rattle.xm_texts.specs.Statement.{cash_in, total_cash}

-- a difference in another unit
pub scaled : (z : ℤ) (a b size : ℕ) → z ≡ pos a -ℤ pos b → z *ℤ pos size ≡ pos (a * size) -ℤ pos (b * size)
scaled (pos c) a b size e =
    let sum : c + b ≡ a = omega (arith, ints) in
    let product : (c + b) * size ≡ a * size = ap (λ n. n * size) sum in
    omega (arith, ints, product)
scaled (negsuc c) a b size e =
    let sum : a + suc c ≡ b = omega (arith, ints) in
    let product : (a + suc c) * size ≡ b * size = ap (λ n. n * size) sum in
    omega (arith, ints, product)

pub sum-little : (a b : ℤ) (m n : ℕ) → unsigned_abs a ≤ m → unsigned_abs b ≤ n → unsigned_abs (a +ℤ b) ≤ m + n
sum-little a b m n h k = omega (arith, ints)

summed : (a b c : ℤ) → a +ℤ (b +ℤ c) ≡ (a +ℤ b) +ℤ c
summed a b c = omega (arith, ints)

with_none : (a : ℤ) → a +ℤ pos 0 ≡ pos 0 +ℤ a
with_none a = omega (arith, ints)

in_turn : (states : List State) (s : State) (member : ℕ) → total_cash (states ++ s ∷ []) member ≡ total_cash states member +ℤ cash_in s member
in_turn [] s member = with_none (cash_in s member)
in_turn (t ∷ ts) s member = ap (λ (rest : ℤ). cash_in t member +ℤ rest) (in_turn ts s member) ∙ summed (cash_in t member) (total_cash ts member) (cash_in s member)

-- the cash in the securities up to one, and in it
pub total_cash-taken : (member : ℕ) (js : List Journal) (i : ℕ) (j : Journal) → i < length js → j ≡ get_or js i j
    → total_cash (map replay (take (i + 1) js)) member ≡ total_cash (map replay (take i js)) member +ℤ cash_in (replay j) member
total_cash-taken member js i j within is =
    let more = take_more js i j within ∙ ap (λ (k : Journal). take i js ++ k ∷ []) (sym is) in
    ap (λ (ks : List Journal). total_cash (map replay ks) member) more
    ∙ ap (λ (states : List State). total_cash states member) (map-append replay (take i js) (j ∷ []))
    ∙ in_turn (map replay (take i js)) (replay j) member

-- what is some where a test holds
pub given_if : {A : Type 0} (b : Bool) (x y : A) → Some x ≡ (if b then Some y else None) → x ≡ y
given_if true x y e = ap (λ o. unwrap_or o x) e
given_if false x y e = absurd (cc)

pub sum-fits : (a b : ℤ) (n : ℕ) → unsigned_abs a ≤ n * 2 ^ 80 → unsigned_abs b ≤ 2 ^ 80 → n < 2 ^ 32 → FitsSigned w128 (a +ℤ b)
sum-fits a b n h k few = let little = sum-little a b (n * 2 ^ 80) (2 ^ 80) h k in fits_signed_from_abs w128 (a +ℤ b) (omega (arith, little))

little_of : (z : ℤ) → FitsSigned w64 z → unsigned_abs z ≤ 2 ^ 63
little_of (pos n) f = omega (arith, f.sfits)
little_of (negsuc n) f = omega (arith, f.sfits)

pub scaled-little : (z : ℤ) (size : ℕ) → FitsSigned w64 z → size ≤ 10000 → unsigned_abs (z *ℤ pos size) ≤ 2 ^ 80
scaled-little z size f few = omega (arith, unsigned_abs-mul z (pos size), mul-le-mul (little_of z f) few)

pub scaled-fits : (z : ℤ) (size : ℕ) → FitsSigned w64 z → size ≤ 10000 → FitsSigned w128 (z *ℤ pos size)
scaled-fits z size f few = fits_signed_from_abs w128 (z *ℤ pos size) (omega (arith, scaled-little z size f few))
