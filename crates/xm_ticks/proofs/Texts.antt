-- What the digits of a text's parts say of the whole text.
use Rattle.std.proofs.Common.{ℕ, suc, ◌≡◌, ◌+◌, ◌-◌, ◌*◌, ◌^◌, ◌<◌, ◌≤◌, ◌==◌, ◌&&◌, List, [], ◌∷◌, ◌++◌, Bool, true, false, nat_le, nat_lt, Some, None, fold, length, take, drop, arith, refl, sym, ap, ◌∙◌, length-drop, length-take-le, take-append-drop, drop-cons, add-mul, mul_assoc, pow-suc, if◌then◌else◌}
use Rattle.std.proofs.lemmas.List.Sums.{fold-append}
use Rattle.std.proofs.lemmas.Bool.{and_parts}
use Rattle.std.proofs.lemmas.Bool.Decides.{nat_tests}
use Rattle.std.proofs.lemmas.List.Folds.{list_all-append}
use Rattle.std.proofs.lemmas.Option.{none-some}
use Rattle.std.specs.List.{list_all, position_from}
use Rattle.xm_ticks.specs.Digits.{IsJoined, IsPlaces, value_of_digits}
use Rattle.xm_ticks.specs.Reading.{is_digit, number_of, point_of, price_of, price_of_amount}

-- digits, of which there is one at least, write their number
number-read : (digits : List ℕ) → 0 < length digits → list_all is_digit digits ≡ true → number_of digits ≡ Some (value_of_digits digits)
number-read digits some each = rw (is_some (length digits) some, each) refl
  where
    is_some : (k : ℕ) → 0 < k → nat_lt 0 k ≡ true
    is_some k h = grind (arith, nat_tests)

-- ---- a whole number
value_from : (n : ℕ) (digits : List ℕ) → fold (λ n byte. n * 10 + (byte - 48)) n digits ≡ n * 10 ^ length digits + value_of_digits digits
value_from n [] = omega arith
value_from n (d ∷ digits) =
    let digit = d - 48 in
    let scale = 10 ^ length digits in
    let more : 10 ^ suc (length digits) ≡ 10 * scale = omega (arith, pow-suc 10 (length digits)) in
    omega (arith, value_from (n * 10 + digit) digits, value_from (0 + digit) digits, add-mul (n * 10) digit scale, mul_assoc n 10 scale, ap (λ k. n * k) more)

all_both : (front back : List ℕ) → list_all is_digit front ≡ true → list_all is_digit back ≡ true → list_all is_digit (front ++ back) ≡ true
all_both front back f b = list_all-append is_digit front back ∙ rw (f, b) refl

-- digits before the last four, and these
pub short_number : (text : List ℕ) (n : ℕ) → 4 ≤ length text → IsJoined (take (length text - 4) text) (drop (length text - 4) text) n → number_of text ≡ Some n
short_number text n long j =
    let at = length text - 4 in
    let front = take at text in
    let back = drop at text in
    let size : length back ≡ 4 = omega (arith, length-drop at text, long) in
    let parts : text ≡ front ++ back = sym (take-append-drop at text) in
    let each : list_all is_digit text ≡ true = ap (list_all is_digit) parts ∙ all_both front back j.digits_front j.digits_back in
    let joined : value_of_digits text ≡ value_of_digits front * 10 ^ length back + value_of_digits back = ap value_of_digits parts ∙ fold-append (λ n byte. n * 10 + (byte - 48)) 0 front back ∙ value_from (value_of_digits front) back in
    number-read text (omega (arith, long)) each ∙ ap (λ (k : ℕ). Some k) (joined ∙ omega (arith, j.number, ap (λ k. value_of_digits back * 10 ^ (4 - k)) size, ap (λ k. value_of_digits front * 10 ^ k) size))

-- ---- a price
digits-no_point : (byte : ℕ) → is_digit byte ≡ true → (byte == 46) ≡ false
digits-no_point byte e = grind (arith, nat_tests)

-- the first point is the one behind digits
point-behind : (k : ℕ) (digits more : List ℕ) → list_all is_digit digits ≡ true → position_from (λ byte. byte == 46) k (digits ++ 46 ∷ more) ≡ Some (k + length digits)
point-behind k [] more each = ap (λ (n : ℕ). Some n) (omega arith)
point-behind k (d ∷ digits) more each =
    let parts = and_parts (is_digit d) (list_all is_digit digits) each in
    rw (digits-no_point d parts.0) (point-behind (k + 1) digits more parts.1 ∙ ap (λ (n : ℕ). Some n) (omega arith))

at_most : (n most : ℕ) → n ≤ most → nat_le n most ≡ true
at_most n most h = grind (arith, nat_tests)

not_more : (n most : ℕ) → n ≤ most → nat_lt most n ≡ false
not_more n most h = grind (arith, nat_tests)

-- the price of a text whose parts are read
price_read : (text : List ℕ) (i whole decimals places tick : ℕ) → length text ≤ 16 → point_of text ≡ Some i → number_of (take i text) ≡ Some whole → number_of (drop (i + 1) text) ≡ Some decimals → length text - (i + 1) ≡ places → places ≤ 4 → price_of text tick ≡ price_of_amount (whole * 10000 + decimals * 10 ^ (4 - places)) tick
price_read text i whole decimals places tick short point front back size few = rw (at_most (length text) 16 short, point, front, back, size, not_more places 4 few) refl

-- a point between digits, of which at most four stand on each side
pub short_price : (text : List ℕ) (places n : ℕ) → IsPlaces text places → length text - places - 1 ≤ 4 → IsJoined (take (length text - places - 1) text) (drop (length text - places) text) n → (tick : ℕ) → price_of text tick ≡ price_of_amount n tick
short_price text places n p few j tick =
    let whole = length text - places - 1 in
    let before = p.before in
    let places_few = p.few in
    let places_some = p.some in
    let size : length (take whole text) ≡ whole = omega (arith, length-take-le whole text (omega (arith, before))) in
    let next : suc whole ≡ length text - places = omega (arith, before) in
    let behind : drop whole text ≡ 46 ∷ drop (length text - places) text = drop-cons text whole 0 (omega (arith, before)) ∙ rw (p.point, next) refl in
    let parts : text ≡ take whole text ++ 46 ∷ drop (length text - places) text = sym (take-append-drop whole text) ∙ ap (λ l. take whole text ++ l) behind in
    let found : point_of text ≡ Some whole = ap (position_from (λ byte. byte == 46) 0) parts ∙ point-behind 0 (take whole text) (drop (length text - places) text) j.digits_front ∙ ap (λ (k : ℕ). Some k) (omega (arith, size)) in
    let behind_size : length (drop (length text - places) text) ≡ places = omega (arith, length-drop (length text - places) text, before) in
    let front = number-read (take whole text) (omega (arith, size, before)) j.digits_front in
    let back = number-read (drop (length text - places) text) (omega (arith, behind_size, places_some)) j.digits_back in
    let here : drop (whole + 1) text ≡ drop (length text - places) text = ap (λ k. drop k text) (omega (arith, next)) in
    price_read text whole _ _ places tick (omega (arith, few, next, places_few)) found front (ap number_of here ∙ back) (omega (arith, next, before)) places_few ∙ ap (λ k. price_of_amount k tick) (sym (rw behind_size at j.number))

-- a number has no point
no_point : (k : ℕ) (digits : List ℕ) → list_all is_digit digits ≡ true → position_from (λ byte. byte == 46) k digits ≡ None
no_point k [] each = refl
no_point k (d ∷ digits) each =
    let parts = and_parts (is_digit d) (list_all is_digit digits) each in
    rw (digits-no_point d parts.0) (no_point (k + 1) digits parts.1)

digits_of_number : (digits : List ℕ) (n : ℕ) → Some n ≡ number_of digits → list_all is_digit digits ≡ true
digits_of_number digits n = by (nat_lt 0 (length digits)) (list_all is_digit digits)
  where
    by : (s t : Bool) → Some n ≡ (if s && t then Some (value_of_digits digits) else None) → t ≡ true
    by s true e = refl
    by true false e = absurd (none-some n (sym e))
    by false false e = absurd (none-some n (sym e))

pub whole_price : (text : List ℕ) (n tick : ℕ) → length text ≤ 16 → Some n ≡ number_of text → price_of text tick ≡ price_of_amount (n * 10000) tick
whole_price text n tick short e = rw (at_most (length text) 16 short, no_point 0 text (digits_of_number text n e), sym e) (ap (λ a. price_of_amount a tick) (omega arith))
