-- Numbers, dates and prices that were written are read back.
use Rattle.std.proofs.Common.{◌≡◌, ◌≢◌, ℕ, zero, suc, ◌+◌, ◌-◌, ◌*◌, ◌/◌, ◌%◌, ◌^◌, ◌<◌, ◌≤◌, ◌==◌, Bool, true, false, ◌&&◌, not, List, [], ◌∷◌, ◌++◌, length, take, drop, replicate, Some, Ok, refl, sym, ap, ◌∙◌, arith, length-append, append_assoc}
use Rattle.std.proofs.Math.Nat.{mul-div_cancel, mul-mod_left}
use Rattle.std.proofs.lemmas.Bool.{and_parts}
use Rattle.std.proofs.lemmas.Bool.Decides.{nat_tests}
use Rattle.std.proofs.lemmas.Fmt.{decimal_by_steps, length-decimal-le}
use Rattle.std.proofs.lemmas.List.{drop_at, take_at}
use Rattle.std.proofs.lemmas.List.Folds.{list_all-append}
use Rattle.std.proofs.lemmas.Nat.{mul-le}
use Rattle.std.proofs.lemmas.Slice.Eq.{bytes_eq-Decides}
use Rattle.std.specs.Fmt.{decimal}
use Rattle.std.specs.List.{fold, list_all, position_from}
use Rattle.std.specs.Prelude.{codes, nat_le, nat_lt}
use Rattle.std.specs.Str.{bytes_eq}
use Rattle.xm_rules.specs.declared.orders.Validity.TheVariants.{TillDate}
use Rattle.xm_ticks.specs.Reading.{is_digit, number_of, point_of, price_of, price_of_amount}
use Rattle.xm_ticks.specs.Writing.{amount_text, four_digits, price_text}
use Rattle.xm_ticks.specs.declared.numbers.TheConstants.{MAX_PRICE, MAX_TICK_SIZE}
use Rattle.xm_files.specs.Plain.{is_mark, is_plain}
use Rattle.xm_files.specs.Rows.{validity_of, whole_of}

-- one digit more
abbrev with_digit : ℕ → ℕ → ℕ
with_digit n byte = n * 10 + (byte - 48)

abbrev value_from : ℕ → List ℕ → ℕ
value_from n digits = fold with_digit n digits

value-push : (n : ℕ) (digits : List ℕ) (digit : ℕ) → value_from n (digits ++ digit ∷ []) ≡ with_digit (value_from n digits) digit
value-push n [] digit = refl
value-push n (d ∷ digits) digit = value-push (with_digit n d) digits digit

-- digits, of which there is one at least, write this number
pub record Writes (n : ℕ) (digits : List ℕ) : Type 0 where
  pub some : 0 < length digits
  pub each : list_all is_digit digits ≡ true
  pub value : value_from 0 digits ≡ n

one-digit : (n : ℕ) → n < 10 → is_digit (48 + n) ≡ true
one-digit n small = grind (arith, nat_tests)

both : (a b : Bool) → a ≡ true → b ≡ true → (a && b) ≡ true
both a b e f = rw (e, f) refl

-- a number by its digits
pub decimal-writes : (n : ℕ) → n < 2 ^ 64 → Writes n (decimal n)
decimal-writes =
    decimal_by_steps Writes
    (λ n small. record { some = omega arith; each = rw (one-digit n small) refl; value = omega arith })
    (λ n digits large before.
    (let last = 48 + n % 10 in
    record {
      some = omega (arith, length-append digits (last ∷ []));
      each = list_all-append is_digit digits (last ∷ []) ∙ both (list_all is_digit digits) (list_all is_digit (last ∷ [])) before.each (rw (one-digit (n % 10) (omega arith)) refl);
      value = value-push 0 digits last ∙ (let value = before.value in omega arith);
    }))

has-some : (k : ℕ) → 0 < k → nat_lt 0 k ≡ true
has-some k h = grind (arith, nat_tests)

number-read : (n : ℕ) (digits : List ℕ) → Writes n digits → number_of digits ≡ Some n
number-read n digits w = rw (has-some (length digits) w.some, w.each) (ap (λ (k : ℕ). Some k) w.value)

-- leading zeros change nothing
zeros-each : (k : ℕ) (digits : List ℕ) → list_all is_digit digits ≡ true → list_all is_digit (replicate k 48 ++ digits) ≡ true
zeros-each zero digits each = each
zeros-each (suc k) digits each = zeros-each k digits each

zeros-value : (k : ℕ) (digits : List ℕ) → value_from 0 (replicate k 48 ++ digits) ≡ value_from 0 digits
zeros-value zero digits = refl
zeros-value (suc k) digits = zeros-value k digits

pub zeros-write : (k n : ℕ) (digits : List ℕ) → Writes n digits → Writes n (replicate k 48 ++ digits)
zeros-write k n digits w =
    record {
      some = (let some = w.some in omega (arith, length-append (replicate k 48) digits));
      each = zeros-each k digits w.each;
      value = zeros-value k digits ∙ w.value;
    }

-- ---- whole numbers and dates

is_at_most : (n most : ℕ) → n ≤ most → nat_le n most ≡ true
is_at_most n most h = grind (arith, nat_tests)

whole-of : (n : ℕ) (digits : List ℕ) → Writes n digits → length digits ≤ 10 → n ≤ 4294967295 → whole_of digits ≡ Some n
whole-of n digits w short small = rw (is_at_most (length digits) 10 short, number-read n digits w, is_at_most n 4294967295 small) refl

pub whole-read : (n : ℕ) → n ≤ 4294967295 → whole_of (decimal n) ≡ Some n
whole-read n small = whole-of n (decimal n) (decimal-writes n (omega arith)) (length-decimal-le 10 n (omega arith) (omega arith) (omega arith)) small

other-length : (a b : List ℕ) (t : Bool) → bytes_eq a b ≡ t → length a ≢ length b → t ≡ false
other-length a b false e other = refl
other-length a b true e other = absurd (other (ap length ((bytes_eq-Decides a b).0 e)))

-- a date of eight digits
pub date-read : (date : ℕ) (digits : List ℕ) → Writes date digits → length digits ≡ 8 → date ≤ 99999999 → validity_of digits ≡ Some (TillDate date)
date-read date digits w size small =
    rw (
      other-length digits (codes "day") (bytes_eq digits (codes "day")) refl (λ e. omega arith),
      other-length digits (codes "gtc") (bytes_eq digits (codes "gtc")) refl (λ e. omega arith),
      whole-of date digits w (omega arith) (omega arith),
      size,
    ) refl

-- digits have no marks
digit-plain : (byte : ℕ) → is_digit byte ≡ true → not (is_mark byte) ≡ true
digit-plain byte e = grind (arith, nat_tests)

pub digits-plain : (digits : List ℕ) → list_all is_digit digits ≡ true → is_plain digits ≡ true
digits-plain [] each = refl
digits-plain (d ∷ digits) each =
    let parts = and_parts (is_digit d) (list_all is_digit digits) each in
    rw (digit-plain d parts.0) (digits-plain digits parts.1)

-- ---- prices

digits-no_point : (byte : ℕ) → is_digit byte ≡ true → (byte == 46) ≡ false
digits-no_point byte e = grind (arith, nat_tests)

-- the first point is the one behind digits
point-behind : (k : ℕ) (digits more : List ℕ) → list_all is_digit digits ≡ true → position_from (λ byte. byte == 46) k (digits ++ 46 ∷ more) ≡ Some (k + length digits)
point-behind k [] more each = ap (λ (n : ℕ). Some n) (omega arith)
point-behind k (d ∷ digits) more each =
    let parts = and_parts (is_digit d) (list_all is_digit digits) each in
    rw (digits-no_point d parts.0) (point-behind (k + 1) digits more parts.1 ∙ ap (λ (n : ℕ). Some n) (omega arith))

four-digits : (n : ℕ) → n < 10000 → Writes n (four_digits n)
four-digits n small =
    record {
      some = omega arith;
      each = rw (one-digit (n / 1000) (omega arith), one-digit (n / 100 % 10) (omega arith), one-digit (n / 10 % 10) (omega arith), one-digit (n % 10) (omega arith)) refl;
      value = omega arith;
    }

none-left : (price tick : ℕ) → (price * tick % tick == 0) ≡ true
none-left price tick = rw (mul-mod_left price tick) refl

within : (low n high : ℕ) → low ≤ n → n ≤ high → (nat_le low n && nat_le n high) ≡ true
within low n high h k = grind (arith, nat_tests)

amount-priced : (price tick : ℕ) → 1 ≤ price → price ≤ MAX_PRICE → 1 ≤ tick → price_of_amount (price * tick) tick ≡ Ok price
amount-priced price tick low high some =
    let back : price * tick / tick ≡ price = mul-div_cancel price some in
    rw (none-left price tick, back, within 1 price MAX_PRICE low high) refl

amount-small : (price tick : ℕ) → price ≤ MAX_PRICE → tick ≤ MAX_TICK_SIZE → price * tick ≤ MAX_PRICE * MAX_TICK_SIZE
amount-small price tick few fine = mul-le price tick MAX_PRICE MAX_TICK_SIZE few fine

-- a price text is a number, a point and four decimals
amount-read : (amount tick : ℕ) → amount ≤ 10000000000 → price_of (amount_text amount) tick ≡ price_of_amount amount tick
amount-read amount tick small =
    let whole = decimal (amount / 10000) in
    let rest = four_digits (amount % 10000) in
    let w = decimal-writes (amount / 10000) (omega arith) in
    let few : length whole ≤ 8 = length-decimal-le 8 (amount / 10000) (omega arith) (omega arith) (omega arith) in
    let size : length (amount_text amount) ≡ length whole + 5 = length-append whole (46 ∷ rest) in
    let point : point_of (amount_text amount) ≡ Some (length whole) = point-behind 0 whole rest w.each ∙ ap (λ (n : ℕ). Some n) (omega arith) in
    let front : take (length whole) (amount_text amount) ≡ whole = take_at whole (46 ∷ rest) (length whole) refl in
    let behind : drop (length whole + 1) (amount_text amount) ≡ rest =
    ap (drop (length whole + 1)) (sym (append_assoc whole (46 ∷ []) rest)) ∙ drop_at (whole ++ 46 ∷ []) rest (length whole + 1) (length-append whole (46 ∷ [])) in
    let places : length (amount_text amount) - (length whole + 1) ≡ 4 = omega arith in
    let sum : amount / 10000 * 10000 + amount % 10000 * 10 ^ (4 - 4) ≡ amount = omega arith in
    rw (
      is_at_most (length (amount_text amount)) 16 (omega arith),
      point,
      front,
      behind,
      places,
      number-read (amount / 10000) whole w,
      number-read (amount % 10000) rest (four-digits (amount % 10000) (omega arith)),
      sum,
    ) refl

pub price-read : (price tick : ℕ) → 1 ≤ price → price ≤ MAX_PRICE → 1 ≤ tick → tick ≤ MAX_TICK_SIZE → price_of (price_text price tick) tick ≡ Ok price
price-read price tick low high some fine = amount-read (price * tick) tick (amount-small price tick high fine) ∙ amount-priced price tick low high some

-- price texts have no marks
pub price-plain : (price tick : ℕ) → price ≤ MAX_PRICE → tick ≤ MAX_TICK_SIZE → is_plain (price_text price tick) ≡ true
price-plain price tick high fine =
    let amount = price * tick in
    let small = amount-small price tick high fine in
    let whole = decimal (amount / 10000) in
    let rest = four_digits (amount % 10000) in
    list_all-append (λ byte. not (is_mark byte)) whole (46 ∷ rest)
    ∙ both (is_plain whole) (is_plain rest) (digits-plain whole (decimal-writes (amount / 10000) (omega arith)).each)
    (digits-plain rest (four-digits (amount % 10000) (omega arith)).each)
