-- Digits in the bytes of a word.
use Rattle.std.proofs.Common.{ℕ, zero, suc, ◌≡◌, ◌+◌, ◌-◌, ◌*◌, ◌/◌, ◌%◌, ◌^◌, ◌<◌, ◌≤◌, List, [], ◌∷◌, Bool, true, false, cond, eqb, leb, bit_and, bit_or, bit_xor, arith, refl, sym, ap, ◌∙◌, eq-eqb, leb-true, le-leb, eqb-true, true≢false, length, take, drop, get_or, ◌&&◌, Fits, w8, drop-drop, length-drop, take_all, Option, Some, None, IfSome}
use Rattle.std.proofs.lemmas.Grind.{common_steps}
use Rattle.std.proofs.lemmas.Bool.{agree_below_at}
use Rattle.std.proofs.lemmas.Nat.{and_block, or_block, xor_block, and_mask, or_of_8, mod-pow-add, xor_lt}
use Rattle.std.specs.List.{list_all}
use Rattle.xm_ticks.specs.Digits.{AreDigits, IsJoined, value_of_digits, number_in, digits_word}
use Rattle.xm_ticks.specs.Reading.{is_digit}

-- so many equal bytes
abbrev repeated : ℕ → ℕ → ℕ
repeated zero byte = 0
repeated (suc n) byte = byte + 256 * repeated n byte

-- ---- facts of one byte, by trying each
abbrev flag : ℕ → ℕ
flag byte = bit_and (bit_or ((byte + 118) % 256) byte) 128

digit_flag : (byte : ℕ) → byte < 256 → eqb (flag byte) 0 ≡ leb byte 9
digit_flag byte h = agree_below_at (λ x. eqb (flag x) 0) (λ x. leb x 9) 256 byte refl h

no_flag : (byte : ℕ) → byte < 256 → flag byte ≡ 0 → byte ≤ 9
no_flag byte h e = leb-true byte 9 (sym (digit_flag byte h) ∙ eq-eqb _ _ e)

pub flags_none : (n j word : ℕ) → j ≡ 8 * n → bit_and (bit_or ((word + repeated n 118) % 2 ^ j) word) (repeated n 128) ≡ 0 → AreDigits n word
flags_none zero j word e h = tt
flags_none (suc n) j word e h =
    let low = word % 256 in
    let high = word / 256 in
    let whole : word ≡ high * 256 + low = omega arith in
    let sum = word + (118 + 256 * repeated n 118) in
    let long : j ≡ 8 * n + 8 = omega (arith, e) in
    let split : sum % 2 ^ j ≡ (sum / 256 % 2 ^ (8 * n)) * 256 + sum % 256 = ap (λ k. sum % 2 ^ k) long ∙ mod-pow-add sum (8 * n) 8 in
    let byte : low < 256 = omega arith in
    let last : sum % 256 ≡ (low + 118) % 256 = omega arith in
    let lowest : bit_or ((low + 118) % 256) low < 256 = or_of_8 ((low + 118) % 256) low (omega arith) byte in
    let ors : bit_or (sum % 2 ^ j) word ≡ bit_or (sum / 256 % 2 ^ (8 * n)) high * 256 + bit_or ((low + 118) % 256) low =
    ap (λ x. bit_or x word) (split ∙ ap (λ x. (sum / 256 % 2 ^ (8 * n)) * 256 + x) last) ∙ ap (λ x. bit_or ((sum / 256 % 2 ^ (8 * n)) * 256 + (low + 118) % 256) x) whole ∙ or_block 8 _ _ _ _ (omega arith) byte in
    let mask : repeated (suc n) 128 ≡ repeated n 128 * 256 + 128 = omega arith in
    let ands : bit_and (bit_or (sum % 2 ^ j) word) (repeated (suc n) 128) ≡ bit_and (bit_or (sum / 256 % 2 ^ (8 * n)) high) (repeated n 128) * 256 + flag low =
    ap (λ x. bit_and x (repeated (suc n) 128)) ors ∙ ap (bit_and _) mask ∙ and_block 8 _ _ _ _ lowest (omega arith) in
    let digit : low ≤ 9 = no_flag low byte (omega (arith, ands, h)) in
    let rest : sum / 256 ≡ high + repeated n 118 = omega arith in
    let left : bit_and (bit_or (sum / 256 % 2 ^ (8 * n)) high) (repeated n 128) ≡ 0 = omega (arith, ands, h) in
    (digit, flags_none n (8 * n) high refl (ap (λ x. bit_and (bit_or (x % 2 ^ (8 * n)) high) (repeated n 128)) (sym rest) ∙ left))

-- ---- the number of eight digits
-- each second byte of the pairs
second_bytes : (word : ℕ) → bit_and word 1095216660735 ≡ word / 4294967296 % 256 * 4294967296 + word % 256
second_bytes word =
    let whole : word ≡ word / 4294967296 * 2 ^ 32 + word % 4294967296 = omega arith in
    let low : bit_and (word % 4294967296) 255 ≡ word % 4294967296 % 256 = and_mask _ 8 in
    let high : bit_and (word / 4294967296) 255 ≡ word / 4294967296 % 256 = and_mask _ 8 in
    let both : bit_and word 1095216660735 ≡ bit_and (word / 4294967296) 255 * 4294967296 + bit_and (word % 4294967296) 255 =
    ap (λ x. bit_and x 1095216660735) whole ∙ and_block 32 (word / 4294967296) 255 (word % 4294967296) 255 (omega arith) (omega arith) in
    omega (arith, both, low, high)

-- what the code computes of a word
abbrev pub product : ℕ → ℕ
product pairs = (bit_and pairs 1095216660735 * 4294967296000100 % 18446744073709551616 + bit_and (pairs / 65536) 1095216660735 * 42949672960001 % 18446744073709551616) % 18446744073709551616 / 4294967296

pairs_number : (a b c d e f g h pairs : ℕ) → a ≤ 99 → c ≤ 99 → e ≤ 99 → g ≤ 99 → b ≤ 255 → d ≤ 255 → f ≤ 255 → h ≤ 255 → pairs ≡ a + 256 * (b + 256 * (c + 256 * (d + 256 * (e + 256 * (f + 256 * (g + 256 * h)))))) → product pairs ≡ a * 1000000 + c * 10000 + e * 100 + g
pairs_number a b c d e f g h pairs ha hc he hg hb hd hf hh p =
    let first : bit_and pairs 1095216660735 ≡ e * 4294967296 + a = second_bytes pairs ∙ omega (arith, p) in
    let second : bit_and (pairs / 65536) 1095216660735 ≡ g * 4294967296 + c = second_bytes (pairs / 65536) ∙ omega (arith, p) in
    omega (arith, first, second)

digits_number : (a b c d e f g h word : ℕ) → a ≤ 9 → b ≤ 9 → c ≤ 9 → d ≤ 9 → e ≤ 9 → f ≤ 9 → g ≤ 9 → h ≤ 9 → word ≡ a + 256 * (b + 256 * (c + 256 * (d + 256 * (e + 256 * (f + 256 * (g + 256 * h)))))) → product (word * 10 + word / 256) ≡ a * 10000000 + (b * 1000000 + (c * 100000 + (d * 10000 + (e * 1000 + (f * 100 + (g * 10 + h))))))
digits_number a b c d e f g h word ha hb hc hd he hf hg hh p =
    let above : word / 256 ≡ b + 256 * (c + 256 * (d + 256 * (e + 256 * (f + 256 * (g + 256 * h))))) = omega (arith, p) in
    let pairs : word * 10 + word / 256 ≡ (a * 10 + b) + 256 * ((b * 10 + c) + 256 * ((c * 10 + d) + 256 * ((d * 10 + e) + 256 * ((e * 10 + f) + 256 * ((f * 10 + g) + 256 * ((g * 10 + h) + 256 * (h * 10))))))) = omega (arith, p, above) in
    pairs_number (a * 10 + b) (b * 10 + c) (c * 10 + d) (d * 10 + e) (e * 10 + f) (f * 10 + g) (g * 10 + h) (h * 10) _ (omega arith) (omega arith) (omega arith) (omega arith) (omega arith) (omega arith) (omega arith) (omega arith) pairs ∙ omega arith

pub eight_number : (word : ℕ) → word < 2 ^ 64 → AreDigits 8 word → product (word * 10 + word / 256) ≡ number_in 8 word
eight_number word fits (a, (b, (c, (d, (e, (f, (g, (h, u)))))))) =
    digits_number _ _ _ _ _ _ _ _ word a b c d e f g h (omega (arith, fits)) ∙ omega arith

-- ---- two halves of a word
digits_of_halves : (low high : ℕ) → low < 2 ^ 32 → AreDigits 8 (high * 2 ^ 32 + low) → AreDigits 4 low × AreDigits 4 high
digits_of_halves low high fits (a, (b, (c, (d, (e, (f, (g, (h, u)))))))) =
    ((omega (arith, fits, a), (omega (arith, fits, b), (omega (arith, fits, c), (omega (arith, fits, d), tt)))), (omega (arith, fits, e), (omega (arith, fits, f), (omega (arith, fits, g), (omega (arith, fits, h), tt)))))

number_of_halves : (low high : ℕ) → low < 2 ^ 32 → number_in 8 (high * 2 ^ 32 + low) ≡ number_in 4 low * 10000 + number_in 4 high
number_of_halves low high fits = omega (arith, fits)

-- ---- characters as digits
is_as_digit : (byte : ℕ) → byte < 256 → leb (bit_xor byte 48) 9 ≡ is_digit byte
is_as_digit byte fits = agree_below_at (λ x. leb (bit_xor x 48) 9) is_digit 256 byte refl fits

digit_value : (byte : ℕ) → byte < 256 → is_digit byte ≡ true → bit_xor byte 48 ≡ byte - 48
digit_value byte fits h = eqb-true _ _ (by (is_digit byte) h (agree_below_at (λ x. cond (is_digit x) (eqb (bit_xor x 48) (x - 48)) true) (λ x. true) 256 byte refl fits))
  where
    by : (b : Bool) → b ≡ true → cond b (eqb (bit_xor byte 48) (byte - 48)) true ≡ true → eqb (bit_xor byte 48) (byte - 48) ≡ true
    by true e h = h
    by false e h = absurd (true≢false (sym e))

-- what a digit of a word says of its character
as_digit : (byte : ℕ) → byte < 256 → bit_xor byte 48 ≤ 9 → (is_digit byte ≡ true) × (bit_xor byte 48 ≡ byte - 48)
as_digit byte fits h =
    let digit : is_digit byte ≡ true = sym (is_as_digit byte fits) ∙ le-leb _ _ h in
    (digit, digit_value byte fits digit)

xor_more : (byte rest mask : ℕ) → byte < 256 → bit_xor (byte + 256 * rest) (48 + 256 * mask) ≡ bit_xor byte 48 + 256 * bit_xor rest mask
xor_more byte rest mask fits =
    let word : byte + 256 * rest ≡ rest * 256 + byte = omega arith in
    let masks : 48 + 256 * mask ≡ mask * 256 + 48 = omega arith in
    ap (λ x. bit_xor x (48 + 256 * mask)) word ∙ ap (bit_xor (rest * 256 + byte)) masks ∙ xor_block 8 rest mask byte 48 fits (omega arith) ∙ omega arith

pub four_xor : (a b c d : ℕ) → a < 256 → b < 256 → c < 256 → d < 256 → bit_xor (a + b * 256 + c * 65536 + d * 16777216) 808464432 ≡ digits_word (a ∷ b ∷ c ∷ d ∷ [])
four_xor a b c d fa fb fc fd =
    let word : a + b * 256 + c * 65536 + d * 16777216 ≡ a + 256 * (b + 256 * (c + 256 * (d + 256 * 0))) = omega arith in
    ap (λ x. bit_xor x 808464432) word ∙ xor_more a _ 3158064 fa ∙ ap (λ x. bit_xor a 48 + 256 * x) (xor_more b _ 12336 fb ∙ ap (λ x. bit_xor b 48 + 256 * x) (xor_more c _ 48 fc ∙ ap (λ x. bit_xor c 48 + 256 * x) (xor_more d 0 0 fd)))

pub four_taken : (xs : List ℕ) (at : ℕ) → at + 4 ≤ length xs → take 4 (drop at xs) ≡ get_or xs at 0 ∷ get_or xs (at + 1) 0 ∷ get_or xs (at + 2) 0 ∷ get_or xs (at + 3) 0 ∷ []
four_taken xs at h = grind (arith, common_steps)

-- ---- the digits that stay of four characters
all_more : (byte : ℕ) (bytes : List ℕ) → is_digit byte ≡ true → list_all is_digit bytes ≡ true → list_all is_digit (byte ∷ bytes) ≡ true
all_more byte bytes h rest = ap (λ t. t && list_all is_digit bytes) h ∙ rest

all_one : (a : ℕ) → is_digit a ≡ true → list_all is_digit (a ∷ []) ≡ true
all_one a p = all_more a [] p refl

all_two : (a b : ℕ) → is_digit a ≡ true → is_digit b ≡ true → list_all is_digit (a ∷ b ∷ []) ≡ true
all_two a b p q = all_more a (b ∷ []) p (all_one b q)

all_three : (a b c : ℕ) → is_digit a ≡ true → is_digit b ≡ true → is_digit c ≡ true → list_all is_digit (a ∷ b ∷ c ∷ []) ≡ true
all_three a b c p q r = all_more a (b ∷ c ∷ []) p (all_two b c q r)

all_four : (a b c d : ℕ) → is_digit a ≡ true → is_digit b ≡ true → is_digit c ≡ true → is_digit d ≡ true → list_all is_digit (a ∷ b ∷ c ∷ d ∷ []) ≡ true
all_four a b c d p q r s = all_more a (b ∷ c ∷ d ∷ []) p (all_three b c d q r s)

-- a word whose digits are those of so many characters; behind them stand so many digits 0
abbrev pub Holds : List ℕ → ℕ → ℕ → Type 0
Holds bytes zeros word = (list_all is_digit bytes ≡ true) × (number_in 4 word ≡ value_of_digits bytes * 10 ^ zeros)

module _ (a b c d : ℕ) (fa : a < 256) (fb : b < 256) (fc : c < 256) (fd : d < 256) where
  xa : bit_xor a 48 < 256
  xa = xor_lt 8 a 48 fa (omega arith)

  xb : bit_xor b 48 < 256
  xb = xor_lt 8 b 48 fb (omega arith)

  xc : bit_xor c 48 < 256
  xc = xor_lt 8 c 48 fc (omega arith)

  xd : bit_xor d 48 < 256
  xd = xor_lt 8 d 48 fd (omega arith)

  first_digits : (n word : ℕ) (rest : List ℕ) → n ≤ 4 → word ≡ digits_word (a ∷ b ∷ c ∷ d ∷ []) * 2 ^ (8 * (4 - n)) % 2 ^ 64 % 2 ^ 32 → AreDigits 4 word → Holds (take n (a ∷ b ∷ c ∷ d ∷ rest)) 0 word
  first_digits zero word rest h e (p, (q, (r, (s, u)))) = (refl, omega (arith, e))
  first_digits (suc zero) word rest h e (p, (q, (r, (s, u)))) =
      let one = as_digit a fa (omega (arith, e, xa, s)) in
      (all_one a one.0, omega (arith, e, xa, one.1))
  first_digits (suc (suc zero)) word rest h e (p, (q, (r, (s, u)))) =
      let one = as_digit a fa (omega (arith, e, xa, xb, r)) in
      let two = as_digit b fb (omega (arith, e, xa, xb, s)) in
      (all_two a b one.0 two.0, omega (arith, e, xa, xb, one.1, two.1))
  first_digits (suc (suc (suc zero))) word rest h e (p, (q, (r, (s, u)))) =
      let one = as_digit a fa (omega (arith, e, xa, xb, xc, q)) in
      let two = as_digit b fb (omega (arith, e, xa, xb, xc, r)) in
      let three = as_digit c fc (omega (arith, e, xa, xb, xc, s)) in
      (all_three a b c one.0 two.0 three.0, omega (arith, e, xa, xb, xc, one.1, two.1, three.1))
  first_digits (suc (suc (suc (suc zero)))) word rest h e (p, (q, (r, (s, u)))) =
      let one = as_digit a fa (omega (arith, e, xa, xb, xc, xd, p)) in
      let two = as_digit b fb (omega (arith, e, xa, xb, xc, xd, q)) in
      let three = as_digit c fc (omega (arith, e, xa, xb, xc, xd, r)) in
      let four = as_digit d fd (omega (arith, e, xa, xb, xc, xd, s)) in
      (all_four a b c d one.0 two.0 three.0 four.0, omega (arith, e, xa, xb, xc, xd, one.1, two.1, three.1, four.1))
  first_digits (suc (suc (suc (suc (suc n))))) word rest h e p = absurd (omega (arith, h))

  last_digits : (n word : ℕ) → n ≤ 3 → word ≡ digits_word (a ∷ b ∷ c ∷ d ∷ []) / 2 ^ (8 * n) → AreDigits 4 word → Holds (drop n (a ∷ b ∷ c ∷ d ∷ [])) n word
  last_digits zero word h e (p, (q, (r, (s, u)))) =
      let one = as_digit a fa (omega (arith, e, xa, xb, xc, xd, p)) in
      let two = as_digit b fb (omega (arith, e, xa, xb, xc, xd, q)) in
      let three = as_digit c fc (omega (arith, e, xa, xb, xc, xd, r)) in
      let four = as_digit d fd (omega (arith, e, xa, xb, xc, xd, s)) in
      (all_four a b c d one.0 two.0 three.0 four.0, omega (arith, e, xa, xb, xc, xd, one.1, two.1, three.1, four.1))
  last_digits (suc zero) word h e (p, (q, (r, (s, u)))) =
      let two = as_digit b fb (omega (arith, e, xa, xb, xc, xd, p)) in
      let three = as_digit c fc (omega (arith, e, xa, xb, xc, xd, q)) in
      let four = as_digit d fd (omega (arith, e, xa, xb, xc, xd, r)) in
      (all_three b c d two.0 three.0 four.0, omega (arith, e, xa, xb, xc, xd, two.1, three.1, four.1))
  last_digits (suc (suc zero)) word h e (p, (q, (r, (s, u)))) =
      let three = as_digit c fc (omega (arith, e, xa, xb, xc, xd, p)) in
      let four = as_digit d fd (omega (arith, e, xa, xb, xc, xd, q)) in
      (all_two c d three.0 four.0, omega (arith, e, xa, xb, xc, xd, three.1, four.1))
  last_digits (suc (suc (suc zero))) word h e (p, (q, (r, (s, u)))) =
      let four = as_digit d fd (omega (arith, e, xa, xb, xc, xd, p)) in
      (all_one d four.0, omega (arith, e, xa, xb, xc, xd, four.1))
  last_digits (suc (suc (suc (suc n)))) word h e p = absurd (omega (arith, h))

-- ---- the two parts of a text
four_first : (xs : List ℕ) → 4 ≤ length xs → (xs ≡ get_or xs 0 0 ∷ get_or xs 1 0 ∷ get_or xs 2 0 ∷ get_or xs 3 0 ∷ drop 4 xs)
four_first xs h = grind (arith, common_steps)

module _ (xs : List ℕ) (typed : (k : ℕ) → Fits w8 (get_or xs k 0)) (long : 4 ≤ length xs) where
  front_holds : (n word : ℕ) → n ≤ 4 → word ≡ digits_word (take 4 xs) * 2 ^ (8 * (4 - n)) % 2 ^ 64 % 2 ^ 32 → AreDigits 4 word → Holds (take n xs) 0 word
  front_holds n word h e digits =
      let whole = four_first xs long in
      let taken : take 4 xs ≡ get_or xs 0 0 ∷ get_or xs 1 0 ∷ get_or xs 2 0 ∷ get_or xs 3 0 ∷ [] = ap (take 4) whole in
      let f = first_digits _ _ _ _ (typed 0).fits (typed 1).fits (typed 2).fits (typed 3).fits n word (drop 4 xs) h (e ∙ ap (λ l. digits_word l * 2 ^ (8 * (4 - n)) % 2 ^ 64 % 2 ^ 32) taken) digits in
      rw whole f

  back_holds : (n word : ℕ) → 1 ≤ n → n ≤ 4 → word ≡ digits_word (take 4 (drop (length xs - 4) xs)) / 2 ^ (8 * (4 - n)) → AreDigits 4 word → Holds (drop (length xs - n) xs) (4 - n) word
  back_holds n word some h e digits =
      let at = length xs - 4 in
      let inside : at + 4 ≡ length xs = omega (arith, long) in
      let taken = four_taken xs at (omega (arith, inside)) in
      let all : take 4 (drop at xs) ≡ drop at xs = take_all 4 (drop at xs) (omega (arith, length-drop at xs)) in
      let four : drop at xs ≡ get_or xs at 0 ∷ get_or xs (at + 1) 0 ∷ get_or xs (at + 2) 0 ∷ get_or xs (at + 3) 0 ∷ [] = sym all ∙ taken in
      let f = last_digits _ _ _ _ (typed at).fits (typed (at + 1)).fits (typed (at + 2)).fits (typed (at + 3)).fits (4 - n) word (omega (arith, some)) (e ∙ ap (λ l. digits_word l / 2 ^ (8 * (4 - n))) taken) digits in
      let place : drop (length xs - n) xs ≡ drop (4 - n) (drop at xs) = let sum : length xs - n ≡ at + (4 - n) = omega (arith, long, some, h) in ap (λ k. drop k xs) sum ∙ sym (drop-drop (4 - n) at xs) in
      rw (place ∙ ap (drop (4 - n)) four) f

-- what eight digits say of the text that they come from
pub joined : (r : Option ℕ) (xs : List ℕ) (typed : (k : ℕ) → Fits w8 (get_or xs k 0)) (front back first last word : ℕ) → 4 ≤ length xs → front ≤ 4 → 1 ≤ back → back ≤ 4 → first ≡ digits_word (take 4 xs) * 2 ^ (8 * (4 - front)) % 2 ^ 64 % 2 ^ 32 → last ≡ digits_word (take 4 (drop (length xs - 4) xs)) / 2 ^ (8 * (4 - back)) → word ≡ last * 2 ^ 32 + first → IfSome r (λ n. AreDigits 8 word) → IfSome r (λ n. n ≡ number_in 8 word) → IfSome r (IsJoined (take front xs) (drop (length xs - back) xs))
joined None xs typed front back first last word long few some h f l w digits number = tt
joined (Some n) xs typed front back first last word long few some h f l w digits number =
    let below : first < 2 ^ 32 = omega (arith, f) in
    let halves = digits_of_halves first last below (rw w at digits) in
    let before = front_holds xs typed long front first few f halves.0 in
    let behind = back_holds xs typed long back last some h l halves.1 in
    let size : length (drop (length xs - back) xs) ≡ back = omega (arith, length-drop (length xs - back) xs, long, h) in
    record {
      digits_front = before.0;
      digits_back = behind.0;
      number = rw size (omega (arith, number, w, number_of_halves first last below, before.1, behind.1));
    }
