-- Up to eight digits in the bytes of a word, the first in the lowest.
use Rattle.std.specs.Prelude.{ℕ, zero, suc, ◌≡◌, ◌+◌, ◌-◌, ◌*◌, ◌/◌, ◌%◌, ◌^◌, ◌≤◌, List, [], ◌∷◌, length, fold, get_or, bit_xor, true}
use Rattle.std.specs.List.{list_all}
use Rattle.xm_ticks.specs.Reading.{is_digit}

-- so many bytes are digits
abbrev pub AreDigits : ℕ → ℕ → Type 0
AreDigits zero word = Unit
AreDigits (suc n) word = (word % 256 ≤ 9) × AreDigits n (word / 256)

-- the number that so many digits write
abbrev pub number_in : ℕ → ℕ → ℕ
number_in zero word = 0
number_in (suc n) word = word % 256 * 10 ^ n + number_in n (word / 256)

-- characters as digits: `0` has the code 48, and the others up to `9` differ from it in their lowest four bits alone
abbrev pub digits_word : List ℕ → ℕ
digits_word [] = 0
digits_word (byte ∷ bytes) = bit_xor byte 48 + 256 * digits_word bytes

-- the number that the characters of digits write
abbrev pub value_of_digits : List ℕ → ℕ
value_of_digits bytes = fold (λ n byte. n * 10 + (byte - 48)) 0 bytes

-- the number of eight digits: some, and up to four others with zeros behind them
pub record IsJoined (front back : List ℕ) (n : ℕ) : Type 0 where
  pub digits_front : list_all is_digit front ≡ true
  pub digits_back : list_all is_digit back ≡ true
  pub number : n ≡ value_of_digits front * 10000 + value_of_digits back * 10 ^ (4 - length back)

-- so many characters stand behind a point, and others before it
pub record IsPlaces (text : List ℕ) (n : ℕ) : Type 0 where
  pub some : 1 ≤ n
  pub few : n ≤ 4
  pub before : n + 2 ≤ length text
  pub long : 4 ≤ length text
  pub point : get_or text (length text - n - 1) 0 ≡ 46
