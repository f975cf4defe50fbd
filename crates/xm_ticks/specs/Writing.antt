-- The texts of prices and money: euros with four decimals.
use Rattle.std.specs.Prelude.{ℕ, ℤ, pos, negsuc, suc, ◌+◌, ◌*◌, ◌/◌, ◌%◌, ◌<◌, List, [], ◌∷◌, ◌++◌, length, take, Option}
use Rattle.std.specs.Fmt.{decimal}
use Rattle.std.specs.Io.KnownBytes.{Appends}

-- four digits of a number below 10,000
abbrev pub four_digits : ℕ → List ℕ
four_digits n = (48 + n / 1000) ∷ (48 + n / 100 % 10) ∷ (48 + n / 10 % 10) ∷ (48 + n % 10) ∷ []

-- an amount in ten-thousandths of a euro
abbrev pub amount_text : ℕ → List ℕ
amount_text amount = decimal (amount / 10000) ++ 46 ∷ four_digits (amount % 10000)

-- a price in ticks of this size
abbrev pub price_text : ℕ → ℕ → List ℕ
price_text price tick = amount_text (price * tick)

-- an amount with a minus sign where it is negative
abbrev pub money_text : ℤ → List ℕ
money_text (pos amount) = amount_text amount
money_text (negsuc below) = 45 ∷ amount_text (suc below)

-- known bytes grow by a proper prefix of the text
abbrev pub AppendsPrefix : Option (List ℕ) → Option (List ℕ) → List ℕ → Type 0
AppendsPrefix old new text = (n : ℕ) × (n < length text) × Appends old new (take n text)
