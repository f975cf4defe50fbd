-- The price of a text: its value in ten-thousandths of a euro divided by the tick size, or the first fault.
use Rattle.std.specs.Prelude.{ℕ, ◌+◌, ◌-◌, ◌*◌, ◌/◌, ◌%◌, ◌^◌, Bool, ◌&&◌, if◌then◌else◌, nat_lt, nat_le, ◌==◌, List, length, fold, take, drop, Option, Some, None, Result, Ok, Err}
use Rattle.std.specs.List.{list_all, position_from}
use Rattle.xm_ticks.specs.declared.numbers.TheConstants.{MAX_PRICE}
use Rattle.xm_ticks.specs.declared.reading.PriceFault.{PriceFault}
use Rattle.xm_ticks.specs.declared.reading.PriceFault.TheVariants.{NotANumber, TooManyDecimals, OffTick, OutOfRange}
use Rattle.xm_ticks.specs.declared.reading.TheConstants.{MAX_NUMBER_LENGTH}

-- the characters `0` to `9`
abbrev pub is_digit : ℕ → Bool
is_digit byte = nat_le 48 byte && nat_le byte 57

-- the number that digits write, where there is one digit or more and nothing else
abbrev pub number_of : List ℕ → Option ℕ
number_of bytes = if nat_lt 0 (length bytes) && list_all is_digit bytes then Some (fold (λ n byte. n * 10 + (byte - 48)) 0 bytes) else None

-- where the first point stands
abbrev pub point_of : List ℕ → Option ℕ
point_of bytes = position_from (λ byte. byte == 46) 0 bytes

-- the price of an amount in ten-thousandths of a euro
abbrev pub price_of_amount : ℕ → ℕ → Result ℕ PriceFault
price_of_amount amount tick =
    if amount % tick == 0 then (if nat_le 1 (amount / tick) && nat_le (amount / tick) MAX_PRICE then Ok (amount / tick) else Err OutOfRange)
    else Err OffTick

-- the price of the numbers before and after the point, the second of so many digits
abbrev pub price_of_parts : Option ℕ → Option ℕ → ℕ → ℕ → Result ℕ PriceFault
price_of_parts None decimals places tick = Err NotANumber
price_of_parts (Some whole) None places tick = Err NotANumber
price_of_parts (Some whole) (Some decimals) places tick = if nat_lt 4 places then Err TooManyDecimals else price_of_amount (whole * 10000 + decimals * 10 ^ (4 - places)) tick

-- the price of a text whose point stands there; a text without a point has no decimals
abbrev pub price_at_point : List ℕ → ℕ → Option ℕ → Result ℕ PriceFault
price_at_point bytes tick None = price_of_parts (number_of bytes) (Some 0) 0 tick
price_at_point bytes tick (Some i) = price_of_parts (number_of (take i bytes)) (number_of (drop (i + 1) bytes)) (length bytes - (i + 1)) tick

-- the price of a text, which has at most so many bytes
abbrev pub price_of : List ℕ → ℕ → Result ℕ PriceFault
price_of bytes tick = if nat_le (length bytes) MAX_NUMBER_LENGTH then price_at_point bytes tick (point_of bytes) else Err NotANumber
