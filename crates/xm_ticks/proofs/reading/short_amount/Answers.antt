use Rattle.std.proofs.Common.{ℕ, ◌≡◌, ◌-◌, ◌≤◌, Option, Some, None, IfSome, List, length, take, drop}
use Rattle.xm_ticks.specs.Digits.{IsJoined, IsPlaces}
use Rattle.xm_ticks.specs.Reading.{price_of, price_of_amount}
use Rattle.xm_ticks.proofs.Texts.{short_price}
use Rattle.xm_ticks.proofs.reading.short_amount.Goals as goal

-- the same of what may be none
short : (r : Option ℕ) (text : List ℕ) (places : ℕ) → IsPlaces text places → length text - places - 1 ≤ 4 → IfSome r (IsJoined (take (length text - places - 1) text) (drop (length text - places) text)) → IfSome r (λ amount. (tick : ℕ) → price_of text tick ≡ price_of_amount amount tick)
short None text places p few j = tt
short (Some n) text places p few j = short_price text places n p few j

pub returns-else-whole-gt4 : goal.returns-else-whole-gt4
returns-else-whole-gt4 c = short c.joined.result c.args.text.now c.in-Some.places c.in-Some.ensures c.if-whole-gt4.false c.joined.ensures
