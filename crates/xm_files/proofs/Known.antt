-- What a reader gave in turns, where its bytes are known.
use Rattle.std.proofs.Common.{◌≡◌, ℕ, ◌-◌, ◌<◌, ◌≤◌, List, [], length, Option, Some, None, IfSome, sym, ap, arith, length-append, ◌∙◌}
use Rattle.std.proofs.lemmas.List.{append-nil}
use Rattle.std.specs.Io.KnownBytes.{Consumes, IsAtEnd}

-- a reader that has nothing left has given all its bytes
pub all_given : (start now end : Option (List ℕ)) (given last : List ℕ) → Consumes start now given → Consumes now end last → last ≡ [] → IsAtEnd end → IfSome start (λ bytes. given ≡ bytes)
all_given None now end given last before then_last is_empty at_end = tt
all_given (Some bytes) None end given last before then_last is_empty at_end = absurd before
all_given (Some bytes) (Some left) None given last before then_last is_empty at_end = absurd then_last
all_given (Some bytes) (Some left) (Some rest) given last before then_last is_empty at_end =
    let none : left ≡ [] = rw (is_empty, at_end) at then_last in
    sym (before ∙ rw none (append-nil given))

-- a reader that gives more than there is room for has more bytes than the limit
pub too_many : (start now end : Option (List ℕ)) (given part : List ℕ) (most : ℕ) → Consumes start now given → Consumes now end part → length given ≤ most → most - length given < length part
    → IfSome start (λ bytes. most < length bytes)
too_many None now end given part most before then_part within more = tt
too_many (Some bytes) None end given part most before then_part within more = absurd before
too_many (Some bytes) (Some left) None given part most before then_part within more = absurd then_part
too_many (Some bytes) (Some left) (Some rest) given part most before then_part within more =
    omega (arith, ap length before, ap length then_part, length-append given left, length-append part rest)
