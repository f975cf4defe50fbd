-- Steps that may give nothing.
use Rattle.std.specs.Prelude.{Option, option_and_then}

-- a step that asks for the value of the step before
infixl 10 ◌>>=◌
abbrev pub ◌>>=◌ : {A B : Type 0} → Option A → (A → Option B) → Option B
value >>= next = option_and_then next value
