-- What an output holds that keeps what was written to it, and one to which a text is written in pieces.
use Rattle.std.proofs.Common.{◌∙◌, ◌+◌, ℕ, List, ◌++◌, OnErr, Option, Result, Ok, Err, Some, None, arith, le_of_lt, length, length-append, subst, sym, take}
use Rattle.std.proofs.Math.Seq.{take-append-add}
use Rattle.std.proofs.lemmas.List.{take-append-le}
use Rattle.std.specs.Io.KnownBytes.{Appends, Keeps}
use Rattle.xm_ticks.proofs.Prefixes.{Appends-more}
use Rattle.xm_ticks.specs.Writing.{AppendsPrefix}

pub appended : (old mid new : Option (List ℕ)) (text : List ℕ) → Appends old mid text → Keeps mid new → Appends old new text
appended None mid new text a k = tt
appended (Some xs) None new text a k = absurd a
appended (Some xs) (Some ys) None text a k = absurd k
appended (Some xs) (Some ys) (Some zs) text a k = k ∙ a

-- a part of the first piece is a part of the whole
pub part-first : (old new : Option (List ℕ)) (first rest : List ℕ) → AppendsPrefix old new first → AppendsPrefix old new (first ++ rest)
part-first old new first rest part = (part.0, omega (arith, part.1, length-append first rest), subst (Appends old new) (sym (take-append-le part.0 first rest (le_of_lt part.1))) part.2)

-- and so is the first piece with a part of what follows
pub part-behind : (old mid new : Option (List ℕ)) (first rest : List ℕ) → Appends old mid first → AppendsPrefix mid new rest → AppendsPrefix old new (first ++ rest)
part-behind old mid new first rest whole part =
    (length first + part.0, omega (arith, part.1, length-append first rest), subst (Appends old new) (sym (take-append-add first rest part.0)) (Appends-more old mid new first (take part.0 rest) whole part.2))

-- what a failed call yields
pub err-then : {A E P Q : Type 0} (r : Result A E) → OnErr r P → (P → Q) → OnErr r Q
err-then (Ok a) p then = tt
err-then (Err e) p then = then p
