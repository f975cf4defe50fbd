-- A number of workers or of threads, as it is read and written.
use Rattle.std.proofs.Common.{◌≢◌, pos, zero, suc, ◌+◌, ◌==◌, ◌&&◌, unwrap_or, ◌≡◌, ◌≤◌, ◌<◌, ◌^◌, ◌∙◌, ℕ, Bool, true, false, Option, Some, None, Result, Ok, Err, SomeIff, option_and_then, refl, ap, sym, arith}
use Rattle.std.specs.Str.Parse.{IsNumeral, ParsesUnsigned, digits_value, without_leading_plus}
use Rattle.clap.specs.Matches.{ReadsOne}
use Rattle.clap.specs.Values.{Accepts}
use Rattle.clap.specs.ValueTests.{is_signed_in, is_unsigned_in}
use Rattle.clap.specs.Lexer.{without_minus}
use Rattle.clap.proofs.WalkLemmas.{both}
use Rattle.std.specs.Fmt.{decimal, digits}
use Rattle.std.specs.List.{list_all, range_with_len}
use Rattle.std.specs.Str.{bytes_eq}
use Rattle.std.proofs.lemmas.Bool.{eqb-true, eqb-false}
use Rattle.std.proofs.lemmas.Slice.Eq.{bytes_eq-Decides}
use Rattle.clap.specs.Words.{Text}
use Rattle.clap.specs.declared.builder.value_parser.ValueParser.TheVariants.{Unsigned}
use Rattle.clap.proofs.ValueTestLemmas.{Accepts-accepts, accepts-Accepts}
use Rattle.xm_program.specs.Requests.{is_plain_word, count_in}

-- what a text is that a word of 32 bits is read from
abbrev IsWord : Text → Type 0
IsWord text = IsNumeral 10 (without_leading_plus text) × (digits_value 10 (without_leading_plus text) < 2 ^ 32)

accepted : (text : Text) → is_unsigned_in 1 64 text ≡ true → Accepts false (Unsigned 1 64) text
accepted text e = accepts-Accepts false (Unsigned 1 64) text e

in-some : (text : Text) (n : ℕ) → IsWord text → n ≡ digits_value 10 (without_leading_plus text) → (r : Option ℕ) → SomeIff r ((1 ≤ n) × (n ≤ 64)) n → r ≡ count_in text
in-some text n word is = go (is_unsigned_in 1 64 text) refl
  where
    go : (b : Bool) → is_unsigned_in 1 64 text ≡ b → (r : Option ℕ) → SomeIff r ((1 ≤ n) × (n ≤ 64)) n → r ≡ count_in text
    go true e (Some k) iff = rw e (ap Some (iff.1 ∙ is))
    go true e None iff =
        let within = accepted text e in
        absurd (iff (omega (arith, within.2), omega (arith, within.3)))
    go false e (Some k) iff =
        let low = iff.0.0 in
        let high = iff.0.1 in
        let small = word.1 in
        let passes : is_unsigned_in 1 64 text ≡ true = Accepts-accepts false (Unsigned 1 64) text (word.0, omega arith, omega arith, omega arith) in
        absurd (cc)
    go false e None iff = rw e refl

in-none : (text : Text) → (IsWord text → ⊥) → count_in text ≡ None
in-none text wrong = go (is_unsigned_in 1 64 text) refl
  where
    go : (b : Bool) → is_unsigned_in 1 64 text ≡ b → count_in text ≡ None
    go true e =
        let within = accepted text e in
        absurd (wrong (within.0, omega (arith, within.3)))
    go false e = rw e refl

module _ (E : Type 0) (G : Text → Result ℕ E → Type 0) (only : (u : Text) (x : Result ℕ E) → G u x → ParsesUnsigned 32 10 u x) where
  -- a text that is no number, or none
  pub read-none : (o : Option Text) → ((t : Text) → o ≡ Some t → ReadsOne G t None) → option_and_then count_in o ≡ None
  read-none None read = refl
  read-none (Some t) read = let none = read t refl in in-none t (only t (Err none.0) none.1)

  -- a text that is a number, which is in range or not
  pub read-some : (o : Option Text) (n : ℕ) → (o ≡ None → ◌≡◌ {A = Option ℕ} (Some n) None) → ((t : Text) → o ≡ Some t → ReadsOne G t (Some n)) → (r : Option ℕ) → SomeIff r ((1 ≤ n) × (n ≤ 64)) n
      → r ≡ option_and_then count_in o
  read-some None n none read r iff = let bad = none refl in absurd (cc)
  read-some (Some t) n none read r iff = let some = only t (Ok n) (read t refl) in in-some t n some.0 some.1 r iff

-- a text that is a number in range
pub record IsNumber (text : Text) (number : ℕ) : Type 0 where
  pub is_plain : is_plain_word text ≡ true
  pub passes : is_signed_in (pos 1) (pos 64) text ≡ true
  pub as_it_stands : without_minus text ≡ text
  pub is_in : count_in text ≡ Some number

-- the same, as a test
abbrev is_number : ℕ → Bool
is_number n =
    is_plain_word (decimal n) && (is_signed_in (pos 1) (pos 64) (decimal n) && (bytes_eq (without_minus (decimal n)) (decimal n)
    && (unwrap_or (count_in (decimal n)) 0 == n)))

each : list_all is_number (range_with_len 1 64) ≡ true
unfolding digits
each = refl

at_first : (p : ℕ → Bool) (from n : ℕ) (b : Bool) → (from == n) ≡ b → p from ≡ true → (from ≢ n → p n ≡ true) → p n ≡ true
at_first p from n true same here later = let is = eqb-true from n same in rw (sym is) here
at_first p from n false differ here later = later (eqb-false from n differ)

-- what holds of each number of a range holds of one of them
in_range : (p : ℕ → Bool) (from count n : ℕ) → list_all p (range_with_len from count) ≡ true → from ≤ n → n < from + count → p n ≡ true
in_range p from zero n e low high = absurd (omega arith)
in_range p from (suc count) n e low high =
    at_first p from n (from == n) refl ((both _ _ e).0) (λ other. in_range p (from + 1) count n ((both _ _ e).1) (omega (arith, other)) (omega arith))

some-of : (o : Option ℕ) (n : ℕ) → unwrap_or o 0 ≡ n → 1 ≤ n → o ≡ Some n
some-of None n e low = absurd (omega (arith, e))
some-of (Some k) n e low = ap Some e

pub number-text : (n : ℕ) → 1 ≤ n → n ≤ 64 → IsNumber (decimal n) n
number-text n low high =
    let a = both _ _ (in_range is_number 1 64 n each low (omega arith)) in
    let b = both _ _ a.1 in
    let c = both _ _ b.1 in
    record {
      is_plain = a.0;
      passes = b.0;
      as_it_stands = (bytes_eq-Decides (without_minus (decimal n)) (decimal n)).0 c.0;
      is_in = some-of (count_in (decimal n)) n (eqb-true _ _ c.1) low;
    }
