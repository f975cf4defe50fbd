-- Numbers of four digits or less.
use Rattle.std.proofs.Common.{◌≡◌, ℕ, ◌+◌, ◌/◌, ◌%◌, ◌<◌, ◌≤◌, List, [], ◌∷◌, ◌++◌, map, sym, ap, arith, ◌∙◌}
use Rattle.std.proofs.lemmas.Fmt.{decimal-digits_of, decimal_digit}
use Rattle.std.proofs.lemmas.Int.Digits.{digits_of_step}
use Rattle.std.proofs.lemmas.List.{append_assoc, map-append}
use Rattle.std.specs.Fmt.{decimal}
use Rattle.std.specs.Int.Digits.{digits_of}

last : (n : ℕ) → 10 ≤ n → n < 10000 → decimal n ≡ decimal (n / 10) ++ (48 + n % 10) ∷ []
last n some few =
    decimal-digits_of n (omega (arith, some)) (omega (arith, few))
    ∙ ap (map (λ d. 48 + d)) (digits_of_step 10 n (omega arith) (omega (arith, some)))
    ∙ map-append (λ d. 48 + d) (digits_of 10 (n / 10)) (n % 10 ∷ [])
    ∙ ap (λ (ds : List ℕ). ds ++ (48 + n % 10) ∷ []) (sym (decimal-digits_of (n / 10) (omega (arith, some)) (omega (arith, few))))

pub two : (n : ℕ) → 10 ≤ n → n < 100 → decimal n ≡ (48 + n / 10) ∷ (48 + n % 10) ∷ []
two n some few = last n some (omega (arith, few)) ∙ ap (λ (ds : List ℕ). ds ++ (48 + n % 10) ∷ []) (decimal_digit (n / 10) (omega (arith, few)))

-- the digits of a number above a hundred, beside those of its hundreds
beside : (n : ℕ) → ((n / 10) % 10 ≡ n % 100 / 10) × ((n / 10) / 10 ≡ n / 100) × (n % 10 ≡ n % 100 % 10)
beside n = (omega arith, omega arith, omega arith)

pub three : (n : ℕ) → 100 ≤ n → n < 1000 → decimal n ≡ ((48 + n / 100) ∷ []) ++ (48 + n % 100 / 10) ∷ (48 + n % 100 % 10) ∷ []
three n some few =
    let b = beside n in
    last n (omega (arith, some)) (omega (arith, few))
    ∙ ap (λ (ds : List ℕ). ds ++ (48 + n % 10) ∷ []) (two (n / 10) (omega (arith, some)) (omega (arith, few)))
    ∙ (λ i. (48 + b.1 i) ∷ (48 + b.0 i) ∷ (48 + b.2 i) ∷ [])

pub four : (n : ℕ) → 1000 ≤ n → n < 10000 → decimal n ≡ ((48 + n / 100 / 10) ∷ (48 + n / 100 % 10) ∷ []) ++ (48 + n % 100 / 10) ∷ (48 + n % 100 % 10) ∷ []
four n some few =
    let b = beside n in
    last n (omega (arith, some)) few
    ∙ ap (λ (ds : List ℕ). ds ++ (48 + n % 10) ∷ []) (last (n / 10) (omega (arith, some)) (omega (arith, few)) ∙ ap (λ (ds : List ℕ). ds ++ (48 + n / 10 % 10) ∷ []) (two (n / 10 / 10) (omega (arith, some)) (omega (arith, few))))
    ∙ (λ i. (48 + b.1 i / 10) ∷ (48 + b.1 i % 10) ∷ (48 + b.0 i) ∷ (48 + b.2 i) ∷ [])

-- a text that grew twice
pub grown-twice : (text between new more last whole : List ℕ) → between ≡ text ++ more → new ≡ between ++ last → whole ≡ more ++ last → new ≡ text ++ whole
grown-twice text between new more last whole first second all = second ∙ ap (λ (t : List ℕ). t ++ last) first ∙ append_assoc text more last ∙ ap (λ (t : List ℕ). text ++ t) (sym all)
