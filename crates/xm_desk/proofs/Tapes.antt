-- The reference prices after the trades of a call, and of a sweep.
use Rattle.std.proofs.Common.{◌≡◌, ℕ, ◌<◌, Bool, true, false, if◌then◌else◌, List, [], ◌∷◌, ◌++◌, All, length, refl, ap, ◌∙◌, arith, append-nil}
use Rattle.std.specs.Prelude.{filter}
use Rattle.std.proofs.lemmas.List.Elements.{All-head, All-tail, filter-append}
use Rattle.xm_rules.specs.Sums.{total_quantity}
use Rattle.xm_rules.specs.State.{is_auction, last_auction_price, last_price}
use Rattle.xm_rules.specs.declared.orders.Trade.{Trade}

-- ---- after trades at one price
last_of-all : (p price : ℕ) (t : Trade) (ts : List Trade) → All (λ (t : Trade). t.price ≡ p) (t ∷ ts) → last_price price (t ∷ ts) ≡ p
last_of-all p price t [] h = All-head (λ (t : Trade). t.price ≡ p) t [] h
last_of-all p price t (u ∷ us) h = last_of-all p t.price u us (All-tail (λ (t : Trade). t.price ≡ p) t (u ∷ us) h)

pub last_price-all : (p price : ℕ) (ts new : List Trade) → 0 < length new → All (λ (t : Trade). t.price ≡ p) new → last_price price (ts ++ new) ≡ p
last_price-all p price [] [] some h = absurd (omega arith)
last_price-all p price [] (t ∷ new) some h = last_of-all p price t new h
last_price-all p price (x ∷ xs) new some h = last_price-all p x.price xs new some h

abbrev of_auction : Trade → Bool
of_auction t = is_auction t.kind

all-of-auction : (ts : List Trade) → All (λ (t : Trade). of_auction t ≡ true) ts → filter of_auction ts ≡ ts
all-of-auction [] h = refl
all-of-auction (t ∷ ts) h =
    (λ i. if All-head (λ (t : Trade). of_auction t ≡ true) t ts h i then t ∷ filter of_auction ts else filter of_auction ts)
    ∙ ap (λ (us : List Trade). t ∷ us) (all-of-auction ts (All-tail (λ (t : Trade). of_auction t ≡ true) t ts h))

pub last_auction_price-all : (p price : ℕ) (ts new : List Trade) → 0 < length new → All (λ (t : Trade). t.price ≡ p) new → All (λ (t : Trade). of_auction t ≡ true) new
    → last_auction_price price (ts ++ new) ≡ p
last_auction_price-all p price ts new some h kinds =
    ap (last_price price) (filter-append of_auction ts new ∙ ap (λ (us : List Trade). filter of_auction ts ++ us) (all-of-auction new kinds))
    ∙ last_price-all p price (filter of_auction ts) new some h

-- trades of some units
pub some-trades : (ts : List Trade) → 0 < total_quantity ts → 0 < length ts
some-trades [] h = absurd (omega arith)
some-trades (t ∷ ts) h = omega arith

none-of-auction : (ts : List Trade) → All (λ (t : Trade). of_auction t ≡ false) ts → filter of_auction ts ≡ []
none-of-auction [] h = refl
none-of-auction (t ∷ ts) h =
    (λ i. if All-head (λ (t : Trade). of_auction t ≡ false) t ts h i then t ∷ filter of_auction ts else filter of_auction ts)
    ∙ none-of-auction ts (All-tail (λ (t : Trade). of_auction t ≡ false) t ts h)

-- ---- after trades of which none is an auction's
pub last_auction_price-none : (price : ℕ) (ts new : List Trade) → All (λ (t : Trade). of_auction t ≡ false) new → last_auction_price price (ts ++ new) ≡ last_auction_price price ts
last_auction_price-none price ts new h =
    ap (last_price price) (filter-append of_auction ts new ∙ ap (λ (us : List Trade). filter of_auction ts ++ us) (none-of-auction new h) ∙ append-nil (filter of_auction ts))
