-- The last price of a list of trades is that of its last one.
use Rattle.std.proofs.Common.{◌≡◌, ℕ, List, [], ◌∷◌, Some, length, ap, sym, ◌-◌, ◌∙◌, arith}
use Rattle.std.specs.List.{slice_get}
use Rattle.xm_rules.specs.State.{last_price}
use Rattle.xm_rules.specs.declared.orders.Trade.{Trade}

last_at : (price : ℕ) (u : Trade) (us : List Trade) (t : Trade) → slice_get (u ∷ us) (length us) ≡ Some t → t.price ≡ last_price price (u ∷ us)
last_at price u [] t h = let same : u ≡ t = cc in sym (ap (λ (x : Trade). x.price) same)
last_at price u (v ∷ vs) t h = last_at u.price v vs t h

pub last_price-of : (price : ℕ) (ts : List Trade) (t : Trade) → slice_get ts (length ts - 1) ≡ Some t → t.price ≡ last_price price ts
last_price-of price [] t h = cc
last_price-of price (u ∷ us) t h =
    let one : length (u ∷ us) - 1 ≡ length us = omega arith in
    last_at price u us t (ap (slice_get (u ∷ us)) (sym one) ∙ h)
