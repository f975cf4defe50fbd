use Rattle.std.proofs.Common.{◌≡◌, ℕ, List, ap, ◌∙◌, get_or}
use Rattle.xm_board.specs.Words.{phase_at}
use Rattle.xm_board.proofs.Quotes.{phase_back}
use Rattle.xm_board.proofs.words.quote_from.Goals as goal

pub returns : goal.returns
returns c = λ q prices e.
    let at = λ (i : ℕ). ap (λ (l : List ℕ). get_or l i 0) e in
    let phase : c.phase_from.result ≡ q.phase = c.phase_from.ensures ∙ ap phase_at (at 1) ∙ phase_back q.phase in
    let buy : c.price_from.result ≡ q.best_buy = c.price_from.ensures q.best_buy prices.buy (at 2) in
    let sell : c.price_from-2.result ≡ q.best_sell = c.price_from-2.ensures q.best_sell prices.sell (at 3) in
    let ref1 : c.reference_from.result ≡ q.ref1 = c.reference_from.ensures ∙ at 4 in
    let ref2 : c.reference_from-2.result ≡ q.ref2 = c.reference_from-2.ensures ∙ at 5 in
    λ i. record { version = at 0 i; phase = phase i; best_buy = buy i; best_sell = sell i; ref1 = ref1 i; ref2 = ref2 i; quantity = at 6 i }
