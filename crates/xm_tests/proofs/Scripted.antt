-- Each command of the script is lawful where it comes, and its quote is the one that is told.
use Rattle.std.proofs.Common.{◌≡◌, ℕ, zero, suc, ◌+◌, ◌*◌, ◌/◌, ◌<◌, false, List, [], ◌∷◌, ◌++◌, filter, refl, ap, sym, subst, ◌∙◌, arith, None}
use Rattle.std.specs.Prelude.{nat_le}
use Rattle.std.proofs.lemmas.Bool.Decides.{nat_tests}
use Rattle.std.proofs.lemmas.List.Elements.{filter-append}
use Rattle.std.proofs.lemmas.List.Sums.{sum_by_push}
use Rattle.xm_board.proofs.Publishing.{lawful-grown, quote-is, unnumbered-grown}
use Rattle.xm_board.specs.Journals.{entry_of, grown, opening_of, quote_of, unnumbered}
use Rattle.xm_board.specs.declared.journal.Entry.{Entry}
use Rattle.xm_board.specs.declared.journal.NumberedJournal.{NumberedJournal}
use Rattle.xm_rules.proofs.Journals.{replay-push}
use Rattle.xm_rules.specs.Opening.{opening}
use Rattle.xm_rules.specs.Quote.{quote}
use Rattle.xm_rules.specs.Refusals.{refusal_of}
use Rattle.xm_rules.specs.State.{State, is_auction, last_auction_price, last_price}
use Rattle.xm_rules.specs.Step.{replay, step}
use Rattle.xm_rules.specs.Sums.{total_quantity}
use Rattle.xm_rules.specs.declared.orders.Trade.{Trade}
use Rattle.xm_rules.specs.declared.orders.TradeKind.TheVariants.{Auction}
use Rattle.xm_rules.specs.declared.phases.Auction.TheVariants.{Intraday}
use Rattle.xm_rules.specs.declared.phases.CallStage.TheVariants.{Ordinary}
use Rattle.xm_rules.specs.declared.commands.Command.TheVariants.{StartOpening, Uncross}
use Rattle.xm_tests.proofs.Starting.{starts}
use Rattle.xm_tests.specs.Script.{script_settings, IsAt, Stands, best_buy_in, best_sell_in, scripted_command, phase_in, quote_before, state_in, traded_at, version_in}

-- ---- the turns one by one
below-eight : (P : ℕ → Type 0) → P 0 → P 1 → P 2 → P 3 → P 4 → P 5 → P 6 → P 7 → (n : ℕ) → n < 8 → P n
below-eight P a b c d e f g h zero l = a
below-eight P a b c d e f g h (suc zero) l = b
below-eight P a b c d e f g h (suc (suc zero)) l = c
below-eight P a b c d e f g h (suc (suc (suc zero))) l = d
below-eight P a b c d e f g h (suc (suc (suc (suc zero)))) l = e
below-eight P a b c d e f g h (suc (suc (suc (suc (suc zero))))) l = f
below-eight P a b c d e f g h (suc (suc (suc (suc (suc (suc zero)))))) l = g
below-eight P a b c d e f g h (suc (suc (suc (suc (suc (suc (suc zero))))))) l = h
below-eight P a b c d e f g h (suc (suc (suc (suc (suc (suc (suc (suc n)))))))) l = absurd (omega arith)

-- ---- no command is refused
room : (a : ℕ) → a < 30000 → nat_le (30000 + 0) a ≡ false
room a l = grind (arith, nat_tests)

room-of-phases : (a : ℕ) → a < 30000 → nat_le (30000 + 64) a ≡ false
room-of-phases a l = grind (arith, nat_tests)

abbrev Passes : ℕ → Type 0
Passes turn = (a : ℕ) (ts : List Trade) (n : ℕ) → a < 30000 → refusal_of (state_in a turn ts n) (scripted_command turn) ≡ None

passes : (turn : ℕ) → turn < 8 → Passes turn
unfolding refusal_of
passes = below-eight Passes (λ a ts n l. rw (room-of-phases a l) refl) (λ a ts n l. rw (room a l) refl) (λ a ts n l. rw (room a l) refl) (λ a ts n l. rw (room-of-phases a l) refl)
    (λ a ts n l. rw (room-of-phases a l) refl) (λ a ts n l. rw (room a l) refl) (λ a ts n l. rw (room a l) refl) (λ a ts n l. rw (room-of-phases a l) refl)

-- ---- the state after each
abbrev trade_at : ℕ → ℕ → Trade
trade_at price n = record { sweep = n; kind = Auction Intraday Ordinary; price = price; quantity = 5; buyer = 0; buy_ref = 1; seller = 1; sell_ref = 1 }

last-push : (price : ℕ) (ts : List Trade) (t : Trade) → last_price price (ts ++ t ∷ []) ≡ t.price
last-push price [] t = refl
last-push price (u ∷ us) t = last-push u.price us t

last-auction-push : (price p n : ℕ) (ts : List Trade) → last_auction_price price (ts ++ trade_at p n ∷ []) ≡ p
last-auction-push price p n ts =
    ap (last_price price) (filter-append (λ (t : Trade). is_auction t.kind) ts (trade_at p n ∷ [])) ∙ last-push price (filter (λ (t : Trade). is_auction t.kind) ts) (trade_at p n)

-- one that brings no trade
quiet : (turn : ℕ) → ((a : ℕ) (ts : List Trade) (n : ℕ) → step (state_in a turn ts n) (scripted_command turn) ≡ state_in (a + 1) (turn + 1) ts n)
    → traded_at turn ≡ traded_at (turn + 1) → turn / 4 ≡ (turn + 1) / 4 → (cycle : ℕ) (s : State) → IsAt cycle turn s → IsAt cycle (turn + 1) (step s (scripted_command turn))
quiet turn steps same still cycle s at = record {
  trades = at.trades;
  sweeps = at.sweeps;
  is = ap (λ (x : State). step x (scripted_command turn)) at.is ∙ steps (version_in cycle turn) at.trades at.sweeps
      ∙ ap (λ (a : ℕ). state_in a (turn + 1) at.trades at.sweeps) (omega arith);
  last = at.last ∙ same;
  auction = at.auction ∙ same;
  quantity = at.quantity ∙ ap (λ (q : ℕ). 10 * cycle + 5 * q) still;
}

-- the end of a call
trading : (turn p : ℕ)
    → ((a : ℕ) (ts : List Trade) (n : ℕ) → last_price 1000 ts ≡ traded_at turn → last_auction_price 1000 ts ≡ traded_at turn → step (state_in a turn ts n) (scripted_command turn) ≡ state_in (a + 1) (turn + 1) (ts ++ trade_at p (n + 1) ∷ []) (n + 1))
    → p ≡ traded_at (turn + 1) → turn / 4 + 1 ≡ (turn + 1) / 4 → (cycle : ℕ) (s : State) → IsAt cycle turn s → IsAt cycle (turn + 1) (step s (scripted_command turn))
trading turn p steps same more cycle s at = record {
  trades = at.trades ++ trade_at p (at.sweeps + 1) ∷ [];
  sweeps = at.sweeps + 1;
  is = ap (λ (x : State). step x (scripted_command turn)) at.is ∙ steps (version_in cycle turn) at.trades at.sweeps at.last at.auction
      ∙ ap (λ (a : ℕ). state_in a (turn + 1) (at.trades ++ trade_at p (at.sweeps + 1) ∷ []) (at.sweeps + 1)) (omega arith);
  last = last-push 1000 at.trades (trade_at p (at.sweeps + 1)) ∙ same;
  auction = last-auction-push 1000 p (at.sweeps + 1) at.trades ∙ same;
  quantity = omega (arith, sum_by_push (λ (t : Trade). t.quantity) at.trades (trade_at p (at.sweeps + 1)), at.quantity, more);
}

abbrev Leads : ℕ → Type 0
Leads turn = (cycle : ℕ) (s : State) → IsAt cycle turn s → IsAt cycle (turn + 1) (step s (scripted_command turn))

leads : (turn : ℕ) → turn < 8 → Leads turn
unfolding step
leads = below-eight Leads (quiet 0 (λ a ts n. refl) refl refl) (quiet 1 (λ a ts n. refl) refl refl) (quiet 2 (λ a ts n. refl) refl refl)
    (trading 3 1001 (λ a ts n last auction. rw last (rw auction refl)) refl refl) (quiet 4 (λ a ts n. refl) refl refl) (quiet 5 (λ a ts n. refl) refl refl)
    (quiet 6 (λ a ts n. refl) refl refl) (trading 7 1000 (λ a ts n last auction. rw last (rw auction refl)) refl refl)

-- ---- the quotes
abbrev Quotes : ℕ → Type 0
Quotes turn =
    (a : ℕ) (ts : List Trade) (n : ℕ) → quote (state_in a (turn + 1) ts n)
    ≡ record { version = a; phase = phase_in (turn + 1); best_buy = best_buy_in (turn + 1); best_sell = best_sell_in (turn + 1); ref1 = last_price 1000 ts; ref2 = last_auction_price 1000 ts; quantity = total_quantity ts }

quotes : (turn : ℕ) → turn < 8 → Quotes turn
quotes = below-eight Quotes (λ a ts n. refl) (λ a ts n. refl) (λ a ts n. refl) (λ a ts n. refl) (λ a ts n. refl) (λ a ts n. refl) (λ a ts n. refl) (λ a ts n. refl)

quote-at : (turn : ℕ) → turn < 8 → (cycle : ℕ) (s : State) → IsAt cycle (turn + 1) s → quote s ≡ quote_before cycle (turn + 1)
quote-at turn l cycle s at = ap quote at.is ∙ quotes turn l (version_in cycle (turn + 1)) at.trades at.sweeps ∙ (λ i. record {
  version = version_in cycle (turn + 1);
  phase = phase_in (turn + 1);
  best_buy = best_buy_in (turn + 1);
  best_sell = best_sell_in (turn + 1);
  ref1 = at.last i;
  ref2 = at.auction i;
  quantity = at.quantity i;
})

-- ---- what is published
abbrev after : NumberedJournal → ℕ → NumberedJournal
after j turn = grown j (entry_of 0 (scripted_command turn))

pub next : (cycle turn : ℕ) (j : NumberedJournal) → turn < 8 → cycle < 2500 → Stands cycle turn j → Stands cycle (turn + 1) (after j turn)
next cycle turn j l few at =
    let e : Entry = entry_of 0 (scripted_command turn) in
    let r = at.there in
    let passing : refusal_of (replay (unnumbered j)) (scripted_command turn) ≡ None = ap (λ (s : State). refusal_of s (scripted_command turn)) r.is ∙ passes turn l (version_in cycle turn) r.trades r.sweeps (omega arith) in
    let grows : replay (unnumbered (after j turn)) ≡ step (replay (unnumbered j)) (scripted_command turn) = ap replay (unnumbered-grown j e) ∙ replay-push (unnumbered j) (scripted_command turn) in
    record { lawful = lawful-grown j e at.lawful passing; there = subst (IsAt cycle (turn + 1)) (sym grows) (leads turn l cycle (replay (unnumbered j)) r) }

pub next-quote : (cycle turn : ℕ) (j : NumberedJournal) → turn < 8 → cycle < 2500 → Stands cycle turn j → quote_before cycle (turn + 1) ≡ quote_of (after j turn)
next-quote cycle turn j l few at = sym (quote-is (after j turn) ∙ quote-at turn l cycle (replay (unnumbered (after j turn))) (next cycle turn j l few at).there)

-- a cycle ends where the next one begins
pub again : (cycle : ℕ) (j : NumberedJournal) → Stands cycle 8 j → Stands (cycle + 1) 0 j
again cycle j at =
    let r = at.there in
    record { lawful = at.lawful; there = record { trades = r.trades; sweeps = r.sweeps; is = r.is ∙ ap (λ (a : ℕ). state_in a 0 r.trades r.sweeps) (omega arith); last = r.last; auction = r.auction; quantity = r.quantity ∙ omega arith } }

-- ---- the day opens, with a call in which nothing trades
abbrev pub called : NumberedJournal
called = grown (opening_of script_settings) (entry_of 0 StartOpening)

pub opened : Stands 0 0 (grown called (entry_of 0 Uncross))
unfolding refusal_of replay step opening
opened = record {
  lawful = lawful-grown called (entry_of 0 Uncross) (starts script_settings refl) refl;
  there = record { trades = []; sweeps = 0; is = refl; last = refl; auction = refl; quantity = refl };
}

pub opened-quote : quote_before 0 0 ≡ quote_of (grown called (entry_of 0 Uncross))
unfolding quote_of replay step opening
opened-quote = refl
