-- The numbers of trades: those of a sweep, or of a call, bear the next one, and what comes later bears later ones.
use Rattle.std.proofs.Common.{◌≡◌, ℕ, ◌+◌, ◌≤◌, ◌==◌, Bool, true, false, ◌&&◌, if◌then◌else◌, cond, List, [], ◌∷◌, ◌++◌, All, drop, length, take, append_assoc, append-nil, drop_at, eq-eqb, refl, sym, ap, ◌∙◌, arith}
use Rattle.std.proofs.Math.Seq.{take-append_seam}
use Rattle.std.proofs.lemmas.Bool.Decides.{nat_tests}
use Rattle.std.proofs.lemmas.List.Elements.{All-append, All-head, All-nil, All-tail, All-weaker}
use Rattle.xm_events.specs.SeenStory.{numbered_so, trades_behind, trades_numbered}
use Rattle.xm_rules.specs.Settling.{come, is_continuous, is_free, joined, sweep_of, swept}
use Rattle.xm_rules.specs.State.{State, ranges}
use Rattle.xm_rules.specs.Sweep.{rest_after, sweep_trades}
use Rattle.xm_rules.specs.declared.orders.Order.{Order}
use Rattle.xm_rules.specs.declared.orders.Trade.{Trade}
use Rattle.xm_rules.proofs.ComingIn.{IsOfSweep, trades_of_sweep}

-- ---- trades of one number, and later ones behind them

abbrev pub Bears : ℕ → Trade → Type 0
Bears number t = t.sweep ≡ number

abbrev pub IsLater : ℕ → Trade → Type 0
IsLater number t = number + 1 ≤ t.sweep

later_fails : (a n : ℕ) → n + 1 ≤ a → (a == n) ≡ false
later_fails a n l = grind (arith, nat_tests)

numbered_front : (n : ℕ) (ts us : List Trade) → All (Bears n) ts → All (IsLater n) us → numbered_so n (ts ++ us) ≡ length ts
numbered_front n [] [] own later = refl
numbered_front n [] (u ∷ us) own later = ap (λ (b : Bool). cond b (1 + numbered_so n us) 0) (later_fails u.sweep n (All-head (IsLater n) u us later))
numbered_front n (t ∷ ts) us own later =
    ap (λ (b : Bool). cond b (1 + numbered_so n (ts ++ us)) 0) (eq-eqb t.sweep n (All-head (Bears n) t ts own))
    ∙ omega (arith, numbered_front n ts us (All-tail (Bears n) t ts own) later)

pub numbered_are : (n : ℕ) (ts us : List Trade) → All (Bears n) ts → All (IsLater n) us → trades_numbered n (ts ++ us) ≡ ts
numbered_are n ts us own later = ap (λ (k : ℕ). take k (ts ++ us)) (numbered_front n ts us own later) ∙ take-append_seam ts us

pub behind_are : (n : ℕ) (ts us : List Trade) → All (Bears n) ts → All (IsLater n) us → trades_behind n (ts ++ us) ≡ us
behind_are n ts us own later = drop_at ts us (numbered_so n (ts ++ us)) (sym (numbered_front n ts us own later))

-- ---- a later state

-- a later state has other trades behind those of an earlier one, with the numbers in between
pub record ComesLater (s t : State) : Type 0 where
  pub more : List Trade
  pub trades : t.trades ≡ s.trades ++ more
  pub each : All (λ (x : Trade). (s.sweeps + 1 ≤ x.sweep) × (x.sweep ≤ t.sweeps)) more
  pub counted : s.sweeps ≤ t.sweeps

abbrev pub Between : ℕ → ℕ → Trade → Type 0
Between n m x = (n + 1 ≤ x.sweep) × (x.sweep ≤ m)

pub later_none : (s t : State) → t.trades ≡ s.trades → t.sweeps ≡ s.sweeps → ComesLater s t
later_none s t trades sweeps = record { more = []; trades = trades ∙ sym (append-nil s.trades); each = All-nil (Between s.sweeps t.sweeps); counted = omega (arith, sweeps) }

-- by trades of the next number
pub later_one : (s t : State) (more : List Trade) → t.trades ≡ s.trades ++ more → t.sweeps ≡ s.sweeps + 1 → All (Bears (s.sweeps + 1)) more → ComesLater s t
later_one s t more trades sweeps own =
    record {
      more = more;
      trades = trades;
      each = All-weaker (Bears (s.sweeps + 1)) (Between s.sweeps t.sweeps) (λ x e. (omega (arith, e), omega (arith, e, sweeps))) more own;
      counted = omega (arith, sweeps);
    }

pub later_on : (s t u : State) → ComesLater s t → ComesLater t u → ComesLater s u
later_on s t u a b =
    record {
      more = a.more ++ b.more;
      trades = b.trades ∙ ap (λ (ts : List Trade). ts ++ b.more) a.trades ∙ append_assoc s.trades a.more b.more;
      each = All-append (Between s.sweeps u.sweeps) a.more b.more
          (All-weaker (Between s.sweeps t.sweeps) (Between s.sweeps u.sweeps) (λ x k. (let l = k.1 in (k.0, omega (arith, l, b.counted)))) a.more a.each)
          (All-weaker (Between t.sweeps u.sweeps) (Between s.sweeps u.sweeps) (λ x k. (let l = k.0 in (omega (arith, l, a.counted), k.1))) b.more b.each);
      counted = omega (arith, a.counted, b.counted);
    }

none_between : (n m : ℕ) (ts : List Trade) → m ≡ n → All (Between n m) ts → ts ≡ []
none_between n m [] e each = refl
none_between n m (t ∷ ts) e each = absurd (let k = All-head (Between n m) t ts each in omega (arith, e, k.0, k.1))

-- where no number was taken there is no other trade
pub no_more_trades : (s t : State) (a : ComesLater s t) → t.sweeps ≡ s.sweeps → a.more ≡ []
no_more_trades s t a same = none_between s.sweeps t.sweeps a.more same a.each

-- what stands behind the same trades is the same
pub same_behind : (before ts us : List Trade) → before ++ ts ≡ before ++ us → ts ≡ us
same_behind before ts us e = sym (drop_at before ts (length before) refl) ∙ ap (λ (xs : List Trade). drop (length before) xs) e ∙ drop_at before us (length before) refl

-- trades of the next number lead to a state, and what comes later to another one
module _ (s u t : State) (own : List Trade) (trades_own : u.trades ≡ s.trades ++ own) (bear : All (Bears (s.sweeps + 1)) own) (sweeps : u.sweeps ≡ s.sweeps + 1) (later : ComesLater u t) where
  later_numbers : All (IsLater (s.sweeps + 1)) later.more
  later_numbers = All-weaker (Between u.sweeps t.sweeps) (IsLater (s.sweeps + 1)) (λ x k. (let l = k.0 in omega (arith, l, sweeps))) later.more later.each

  -- the trades between are the own ones, and then the later ones
  trades_so : (trades : List Trade) → t.trades ≡ s.trades ++ trades → trades ≡ own ++ later.more
  trades_so trades e =
      same_behind s.trades trades (own ++ later.more)
      (sym e ∙ later.trades ∙ ap (λ (ts : List Trade). ts ++ later.more) trades_own ∙ append_assoc s.trades own later.more)

  pub own_are : (trades : List Trade) → t.trades ≡ s.trades ++ trades → trades_numbered (s.sweeps + 1) trades ≡ own
  own_are trades e = ap (trades_numbered (s.sweeps + 1)) (trades_so trades e) ∙ numbered_are (s.sweeps + 1) own later.more bear later_numbers

  pub others_are : (trades : List Trade) → t.trades ≡ s.trades ++ trades → trades_behind (s.sweeps + 1) trades ≡ later.more
  others_are trades e = ap (trades_behind (s.sweeps + 1)) (trades_so trades e) ∙ behind_are (s.sweeps + 1) own later.more bear later_numbers

-- ---- an order that comes in

-- a state like that after a sweep, whatever became of the rest of the order
pub record IsSwept (s : State) (o : Order) (u : State) : Type 0 where
  pub phase : u.phase ≡ (swept s o).phase
  pub trades : u.trades ≡ s.trades ++ sweep_trades (s.sweeps + 1) (sweep_of s o)
  pub sweeps : u.sweeps ≡ s.sweeps + 1
  pub settings : u.settings ≡ s.settings

pub swept_so : (s : State) (o : Order) → IsSwept s o (swept s o)
swept_so s o = record { phase = refl; trades = refl; sweeps = refl; settings = refl }

swept_if : (s : State) (o : Order) (b c : Bool) → b ≡ true
    → IsSwept s o (if b then (if c then swept s o else joined (swept s o) (record o { rest = rest_after (sweep_of s o) })) else joined s o)
swept_if s o true true e = record { phase = refl; trades = refl; sweeps = refl; settings = refl }
swept_if s o true false e = record { phase = refl; trades = refl; sweeps = refl; settings = refl }
swept_if s o false c e = absurd (cc)

-- a free order in continuous trading is swept, and any other one joins
pub come_sweeps : (s : State) (o : Order) → (is_continuous s.phase && is_free o.restriction) ≡ true → IsSwept s o (come s o)
come_sweeps s o e = swept_if s o (is_continuous s.phase && is_free o.restriction) (rest_after (sweep_of s o) == 0) e

pub come_joins : (s : State) (o : Order) → (is_continuous s.phase && is_free o.restriction) ≡ false → come s o ≡ joined s o
come_joins s o e = λ k. if e k then (if rest_after (sweep_of s o) == 0 then swept s o else joined (swept s o) (record o { rest = rest_after (sweep_of s o) })) else joined s o

pub own_numbers : (s : State) (o : Order) → All (Bears (s.sweeps + 1)) (sweep_trades (s.sweeps + 1) (sweep_of s o))
own_numbers s o =
    All-weaker (IsOfSweep (ranges s) (s.sweeps + 1)) (Bears (s.sweeps + 1)) (λ t h. h.sweep) (sweep_trades (s.sweeps + 1) (sweep_of s o))
    (trades_of_sweep (s.sweeps + 1) (sweep_of s o))

pub swept_later : (s : State) (o : Order) (u : State) → IsSwept s o u → ComesLater s u
swept_later s o u h = later_one s u (sweep_trades (s.sweeps + 1) (sweep_of s o)) h.trades h.sweeps (own_numbers s o)
