-- What each fill of a list of events says is left of its order.
use Rattle.std.proofs.Common.{◌≡◌, ℕ, ◌+◌, ◌==◌, false, ◌&&◌, List, [], ◌∷◌, ◌++◌, All, sum_by, arith}
use Rattle.std.specs.List.{filter_map}
use Rattle.std.proofs.lemmas.List.Elements.{All-head, All-tail}
use Rattle.std.proofs.lemmas.List.Sums.{sum_by-append, sum_by-cons}
use Rattle.xm_events.specs.Life.{bare_in, taken}
use Rattle.xm_events.specs.Story.{side_fill, fills, units_traded}
use Rattle.xm_events.specs.declared.events.Event.{Event}
use Rattle.xm_events.specs.declared.events.Event.TheVariants.{Filled, Accepted, Changed, Triggered, Cancelled, Deleted, Interrupted, Began}
use Rattle.xm_events.specs.declared.events.Fill.{Fill}
use Rattle.xm_rules.specs.declared.orders.Side.TheVariants.{Sell}
use Rattle.xm_rules.specs.declared.orders.Trade.{Trade}
use Rattle.xm_events.proofs.NamedUnits.{fills_take}
use Rattle.xm_events.proofs.TestedSums.{failed_if}

-- a fill says that those units are left which the events behind it take of its order, and those which are left behind all
abbrev pub SaysLeft : (ℕ → ℕ → ℕ) → Event → List Event → Type 0
SaysLeft left (Filled f) behind = f.rest ≡ sum_by (taken f.member f.reference) behind + left f.member f.reference
SaysLeft left _ behind = Unit {0}

-- each fill of a list does
abbrev pub EachSays : (ℕ → ℕ → ℕ) → List Event → Type 0
EachSays left [] = Unit {0}
EachSays left (e ∷ es) = SaysLeft left e es × EachSays left es

-- so does a fill that stands between others
pub says_at : (left : ℕ → ℕ → ℕ) (before behind : List Event) (f : Fill) → EachSays left (before ++ Filled f ∷ behind)
    → f.rest ≡ sum_by (taken f.member f.reference) behind + left f.member f.reference
says_at left [] behind f each = each.0
says_at left (e ∷ es) behind f each = says_at left es behind f each.1

-- the same where more is left by the first events, which later ones take
module _ (mid left : ℕ → ℕ → ℕ) (fs : List Event) (later : (member reference : ℕ) → mid member reference ≡ sum_by (taken member reference) fs + left member reference) where
  one_says_on : (e : Event) (es : List Event) → SaysLeft mid e es → SaysLeft left e (es ++ fs)
  one_says_on (Filled f) es says = omega (arith, says, later f.member f.reference, sum_by-append (taken f.member f.reference) es fs)
  one_says_on (Accepted gone) es says = tt
  one_says_on (Changed o) es says = tt
  one_says_on (Triggered stop) es says = tt
  one_says_on (Cancelled gone) es says = tt
  one_says_on (Deleted gone reason) es says = tt
  one_says_on (Interrupted price range) es says = tt
  one_says_on (Began phase) es says = tt

  pub says_on : (es : List Event) → EachSays mid es → EachSays left fs → EachSays left (es ++ fs)
  says_on [] each rest = rest
  says_on (e ∷ es) each rest = (one_says_on e es each.0, says_on es each.1 rest)

-- and where as much is left
module _ (mid left : ℕ → ℕ → ℕ) (same : (member reference : ℕ) → mid member reference ≡ left member reference) where
  one_says_as : (e : Event) (es : List Event) → SaysLeft mid e es → SaysLeft left e es
  one_says_as (Filled f) es says = omega (arith, says, same f.member f.reference)
  one_says_as (Accepted gone) es says = tt
  one_says_as (Changed o) es says = tt
  one_says_as (Triggered stop) es says = tt
  one_says_as (Cancelled gone) es says = tt
  one_says_as (Deleted gone reason) es says = tt
  one_says_as (Interrupted price range) es says = tt
  one_says_as (Began phase) es says = tt

  pub says_as : (es : List Event) → EachSays mid es → EachSays left es
  says_as [] each = tt
  says_as (e ∷ es) each = (one_says_as e es each.0, says_as es each.1)

-- events that are no fills say nothing
pub says_none : (left : ℕ → ℕ → ℕ) (es : List Event) → filter_map bare_in es ≡ [] → EachSays left es
says_none left [] none = tt
says_none left (Filled f ∷ es) none = absurd (cc)
says_none left (Accepted gone ∷ es) none = (tt, says_none left es none)
says_none left (Changed o ∷ es) none = (tt, says_none left es none)
says_none left (Triggered stop ∷ es) none = (tt, says_none left es none)
says_none left (Cancelled gone ∷ es) none = (tt, says_none left es none)
says_none left (Deleted gone reason ∷ es) none = (tt, says_none left es none)
says_none left (Interrupted price range ∷ es) none = (tt, says_none left es none)
says_none left (Began phase ∷ es) none = (tt, says_none left es none)

-- a trade between two names, of whose orders as much is left in the end as the trade is told of
pub record Fits (left final : ℕ → ℕ → ℕ) (rest : List Event) (t : Trade) : Type 0 where
  pub apart : ((t.seller == t.buyer) && (t.sell_ref == t.buy_ref)) ≡ false
  pub buyer : left t.buyer t.buy_ref ≡ sum_by (taken t.buyer t.buy_ref) rest + final t.buyer t.buy_ref
  pub seller : left t.seller t.sell_ref ≡ sum_by (taken t.seller t.sell_ref) rest + final t.seller t.sell_ref

-- the fills of such trades tell what is left
pub fills_say : (left final : ℕ → ℕ → ℕ) (ts : List Trade) (rest : List Event) → All (Fits left final rest) ts → EachSays final rest → EachSays final (fills left ts ++ rest)
fills_say left final [] rest fit each = each
fills_say left final (t ∷ ts) rest fit each =
    let f = All-head (Fits left final rest) t ts fit in
    let sale = Filled (side_fill Sell left t ts) in
    let of_buyer : left t.buyer t.buy_ref + sum_by (units_traded t.buyer t.buy_ref) ts ≡ sum_by (taken t.buyer t.buy_ref) (sale ∷ (fills left ts ++ rest)) + final t.buyer t.buy_ref =
    omega (
      arith,
      f.buyer,
      sum_by-cons (taken t.buyer t.buy_ref) sale (fills left ts ++ rest),
      failed_if ((t.seller == t.buyer) && (t.sell_ref == t.buy_ref)) t.quantity f.apart,
      sum_by-append (taken t.buyer t.buy_ref) (fills left ts) rest,
      fills_take t.buyer t.buy_ref left ts,
    ) in
    let of_seller : left t.seller t.sell_ref + sum_by (units_traded t.seller t.sell_ref) ts ≡ sum_by (taken t.seller t.sell_ref) (fills left ts ++ rest) + final t.seller t.sell_ref =
    omega (
      arith,
      f.seller,
      sum_by-append (taken t.seller t.sell_ref) (fills left ts) rest,
      fills_take t.seller t.sell_ref left ts,
    ) in
    (of_buyer, (of_seller, fills_say left final ts rest (All-tail (Fits left final rest) t ts fit) each))
