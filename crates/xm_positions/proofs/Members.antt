-- The sums of members, after one trade more and within the limits of a day.
use Rattle.std.proofs.Common.{◌≡◌, ℕ, ◌+◌, ◌<◌, ◌≤◌, ◌==◌, Bool, true, false, if◌then◌else◌, nat_lt, List, [], ◌∷◌, ◌++◌, length, set, get_or, slice_index_or, slice_set, sum_by, IfSome, Some, None, refl, sym, ap, subst, ◌∙◌, arith}
use Rattle.std.proofs.lemmas.Bool.{eqb-false, eqb-true}
use Rattle.std.proofs.lemmas.Bool.Decides.{nat_tests}
use Rattle.std.proofs.lemmas.Grind.{get_or-set_at}
use Rattle.std.proofs.lemmas.List.{get_or-set_other, length-set}
use Rattle.std.proofs.lemmas.List.Sums.{sum_by_push, sum_by-le-sum_by}
use Rattle.xm_positions.specs.Positions.{AreSmall, AreSums, Recorded, sums_if_known, sums_of}
use Rattle.xm_positions.specs.declared.sums.MemberSums.{MemberSums}
use Rattle.xm_rules.specs.Sums.{AreWithinLimits, IsBetweenMembers, bought, money_of, paid, total_money, total_quantity}
use Rattle.xm_rules.specs.declared.orders.Trade.{Trade}
use Rattle.xm_rules.specs.declared.totals.TheConstants.{MAX_TRADED_MONEY, MAX_TRADED_QUANTITY}

-- ---- within the limits

if_at_most : (b : Bool) (n : ℕ) → (if b then n else 0) ≤ n
if_at_most true n = omega arith
if_at_most false n = omega arith

part : (who what : Trade → ℕ) (member : ℕ) (ts : List Trade) → sum_by (λ t. if who t == member then what t else 0) ts ≤ sum_by what ts
part who what member ts = sum_by-le-sum_by (λ t. if who t == member then what t else 0) what ts (λ t. if_at_most (who t == member) (what t))

pub sums_small : (member : ℕ) (ts : List Trade) → AreWithinLimits ts → AreSmall (sums_of member ts)
sums_small member ts h = record {
  bought = omega (arith, part (λ t. t.buyer) (λ t. t.quantity) member ts, h.quantity);
  sold = omega (arith, part (λ t. t.seller) (λ t. t.quantity) member ts, h.quantity);
  paid = omega (arith, part (λ t. t.buyer) money_of member ts, h.money);
  received = omega (arith, part (λ t. t.seller) money_of member ts, h.money);
}

small_if : (b : Bool) (member : ℕ) (ts : List Trade) → AreWithinLimits ts → IfSome (if b then Some (sums_of member ts) else None) AreSmall
small_if true member ts h = sums_small member ts h
small_if false member ts h = tt

pub known_small : (r : Recorded) (member : ℕ) → AreWithinLimits r.trades → IfSome (sums_if_known r member) AreSmall
known_small r member h = small_if (nat_lt member r.members) member r.trades h

-- ---- one trade more

abbrev pub with_purchase : MemberSums → Trade → MemberSums
with_purchase s t = record s { bought = s.bought + t.quantity; paid = s.paid + money_of t }

abbrev pub with_sale : MemberSums → Trade → MemberSums
with_sale s t = record s { sold = s.sold + t.quantity; received = s.received + money_of t }

-- what the code makes of the trade's quantity and money
pub purchase_is : (s made : MemberSums) (t : Trade) (quantity money : ℕ) → made ≡ record s { bought = s.bought + quantity; paid = s.paid + money } → quantity ≡ t.quantity → money ≡ money_of t
    → made ≡ with_purchase s t
purchase_is s made t quantity money h e f = h ∙ (λ i. record s { bought = s.bought + e i; paid = s.paid + f i })

pub sale_is : (s made : MemberSums) (t : Trade) (quantity money : ℕ) → made ≡ record s { sold = s.sold + quantity; received = s.received + money } → quantity ≡ t.quantity → money ≡ money_of t
    → made ≡ with_sale s t
sale_is s made t quantity money h e f = h ∙ (λ i. record s { sold = s.sold + e i; received = s.received + f i })

own : (n m q : ℕ) → n ≡ m → ◌≡◌ {A = ℕ} (if n == m then q else 0) q
own n m q e = grind (arith, nat_tests)

other : (n m q : ℕ) → (m ≡ n → ⊥) → ◌≡◌ {A = ℕ} (if n == m then q else 0) 0
other n m q d = grind (arith, nat_tests)

module _ (who what : Trade → ℕ) (ts : List Trade) (t : Trade) where
  abbrev Of : ℕ → List Trade → ℕ
  Of member l = sum_by (λ u. if who u == member then what u else 0) l

  more : Of (who t) (ts ++ t ∷ []) ≡ Of (who t) ts + what t
  more = sum_by_push (λ u. if who u == who t then what u else 0) ts t ∙ ap (λ (n : ℕ). Of (who t) ts + n) (own (who t) (who t) (what t) refl)

  same : (member : ℕ) → (member ≡ who t → ⊥) → Of member (ts ++ t ∷ []) ≡ Of member ts
  same member d = omega (arith, sum_by_push (λ u. if who u == member then what u else 0) ts t, other (who t) member (what t) d)

module _ {X : Type 0} (f g : ℕ → X) (xs : List X) (at : ℕ) (x : X) where
  written_if : at < length xs → x ≡ g at → ((i : ℕ) (d : X) → i < length xs → get_or xs i d ≡ f i) → ((i : ℕ) → (i ≡ at → ⊥) → f i ≡ g i)
      → (i : ℕ) (d : X) → i < length xs → (b : Bool) → (i == at) ≡ b → get_or (set xs at x) i d ≡ g i
  written_if l e are kept i d m true h =
      let here = eqb-true i at h in
      get_or-set_at xs at i x d here l ∙ e ∙ ap g (sym here)
  written_if l e are kept i d m false h =
      let elsewhere = eqb-false i at h in
      get_or-set_other xs at i x d elsewhere ∙ are i d m ∙ kept i elsewhere

  -- where the one at a place becomes what it is to be, and the others are it already
  written : at < length xs → x ≡ g at → ((i : ℕ) (d : X) → i < length xs → get_or xs i d ≡ f i) → ((i : ℕ) → (i ≡ at → ⊥) → f i ≡ g i)
      → (i : ℕ) (d : X) → i < length (set xs at x) → get_or (set xs at x) i d ≡ g i
  written l e are kept i d m = written_if l e are kept i d (let s = length-set xs at x in omega arith) (i == at) refl

module _ (ts : List Trade) (t : Trade) where
  -- the sums with the purchase, but not the sale
  abbrev half : ℕ → MemberSums
  half member = record (sums_of member ts) { bought = bought member (ts ++ t ∷ []); paid = paid member (ts ++ t ∷ []) }

  abbrev whole : ℕ → MemberSums
  whole member = sums_of member (ts ++ t ∷ [])

  purchase_half : with_purchase (sums_of t.buyer ts) t ≡ half t.buyer
  purchase_half = λ i. record (sums_of t.buyer ts) { bought = sym (more (λ u. u.buyer) (λ u. u.quantity) ts t) i; paid = sym (more (λ u. u.buyer) money_of ts t) i }

  sale_whole : with_sale (half t.seller) t ≡ whole t.seller
  sale_whole = λ i. record (half t.seller) { sold = sym (more (λ u. u.seller) (λ u. u.quantity) ts t) i; received = sym (more (λ u. u.seller) money_of ts t) i }

  kept_half : (member : ℕ) → (member ≡ t.buyer → ⊥) → sums_of member ts ≡ half member
  kept_half member d =
      λ i. record (sums_of member ts) { bought = sym (same (λ u. u.buyer) (λ u. u.quantity) ts t member d) i; paid = sym (same (λ u. u.buyer) money_of ts t member d) i }

  kept_whole : (member : ℕ) → (member ≡ t.seller → ⊥) → half member ≡ whole member
  kept_whole member d =
      λ i. record (half member) { sold = sym (same (λ u. u.seller) (λ u. u.quantity) ts t member d) i; received = sym (same (λ u. u.seller) money_of ts t member d) i }

-- a trade may be recorded over these sums and trades
pub record MayRecord (sums : List MemberSums) (ts : List Trade) (t : Trade) : Type 0 where
  pub are : AreSums sums ts
  pub buyer : t.buyer < length sums
  pub seller : t.seller < length sums
  pub limits : AreWithinLimits (ts ++ t ∷ [])

pub may_record : (r : Recorded) (sums : List MemberSums) (ts : List Trade) (t : Trade) → record { members = length sums; trades = ts } ≡ r → AreSums sums ts
    → IsBetweenMembers r.members t → AreWithinLimits (r.trades ++ t ∷ []) → MayRecord sums ts t
may_record r sums ts t e are between limits = record {
  are = are;
  buyer = subst (λ (n : ℕ). t.buyer < n) (sym (ap (λ (x : Recorded). x.members) e)) between.buyer;
  seller = subst (λ (n : ℕ). t.seller < n) (sym (ap (λ (x : Recorded). x.members) e)) between.seller;
  limits = subst (λ (l : List Trade). AreWithinLimits (l ++ t ∷ [])) (sym (ap (λ (x : Recorded). x.trades) e)) limits;
}

module _ (sums : List MemberSums) (ts : List Trade) (t : Trade) (may : MayRecord sums ts t) (found : MemberSums) (finds : found ≡ slice_index_or sums t.buyer found) where
  is_half : with_purchase found t ≡ half ts t t.buyer
  is_half = ap (λ s. with_purchase s t) (finds ∙ may.are t.buyer found may.buyer) ∙ purchase_half ts t

  -- the purchase stays within the limits
  pub purchase_fits : (quantity money : ℕ) → quantity ≡ t.quantity → money ≡ money_of t → (found.bought + quantity ≤ MAX_TRADED_QUANTITY) × (found.paid + money ≤ MAX_TRADED_MONEY)
  purchase_fits quantity money e f =
      let small = sums_small t.buyer (ts ++ t ∷ []) may.limits in
      let b = ap (λ (s : MemberSums). s.bought) is_half in
      let p = ap (λ (s : MemberSums). s.paid) is_half in
      (omega (arith, small.bought), omega (arith, small.paid))

  module _ (buying : MemberSums) (buys : buying ≡ with_purchase found t) (found' : MemberSums) (finds' : found' ≡ slice_index_or (slice_set sums t.buyer buying) t.seller found') where
    halves : (member : ℕ) (d : MemberSums) → member < length (slice_set sums t.buyer buying) → slice_index_or (slice_set sums t.buyer buying) member d ≡ half ts t member
    halves = written (λ member. sums_of member ts) (half ts t) sums t.buyer buying may.buyer (buys ∙ is_half) may.are (kept_half ts t)

    still : t.seller < length (slice_set sums t.buyer buying)
    still = let l = length-set sums t.buyer buying in let s = may.seller in omega arith

    is_whole : with_sale found' t ≡ whole ts t t.seller
    is_whole = ap (λ s. with_sale s t) (finds' ∙ halves t.seller found' still) ∙ sale_whole ts t

    -- so does the sale
    pub sale_fits : (quantity money : ℕ) → quantity ≡ t.quantity → money ≡ money_of t → (found'.sold + quantity ≤ MAX_TRADED_QUANTITY) × (found'.received + money ≤ MAX_TRADED_MONEY)
    sale_fits quantity money e f =
        let small = sums_small t.seller (ts ++ t ∷ []) may.limits in
        let b = ap (λ (s : MemberSums). s.sold) is_whole in
        let p = ap (λ (s : MemberSums). s.received) is_whole in
        (omega (arith, small.sold), omega (arith, small.received))

    -- and both make the sums with the trade
    pub recorded_sums : (selling : MemberSums) → selling ≡ with_sale found' t → AreSums (slice_set (slice_set sums t.buyer buying) t.seller selling) (ts ++ t ∷ [])
    recorded_sums selling sells = written (half ts t) (whole ts t) (slice_set sums t.buyer buying) t.seller selling still (sells ∙ is_whole) halves (kept_whole ts t)

-- ---- the totals

pub quantity_more : (ts : List Trade) (t : Trade) → total_quantity (ts ++ t ∷ []) ≡ total_quantity ts + t.quantity
quantity_more ts t = sum_by_push (λ (u : Trade). u.quantity) ts t

pub money_more : (ts : List Trade) (t : Trade) → total_money (ts ++ t ∷ []) ≡ total_money ts + money_of t
money_more ts t = sum_by_push money_of ts t
