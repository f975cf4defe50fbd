-- Being ahead orders the active orders of a side strictly.
use Rattle.std.proofs.Common.{◌≡◌, ℕ, Bool, true, false, ◌&&◌, ◌||◌, not, refl, arith}
use Rattle.std.specs.Prelude.{nat_le, nat_lt}
use Rattle.std.proofs.lemmas.Bool.Decides.{nat_tests}
use Rattle.xm_rules.specs.Active.{Positioned}
use Rattle.xm_rules.specs.Priority.{is_better, is_ahead}
use Rattle.xm_rules.specs.declared.orders.OrderKind.{OrderKind}
use Rattle.xm_rules.specs.declared.orders.OrderKind.TheVariants.{Market, Limit}
use Rattle.xm_rules.specs.declared.orders.Side.{Side}
use Rattle.xm_rules.specs.declared.orders.Side.TheVariants.{Buy, Sell}

-- ahead by kind and position
abbrev pub precedes : Side → OrderKind → ℕ → OrderKind → ℕ → Bool
precedes side k m l n = is_better side k l || (not (is_better side l k) && nat_lt m n)

places_once : (m n : ℕ) → (nat_lt m n && nat_lt n m) ≡ false
places_once m n = grind (arith, nat_tests)

limits_once : (p q m n : ℕ) → ((not (nat_le p q) || (not (not (nat_le q p)) && nat_lt m n)) && (not (nat_le q p) || (not (not (nat_le p q)) && nat_lt n m))) ≡ false
limits_once p q m n = grind (arith, nat_tests)

pub precedes_once : (side : Side) (k : OrderKind) (m : ℕ) (l : OrderKind) (n : ℕ) → (precedes side k m l n && precedes side l n k m) ≡ false
precedes_once side Market m Market n = places_once m n
precedes_once side Market m (Limit q) n = refl
precedes_once side (Limit p) m Market n = refl
precedes_once Buy (Limit p) m (Limit q) n = limits_once p q m n
precedes_once Sell (Limit p) m (Limit q) n = limits_once q p m n

places_one : (m n : ℕ) → (m ≡ n → ⊥) → (nat_lt m n || nat_lt n m) ≡ true
places_one m n d = grind (arith, nat_tests)

limits_one : (p q m n : ℕ) → (m ≡ n → ⊥) → ((not (nat_le p q) || (not (not (nat_le q p)) && nat_lt m n)) || (not (nat_le q p) || (not (not (nat_le p q)) && nat_lt n m))) ≡ true
limits_one p q m n d = grind (arith, nat_tests)

pub precedes_one : (side : Side) (k : OrderKind) (m : ℕ) (l : OrderKind) (n : ℕ) → (m ≡ n → ⊥) → (precedes side k m l n || precedes side l n k m) ≡ true
precedes_one side Market m Market n d = places_one m n d
precedes_one side Market m (Limit q) n d = refl
precedes_one side (Limit p) m Market n d = refl
precedes_one Buy (Limit p) m (Limit q) n d = limits_one p q m n d
precedes_one Sell (Limit p) m (Limit q) n d = limits_one q p m n d

places_on : (m n o : ℕ) → nat_lt m n ≡ true → nat_lt n o ≡ true → nat_lt m o ≡ true
places_on m n o h i = grind (arith, nat_tests)

limits_on : (p q r m n o : ℕ) → (not (nat_le p q) || (not (not (nat_le q p)) && nat_lt m n)) ≡ true → (not (nat_le q r) || (not (not (nat_le r q)) && nat_lt n o)) ≡ true
    → (not (nat_le p r) || (not (not (nat_le r p)) && nat_lt m o)) ≡ true
limits_on p q r m n o h i = grind (arith, nat_tests)

-- the mirror of it
limits_on_sells : (p q r m n o : ℕ) → (not (nat_le q p) || (not (not (nat_le p q)) && nat_lt m n)) ≡ true → (not (nat_le r q) || (not (not (nat_le q r)) && nat_lt n o)) ≡ true
    → (not (nat_le r p) || (not (not (nat_le p r)) && nat_lt m o)) ≡ true
limits_on_sells p q r m n o h i = grind (arith, nat_tests)

pub precedes_on : (side : Side) (k : OrderKind) (m : ℕ) (l : OrderKind) (n : ℕ) (j : OrderKind) (o : ℕ)
    → precedes side k m l n ≡ true → precedes side l n j o ≡ true → precedes side k m j o ≡ true
precedes_on side Market m Market n Market o h i = places_on m n o h i
precedes_on side Market m l n (Limit r) o h i = refl
precedes_on side Market m (Limit q) n Market o h i = absurd (cc)
precedes_on side (Limit p) m Market n j o h i = absurd (cc)
precedes_on side (Limit p) m (Limit q) n Market o h i = absurd (cc)
precedes_on Buy (Limit p) m (Limit q) n (Limit r) o h i = limits_on p q r m n o h i
precedes_on Sell (Limit p) m (Limit q) n (Limit r) o h i = limits_on_sells p q r m n o h i

-- two orders of a side are never ahead of each other
pub ahead_once : (side : Side) (i j : Positioned) → (is_ahead side i j && is_ahead side j i) ≡ false
ahead_once side i j = precedes_once side i.order.kind i.position j.order.kind j.position

not_twice : (b : Bool) → (b && b) ≡ false → b ≡ false
not_twice true e = e
not_twice false e = refl

pub not_ahead_of_itself : (side : Side) (i : Positioned) → is_ahead side i i ≡ false
not_ahead_of_itself side i = not_twice (is_ahead side i i) (ahead_once side i i)

-- of two at different places one is ahead
pub ahead_one : (side : Side) (i j : Positioned) → (i.position ≡ j.position → ⊥) → (is_ahead side i j || is_ahead side j i) ≡ true
ahead_one side i j d = precedes_one side i.order.kind i.position j.order.kind j.position d

-- what is ahead of one that is ahead is ahead
pub ahead_on : (side : Side) (i j k : Positioned) → is_ahead side i j ≡ true → is_ahead side j k ≡ true → is_ahead side i k ≡ true
ahead_on side i j k h l = precedes_on side i.order.kind i.position j.order.kind j.position k.order.kind k.position h l
