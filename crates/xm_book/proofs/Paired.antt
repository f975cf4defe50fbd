-- The orders of a list with their times and their places, which rise together.
use Rattle.xm_book.specs.Listing.{order_owner, order_reference}
use Rattle.xm_slots.specs.Naming.{have_own_names}
use Rattle.std.proofs.Common.{◌≡◌, ℕ, ◌+◌, ◌<◌, ◌≤◌, Bool, true, false, ◌&&◌, ◌||◌, not, ◌==◌, List, [], ◌∷◌, map, Contains, refl, sym, ap, subst, ◌∙◌, ◌⊎◌, inl, inr, arith}
use Rattle.std.specs.List.{list_any}
use Rattle.std.specs.Prelude.{nat_le, nat_lt}
use Rattle.std.proofs.lemmas.Bool.{and_parts, leb-true, lt-ltb, le-ltb, not-true}
use Rattle.std.proofs.lemmas.Bool.Decides.{nat_tests}
use Rattle.xm_book.specs.Fronts.{goes_ahead}
use Rattle.xm_slots.specs.Listing.{listed_item, rises}
use Rattle.xm_slots.specs.declared.listing.Listed.{Listed}
use Rattle.xm_rules.specs.Active.{Positioned, positioned_from}
use Rattle.xm_rules.specs.Orders.{is_named}
use Rattle.xm_rules.specs.Priority.{is_better, is_ahead}
use Rattle.xm_rules.specs.declared.orders.Side.{Side}
use Rattle.xm_rules.proofs.Ahead.{ahead_one}
use Rattle.xm_slots.proofs.Members.{Contains-cases, Contains-none, Contains-map, IsMade-map, list_any-false}
use Rattle.xm_rules.specs.declared.orders.Order.{Order}

pub record Paired : Type 0 where
  pub position : ℕ
  pub listed : Listed Order

abbrev pub paired : ℕ → List (Listed Order) → List Paired
paired position [] = []
paired position (x ∷ xs) = record { position = position; listed = x } ∷ paired (position + 1) xs

abbrev pub placed_of : Paired → Positioned
placed_of z = record { position = z.position; order = z.listed.item }

pub placed_paired : (position : ℕ) (xs : List (Listed Order)) → positioned_from position (map listed_item xs) ≡ map placed_of (paired position xs)
placed_paired position [] = refl
placed_paired position (x ∷ xs) = ap (λ (l : List Positioned). record { position = position; order = x.item } ∷ l) (placed_paired (position + 1) xs)

-- places and times are no lower than those that the list begins with
record NoLower (start low : ℕ) (z : Paired) : Type 0 where
  pub position : start ≤ z.position
  pub time : low ≤ z.listed.time

no_lower_by : (position low : ℕ) (x : Listed Order) (xs : List (Listed Order)) (z : Paired) → nat_le low x.time ≡ true → (Contains (paired (position + 1) xs) z → NoLower (position + 1) (x.time + 1) z)
    → (record { position = position; listed = x } ≡ z) ⊎ Contains (paired (position + 1) xs) z → NoLower position low z
no_lower_by position low x xs z h rest (inl same) =
    let first = leb-true low x.time h in
    subst (NoLower position low) same (record { position = omega arith; time = first })
no_lower_by position low x xs z h rest (inr later) =
    let first = leb-true low x.time h in
    let bounds = rest later in
    record { position = (let b = bounds.position in omega arith); time = (let b = bounds.time in omega arith) }

no_lower : (position low : ℕ) (xs : List (Listed Order)) (high : ℕ) (z : Paired) → rises low xs high ≡ true → Contains (paired position xs) z → NoLower position low z
no_lower position low [] high z h at = absurd (Contains-none z at)
no_lower position low (x ∷ xs) high z h at =
    let parts = and_parts (nat_le low x.time) (rises (x.time + 1) xs high) h in
    no_lower_by position low x xs z parts.0 (λ i. no_lower (position + 1) (x.time + 1) xs high z parts.1 i)
    (Contains-cases (record { position = position; listed = x }) (paired (position + 1) xs) z at)

-- one is earlier than another by position and by time
pub record Earlier (z w : Paired) : Type 0 where
  pub position : z.position < w.position
  pub time : z.listed.time < w.listed.time

abbrev pub Apart : Paired → Paired → Type 0
Apart z w = (z ≡ w) ⊎ (Earlier z w ⊎ Earlier w z)

first_earlier : (position : ℕ) (x : Listed Order) (z w : Paired) → record { position = position; listed = x } ≡ z → NoLower (position + 1) (x.time + 1) w → Earlier z w
first_earlier position x z w same bounds =
    subst (λ (v : Paired). Earlier v w) same (record { position = (let b = bounds.position in omega arith); time = (let b = bounds.time in omega arith) })

apart_by : (position low : ℕ) (x : Listed Order) (xs : List (Listed Order)) (z w : Paired)
    → (Contains (paired (position + 1) xs) z → NoLower (position + 1) (x.time + 1) z) → (Contains (paired (position + 1) xs) w → NoLower (position + 1) (x.time + 1) w)
    → (Contains (paired (position + 1) xs) z → Contains (paired (position + 1) xs) w → Apart z w)
    → (record { position = position; listed = x } ≡ z) ⊎ Contains (paired (position + 1) xs) z → (record { position = position; listed = x } ≡ w) ⊎ Contains (paired (position + 1) xs) w → Apart z w
apart_by position low x xs z w z_bounds w_bounds rest (inl a) (inl b) = inl (sym a ∙ b)
apart_by position low x xs z w z_bounds w_bounds rest (inl a) (inr j) = inr (inl (first_earlier position x z w a (w_bounds j)))
apart_by position low x xs z w z_bounds w_bounds rest (inr i) (inl b) = inr (inr (first_earlier position x w z b (z_bounds i)))
apart_by position low x xs z w z_bounds w_bounds rest (inr i) (inr j) = rest i j

pub apart : (position low : ℕ) (xs : List (Listed Order)) (high : ℕ) (z w : Paired) → rises low xs high ≡ true → Contains (paired position xs) z → Contains (paired position xs) w → Apart z w
apart position low [] high z w h i j = absurd (Contains-none z i)
apart position low (x ∷ xs) high z w h i j =
    let parts = and_parts (nat_le low x.time) (rises (x.time + 1) xs high) h in
    apart_by position low x xs z w (λ at. no_lower (position + 1) (x.time + 1) xs high z parts.1 at) (λ at. no_lower (position + 1) (x.time + 1) xs high w parts.1 at)
    (λ a b. apart (position + 1) (x.time + 1) xs high z w parts.1 a b)
    (Contains-cases (record { position = position; listed = x }) (paired (position + 1) xs) z i) (Contains-cases (record { position = position; listed = x }) (paired (position + 1) xs) w j)

not_before_itself : (m n : ℕ) → m ≡ n → nat_lt m n ≡ false
not_before_itself m n e = le-ltb m n (omega arith)

-- places and times put two orders in the same order
same_order : (z w : Paired) → Apart z w → nat_lt z.listed.time w.listed.time ≡ nat_lt z.position w.position
same_order z w (inl e) =
    not_before_itself z.listed.time w.listed.time (ap (λ (v : Paired). v.listed.time) e) ∙ sym (not_before_itself z.position w.position (ap (λ (v : Paired). v.position) e))
same_order z w (inr (inl e)) = lt-ltb z.listed.time w.listed.time e.time ∙ sym (lt-ltb z.position w.position e.position)
same_order z w (inr (inr e)) =
    le-ltb z.listed.time w.listed.time (let h = e.time in omega arith) ∙ sym (le-ltb z.position w.position (let h = e.position in omega arith))

-- so two are in the same order of priority by either
pub same_priority : (side : Side) (z w : Paired) → Apart z w → goes_ahead side z.listed w.listed ≡ is_ahead side (placed_of z) (placed_of w)
same_priority side z w a =
    ap (λ (b : Bool). is_better side z.listed.item.kind w.listed.item.kind || (not (is_better side w.listed.item.kind z.listed.item.kind) && b)) (same_order z w a)

neither : (a b : Bool) → (a || b) ≡ true → a ≡ false → b ≡ false → ⊥
neither true b h i j = cc
neither false b h i j = cc

-- of two different ones one is ahead
pub same_if_neither : (side : Side) (z w : Paired) → Apart z w → is_ahead side (placed_of z) (placed_of w) ≡ false → is_ahead side (placed_of w) (placed_of z) ≡ false → w ≡ z
same_if_neither side z w (inl e) i j = sym e
same_if_neither side z w (inr (inl e)) i j =
    absurd (neither (is_ahead side (placed_of z) (placed_of w)) (is_ahead side (placed_of w) (placed_of z))
    (ahead_one side (placed_of z) (placed_of w) (λ same. let h = e.position in omega arith)) i j)
same_if_neither side z w (inr (inr e)) i j =
    absurd (neither (is_ahead side (placed_of z) (placed_of w)) (is_ahead side (placed_of w) (placed_of z))
    (ahead_one side (placed_of z) (placed_of w) (λ same. let h = e.position in omega arith)) i j)

-- what is in the list
listed_paired : (position : ℕ) (xs : List (Listed Order)) → map (λ (z : Paired). z.listed) (paired position xs) ≡ xs
listed_paired position [] = refl
listed_paired position (x ∷ xs) = ap (λ (l : List (Listed Order)). x ∷ l) (listed_paired (position + 1) xs)

pub contains_listed : (position : ℕ) (xs : List (Listed Order)) (z : Paired) → Contains (paired position xs) z → Contains xs z.listed
contains_listed position xs z at =
    subst (λ (l : List (Listed Order)). Contains l z.listed) (listed_paired position xs) (Contains-map (λ (w : Paired). w.listed) (paired position xs) z at)

pub record IsPaired (position : ℕ) (xs : List (Listed Order)) (x : Listed Order) : Type 0 where
  pub pair : Paired
  pub contains : Contains (paired position xs) pair
  pub listed : pair.listed ≡ x

pub is_paired : (position : ℕ) (xs : List (Listed Order)) (x : Listed Order) → Contains xs x → IsPaired position xs x
is_paired position xs x at =
    let made = IsMade-map (λ (z : Paired). z.listed) (paired position xs) x (subst (λ (l : List (Listed Order)). Contains l x) (sym (listed_paired position xs)) at) in
    record { pair = made.from; contains = made.contains; listed = made.made }

named_back : (m r n s : ℕ) → (m == n && r == s) ≡ true → (n == m && s == r) ≡ true
named_back m r n s h = grind (arith, nat_tests)

not_named : (position : ℕ) (x : Listed Order) (xs : List (Listed Order)) (z : Paired) → not (list_any (is_named x.item.member x.item.reference) (map listed_item xs)) ≡ true
    → Contains (paired position xs) z → is_named x.item.member x.item.reference z.listed.item ≡ false
not_named position x xs z h at =
    list_any-false (is_named x.item.member x.item.reference) (map listed_item xs) z.listed.item
    (not-true (list_any (is_named x.item.member x.item.reference) (map listed_item xs)) h) (Contains-map listed_item xs z.listed (contains_listed position xs z at))

one_name_by : (position : ℕ) (x : Listed Order) (xs : List (Listed Order)) (z w : Paired) → not (list_any (is_named x.item.member x.item.reference) (map listed_item xs)) ≡ true
    → (Contains (paired (position + 1) xs) z → Contains (paired (position + 1) xs) w → w ≡ z)
    → (record { position = position; listed = x } ≡ z) ⊎ Contains (paired (position + 1) xs) z → (record { position = position; listed = x } ≡ w) ⊎ Contains (paired (position + 1) xs) w
    → is_named z.listed.item.member z.listed.item.reference w.listed.item ≡ true → w ≡ z
one_name_by position x xs z w h rest (inl a) (inl b) named = sym b ∙ a
one_name_by position x xs z w h rest (inl a) (inr j) named =
    let other = subst (λ (v : Paired). is_named v.listed.item.member v.listed.item.reference w.listed.item ≡ false) a (not_named (position + 1) x xs w h j) in
    absurd (cc)
one_name_by position x xs z w h rest (inr i) (inl b) named =
    let other = subst (λ (v : Paired). is_named v.listed.item.member v.listed.item.reference z.listed.item ≡ false) b (not_named (position + 1) x xs z h i) in
    let back = named_back w.listed.item.member w.listed.item.reference z.listed.item.member z.listed.item.reference named in
    absurd (cc)
one_name_by position x xs z w h rest (inr i) (inr j) named = rest i j

-- where orders have names of their own, one of the same name is the same
pub one_name : (position : ℕ) (xs : List (Listed Order)) (z w : Paired) → have_own_names order_owner order_reference (map listed_item xs) ≡ true → Contains (paired position xs) z → Contains (paired position xs) w
    → is_named z.listed.item.member z.listed.item.reference w.listed.item ≡ true → w ≡ z
one_name position [] z w h i j named = absurd (Contains-none z i)
one_name position (x ∷ xs) z w h i j named =
    let parts = and_parts (not (list_any (is_named x.item.member x.item.reference) (map listed_item xs))) (have_own_names order_owner order_reference (map listed_item xs)) h in
    one_name_by position x xs z w parts.0 (λ a b. one_name (position + 1) xs z w parts.1 a b named)
    (Contains-cases (record { position = position; listed = x }) (paired (position + 1) xs) z i) (Contains-cases (record { position = position; listed = x }) (paired (position + 1) xs) w j) named
