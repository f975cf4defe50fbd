-- What the level of one restriction answers of the orders that stand in it: its units, its earliest order, and which limits
-- have a level.
use Rattle.std.proofs.Common.{◌≡◌, ℕ, ◌+◌, ◌*◌, ◌<◌, ◌≤◌, ◌==◌, Bool, true, false, ◌&&◌, not, if◌then◌else◌, List, [], ◌∷◌, length, get_or, filter, Contains, Option, Some, None, IfNone, IfSome, refl, sym, ap, ◌∙◌, subst, ◌⊎◌, inl, inr, arith}
use Rattle.std.specs.List.{All}
use Rattle.std.specs.Prelude.{nat_le, slice_get}
use Rattle.std.proofs.lemmas.Bool.{and_parts, and_from, false≢true, false_from_ne_true, leb-true, le-ltb, not-true}
use Rattle.std.proofs.lemmas.Bool.Decides.{nat_tests}
use Rattle.std.proofs.lemmas.List.Elements.{All-contains, Contains-get_or}
use Rattle.xm_book.specs.Fronts.{IsBestOf, IsFirst, IsFirstOf, has_kind, has_limit_in, has_worse, is_earlier, is_in, is_kind_within, is_worse, lies_within}
use Rattle.xm_slots.specs.Listing.{keys_in, listed_entry, rises, LiesAt}
use Rattle.xm_book.specs.Queued.{HoldsLevel, IsLevelOf, AreOrdersQueued, is_of_level, orders_of_level, units_in}
use Rattle.xm_slots.specs.Slots.{SlotsView, get}
use Rattle.xm_slots.specs.declared.entry.Entry.{Entry}
use Rattle.xm_slots.specs.declared.listing.Listed.{Listed}
use Rattle.xm_book.proofs.Joining.{kind-is, units-few}
use Rattle.xm_book.proofs.LevelSums.{is_of_range}
use Rattle.xm_slots.proofs.Tests.{length-kept, same_some}
use Rattle.xm_slots.proofs.Members.{Contains-cases, Contains-filter, Contains-here, Contains-none, IsMade-map, Passes-filter, filter_none}
use Rattle.xm_book.proofs.Sameness.{left-true, right-true}
use Rattle.xm_ladders.specs.Ladder.{HasOrder, IsBestLimit, IsNextLimit, IsWorstWithin, is_within, limit_level}
use Rattle.xm_ladders.specs.Ladders.{ladder_on, level_on, side_of}
use Rattle.xm_ladders.specs.declared.ladders.Ladders.{Ladders}
use Rattle.xm_ladders.specs.declared.level.Level.{Level}
use Rattle.xm_queues.specs.Queue.{IsQueue}
use Rattle.xm_queues.specs.declared.links.Link.{Link}
use Rattle.xm_rules.specs.Active.{is_active}
use Rattle.xm_rules.specs.Orders.{same_kind, same_restriction}
use Rattle.xm_rules.specs.Priority.{is_better}
use Rattle.xm_rules.specs.Sides.{opposite, reaches, same_side}
use Rattle.xm_rules.specs.declared.orders.OrderKind.{OrderKind}
use Rattle.xm_rules.specs.declared.orders.OrderKind.TheVariants.{Market, Limit}
use Rattle.xm_rules.specs.declared.orders.Restriction.{Restriction}
use Rattle.xm_rules.specs.declared.orders.Side.{Side}
use Rattle.xm_rules.specs.declared.phases.Phase.{Phase}
use Rattle.xm_rules.specs.declared.orders.Order.{Order}
use Rattle.xm_ticks.specs.declared.numbers.TheConstants.{MAX_QUANTITY}
use Rattle.xm_book.specs.declared.places.TheConstants.{MAX_PLACES}

-- ---- the orders of a level
no_order : (ms : List (Listed Order)) → length ms ≡ 0 → ms ≡ []
no_order [] e = refl
no_order (m ∷ ms) e = absurd (omega arith)

some_order : (ms : List (Listed Order)) → 0 < length ms → (x : Listed Order) × Contains ms x
some_order [] h = absurd (omega arith)
some_order (m ∷ ms) h = (m, Contains-here m ms)

-- a level that has an order has one of the list
pub order-of : (links : List Link) (o : Option Level) (ms : List (Listed Order)) → HoldsLevel links o ms → HasOrder o → (x : Listed Order) × Contains ms x
order-of links None ms holds has = absurd (false≢true has.0)
order-of links (Some level) ms holds has = some_order ms (let l : 0 < level.orders = has.1 in let n = holds.orders in omega arith)

pub none-of : (links : List Link) (o : Option Level) (ms : List (Listed Order)) → HoldsLevel links o ms → o ≡ None → ms ≡ []
none-of links None ms holds e = holds
none-of links (Some level) ms holds e = absurd (cc)

pub level-of : (links : List Link) (o : Option Level) (level : Level) (ms : List (Listed Order)) → HoldsLevel links o ms → o ≡ Some level → IsLevelOf links level ms
level-of links o level ms holds e = subst (λ (p : Option Level). HoldsLevel links p ms) e holds

limit-itself : (q : ℕ) → (q == q) ≡ true
limit-itself q = grind (arith, nat_tests)

-- ---- where a restriction isn't active, none of its orders is asked
pub none-active : (phase : Phase) (side : Side) (r : Restriction) (test : Listed Order → Bool) → is_active phase r ≡ false → (x : Listed Order) → is_in phase side r test x ≡ false
none-active phase side r test e x = (λ i. e i && (same_side side x.item.side && (same_restriction r x.item.restriction && test x)))

-- and where it is, they are those of its level
pub all-active : (phase : Phase) (side : Side) (r : Restriction) (k : OrderKind) (xs : List (Listed Order)) → is_active phase r ≡ true → filter (is_in phase side r (has_kind k)) xs ≡ orders_of_level side r k xs
all-active phase side r k xs e = (λ i. filter (λ x. e i && is_of_level side r k x) xs)

pub range-active : (phase : Phase) (side : Side) (r : Restriction) (low n : ℕ) (xs : List (Listed Order)) → is_active phase r ≡ true → filter (is_in phase side r (has_limit_in low n)) xs ≡ filter (is_of_range side r low n) xs
range-active phase side r low n xs e = (λ i. filter (λ x. e i && is_of_range side r low n x) xs)

-- ---- units
pub units-inactive : (phase : Phase) (side : Side) (r : Restriction) (test : Listed Order → Bool) (xs : List (Listed Order)) → is_active phase r ≡ false → units_in (filter (is_in phase side r test) xs) ≡ 0
units-inactive phase side r test xs e = ap units_in (filter_none (is_in phase side r test) xs (λ x c. none-active phase side r test e x))

small-kept : (p : Listed Order → Bool) (xs : List (Listed Order)) → All (λ (x : Listed Order). x.item.rest ≤ MAX_QUANTITY) xs → All (λ (x : Listed Order). x.item.rest ≤ MAX_QUANTITY) (filter p xs)
small-kept p xs h = λ i d lt. (let at = Passes-filter p xs (get_or (filter p xs) i d) (Contains-get_or (filter p xs) i d lt) in All-contains (λ (x : Listed Order). x.item.rest ≤ MAX_QUANTITY) xs (get_or (filter p xs) i d) h at.contains)

pub units-bound : (p : Listed Order → Bool) (xs : List (Listed Order)) → All (λ (x : Listed Order). x.item.rest ≤ MAX_QUANTITY) xs → length xs ≤ MAX_PLACES → units_in (filter p xs) ≤ MAX_QUANTITY * MAX_PLACES
units-bound p xs h few =
    let most = units-few (filter p xs) (small-kept p xs h) in
    let long = length-kept p xs in
    omega (arith, most, long, few)

-- ---- times rise
pub rises-low : (low : ℕ) (xs : List (Listed Order)) (high : ℕ) (y : Listed Order) → rises low xs high ≡ true → Contains xs y → low ≤ y.time
rises-low low [] high y h c = absurd (Contains-none y c)
rises-low low (x ∷ xs) high y h c =
    low_by (λ d. rises-low (x.time + 1) xs high y (right-true (nat_le low x.time) (rises (x.time + 1) xs high) h) d) (Contains-cases x xs y c)
  where
    low_by : (Contains xs y → x.time + 1 ≤ y.time) → (x ≡ y) ⊎ Contains xs y → low ≤ y.time
    low_by rest (inl same) = subst (λ (z : Listed Order). low ≤ z.time) same (leb-true low x.time (left-true (nat_le low x.time) (rises (x.time + 1) xs high) h))
    low_by rest (inr later) =
        let a = rest later in
        let b = leb-true low x.time (left-true (nat_le low x.time) (rises (x.time + 1) xs high) h) in
        omega arith

lower_test : (l m n : ℕ) → l ≤ m → nat_le m n ≡ true → nat_le l n ≡ true
lower_test l m n le h = grind (arith, nat_tests)

pub rises-lower : (l m : ℕ) (ys : List (Listed Order)) (high : ℕ) → l ≤ m → rises m ys high ≡ true → rises l ys high ≡ true
rises-lower l m [] high le h = lower_test l m high le h
rises-lower l m (y ∷ ys) high le h =
    (λ i. lower_test l m y.time le (left-true (nat_le m y.time) (rises (y.time + 1) ys high) h) i && right-true (nat_le m y.time) (rises (y.time + 1) ys high) h i)

pub rises-kept : (p : Listed Order → Bool) (low : ℕ) (xs : List (Listed Order)) (high : ℕ) → rises low xs high ≡ true → rises low (filter p xs) high ≡ true
rises-kept p low [] high h = h
rises-kept p low (x ∷ xs) high h =
    let at = left-true (nat_le low x.time) (rises (x.time + 1) xs high) h in
    kept_if (p x) at (leb-true low x.time at) (rises-kept p (x.time + 1) xs high (right-true (nat_le low x.time) (rises (x.time + 1) xs high) h))
  where
    kept_if : (b : Bool) → nat_le low x.time ≡ true → low ≤ x.time → rises (x.time + 1) (filter p xs) high ≡ true → rises low (if b then x ∷ filter p xs else filter p xs) high ≡ true
    kept_if true at le rest = (λ i. at i && rest i)
    kept_if false at le rest = rises-lower low (x.time + 1) (filter p xs) high (omega arith) rest

-- the first of a list whose times rise is the earliest
pub earliest-head : (low : ℕ) (m : Listed Order) (ms : List (Listed Order)) (high : ℕ) (y : Listed Order) → rises low (m ∷ ms) high ≡ true → Contains (m ∷ ms) y → is_earlier y m ≡ false
earliest-head low m ms high y h c = le-ltb y.time m.time (late_by (Contains-cases m ms y c))
  where
    late_by : (m ≡ y) ⊎ Contains ms y → m.time ≤ y.time
    late_by (inl same) = subst (λ (z : Listed Order). m.time ≤ z.time) same (omega arith)
    late_by (inr later) = let l = rises-low (m.time + 1) ms high y (right-true (nat_le low m.time) (rises (m.time + 1) ms high) h) later in omega arith

module _ {A : Type 0} (xs : List (Listed Order)) (entries : SlotsView Order) (links : List Link) (ladders : Ladders A) (h : AreOrdersQueued xs entries links ladders)
    (phase : Phase) (side : Side) (r : Restriction) where
  -- an order of a level is one of the list
  pub in-list : (k : OrderKind) (x : Listed Order) → Contains (orders_of_level side r k xs) x → Contains xs x × (is_of_level side r k x ≡ true)
  in-list k x c = let p = Passes-filter (is_of_level side r k) xs x c in (p.contains, p.passes)

  -- ---- the front of a level
  module _ (k : OrderKind) (adds : ℕ) (rise : rises 0 xs adds ≡ true) (active : is_active phase r ≡ true) where
    none-stands : orders_of_level side r k xs ≡ [] → (x : Listed Order) → Contains xs x → is_in phase side r (has_kind k) x ≡ false
    none-stands e x c =
        false_from_ne_true (is_in phase side r (has_kind k) x)
        (λ t. Contains-none x (subst (λ (ys : List (Listed Order)). Contains ys x) e
        (Contains-filter (is_of_level side r k) xs x (right-true (is_active phase r) (is_of_level side r k x) t) c)))

    pub front-none : level_on (side_of side ladders) r k ≡ None → (x : Listed Order) → Contains xs x → is_in phase side r (has_kind k) x ≡ false
    front-none e = none-stands (none-of links (level_on (side_of side ladders) r k) (orders_of_level side r k xs) (h.levels side r k) e)

    front-by : (ms : List (Listed Order)) → orders_of_level side r k xs ≡ ms → (o : Option (Entry Order)) (key : Option ℕ) → key ≡ slice_get (keys_in ms) 0
        → ((n : ℕ) → key ≡ Some n → o ≡ get entries n) → (key ≡ None → o ≡ None) → IsFirstOf is_earlier (is_in phase side r (has_kind k)) xs o
    front-by [] e o key first some none = subst (λ (p : Option (Entry Order)). IsFirstOf is_earlier (is_in phase side r (has_kind k)) xs p) (sym (none first)) (none-stands e)
    front-by (m ∷ ms) e o key first some none =
        let at = in-list k m (subst (λ (ys : List (Listed Order)). Contains ys m) (sym e) (Contains-here m ms)) in
        let lies = All-contains (LiesAt entries) xs m h.lie at.0 in
        let rising : rises 0 (m ∷ ms) adds ≡ true = ap (λ (ys : List (Listed Order)). rises 0 ys adds) (sym e) ∙ rises-kept (is_of_level side r k) 0 xs adds rise in
        let earliest : IsFirst is_earlier (is_in phase side r (has_kind k)) xs m = record {
          contained = at.0;
          passing = and_from (is_active phase r) (is_of_level side r k m) active at.1;
          none = λ y c t. earliest-head 0 m ms adds y rising
              (subst (λ (ys : List (Listed Order)). Contains ys y) e (Contains-filter (is_of_level side r k) xs y (right-true (is_active phase r) (is_of_level side r k y) t) c));
        } in
        subst (λ (p : Option (Entry Order)). IsFirstOf is_earlier (is_in phase side r (has_kind k)) xs p) (sym (some m.key first ∙ lies)) (m, refl, earliest)

    -- the entry of the front of a level is its earliest
    pub front-some : (level : Level) → level_on (side_of side ladders) r k ≡ Some level → (o : Option (Entry Order)) (key : Option ℕ)
        → ((links : List Link) (keys : List ℕ) → IsQueue links level.ends keys → key ≡ slice_get keys 0)
        → ((n : ℕ) → key ≡ Some n → o ≡ get entries n) → (key ≡ None → o ≡ None) → IsFirstOf is_earlier (is_in phase side r (has_kind k)) xs o
    front-some level e o key first some none =
        let is = level-of links (level_on (side_of side ladders) r k) level (orders_of_level side r k xs) (h.levels side r k) e in
        front-by (orders_of_level side r k xs) refl o key (first links (keys_in (orders_of_level side r k xs)) is.queue) some none

  -- ---- the limits that have a level, of which those that pass are looked for
  module _ (toward : Side) (passes : OrderKind → Bool) (limited : passes Market ≡ false) where
    abbrev stands : Listed Order → Bool
    stands = is_in phase side r (λ (x : Listed Order). passes x.item.kind)

    at-limit : (y : Listed Order) (k : OrderKind) → y.item.kind ≡ k → stands y ≡ true → (q : ℕ) × (y.item.kind ≡ Limit q) × (passes (Limit q) ≡ true) × (is_of_level side r (Limit q) y ≡ true)
    at-limit y k e t =
        let rest = right-true (is_active phase r) (same_side side y.item.side && (same_restriction r y.item.restriction && passes y.item.kind)) t in
        let own = left-true (same_side side y.item.side) (same_restriction r y.item.restriction && passes y.item.kind) rest in
        let more = right-true (same_side side y.item.side) (same_restriction r y.item.restriction && passes y.item.kind) rest in
        let of = left-true (same_restriction r y.item.restriction) (passes y.item.kind) more in
        let pass = right-true (same_restriction r y.item.restriction) (passes y.item.kind) more in
        limit_by k e own of (sym (ap passes e) ∙ pass)
      where
        limit_by : (k : OrderKind) → y.item.kind ≡ k → same_side side y.item.side ≡ true → same_restriction r y.item.restriction ≡ true → passes k ≡ true
            → (q : ℕ) × (y.item.kind ≡ Limit q) × (passes (Limit q) ≡ true) × (is_of_level side r (Limit q) y ≡ true)
        limit_by Market e own of pass = absurd (false≢true (sym limited ∙ pass))
        limit_by (Limit q) e own of pass = (
          q,
          e,
          pass,
          and_from (same_side side y.item.side) (same_restriction r y.item.restriction && same_kind (Limit q) y.item.kind) own
              (and_from (same_restriction r y.item.restriction) (same_kind (Limit q) y.item.kind) of (ap (same_kind (Limit q)) e ∙ limit-itself q)),
        )

    no-level : (q : ℕ) (y : Listed Order) → Contains xs y → is_of_level side r (Limit q) y ≡ true → limit_level (ladder_on r (side_of side ladders)) q ≡ None → ⊥
    no-level q y c t e =
        Contains-none y (subst (λ (ys : List (Listed Order)). Contains ys y)
        (none-of links (level_on (side_of side ladders) r (Limit q)) (orders_of_level side r (Limit q) xs) (h.levels side r (Limit q)) e)
        (Contains-filter (is_of_level side r (Limit q)) xs y t c))

    limit-none : ((q : ℕ) → passes (Limit q) ≡ true → limit_level (ladder_on r (side_of side ladders)) q ≡ None) → (y : Listed Order) → Contains xs y → stands y ≡ false
    limit-none none y c =
        false_from_ne_true (stands y) (λ t. let at = at-limit y y.item.kind refl t in no-level at.0 y c at.3 (none at.0 at.2))

    limit-some : is_active phase r ≡ true → (p : ℕ) → HasOrder (limit_level (ladder_on r (side_of side ladders)) p) → passes (Limit p) ≡ true
        → ((q : ℕ) → passes (Limit q) ≡ true → reaches toward p q ≡ false → limit_level (ladder_on r (side_of side ladders)) q ≡ None)
        → IsBestOf toward stands xs (Some p)
    limit-some active p there pass best =
        let found = order-of links (level_on (side_of side ladders) r (Limit p)) (orders_of_level side r (Limit p) xs) (h.levels side r (Limit p)) there in
        let x = found.0 in
        let at = in-list (Limit p) x found.1 in
        let parts = and_parts (same_side side x.item.side) (same_restriction r x.item.restriction && same_kind (Limit p) x.item.kind) at.1 in
        let more = and_parts (same_restriction r x.item.restriction) (same_kind (Limit p) x.item.kind) parts.1 in
        let kind : x.item.kind ≡ Limit p = sym (kind-is (Limit p) x.item.kind more.1) in (
          x,
          kind,
          record {
            contained = at.0;
            passing = and_from (is_active phase r) (same_side side x.item.side && (same_restriction r x.item.restriction && passes x.item.kind)) active
                (and_from (same_side side x.item.side) (same_restriction r x.item.restriction && passes x.item.kind) parts.0
                (and_from (same_restriction r x.item.restriction) (passes x.item.kind) more.0 (ap passes kind ∙ pass)));
            none = λ y c t. let z = at-limit y y.item.kind refl t in
                (λ i. is_better toward (z.1 i) (kind i))
                ∙ false_from_ne_true (not (reaches toward p z.0)) (λ b. no-level z.0 y c z.3 (best z.0 z.2 (not-true (reaches toward p z.0) b)));
          },
        )

  -- the best limit of a ladder, and the best that is worse than another
  pub limit-best : is_active phase r ≡ true → (o : Option ℕ) → IfSome o (IsBestLimit side (ladder_on r (side_of side ladders)))
      → IfNone o ((p : ℕ) → limit_level (ladder_on r (side_of side ladders)) p ≡ None) → IsBestOf side (is_in phase side r (has_worse side None)) xs o
  limit-best active None some none = limit-none side (is_worse side None) refl (λ q w. none q)
  limit-best active (Some p) some none = limit-some side (is_worse side None) refl active p some.there refl (λ q w. some.best q)

  pub limit-next : is_active phase r ≡ true → (a : ℕ) (o : Option ℕ) → IfSome o (IsNextLimit side a (ladder_on r (side_of side ladders)))
      → IfNone o ((p : ℕ) → reaches side p a ≡ false → limit_level (ladder_on r (side_of side ladders)) p ≡ None) → IsBestOf side (is_in phase side r (has_worse side (Some a))) xs o
  limit-next active a None some none = limit-none side (is_worse side (Some a)) refl (λ q w. none q (not-true (reaches side q a) w))
  limit-next active a (Some p) some none = limit-some side (is_worse side (Some a)) refl active p some.there (ap not some.worse) (λ q w. some.best q (not-true (reaches side q a) w))

  -- the worst that lies within a bound
  pub limit-worst : is_active phase r ≡ true → (bound : ℕ) (o : Option ℕ) → IfSome o (IsWorstWithin side bound (ladder_on r (side_of side ladders)))
      → IfNone o ((p : ℕ) → is_within side bound p ≡ true → limit_level (ladder_on r (side_of side ladders)) p ≡ None)
      → IsBestOf (opposite side) (is_in phase side r (lies_within side bound)) xs o
  limit-worst active bound None some none = limit-none (opposite side) (is_kind_within side bound) refl none
  limit-worst active bound (Some p) some none = limit-some (opposite side) (is_kind_within side bound) refl active p some.there some.within some.worst

-- ---- the order of a key
module _ {A : Type 0} (xs : List (Listed Order)) (entries : SlotsView Order) (links : List Link) (ladders : Ladders A) (h : AreOrdersQueued xs entries links ladders) (key : ℕ) where
  pub entry-at : (e : Entry Order) → Some e ≡ get entries key → (x : Listed Order) → Contains xs x → x.key ≡ key → e ≡ listed_entry x
  entry-at e lies x c same = same_some (lies ∙ ap (get entries) (sym same) ∙ All-contains (LiesAt entries) xs x h.lie c)

  pub listed-under : (e : Entry Order) → Some e ≡ get entries key → Contains (keys_in xs) key → (x : Listed Order) × Contains xs x × (x.key ≡ key) × (e ≡ listed_entry x)
  listed-under e lies c =
      let made = IsMade-map (λ (x : Listed Order). x.key) xs key c in
      (made.from, made.contains, made.made, entry-at e lies made.from made.contains made.made)
