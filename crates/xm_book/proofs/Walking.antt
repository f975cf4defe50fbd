-- The first order of a level that is later than a time: where a queue is cut in two, it is the front of the second part.
use Rattle.std.proofs.Common.{◌≡◌, ℕ, ◌+◌, ◌<◌, ◌≤◌, Bool, true, false, ◌&&◌, List, [], ◌∷◌, ◌++◌, length, Contains, Option, Some, None, refl, sym, ap, ◌∙◌, subst, ◌⊎◌, inl, inr, arith}
use Rattle.std.specs.Prelude.{nat_le, nat_lt, slice_get}
use Rattle.std.proofs.lemmas.Bool.{and_from, and_parts, both_ways, false_from_ne_true, leb-true, le-ltb, lt-ltb}
use Rattle.std.proofs.lemmas.List.{append-nil, append_assoc, length-append, map-append}
use Rattle.std.proofs.lemmas.List.Elements.{All-contains, Contains-append_cases, Contains-append_right, Contains-push, Contains-push_cases}
use Rattle.xm_book.specs.Fronts.{IsFirst, IsFirstOf, has_kind_later, is_earlier, is_in}
use Rattle.xm_slots.specs.Listing.{keys_in, listed_entry, rises, LiesAt}
use Rattle.xm_book.specs.Queued.{HoldsLevel, IsLevelOf, AreOrdersQueued, is_of_level, orders_of_level}
use Rattle.xm_slots.specs.Slots.{SlotsView, get}
use Rattle.xm_slots.specs.declared.entry.Entry.{Entry}
use Rattle.xm_slots.specs.declared.listing.Listed.{Listed}
use Rattle.xm_book.proofs.Joining.{at-itself}
use Rattle.xm_slots.proofs.Tests.{same_some, some_none}
use Rattle.xm_slots.proofs.Members.{Contains-cases, Contains-filter, Contains-here, Contains-map, Contains-none}
use Rattle.xm_book.proofs.Sameness.{left-true, right-true}
use Rattle.xm_book.proofs.Standing.{in-list, level-of, none-of, rises-kept, rises-low, rises-lower}
use Rattle.xm_ladders.specs.Ladders.{level_on, side_of}
use Rattle.xm_ladders.specs.declared.ladders.Ladders.{Ladders}
use Rattle.xm_ladders.specs.declared.level.Level.{Level}
use Rattle.xm_queues.specs.Queue.{IsQueue, key_limit}
use Rattle.xm_queues.proofs.Changes.{key_within}
use Rattle.xm_queues.specs.declared.links.Link.{Link}
use Rattle.xm_queues.specs.declared.queues.Ends.{Ends}
use Rattle.xm_rules.specs.Active.{is_active}
use Rattle.xm_rules.specs.Orders.{same_kind, same_restriction}
use Rattle.xm_rules.specs.Sides.{same_side}
use Rattle.xm_rules.specs.declared.orders.Order.{Order}
use Rattle.xm_rules.specs.declared.orders.OrderKind.{OrderKind}
use Rattle.xm_rules.specs.declared.orders.Restriction.{Restriction}
use Rattle.xm_rules.specs.declared.orders.Side.{Side}
use Rattle.xm_rules.specs.declared.phases.Phase.{Phase}

-- ---- times of the two parts
rises-behind : (low : ℕ) (ahead behind : List (Listed Order)) (high : ℕ) → rises low (ahead ++ behind) high ≡ true → rises low behind high ≡ true
rises-behind low [] behind high h = h
rises-behind low (a ∷ xs) behind high h =
    let first = leb-true low a.time (left-true (nat_le low a.time) (rises (a.time + 1) (xs ++ behind) high) h) in
    rises-lower low (a.time + 1) behind high (omega (arith, first)) (rises-behind (a.time + 1) xs behind high (right-true (nat_le low a.time) (rises (a.time + 1) (xs ++ behind) high) h))

-- each of the first part is earlier than each of the second
pub parts-apart : (low : ℕ) (ahead behind : List (Listed Order)) (high : ℕ) (x y : Listed Order) → rises low (ahead ++ behind) high ≡ true → Contains ahead x → Contains behind y → x.time < y.time
parts-apart low [] behind high x y h c d = absurd (Contains-none x c)
parts-apart low (a ∷ xs) behind high x y h c d =
    let rest = right-true (nat_le low a.time) (rises (a.time + 1) (xs ++ behind) high) h in
    apart_by rest (λ e. parts-apart (a.time + 1) xs behind high x y rest e d) (Contains-cases a xs x c)
  where
    apart_by : rises (a.time + 1) (xs ++ behind) high ≡ true → (Contains xs x → x.time < y.time) → (a ≡ x) ⊎ Contains xs x → x.time < y.time
    apart_by rest more (inl same) =
        let low : a.time + 1 ≤ y.time = rises-low (a.time + 1) (xs ++ behind) high y rest (Contains-append_right xs behind y d) in
        subst (λ (z : Listed Order). z.time < y.time) same (omega (arith, low))
    apart_by rest more (inr later) = more later

-- a list is cut at an order that it contains
pub cut-at : (xs : List (Listed Order)) (x : Listed Order) → Contains xs x → (ahead : List (Listed Order)) × (behind : List (Listed Order)) × (xs ≡ ahead ++ x ∷ behind)
cut-at [] x c = absurd (Contains-none x c)
cut-at (y ∷ ys) x c = cut_by (λ d. cut-at ys x d) (Contains-cases y ys x c)
  where
    cut_by : (Contains ys x → (ahead : List (Listed Order)) × (behind : List (Listed Order)) × (ys ≡ ahead ++ x ∷ behind)) → (y ≡ x) ⊎ Contains ys x
        → (ahead : List (Listed Order)) × (behind : List (Listed Order)) × (y ∷ ys ≡ ahead ++ x ∷ behind)
    cut_by more (inl same) = ([], ys, ap (λ (z : Listed Order). z ∷ ys) same)
    cut_by more (inr later) = let m = more later in (y ∷ m.0, m.1, ap (λ (zs : List (Listed Order)). y ∷ zs) m.2)

-- an order stands in the level of its side, restriction and kind
pub own-member : (e : Entry Order) (r : Restriction) (xs : List (Listed Order)) (x : Listed Order) → Contains xs x → e ≡ listed_entry x → r ≡ e.item.restriction → Contains (orders_of_level e.item.side r e.item.kind xs) x
own-member e r xs x c is same =
    let order = ap (λ (y : Entry Order). y.item) is in
    Contains-filter (is_of_level e.item.side r e.item.kind) xs x
    (at-itself e.item.side r e.item.kind x.item
    (record { side = ap (λ (o : Order). o.side) order; restriction = same ∙ ap (λ (o : Order). o.restriction) order; kind = ap (λ (o : Order). o.kind) order })) c

-- so many orders of a level were passed, none of which is later than the time, and the key is that of the next
pub record IsPassed (ms : List (Listed Order)) (time count : ℕ) (key : Option ℕ) : Type 0 where
  pub ahead : List (Listed Order)
  pub behind : List (Listed Order)
  pub whole : ms ≡ ahead ++ behind
  pub long : length ahead ≡ count
  pub next : key ≡ slice_get (keys_in behind) 0
  pub none : (x : Listed Order) → Contains ahead x → nat_lt time x.time ≡ false

pub none-passed : (ms : List (Listed Order)) (time : ℕ) (key : Option ℕ) → key ≡ slice_get (keys_in ms) 0 → IsPassed ms time 0 key
none-passed ms time key e = record { ahead = []; behind = ms; whole = refl; long = refl; next = e; none = λ x c. absurd (Contains-none x c) }

module _ {A : Type 0} (xs : List (Listed Order)) (entries : SlotsView Order) (links : List Link) (ladders : Ladders A) (h : AreOrdersQueued xs entries links ladders)
    (phase : Phase) (side : Side) (r : Restriction) (k : OrderKind) (adds : ℕ) (rise : rises 0 xs adds ≡ true) (active : is_active phase r ≡ true) (time : ℕ) where
  abbrev pub ms : List (Listed Order)
  ms = orders_of_level side r k xs

  abbrev pub later : Listed Order → Bool
  later = is_in phase side r (has_kind_later k time)

  -- one that passes is a later one of the level, and the other way round
  of-level : (y : Listed Order) → Contains xs y → later y ≡ true → Contains ms y × (nat_lt time y.time ≡ true)
  of-level y c t =
      let rest = right-true (is_active phase r) (same_side side y.item.side && (same_restriction r y.item.restriction && has_kind_later k time y)) t in
      let a = and_parts (same_side side y.item.side) (same_restriction r y.item.restriction && has_kind_later k time y) rest in
      let b = and_parts (same_restriction r y.item.restriction) (has_kind_later k time y) a.1 in
      let d = and_parts (same_kind k y.item.kind) (nat_lt time y.time) b.1 in (
        Contains-filter (is_of_level side r k) xs y
            (and_from (same_side side y.item.side) (same_restriction r y.item.restriction && same_kind k y.item.kind) a.0
            (and_from (same_restriction r y.item.restriction) (same_kind k y.item.kind) b.0 d.0)) c,
        d.1,
      )

  passes : (y : Listed Order) → is_of_level side r k y ≡ true → nat_lt time y.time ≡ true → later y ≡ true
  passes y m t =
      let a = and_parts (same_side side y.item.side) (same_restriction r y.item.restriction && same_kind k y.item.kind) m in
      let b = and_parts (same_restriction r y.item.restriction) (same_kind k y.item.kind) a.1 in
      and_from (is_active phase r) (same_side side y.item.side && (same_restriction r y.item.restriction && has_kind_later k time y)) active
      (and_from (same_side side y.item.side) (same_restriction r y.item.restriction && has_kind_later k time y) a.0
      (and_from (same_restriction r y.item.restriction) (has_kind_later k time y) b.0 (and_from (same_kind k y.item.kind) (nat_lt time y.time) b.1 t)))

  -- all of the level were passed
  all-passed : (ahead : List (Listed Order)) → ms ≡ ahead → ((x : Listed Order) → Contains ahead x → nat_lt time x.time ≡ false) → (y : Listed Order) → Contains xs y → later y ≡ false
  all-passed ahead e none y c =
      false_from_ne_true (later y)
      (λ t. let at = of-level y c t in both_ways (nat_lt time y.time) (none y (subst (λ (ys : List (Listed Order)). Contains ys y) e at.0)) at.1)

  -- the front of those behind is later, and so it is the first that is
  front-behind : (ahead : List (Listed Order)) (m : Listed Order) (bs : List (Listed Order)) → ms ≡ ahead ++ m ∷ bs → ((x : Listed Order) → Contains ahead x → nat_lt time x.time ≡ false) → nat_lt time m.time ≡ true
      → IsFirst is_earlier later xs m
  front-behind ahead m bs e none t =
      let rising : rises 0 (ahead ++ m ∷ bs) adds ≡ true = ap (λ (ys : List (Listed Order)). rises 0 ys adds) (sym e) ∙ rises-kept (is_of_level side r k) 0 xs adds rise in
      let at = in-list xs entries links ladders h phase side r k m (subst (λ (ys : List (Listed Order)). Contains ys m) (sym e) (Contains-append_right ahead (m ∷ bs) m (Contains-here m bs))) in
      let late : (y : Listed Order) → Contains (m ∷ bs) y → m.time ≤ y.time = λ y c. not_before y c (rises-behind 0 ahead (m ∷ bs) adds rising) (Contains-cases m bs y c) in
      record {
        contained = at.0;
        passing = passes m at.1 t;
        none = λ y c p. let of = of-level y c p in
            le-ltb y.time m.time (late y (in-second y of.1 (Contains-append_cases ahead (m ∷ bs) y (subst (λ (ys : List (Listed Order)). Contains ys y) e of.0))));
      }
    where
      not_before : (y : Listed Order) → Contains (m ∷ bs) y → rises 0 (m ∷ bs) adds ≡ true → (m ≡ y) ⊎ Contains bs y → m.time ≤ y.time
      not_before y c rising (inl same) = subst (λ (z : Listed Order). m.time ≤ z.time) same (omega arith)
      not_before y c rising (inr d) =
          let low = rises-low (m.time + 1) bs adds y (right-true (nat_le 0 m.time) (rises (m.time + 1) bs adds) rising) d in
          omega (arith, low)

      in-second : (y : Listed Order) → nat_lt time y.time ≡ true → Contains ahead y ⊎ Contains (m ∷ bs) y → Contains (m ∷ bs) y
      in-second y l (inl c) = absurd (both_ways (nat_lt time y.time) (none y c) l)
      in-second y l (inr c) = c

  -- what lies under the key of the front of those behind
  pub front-lies : (ahead : List (Listed Order)) (m : Listed Order) (bs : List (Listed Order)) → ms ≡ ahead ++ m ∷ bs → get entries m.key ≡ Some (listed_entry m)
  front-lies ahead m bs e =
      let at = in-list xs entries links ladders h phase side r k m (subst (λ (ys : List (Listed Order)). Contains ys m) (sym e) (Contains-append_right ahead (m ∷ bs) m (Contains-here m bs))) in
      All-contains (LiesAt entries) xs m h.lie at.0

  -- ---- an order's own queue, where the next is the first that is later
  own-by : (ahead bs : List (Listed Order)) → ms ≡ ahead ++ bs → ((x : Listed Order) → Contains ahead x → nat_lt time x.time ≡ false) → ((y : Listed Order) → Contains bs y → nat_lt time y.time ≡ true)
      → (key : Option ℕ) (o : Option (Entry Order)) → key ≡ slice_get (keys_in bs) 0 → ((n : ℕ) → key ≡ Some n → o ≡ get entries n) → (key ≡ None → o ≡ None) → IsFirstOf is_earlier later xs o
  own-by ahead [] e none all key o is some off =
      subst (λ (p : Option (Entry Order)). IsFirstOf is_earlier later xs p) (sym (off is)) (all-passed (ahead ++ []) e (λ x c. none x (in-first x (Contains-append_cases ahead [] x c))))
    where
      in-first : (x : Listed Order) → Contains ahead x ⊎ Contains [] x → Contains ahead x
      in-first x (inl c) = c
      in-first x (inr c) = absurd (Contains-none x c)
  own-by ahead (m ∷ bs) e none all key o is some off =
      subst (λ (p : Option (Entry Order)). IsFirstOf is_earlier later xs p) (sym (some m.key is ∙ front-lies ahead m bs e)) (m, refl, front-behind ahead m bs e none (all m (Contains-here m bs)))

  -- the level of an order that stands in it
  pub own-level : (x : Listed Order) → Contains ms x → (level : Level) × IsLevelOf links level ms
  own-level x at = level_by (level_on (side_of side ladders) r k) (h.levels side r k)
    where
      level_by : (o : Option Level) → HoldsLevel links o ms → (level : Level) × IsLevelOf links level ms
      level_by None e = absurd (Contains-none x (subst (λ (ys : List (Listed Order)). Contains ys x) e at))
      level_by (Some level) e = (level, e)

  module _ (x : Listed Order) (at : Contains ms x) where
    pub own-room : x.key < key_limit links
    own-room = let held = own-level x at in key_within links held.0.ends (keys_in ms) x.key held.1.queue (Contains-map (λ (y : Listed Order). y.key) ms x at)

    pub own-next : x.time ≡ time → (key : Option ℕ) (o : Option (Entry Order))
        → ((ends : Ends) (ahead behind : List ℕ) → IsQueue links ends (ahead ++ x.key ∷ behind) → key ≡ slice_get behind 0)
        → ((n : ℕ) → key ≡ Some n → o ≡ get entries n) → (key ≡ None → o ≡ None) → IsFirstOf is_earlier later xs o
    own-next now key o next some off =
        let held = own-level x at in
        let cut = cut-at ms x at in
        let whole : ms ≡ (cut.0 ++ x ∷ []) ++ cut.1 = cut.2 ∙ sym (append_assoc cut.0 (x ∷ []) cut.1) in
        let keys : keys_in ms ≡ keys_in cut.0 ++ x.key ∷ keys_in cut.1 = ap keys_in cut.2 ∙ map-append (λ (y : Listed Order). y.key) cut.0 (x ∷ cut.1) in
        let first = rises-kept (is_of_level side r k) 0 xs adds rise in
        let rising : rises 0 (cut.0 ++ x ∷ cut.1) adds ≡ true = ap (λ (ys : List (Listed Order)). rises 0 ys adds) (sym cut.2) ∙ first in
        let parted : rises 0 ((cut.0 ++ x ∷ []) ++ cut.1) adds ≡ true = ap (λ (ys : List (Listed Order)). rises 0 ys adds) (sym whole) ∙ first in
        own-by (cut.0 ++ x ∷ []) cut.1 whole (λ y c. passed-by cut.0 cut.1 rising y (Contains-push_cases cut.0 x y c))
        (λ y c. let l = parts-apart 0 (cut.0 ++ x ∷ []) cut.1 adds x y parted (Contains-push cut.0 x) c in lt-ltb time y.time (omega (arith, now, l)))
        key o (next held.0.ends (keys_in cut.0) (keys_in cut.1) (subst (λ (ns : List ℕ). IsQueue links held.0.ends ns) keys held.1.queue)) some off
      where
        passed-by : (ahead behind : List (Listed Order)) → rises 0 (ahead ++ x ∷ behind) adds ≡ true → (y : Listed Order) → Contains ahead y ⊎ (x ≡ y) → nat_lt time y.time ≡ false
        passed-by ahead behind rising y (inl c) =
            let l = parts-apart 0 ahead (x ∷ behind) adds y x rising c (Contains-here x behind) in
            le-ltb time y.time (omega (arith, now, l))
        passed-by ahead behind rising y (inr same) = le-ltb time y.time (omega (arith, now, ap (λ (z : Listed Order). z.time) same))

  -- ---- another queue, from its front on
  -- the key of the front of those behind
  pub record IsAt (behind : List (Listed Order)) (key : ℕ) : Type 0 where
    pub front : Listed Order
    pub rest : List (Listed Order)
    pub is : behind ≡ front ∷ rest
    pub keyed : key ≡ front.key

  pub at-key : (behind : List (Listed Order)) (key : ℕ) → Some key ≡ slice_get (keys_in behind) 0 → IsAt behind key
  at-key [] key e = absurd (some_none e)
  at-key (m ∷ bs) key e = record { front = m; rest = bs; is = refl; keyed = same_some e }

  pub walk-start : (key : Option ℕ) (level : Level) → level_on (side_of side ladders) r k ≡ Some level
      → ((links : List Link) (keys : List ℕ) → IsQueue links level.ends keys → key ≡ slice_get keys 0) → IsPassed ms time 0 key
  walk-start key level e front =
      let held = level-of links (level_on (side_of side ladders) r k) level ms (h.levels side r k) e in
      none-passed ms time key (front links (keys_in ms) held.queue)

  pub no-walk : level_on (side_of side ladders) r k ≡ None → (y : Listed Order) → Contains xs y → later y ≡ false
  no-walk e = all-passed [] (none-of links (level_on (side_of side ladders) r k) ms (h.levels side r k) e) (λ x c. absurd (Contains-none x c))

  behind-none : (behind : List (Listed Order)) → None ≡ slice_get (keys_in behind) 0 → behind ≡ []
  behind-none [] e = refl
  behind-none (m ∷ bs) e = absurd (some_none (sym e))

  behind-short : (behind : List (Listed Order)) → length behind ≡ 0 → behind ≡ []
  behind-short [] e = refl
  behind-short (m ∷ bs) e = absurd (omega arith)

  passed-whole : (n : ℕ) (key : Option ℕ) (w : IsPassed ms time n key) → w.behind ≡ [] → (y : Listed Order) → Contains xs y → later y ≡ false
  passed-whole n key w e = all-passed w.ahead (w.whole ∙ ap (λ (ys : List (Listed Order)). w.ahead ++ ys) e ∙ append-nil w.ahead) w.none

  pub walk-none : (n : ℕ) → IsPassed ms time n None → (y : Listed Order) → Contains xs y → later y ≡ false
  walk-none n w = passed-whole n None w (behind-none w.behind w.next)

  pub walk-end : (n : ℕ) (key : Option ℕ) (level : Level) → level_on (side_of side ladders) r k ≡ Some level → IsPassed ms time n key → level.orders ≤ n → (y : Listed Order) → Contains xs y → later y ≡ false
  walk-end n key level e w long =
      let held = level-of links (level_on (side_of side ladders) r k) level ms (h.levels side r k) e in
      passed-whole n key w (behind-short w.behind (omega (arith, held.orders, ap length w.whole, length-append w.ahead w.behind, w.long)))

  module _ (n key : ℕ) (w : IsPassed ms time n (Some key)) where
    abbrev pub at : IsAt w.behind key
    at = at-key w.behind key w.next

    cut-here : ms ≡ w.ahead ++ at.front ∷ at.rest
    cut-here = w.whole ∙ ap (λ (ys : List (Listed Order)). w.ahead ++ ys) at.is

    pub walk-lies : get entries key ≡ Some (listed_entry at.front)
    walk-lies = ap (get entries) at.keyed ∙ front-lies w.ahead at.front at.rest cut-here

    front-in : Contains ms at.front
    front-in = subst (λ (ys : List (Listed Order)). Contains ys at.front) (sym cut-here) (Contains-append_right w.ahead (at.front ∷ at.rest) at.front (Contains-here at.front at.rest))

    pub walk-room : key < key_limit links
    walk-room = let l = own-room at.front front-in in omega (arith, at.keyed, l)

    pub walk-found : (e : Entry Order) → get entries key ≡ Some e → time < e.time → IsFirstOf is_earlier later xs (Some e)
    walk-found e lies l =
        let same : e ≡ listed_entry at.front = same_some (sym lies ∙ walk-lies) in
        (at.front, same, front-behind w.ahead at.front at.rest cut-here w.none (ap (λ (y : Entry Order). nat_lt time y.time) (sym same) ∙ lt-ltb time e.time l))

    pub walk-on : (e : Entry Order) → get entries key ≡ Some e → e.time ≤ time → (next : Option ℕ)
        → ((ends : Ends) (ahead behind : List ℕ) → IsQueue links ends (ahead ++ key ∷ behind) → next ≡ slice_get behind 0) → IsPassed ms time (n + 1) next
    walk-on e lies l next told =
        let same : e ≡ listed_entry at.front = same_some (sym lies ∙ walk-lies) in
        let held = own-level at.front front-in in
        let keys : keys_in ms ≡ keys_in w.ahead ++ key ∷ keys_in at.rest =
        ap keys_in cut-here ∙ map-append (λ (y : Listed Order). y.key) w.ahead (at.front ∷ at.rest) ∙ ap (λ (m : ℕ). keys_in w.ahead ++ m ∷ keys_in at.rest) (sym at.keyed) in
        record {
          ahead = w.ahead ++ at.front ∷ [];
          behind = at.rest;
          whole = cut-here ∙ sym (append_assoc w.ahead (at.front ∷ []) at.rest);
          long = omega (arith, length-append w.ahead (at.front ∷ []), w.long);
          next = told held.0.ends (keys_in w.ahead) (keys_in at.rest) (subst (λ (ns : List ℕ). IsQueue links held.0.ends ns) keys held.1.queue);
          none = λ y c. not_later y (ap (λ (z : Entry Order). z.time) same) (Contains-push_cases w.ahead at.front y c);
        }
      where
        not_later : (y : Listed Order) → e.time ≡ at.front.time → Contains w.ahead y ⊎ (at.front ≡ y) → nat_lt time y.time ≡ false
        not_later y t (inl c) = w.none y c
        not_later y t (inr same) = le-ltb time y.time (omega (arith, l, t, ap (λ (z : Listed Order). z.time) same))
