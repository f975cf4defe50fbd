-- An order joins the queue of its level.
use Rattle.std.proofs.Common.{◌≡◌, ℕ, suc, ◌+◌, ◌*◌, ◌<◌, ◌≤◌, Bool, true, false, ◌&&◌, if◌then◌else◌, List, [], ◌∷◌, ◌++◌, length, get_or, filter, Contains, Option, Some, None, refl, sym, ap, ◌∙◌, subst, arith}
use Rattle.std.specs.List.{All}
use Rattle.std.proofs.lemmas.Bool.{and_parts, and_from, eqb-true, false≢true}
use Rattle.std.proofs.lemmas.Bool.Decides.{nat_tests}
use Rattle.std.proofs.lemmas.List.{append-nil, map-append, length-append}
use Rattle.std.proofs.lemmas.List.Elements.{All-contains, Contains-get_or, All-append, All-cons, All-nil, filter-append}
use Rattle.std.proofs.lemmas.List.Sums.{sum_by-append, sum_by-cons}
use Rattle.xm_slots.specs.Slots.{SlotsView, Updates, get, used}
use Rattle.xm_book.specs.Levels.{IsLevelFound, at_level, level_for}
use Rattle.xm_slots.specs.Listing.{keys_in, LiesAt}
use Rattle.xm_book.specs.Queued.{HasItsKind, HoldsLevel, IsLevelOf, AreOrdersQueued, is_of_level, orders_of_level, units_in}
use Rattle.xm_slots.specs.declared.entry.Entry.{Entry}
use Rattle.xm_slots.specs.declared.listing.Listed.{Listed}
use Rattle.xm_slots.proofs.Members.{IsMade-map, Passes-filter}
use Rattle.xm_ladders.specs.Ladder.{HasKind}
use Rattle.xm_ladders.specs.Ladders.{ladder_on, level_on, side_of}
use Rattle.xm_ladders.specs.declared.ladders.Ladders.{Ladders}
use Rattle.xm_ladders.specs.declared.level.Level.{Level}
use Rattle.xm_queues.specs.Keys.{AreApart, AreDistinct}
use Rattle.xm_queues.specs.Queue.{IsQueue, LacksKey, key_limit}
use Rattle.xm_queues.specs.declared.links.Link.{Link}
use Rattle.xm_queues.specs.declared.queues.Ends.{Ends}
use Rattle.xm_rules.specs.Orders.{same_kind, same_restriction}
use Rattle.xm_rules.specs.Sides.{same_side}
use Rattle.xm_rules.specs.declared.orders.Order.{Order}
use Rattle.xm_rules.specs.declared.orders.OrderKind.{OrderKind}
use Rattle.xm_rules.specs.declared.orders.OrderKind.TheVariants.{Market, Limit}
use Rattle.xm_rules.specs.declared.orders.Restriction.{Restriction}
use Rattle.xm_rules.specs.declared.orders.Restriction.TheVariants.{Free, OpeningOnly, AuctionsOnly, ClosingOnly}
use Rattle.xm_rules.specs.declared.orders.Side.{Side}
use Rattle.xm_rules.specs.declared.orders.Side.TheVariants.{Buy, Sell}
use Rattle.xm_slots.proofs.Tests.{length-kept, same_some, some_none}
use Rattle.xm_slots.proofs.Distinct.{distinct-push}
use Rattle.xm_ticks.specs.declared.numbers.TheConstants.{MAX_QUANTITY}
use Rattle.xm_book.specs.declared.places.TheConstants.{MAX_PLACES}

pub side-is : (s t : Side) → same_side s t ≡ true → s ≡ t
side-is Buy Buy h = refl
side-is Buy Sell h = absurd (cc)
side-is Sell Buy h = absurd (cc)
side-is Sell Sell h = refl

pub restriction-is : (r t : Restriction) → same_restriction r t ≡ true → r ≡ t
restriction-is Free Free h = refl
restriction-is OpeningOnly OpeningOnly h = refl
restriction-is AuctionsOnly AuctionsOnly h = refl
restriction-is ClosingOnly ClosingOnly h = refl
restriction-is Free OpeningOnly h = absurd (cc)
restriction-is Free AuctionsOnly h = absurd (cc)
restriction-is Free ClosingOnly h = absurd (cc)
restriction-is OpeningOnly Free h = absurd (cc)
restriction-is OpeningOnly AuctionsOnly h = absurd (cc)
restriction-is OpeningOnly ClosingOnly h = absurd (cc)
restriction-is AuctionsOnly Free h = absurd (cc)
restriction-is AuctionsOnly OpeningOnly h = absurd (cc)
restriction-is AuctionsOnly ClosingOnly h = absurd (cc)
restriction-is ClosingOnly Free h = absurd (cc)
restriction-is ClosingOnly OpeningOnly h = absurd (cc)
restriction-is ClosingOnly AuctionsOnly h = absurd (cc)

pub kind-is : (k l : OrderKind) → same_kind k l ≡ true → k ≡ l
kind-is Market Market h = refl
kind-is Market (Limit q) h = absurd (cc)
kind-is (Limit p) Market h = absurd (cc)
kind-is (Limit p) (Limit q) h = ap (λ (n : ℕ). Limit n) (eqb-true p q h)

pub side-itself : (s : Side) → same_side s s ≡ true
side-itself Buy = refl
side-itself Sell = refl

pub restriction-itself : (r : Restriction) → same_restriction r r ≡ true
restriction-itself Free = refl
restriction-itself OpeningOnly = refl
restriction-itself AuctionsOnly = refl
restriction-itself ClosingOnly = refl

kind-itself : (k : OrderKind) → same_kind k k ≡ true
kind-itself Market = refl
kind-itself (Limit p) = grind (arith, nat_tests)

-- the level that an order stands in
pub record IsAt (s : Side) (r : Restriction) (k : OrderKind) (o : Order) : Type 0 where
  pub side : s ≡ o.side
  pub restriction : r ≡ o.restriction
  pub kind : k ≡ o.kind

pub is-at : (s : Side) (r : Restriction) (k : OrderKind) (o : Order) → at_level s r k o ≡ true → IsAt s r k o
is-at s r k o h =
    let parts = and_parts (same_side s o.side) (same_restriction r o.restriction && same_kind k o.kind) h in
    let rest = and_parts (same_restriction r o.restriction) (same_kind k o.kind) parts.1 in
    record { side = side-is s o.side parts.0; restriction = restriction-is r o.restriction rest.0; kind = kind-is k o.kind rest.1 }

pub at-itself : (s : Side) (r : Restriction) (k : OrderKind) (o : Order) → IsAt s r k o → at_level s r k o ≡ true
at-itself s r k o h =
    (λ i. same_side (h.side i) o.side && (same_restriction (h.restriction i) o.restriction && same_kind (h.kind i) o.kind))
    ∙ and_from (same_side o.side o.side) (same_restriction o.restriction o.restriction && same_kind o.kind o.kind) (side-itself o.side)
    (and_from (same_restriction o.restriction o.restriction) (same_kind o.kind o.kind) (restriction-itself o.restriction) (kind-itself o.kind))

-- what a level that was looked for holds
pub found-level : (links : List Link) (o : Option Level) (level : Level) (ms : List (Listed Order)) → IsLevelFound o level → HoldsLevel links o ms → IsLevelOf links level ms
found-level links None level ms f e = record {
  queue = subst (λ (ys : List (Listed Order)). IsQueue links level.ends (keys_in ys)) (sym e) (f.0 links);
  orders = f.1.0 ∙ sym (ap length e);
  units = f.1.1 ∙ sym (ap units_in e);
}
found-level links (Some x) level ms f e = subst (λ (l : Level). IsLevelOf links l ms) (sym f) e

-- units of orders that are small
pub units-few : (xs : List (Listed Order)) → All (λ (x : Listed Order). x.item.rest ≤ MAX_QUANTITY) xs → units_in xs ≤ MAX_QUANTITY * length xs
units-few [] h = omega arith
units-few (x ∷ xs) h =
    let first : x.item.rest ≤ MAX_QUANTITY = h 0 x (omega arith) in
    let rest = units-few xs (λ i d lt. h (suc i) d (omega arith)) in
    omega (arith, first, rest, sum_by-cons (λ (y : Listed Order). y.item.rest) x xs)

small-kept : (p : Listed Order → Bool) (xs : List (Listed Order)) → All (λ (x : Listed Order). x.item.rest ≤ MAX_QUANTITY) xs → All (λ (x : Listed Order). x.item.rest ≤ MAX_QUANTITY) (filter p xs)
small-kept p xs h = λ i d lt. (let at = Passes-filter p xs (get_or (filter p xs) i d) (Contains-get_or (filter p xs) i d lt) in All-contains (λ (x : Listed Order). x.item.rest ≤ MAX_QUANTITY) xs (get_or (filter p xs) i d) h at.contains)

module _ {A : Type 0} (xs : List (Listed Order)) (entries : SlotsView Order) (links : List Link) (ladders : Ladders A) (h : AreOrdersQueued xs entries links ladders) where
  -- each key of a level has an order
  pub has-order : (p : Listed Order → Bool) (key : ℕ) → Contains (keys_in (filter p xs)) key → (x : Listed Order) × (Contains xs x) × (p x ≡ true) × (x.key ≡ key) × LiesAt entries x
  has-order p key at =
      let made = IsMade-map (λ (x : Listed Order). x.key) (filter p xs) key at in
      let passes = Passes-filter p xs made.from made.contains in
      (made.from, passes.contains, passes.passes, made.made, All-contains (LiesAt entries) xs made.from h.lie passes.contains)

  pub vacant-key : (p : Listed Order → Bool) (key : ℕ) → get entries key ≡ None → Contains (keys_in (filter p xs)) key → ⊥
  vacant-key p key vacant at = let x = has-order p key at in some_none (sym x.4 ∙ ap (get entries) x.3 ∙ vacant)

  module _ (o : Order) (level : Level) (f : IsLevelFound (level_for o ladders) level) where
    pub here : IsLevelOf links level (orders_of_level o.side o.restriction o.kind xs)
    here = found-level links (level_for o ladders) level (orders_of_level o.side o.restriction o.kind xs) f (h.levels o.side o.restriction o.kind)

    pub lacks : (key : ℕ) → get entries key ≡ None → LacksKey links level.ends key
    lacks key vacant = record { keys = keys_in (orders_of_level o.side o.restriction o.kind xs); queue = here.queue; absent = vacant-key (is_of_level o.side o.restriction o.kind) key vacant }

    pub orders-fit : level.orders ≤ MAX_PLACES
    orders-fit = omega (arith, here.orders, h.few, length-kept (is_of_level o.side o.restriction o.kind) xs)

    pub units-fit : level.units ≤ MAX_QUANTITY * MAX_PLACES
    units-fit = omega (arith, here.units, h.few, length-kept (is_of_level o.side o.restriction o.kind) xs, units-few (orders_of_level o.side o.restriction o.kind xs) (small-kept (is_of_level o.side o.restriction o.kind) xs h.small))

    pub apart : (s : Side) (r : Restriction) (k : OrderKind) → at_level s r k o ≡ false → AreApart (keys_in (orders_of_level o.side o.restriction o.kind xs)) (keys_in (orders_of_level s r k xs))
    apart s r k off n a b =
        let y = has-order (is_of_level o.side o.restriction o.kind) n a in
        let z = has-order (is_of_level s r k) n b in
        let one : Some (record { item = y.0.item; time = y.0.time }) ≡ Some (record { item = z.0.item; time = z.0.time }) = sym y.4 ∙ ap (get entries) (y.3 ∙ sym z.3) ∙ z.4 in
        let same : y.0.item ≡ z.0.item = ap (λ (e : Entry Order). e.item) (same_some one) in
        let i = is-at o.side o.restriction o.kind y.0.item y.2 in
        let j = is-at s r k z.0.item z.2 in
        let at : IsAt s r k o = record {
          side = j.side ∙ sym (ap (λ (w : Order). w.side) same) ∙ sym i.side;
          restriction = j.restriction ∙ sym (ap (λ (w : Order). w.restriction) same) ∙ sym i.restriction;
          kind = j.kind ∙ sym (ap (λ (w : Order). w.kind) same) ∙ sym i.kind;
        } in
        absurd (false≢true (sym off ∙ at-itself s r k o at))

    module _ (time key : ℕ) (vacant : get entries key ≡ None) (entries' : SlotsView Order) (u : Updates entries entries' key (Some (record { item = o; time = time }))) (len : used entries' ≡ used entries + 1)
        (cap : entries'.capacity ≡ entries.capacity) (links' : List Link) (ends' : Ends) (last : (keys : List ℕ) → IsQueue links level.ends keys → IsQueue links' ends' (keys ++ key ∷ []))
        (others : (other : Ends) (keys keys' : List ℕ) → IsQueue links level.ends keys → IsQueue links other keys' → AreApart keys keys' → (Contains keys' key → ⊥) → IsQueue links' other keys')
        (limit : key_limit links' ≡ key_limit links) (ladders' : Ladders A)
        (puts : (s : Side) (r : Restriction) (k : OrderKind) → level_on (side_of s ladders') r k ≡ (if at_level s r k o then Some (record { ends = ends'; orders = level.orders + 1; units = level.units + o.rest }) else level_on (side_of s ladders) r k))
        (few : length xs < MAX_PLACES) (small : o.rest ≤ MAX_QUANTITY)
        (kind : HasKind (ladder_on o.restriction (side_of o.side ladders)) o.kind) (kinds-kept : (s : Side) (r : Restriction) (k : OrderKind) → HasKind (ladder_on r (side_of s ladders)) k → HasKind (ladder_on r (side_of s ladders')) k) where
      abbrev x : Listed Order
      x = record { key = key; time = time; item = o }

      abbrev new_level : Level
      new_level = record { ends = ends'; orders = level.orders + 1; units = level.units + o.rest }

      abbrev ms : List (Listed Order)
      ms = orders_of_level o.side o.restriction o.kind xs

      longer : IsLevelOf links' new_level (ms ++ x ∷ [])
      longer = record {
        queue = subst (λ (ks : List ℕ). IsQueue links' ends' ks) (sym (map-append (λ (y : Listed Order). y.key) ms (x ∷ []))) (last (keys_in ms) here.queue);
        orders = omega (arith, here.orders, length-append ms (x ∷ []));
        units = omega (arith, here.units, sum_by-append (λ (y : Listed Order). y.item.rest) ms (x ∷ []), sum_by-cons (λ (y : Listed Order). y.item.rest) x []);
      }

      module _ (s : Side) (r : Restriction) (k : OrderKind) where
        pushed : orders_of_level s r k (xs ++ x ∷ []) ≡ orders_of_level s r k xs ++ (if at_level s r k o then x ∷ [] else [])
        pushed = filter-append (is_of_level s r k) xs (x ∷ [])

        kept : at_level s r k o ≡ false → (l : Option Level) → HoldsLevel links l (orders_of_level s r k xs) → HoldsLevel links' l (orders_of_level s r k xs)
        kept off None e = e
        kept off (Some l) e = record { queue = others l.ends (keys_in ms) (keys_in (orders_of_level s r k xs)) here.queue e.queue (apart s r k off) (vacant-key (is_of_level s r k) key vacant); orders = e.orders; units = e.units }

        holds_if : (b : Bool) → at_level s r k o ≡ b → HoldsLevel links' (if b then Some new_level else level_on (side_of s ladders) r k) (orders_of_level s r k xs ++ (if b then x ∷ [] else []))
        holds_if true t =
            let at = is-at s r k o t in
            subst (λ (ys : List (Listed Order)). IsLevelOf links' new_level (ys ++ x ∷ [])) (λ i. orders_of_level (sym at.side i) (sym at.restriction i) (sym at.kind i) xs) longer
        holds_if false t =
            subst (λ (ys : List (Listed Order)). HoldsLevel links' (level_on (side_of s ladders) r k) ys) (sym (append-nil (orders_of_level s r k xs))) (kept t (level_on (side_of s ladders) r k) (h.levels s r k))

        holds : HoldsLevel links' (level_on (side_of s ladders') r k) (orders_of_level s r k (xs ++ x ∷ []))
        holds = subst (λ (l : Option Level). HoldsLevel links' l (orders_of_level s r k (xs ++ x ∷ []))) (sym (puts s r k))
            (subst (λ (ys : List (Listed Order)). HoldsLevel links' (if at_level s r k o then Some new_level else level_on (side_of s ladders) r k) ys) (sym pushed) (holds_if (at_level s r k o) refl))

      lie-old : All (LiesAt entries') xs
      lie-old = λ i d lt. (let y = get_or xs i d in let old = h.lie i d lt in u.others y.key (λ same. some_none (sym old ∙ ap (get entries) same ∙ vacant)) ∙ old)

      pub joined : AreOrdersQueued (xs ++ x ∷ []) entries' links' ladders'
      joined = record {
        lie = All-append (LiesAt entries') xs (x ∷ []) lie-old (All-cons (LiesAt entries') x [] u.changed (All-nil (LiesAt entries')));
        distinct = subst AreDistinct (sym (map-append (λ (y : Listed Order). y.key) xs (x ∷ []))) (distinct-push key (keys_in xs) h.distinct (λ c. (let made = IsMade-map (λ (y : Listed Order). y.key) xs key c in some_none (sym (All-contains (LiesAt entries) xs made.from h.lie made.contains) ∙ ap (get entries) made.made ∙ vacant))));
        count = omega (arith, len, h.count, length-append xs (x ∷ []));
        few = omega (arith, few, length-append xs (x ∷ []));
        small = All-append (λ (y : Listed Order). y.item.rest ≤ MAX_QUANTITY) xs (x ∷ []) h.small (All-cons (λ (y : Listed Order). y.item.rest ≤ MAX_QUANTITY) x [] small (All-nil (λ (y : Listed Order). y.item.rest ≤ MAX_QUANTITY)));
        kinds = All-append (HasItsKind ladders') xs (x ∷ []) (λ i d lt. (let y = get_or xs i d in kinds-kept y.item.side y.item.restriction y.item.kind (h.kinds i d lt)))
            (All-cons (HasItsKind ladders') x [] (kinds-kept o.side o.restriction o.kind kind) (All-nil (HasItsKind ladders')));
        levels = holds;
        fits = omega (arith, cap, limit, h.fits);
      }
