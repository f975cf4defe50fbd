-- The names of a book's orders still lead to their keys, as these orders and the reserved places change.
use Rattle.xm_slots.proofs.Naming.{IsNamedAt, find-map, items-kept, key_of-others, key_of-push, left-by-key, left-without, named-at, not-named, nothing-of, others, own_names-kept, own_names-push}
use Rattle.xm_slots.specs.Naming.{has_name, have_own_names, key_by_name}
use Rattle.std.proofs.Common.{◌≡◌, ℕ, ◌+◌, ◌-◌, ◌<◌, ◌≤◌, Bool, true, false, not, ◌&&◌, ◌==◌, if◌then◌else◌, List, [], ◌∷◌, ◌++◌, length, map, filter, find, count_by, Contains, Option, Some, None, option_map, IfSome, refl, sym, ap, ◌∙◌, subst, arith}
use Rattle.std.specs.List.{list_all, list_any}
use Rattle.std.proofs.lemmas.Bool.{and_parts}
use Rattle.std.proofs.lemmas.Bool.Decides.{nat_tests}
use Rattle.std.proofs.lemmas.List.{length-append, length-map, map-append}
use Rattle.xm_book.specs.Indexed.{AreOrdersIndexed, is_for}
use Rattle.xm_slots.specs.Listing.{is_other_key, keys_in, listed_entry, listed_item}
use Rattle.xm_book.specs.Listing.{order_owner, order_reference, reduced_at}
use Rattle.xm_book.specs.Places.{place_of}
use Rattle.xm_book.specs.Queued.{QueuedOrders}
use Rattle.xm_book.specs.Reserved.{Gains}
use Rattle.xm_book.specs.TimeList.{Reserves, TimeList}
use Rattle.xm_slots.specs.declared.entry.Entry.{Entry}
use Rattle.xm_slots.specs.declared.listing.Listed.{Listed}
use Rattle.xm_book.specs.declared.places.Place.{Place}
use Rattle.xm_slots.proofs.Members.{Contains-map, find-Some}
use Rattle.xm_book.proofs.Named.{fewer-left, key_of-reduced, orders-reduced, own_names-reduced, reduced, reduced-by-key, rests-kept, rests-push, rests-reduced}
use Rattle.xm_slots.proofs.Leaving.{key-once}
use Rattle.xm_slots.proofs.Tests.{length-kept, none-found, some-found}
use Rattle.xm_book.proofs.Reserved.{Gains-length, Gains-same, count_one}
use Rattle.xm_name_index.specs.Names.{NamesOfMember, lookup, reserved}
use Rattle.xm_queues.specs.Keys.{AreDistinct}
use Rattle.xm_rules.specs.Commands.{is_in_range}
use Rattle.xm_rules.specs.Orders.{is_named, removed, with_rest, without_member}
use Rattle.xm_rules.specs.declared.orders.Order.{Order}
use Rattle.xm_rules.proofs.Ranges.{range_high, range_within}
use Rattle.xm_book.specs.declared.places.TheConstants.{MAX_PLACES}

-- ---- a member's places
turned : (m n : ℕ) → (m == n) ≡ (n == m)
turned m n = grind (arith, nat_tests)

pub count-for : (member : ℕ) (p : Place) (ps qs : List Place) → Gains p ps qs → count_by (is_for member) qs ≡ (if member == p.member then 1 else 0) + count_by (is_for member) ps
count-for member p ps qs gain =
    gain.counts (is_for member) ∙ count_one (is_for member) p ps ∙ ap (λ (b : Bool). (if b then 1 else 0) + count_by (is_for member) ps) (turned p.member member)

all-at : (p : Order → Bool) (os : List Order) (o : Order) → list_all p os ≡ true → (q : Order → Bool) → find q os ≡ Some o → p o ≡ true
all-at p [] o h q f = absurd (cc)
all-at p (x ∷ os) o h q f = at_if (q x) (and_parts (p x) (list_all p os) h) (λ k. all-at p os o k q) f
  where
    at_if : (b : Bool) → (p x ≡ true) × (list_all p os ≡ true) → (list_all p os ≡ true → find q os ≡ Some o → p o ≡ true) → (if b then Some x else find q os) ≡ Some o → p o ≡ true
    at_if true parts rest e = (let same : x ≡ o = cc in ap p (sym same) ∙ parts.0)
    at_if false parts rest e = rest parts.1 e

-- what is seen of a book with these queues
abbrev pub seen : QueuedOrders → TimeList
seen q = record { orders = map listed_item q.orders; reserved = q.reserved; adds = q.adds }

-- no name, no place
pub nothing-indexed : (names : List (ℕ × NamesOfMember)) → ((m r : ℕ) → lookup names m r ≡ None) → AreOrdersIndexed (record { orders = []; reserved = []; adds = 0 }) names
nothing-indexed names none = record {
  named = λ m r. none m r;
  names_reserved = λ m. omega arith;
  sound = record { names = refl; rests = refl; within = omega arith };
}

module _ (q : QueuedOrders) (names : List (ℕ × NamesOfMember)) (h : AreOrdersIndexed q names) where
  abbrev os : List Order
  os = map listed_item q.orders

  -- a name that no order has leads nowhere
  pub absent : (member reference : ℕ) → list_any (is_named member reference) os ≡ false → lookup names member reference ≡ None
  absent member reference out = by_find (lookup names member reference) (h.named member reference)
    where
      by_find : (o : Option ℕ) → o ≡ key_by_name order_owner order_reference member reference q.orders → o ≡ None
      by_find None e = refl
      by_find (Some key) e =
          let at = named-at order_owner order_reference member reference key q.orders (sym e) in
          let there = some-found (is_named member reference) os at.listed.item (find-map order_owner order_reference member reference q.orders ∙ ap (option_map listed_item) at.found) in
          absurd (let k : true ≡ false = sym there ∙ out in cc)

  -- ---- places
  module _ (p : Place) (q' : QueuedOrders) (rest : q' ≡ record q { reserved = q'.reserved }) (names' : List (ℕ × NamesOfMember)) (same : (m r : ℕ) → lookup names' m r ≡ lookup names m r) where
    pub place-gained : Gains p q.reserved q'.reserved → length os + length q.reserved < MAX_PLACES → ((m : ℕ) → reserved names' m ≡ (if m == p.member then reserved names m + 1 else reserved names m)) → AreOrdersIndexed q' names'
    place-gained gain few more = subst (λ (v : QueuedOrders). AreOrdersIndexed v names') (sym rest) (record {
      named = λ m r. same m r ∙ h.named m r;
      names_reserved = λ m. reserved_if (m == p.member) m (count-for m p q.reserved q'.reserved gain) (more m);
      sound = record { names = h.sound.names; rests = h.sound.rests; within = omega (arith, few, Gains-length p q.reserved q'.reserved gain) };
    })
      where
        reserved_if : (b : Bool) (m : ℕ) → count_by (is_for m) q'.reserved ≡ (if b then 1 else 0) + count_by (is_for m) q.reserved → reserved names' m ≡ (if b then reserved names m + 1 else reserved names m) → count_by (is_for m) q'.reserved ≤ reserved names' m
        reserved_if true m c e = omega (arith, c, e, h.names_reserved m)
        reserved_if false m c e = omega (arith, c, e, h.names_reserved m)

    pub seen-gained : Gains p q.reserved q'.reserved → Reserves p (seen q) (seen q')
    seen-gained gain = record { rest = ap seen rest; places = Gains-same p q.reserved q'.reserved gain }

    pub seen-given-up : Gains p q'.reserved q.reserved → Reserves p (seen q') (seen q)
    seen-given-up gain = record { rest = sym (λ i. record (seen (rest i)) { reserved = q.reserved }); places = Gains-same p q'.reserved q.reserved gain }

    pub place-left : Gains p q'.reserved q.reserved → ((m : ℕ) → reserved names' m ≡ (if m == p.member then reserved names m - 1 else reserved names m)) → AreOrdersIndexed q' names'
    place-left gain less = subst (λ (v : QueuedOrders). AreOrdersIndexed v names') (sym rest) (record {
      named = λ m r. same m r ∙ h.named m r;
      names_reserved = λ m. reserved_if (m == p.member) m (count-for m p q'.reserved q.reserved gain) (less m);
      sound = record { names = h.sound.names; rests = h.sound.rests; within = omega (arith, h.sound.within, Gains-length p q'.reserved q.reserved gain) };
    })
      where
        reserved_if : (b : Bool) (m : ℕ) → count_by (is_for m) q.reserved ≡ (if b then 1 else 0) + count_by (is_for m) q'.reserved → reserved names' m ≡ (if b then reserved names m - 1 else reserved names m) → count_by (is_for m) q'.reserved ≤ reserved names' m
        reserved_if true m c e = omega (arith, c, e, h.names_reserved m)
        reserved_if false m c e = omega (arith, c, e, h.names_reserved m)

  -- ---- an order joins, in its reserved place
  module _ (o : Order) (time key : ℕ) (q' : QueuedOrders) (orders : q'.orders ≡ q.orders ++ record { key = key; time = time; item = o } ∷ []) (gain : Gains (place_of o) q'.reserved q.reserved) where
    abbrev x : Listed Order
    x = record { key = key; time = time; item = o }

    pub joined : map listed_item q'.orders ≡ os ++ o ∷ []
    joined = ap (map listed_item) orders ∙ map-append listed_item q.orders (x ∷ [])

    pub order-joined : list_any (is_named o.member o.reference) os ≡ false → is_in_range o.rest ≡ true → (names' : List (ℕ × NamesOfMember))
        → ((m r : ℕ) → lookup names' m r ≡ (if (m == o.member) && (r == o.reference) then Some key else lookup names m r)) → ((m : ℕ) → reserved names' m ≡ (if m == o.member then reserved names m - 1 else reserved names m))
        → AreOrdersIndexed q' names'
    order-joined out range names' put less = record {
      named = λ m r. put m r ∙ ap (λ (k : Option ℕ). if (m == o.member) && (r == o.reference) then Some key else k) (h.named m r) ∙ sym (ap (key_by_name order_owner order_reference m r) orders ∙ key_of-push order_owner order_reference m r q.orders x out);
      names_reserved = λ m. reserved_if (m == o.member) m (count-for m (place_of o) q'.reserved q.reserved gain) (less m);
      sound = record {
        names = ap (have_own_names order_owner order_reference) joined ∙ own_names-push order_owner order_reference os o out h.sound.names;
        rests = ap (list_all (λ (o : Order). is_in_range o.rest)) joined ∙ rests-push (λ (o : Order). is_in_range o.rest) os o h.sound.rests range;
        within = omega (arith, h.sound.within, ap length joined, length-append os (o ∷ []), Gains-length (place_of o) q'.reserved q.reserved gain);
      };
    }
      where
        reserved_if : (b : Bool) (m : ℕ) → count_by (is_for m) q.reserved ≡ (if b then 1 else 0) + count_by (is_for m) q'.reserved → reserved names' m ≡ (if b then reserved names m - 1 else reserved names m) → count_by (is_for m) q'.reserved ≤ reserved names' m
        reserved_if true m c e = omega (arith, c, e, h.names_reserved m)
        reserved_if false m c e = omega (arith, c, e, h.names_reserved m)

  -- ---- a name that leads nowhere
  pub unnamed : (member reference : ℕ) → None ≡ lookup names member reference → find (is_named member reference) os ≡ None
  unnamed member reference e = not-named order_owner order_reference member reference q.orders (sym (e ∙ h.named member reference))

  pub unknown : (member reference : ℕ) → None ≡ lookup names member reference → list_any (is_named member reference) os ≡ false
  unknown member reference e = none-found (is_named member reference) os (unnamed member reference e)

  pub nothing-of-member : (member : ℕ) → ((r : ℕ) → lookup names member r ≡ None) → without_member member os ≡ os
  nothing-of-member member none = nothing-of order_owner order_reference member os (λ r. unnamed member r (sym (none r)))

  -- ---- the order of a name
  module _ (member reference key : ℕ) (e : Some key ≡ lookup names member reference) where
    pub at : IsNamedAt order_owner order_reference member reference key q.orders
    at = named-at order_owner order_reference member reference key q.orders (sym (e ∙ h.named member reference))

    pub contains : Contains q.orders at.listed
    contains = (find-Some (has_name order_owner order_reference member reference) q.orders at.listed at.found).contains

    pub key-there : Contains (keys_in q.orders) key
    key-there = subst (λ (n : ℕ). Contains (keys_in q.orders) n) at.key_is (Contains-map (λ (x : Listed Order). x.key) q.orders at.listed contains)

    pub found-order : find (is_named member reference) os ≡ Some at.listed.item
    found-order = find-map order_owner order_reference member reference q.orders ∙ ap (option_map listed_item) at.found

    -- what its queue answers for its key
    pub entry-found : (e : Option (Entry Order)) → ((x : Listed Order) → Contains q.orders x → x.key ≡ key → e ≡ Some (listed_entry x)) → option_map (λ (e : Entry Order). e.item) e ≡ find (is_named member reference) os
    entry-found e answer = ap (option_map (λ (e : Entry Order). e.item)) (answer at.listed contains at.key_is) ∙ sym found-order

    -- the order that its queue gives up for its key
    pub order-found : (o : Order) → ((x : Listed Order) → Contains q.orders x → x.key ≡ key → o ≡ x.item) → Some o ≡ find (is_named member reference) os
    order-found o answer = ap (λ (o : Order). Some o) (answer at.listed contains at.key_is) ∙ sym found-order

    pub known : list_any (is_named member reference) os ≡ true
    known = some-found (is_named member reference) os at.listed.item found-order

    -- it leaves
    module _ (distinct : AreDistinct (keys_in q.orders)) (q' : QueuedOrders) (left : q' ≡ record q { orders = filter (is_other_key key) q.orders }) where
      by-name : filter (is_other_key key) q.orders ≡ filter (others order_owner order_reference member reference) q.orders
      by-name = ap (λ (n : ℕ). filter (is_other_key n) q.orders) (sym at.key_is) ∙ left-by-key order_owner order_reference member reference q.orders at.listed distinct h.sound.names at.found

      orders-left : map listed_item (filter (others order_owner order_reference member reference) q.orders) ≡ removed member reference os
      orders-left = items-kept (λ (o : Order). not (is_named member reference o)) q.orders

      left-is : q' ≡ record q { orders = filter (others order_owner order_reference member reference) q.orders }
      left-is = left ∙ (λ i. record q { orders = by-name i })

      -- what is seen of the book
      pub seen-left : seen q' ≡ record (seen q) { orders = removed member reference os }
      seen-left = ap seen left-is ∙ (λ i. record (seen q) { orders = orders-left i })

      pub member-left : without_member member (map listed_item q'.orders) ≡ without_member member os
      member-left = ap (λ (t : TimeList). without_member member t.orders) seen-left ∙ left-without order_owner order_reference member reference os

      pub member-shorter : length (map listed_item q'.orders) < length os
      member-shorter = omega (arith, ap (λ (t : TimeList). length t.orders) seen-left, fewer-left member reference os known)

      pub order-left : (names' : List (ℕ × NamesOfMember)) → ((m r : ℕ) → lookup names' m r ≡ (if (m == member) && (r == reference) then None else lookup names m r)) → ((m : ℕ) → reserved names' m ≡ reserved names m)
          → AreOrdersIndexed q' names'
      order-left names' out same = subst (λ (v : QueuedOrders). AreOrdersIndexed v names') (sym left-is) (record {
        named = λ m r. out m r ∙ ap (λ (k : Option ℕ). if (m == member) && (r == reference) then None else k) (h.named m r) ∙ sym (key_of-others order_owner order_reference member reference m r q.orders);
        names_reserved = λ m. omega (arith, same m, h.names_reserved m);
        sound = record {
          names = ap (have_own_names order_owner order_reference) orders-left ∙ own_names-kept order_owner order_reference (λ (o : Order). not (is_named member reference o)) os h.sound.names;
          rests = ap (list_all (λ (o : Order). is_in_range o.rest)) orders-left ∙ rests-kept (λ (o : Order). is_in_range o.rest) (λ (o : Order). not (is_named member reference o)) os h.sound.rests;
          within = omega (arith, h.sound.within, ap length orders-left, length-kept (λ (o : Order). not (is_named member reference o)) os);
        };
      })

    -- the rest that it is given
    pub in-bounds : (rest : ℕ) → IfSome (find (is_named member reference) os) (λ (o : Order). (1 ≤ rest) × (rest ≤ o.rest)) → (1 ≤ rest) × (rest ≤ at.listed.item.rest)
    in-bounds rest bounds = subst (λ (o : Option Order). IfSome o (λ (o : Order). (1 ≤ rest) × (rest ≤ o.rest))) found-order bounds

    pub bounds-of-key : (rest : ℕ) → IfSome (find (is_named member reference) os) (λ (o : Order). (1 ≤ rest) × (rest ≤ o.rest)) → AreDistinct (keys_in q.orders)
        → (x : Listed Order) → Contains q.orders x → x.key ≡ key → (1 ≤ rest) × (rest ≤ x.item.rest)
    bounds-of-key rest bounds distinct x there same =
        subst (λ (y : Listed Order). (1 ≤ rest) × (rest ≤ y.item.rest)) (sym (key-once q.orders at.listed x distinct contains there (same ∙ sym at.key_is))) (in-bounds rest bounds)

    -- it is reduced
    module _ (rest : ℕ) (distinct : AreDistinct (keys_in q.orders)) (q' : QueuedOrders) (less : q' ≡ record q { orders = map (reduced_at key rest) q.orders }) where
      reduced-is : q' ≡ record q { orders = map (reduced member reference rest) q.orders }
      reduced-is =
          less
          ∙ (λ i. record q { orders = (ap (λ (n : ℕ). map (reduced_at n rest) q.orders) (sym at.key_is) ∙ reduced-by-key member reference rest q.orders at.listed distinct h.sound.names at.found) i })

      pub seen-reduced : seen q' ≡ record (seen q) { orders = with_rest member reference rest os }
      seen-reduced = ap seen reduced-is ∙ (λ i. record (seen q) { orders = orders-reduced member reference rest q.orders i })

      pub order-reduced : (1 ≤ rest) × (rest ≤ at.listed.item.rest) → AreOrdersIndexed q' names
      order-reduced bounds = subst (λ (v : QueuedOrders). AreOrdersIndexed v names) (sym reduced-is) (record {
        named = λ m r. h.named m r ∙ sym (key_of-reduced member reference rest m r q.orders);
        names_reserved = h.names_reserved;
        sound = record {
          names = ap (have_own_names order_owner order_reference) (orders-reduced member reference rest q.orders) ∙ own_names-reduced member reference rest os h.sound.names;
          rests = ap (list_all (λ (o : Order). is_in_range o.rest)) (orders-reduced member reference rest q.orders) ∙ rests-reduced member reference rest os range h.sound.rests;
          within = omega (arith, h.sound.within, ap length (orders-reduced member reference rest q.orders), length-map os (λ (o : Order). if is_named member reference o then record o { rest = rest } else o));
        };
      })
        where
          old : is_in_range at.listed.item.rest ≡ true
          old = all-at (λ (o : Order). is_in_range o.rest) os at.listed.item h.sound.rests (is_named member reference) found-order

          range : is_in_range rest ≡ true
          range = range_within rest bounds.0 (omega (arith, bounds.1, range_high at.listed.item.rest old))
