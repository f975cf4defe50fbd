-- An order leaves the queue of its level.
use Rattle.std.proofs.Common.{◌≡◌, ◌≢◌, ℕ, zero, suc, ◌+◌, ◌-◌, ◌≤◌, Bool, true, false, not, if◌then◌else◌, List, [], ◌∷◌, length, get_or, filter, Contains, Option, Some, None, IsSome, refl, rules, sym, ap, ◌∙◌, subst, ◌⊎◌, inl, inr, arith, nat_eq}
use Rattle.std.specs.List.{All}
use Rattle.std.proofs.lemmas.Bool.{eqb-true, false≢true}
use Rattle.std.proofs.lemmas.List.Elements.{All-contains, Contains-get_or}
use Rattle.std.proofs.lemmas.List.Sums.{sum_by-cons}
use Rattle.xm_slots.specs.Slots.{SlotsView, Updates, get, used}
use Rattle.xm_book.specs.Levels.{IsLevelFound, IsLevelSet, at_level, level_for}
use Rattle.xm_slots.specs.Listing.{is_other_key, keys_in, LiesAt}
use Rattle.xm_book.specs.Queued.{HasItsKind, HoldsLevel, IsLevelOf, AreOrdersQueued, is_of_level, orders_of_level, units_in}
use Rattle.xm_slots.specs.declared.entry.Entry.{Entry}
use Rattle.xm_slots.specs.declared.listing.Listed.{Listed}
use Rattle.xm_book.proofs.Joining.{apart, at-itself, here, is-at}
use Rattle.xm_slots.proofs.Tests.{same_some}
use Rattle.xm_slots.proofs.Members.{Contains-cases, Contains-filter, Contains-map, Contains-none, Passes-filter}
use Rattle.xm_ladders.specs.Ladder.{HasKind, IsCleared}
use Rattle.xm_ladders.specs.Ladders.{ladder_on, level_on, side_of}
use Rattle.xm_ladders.specs.declared.ladders.Ladders.{Ladders}
use Rattle.xm_ladders.specs.declared.level.Level.{Level}
use Rattle.xm_queues.proofs.Walks.{queue_nil}
use Rattle.xm_queues.specs.Keys.{AreApart, AreDistinct, without}
use Rattle.xm_queues.specs.Queue.{HasKey, IsQueue, key_limit}
use Rattle.xm_queues.specs.declared.queues.Ends.{Ends}
use Rattle.xm_queues.specs.declared.links.Link.{Link}
use Rattle.xm_rules.specs.declared.orders.Order.{Order}
use Rattle.xm_rules.specs.declared.orders.OrderKind.{OrderKind}
use Rattle.xm_rules.specs.declared.orders.Restriction.{Restriction}
use Rattle.xm_rules.specs.declared.orders.Side.{Side}
use Rattle.xm_slots.proofs.Leaving.{all-stay, distinct-left, filters, itself, keys-left, listed-at}
use Rattle.xm_ticks.specs.declared.numbers.TheConstants.{MAX_QUANTITY}

-- one order leaves, and its units
pub record IsLess (x : Listed Order) (xs : List (Listed Order)) : Type 0 where
  pub orders : length (filter (is_other_key x.key) xs) + 1 ≡ length xs
  pub units : units_in (filter (is_other_key x.key) xs) + x.item.rest ≡ units_in xs

pub one-less : (x : Listed Order) (xs : List (Listed Order)) → AreDistinct (keys_in xs) → Contains xs x → IsLess x xs
one-less x [] d at = absurd (Contains-none x at)
one-less x (y ∷ ys) d at = less_by (λ c. one-less x ys d.1 c) (Contains-cases y ys x at)
  where
    gone : (b : Bool) → nat_eq y.key x.key ≡ b → y ≡ x → IsLess x (y ∷ ys)
    gone true e same =
        let stay = all-stay x.key ys (λ c. d.0 (subst (λ (k : ℕ). Contains (keys_in ys) k) (sym (eqb-true y.key x.key e)) c)) in
        let left : filter (is_other_key x.key) (y ∷ ys) ≡ ys = (λ i. if not (e i) then y ∷ filter (is_other_key x.key) ys else filter (is_other_key x.key) ys) ∙ stay in
        let rest : x.item.rest ≡ y.item.rest = ap (λ (z : Listed Order). z.item.rest) (sym same) in
        record { orders = omega (arith, ap length left); units = omega (arith, rest, ap units_in left, sum_by-cons (λ (z : Listed Order). z.item.rest) y ys) }
    gone false e same = absurd (false≢true (sym e ∙ ap (λ (z : Listed Order). nat_eq z.key x.key) same ∙ itself x.key))

    later : (Contains ys x → IsLess x ys) → (b : Bool) → nat_eq y.key x.key ≡ b → Contains ys x → IsLess x (y ∷ ys)
    later more true e c = absurd (d.0 (subst (λ (k : ℕ). Contains (keys_in ys) k) (sym (eqb-true y.key x.key e)) (Contains-map (λ (z : Listed Order). z.key) ys x c)))
    later more false e c =
        let rest = more c in
        let left : filter (is_other_key x.key) (y ∷ ys) ≡ y ∷ filter (is_other_key x.key) ys = (λ i. if not (e i) then y ∷ filter (is_other_key x.key) ys else filter (is_other_key x.key) ys) in
        record {
          orders = omega (arith, ap length left, rest.orders);
          units = omega (arith, ap units_in left, rest.units, sum_by-cons (λ (z : Listed Order). z.item.rest) y ys, sum_by-cons (λ (z : Listed Order). z.item.rest) y (filter (is_other_key x.key) ys));
        }

    less_by : (Contains ys x → IsLess x ys) → (y ≡ x) ⊎ Contains ys x → IsLess x (y ∷ ys)
    less_by more (inl same) = gone (nat_eq y.key x.key) refl same
    less_by more (inr c) = later more (nat_eq y.key x.key) refl c

-- a level that is found there
pub some-found : (o : Option Level) → (level : Level) × IsLevelFound o level
some-found None = (record { ends = record { first = None; last = None }; orders = 0; units = 0 }, (queue_nil, (refl, refl)))
some-found (Some level) = (level, refl)

module _ {A : Type 0} (xs : List (Listed Order)) (entries : SlotsView Order) (links : List Link) (ladders : Ladders A) (h : AreOrdersQueued xs entries links ladders) where
  module _ (x : Listed Order) (at : Contains xs x) (level : Level) (f : IsLevelFound (level_for x.item ladders) level) where
    abbrev ms : List (Listed Order)
    ms = orders_of_level x.item.side x.item.restriction x.item.kind xs

    pub standing : Contains ms x
    standing =
        Contains-filter (is_of_level x.item.side x.item.restriction x.item.kind) xs x
        (at-itself x.item.side x.item.restriction x.item.kind x.item (record { side = refl; restriction = refl; kind = refl })) at

    pub held : IsLevelOf links level ms
    held = here xs entries links ladders h x.item level f

    pub has-key : HasKey links level.ends x.key
    has-key = record { keys = keys_in ms; queue = held.queue; member = Contains-map (λ (y : Listed Order). y.key) ms x standing }

    pub less : IsLess x ms
    less = one-less x ms held.queue.distinct standing

    pub some-order : 1 ≤ level.orders
    some-order = omega (arith, held.orders, less.orders)

    pub enough-units : x.item.rest ≤ level.units
    enough-units = omega (arith, held.units, less.units)

  -- the order whose entry lies under a key that is listed
  module _ (key : ℕ) (at : Contains (keys_in xs) key) (e : Entry Order) (v : get entries key ≡ Some e) (level : Level) (f : IsLevelFound (level_for e.item ladders) level) where
    abbrev pub taken : Listed Order
    taken = (listed-at xs entries h.lie key at).0

    pub taken-order : taken.item ≡ e.item
    taken-order = let l = listed-at xs entries h.lie key at in ap (λ (y : Entry Order). y.item) (same_some (sym l.3 ∙ ap (get entries) l.2 ∙ v))

    pub taken-level : IsLevelFound (level_for taken.item ladders) level
    taken-level = subst (λ (o : Order). IsLevelFound (level_for o ladders) level) (sym taken-order) f

    pub key-there : HasKey links level.ends key
    key-there = let l = listed-at xs entries h.lie key at in subst (λ (k : ℕ). HasKey links level.ends k) l.2 (has-key taken l.1 level taken-level)

    pub orders-there : 1 ≤ level.orders
    orders-there = some-order taken (listed-at xs entries h.lie key at).1 level taken-level

    pub taken-rest : (P : ℕ → Type 0) → ((x : Listed Order) → Contains xs x → x.key ≡ key → P x.item.rest) → P e.item.rest
    taken-rest P each = subst P (ap (λ (o : Order). o.rest) taken-order) (each taken (listed-at xs entries h.lie key at).1 (listed-at xs entries h.lie key at).2)

    pub units-there : e.item.rest ≤ level.units
    units-there = omega (arith, ap (λ (o : Order). o.rest) taken-order, enough-units taken (listed-at xs entries h.lie key at).1 level taken-level)

    pub kind-there : HasKind (ladder_on e.item.restriction (side_of e.item.side ladders)) e.item.kind
    kind-there = subst (λ (o : Order). HasKind (ladder_on o.restriction (side_of o.side ladders)) o.kind) taken-order (All-contains (HasItsKind ladders) xs taken h.kinds (listed-at xs entries h.lie key at).1)

    pub level-there : IsSome (level_for e.item ladders)
    level-there = subst (λ (o : Order). IsSome (level_for o ladders)) taken-order (some_at (level_for taken.item ladders) (h.levels taken.item.side taken.item.restriction taken.item.kind))
      where
        some_at : (o : Option Level) → HoldsLevel links o (orders_of_level taken.item.side taken.item.restriction taken.item.kind xs) → IsSome o
        some_at None none = absurd (Contains-none taken (subst (λ (ys : List (Listed Order)). Contains ys taken) none (standing taken (listed-at xs entries h.lie key at).1 level taken-level)))
        some_at (Some l) there = search rules

    abbrev pub o : Order
    o = e.item

    -- the orders of its level
    abbrev pub its : List (Listed Order)
    its = orders_of_level o.side o.restriction o.kind xs

    base : IsLevelOf links level its
    base = here xs entries links ladders h o level f

    pub in-its : Contains its taken
    in-its = subst (λ (w : Order). Contains (orders_of_level w.side w.restriction w.kind xs) taken) taken-order (standing taken (listed-at xs entries h.lie key at).1 level taken-level)

    pub key-in-its : Contains (keys_in its) key
    key-in-its = subst (λ (n : ℕ). Contains (keys_in its) n) (listed-at xs entries h.lie key at).2 (Contains-map (λ (y : Listed Order). y.key) its taken in-its)

    module _ (entries' : SlotsView Order) (u : Updates entries entries' key None) (len : used entries' + 1 ≡ used entries) (cap : entries'.capacity ≡ entries.capacity)
        (links' : List Link) (ends' : Ends) (left : (keys : List ℕ) → IsQueue links level.ends keys → IsQueue links' ends' (without key keys))
        (others : (other : Ends) (keys keys' : List ℕ) → IsQueue links level.ends keys → IsQueue links other keys' → AreApart keys keys' → IsQueue links' other keys')
        (limit : key_limit links' ≡ key_limit links) (ladders' : Ladders A)
        (set : IsLevelSet (level_for e.item ladders') (record { ends = ends'; orders = level.orders - 1; units = level.units - e.item.rest }))
        (same : (s : Side) (r : Restriction) (k : OrderKind) → at_level s r k e.item ≡ false → level_on (side_of s ladders') r k ≡ level_on (side_of s ladders) r k)
        (kinds-kept : (s : Side) (r : Restriction) (k : OrderKind) → HasKind (ladder_on r (side_of s ladders)) k → HasKind (ladder_on r (side_of s ladders')) k) where
      abbrev new_level : Level
      new_level = record { ends = ends'; orders = level.orders - 1; units = level.units - e.item.rest }

      fewer : IsLess taken its
      fewer = one-less taken its base.queue.distinct in-its

      abbrev rest_of : List (Listed Order)
      rest_of = filter (is_other_key key) its

      count-left : length rest_of + 1 ≡ length its
      count-left = ap (λ (n : ℕ). length (filter (is_other_key n) its) + 1) (sym (listed-at xs entries h.lie key at).2) ∙ fewer.orders

      units-left : units_in rest_of + o.rest ≡ units_in its
      units-left = (λ i. units_in (filter (is_other_key (sym (listed-at xs entries h.lie key at).2 i)) its) + (sym taken-order i).rest) ∙ fewer.units

      shorter : IsLevelOf links' new_level rest_of
      shorter = record {
        queue = subst (λ (ks : List ℕ). IsQueue links' ends' ks) (sym (keys-left key its)) (left (keys_in its) base.queue);
        orders = omega (arith, base.orders, count-left);
        units = omega (arith, base.units, units-left);
      }

      none-left : (ys : List (Listed Order)) → length ys ≡ 0 → ys ≡ []
      none-left [] z = refl
      none-left (y ∷ ys) z = absurd (omega arith)

      cleared : (l : Option Level) → length rest_of ≡ 0 → IsCleared l → HoldsLevel links' l rest_of
      cleared None z c = none-left rest_of z
      cleared (Some l) z c = subst (λ (ys : List (Listed Order)). IsLevelOf links' l ys) (sym (none-left rest_of z)) (record { queue = c.0 links'; orders = c.1.0; units = c.1.1 })

      set-holds : (n : ℕ) → new_level.orders ≡ n → HoldsLevel links' (level_for o ladders') rest_of
      set-holds zero z = cleared (level_for o ladders') (omega (arith, z, shorter.orders)) (set.1 z)
      set-holds (suc n) z = subst (λ (l : Option Level). HoldsLevel links' l rest_of) (sym (set.0 (omega (arith, z)))) shorter

      module _ (s : Side) (r : Restriction) (k : OrderKind) where
        kept : at_level s r k o ≡ false → (l : Option Level) → HoldsLevel links l (orders_of_level s r k xs) → HoldsLevel links' l (orders_of_level s r k xs)
        kept off None z = z
        kept off (Some l) z = record { queue = others l.ends (keys_in its) (keys_in (orders_of_level s r k xs)) base.queue z.queue (apart xs entries links ladders h o level f s r k off); orders = z.orders; units = z.units }

        holds_if : (b : Bool) → at_level s r k o ≡ b → HoldsLevel links' (level_on (side_of s ladders') r k) (filter (is_other_key key) (orders_of_level s r k xs))
        holds_if true t =
            let w = is-at s r k o t in
            subst (λ (l : Option Level). HoldsLevel links' l (filter (is_other_key key) (orders_of_level s r k xs))) (λ i. level_on (side_of (sym w.side i) ladders') (sym w.restriction i) (sym w.kind i))
            (subst (λ (ys : List (Listed Order)). HoldsLevel links' (level_for o ladders') (filter (is_other_key key) ys)) (λ i. orders_of_level (sym w.side i) (sym w.restriction i) (sym w.kind i) xs) (set-holds new_level.orders refl))
        holds_if false t =
            subst (λ (l : Option Level). HoldsLevel links' l (filter (is_other_key key) (orders_of_level s r k xs))) (sym (same s r k t))
            (subst (λ (ys : List (Listed Order)). HoldsLevel links' (level_on (side_of s ladders) r k) ys) (sym (all-stay key (orders_of_level s r k xs) (λ c. apart xs entries links ladders h o level f s r k t key key-in-its c)))
            (kept t (level_on (side_of s ladders) r k) (h.levels s r k)))

        holds : HoldsLevel links' (level_on (side_of s ladders') r k) (orders_of_level s r k (filter (is_other_key key) xs))
        holds = subst (λ (ys : List (Listed Order)). HoldsLevel links' (level_on (side_of s ladders') r k) ys) (filters (is_other_key key) (is_of_level s r k) xs) (holds_if (at_level s r k o) refl)

      other-key : (y : Listed Order) → is_other_key key y ≡ true → y.key ≢ key
      other-key y t e = absurd (false≢true (sym (ap not (ap (λ (n : ℕ). nat_eq n key) e ∙ itself key)) ∙ t))

      kept-all : (P : Listed Order → Type 0) → ((y : Listed Order) → Contains xs y → is_other_key key y ≡ true → P y) → All P (filter (is_other_key key) xs)
      kept-all P each i d lt =
          let y = get_or (filter (is_other_key key) xs) i d in
          let at-y = Passes-filter (is_other_key key) xs y (Contains-get_or (filter (is_other_key key) xs) i d lt) in
          each y at-y.contains at-y.passes

      whole : IsLess taken xs
      whole = one-less taken xs h.distinct (listed-at xs entries h.lie key at).1

      pub left-queued : AreOrdersQueued (filter (is_other_key key) xs) entries' links' ladders'
      left-queued = record {
        lie = kept-all (LiesAt entries') (λ y c t. u.others y.key (other-key y t) ∙ All-contains (LiesAt entries) xs y h.lie c);
        distinct = distinct-left key xs h.distinct;
        count = omega (arith, len, h.count, ap (λ (n : ℕ). length (filter (is_other_key n) xs) + 1) (sym (listed-at xs entries h.lie key at).2) ∙ whole.orders);
        few = omega (arith, h.few, ap (λ (n : ℕ). length (filter (is_other_key n) xs) + 1) (sym (listed-at xs entries h.lie key at).2) ∙ whole.orders);
        small = kept-all (λ (y : Listed Order). y.item.rest ≤ MAX_QUANTITY) (λ y c t. All-contains (λ (z : Listed Order). z.item.rest ≤ MAX_QUANTITY) xs y h.small c);
        kinds = kept-all (HasItsKind ladders') (λ y c t. kinds-kept y.item.side y.item.restriction y.item.kind (All-contains (HasItsKind ladders) xs y h.kinds c));
        levels = holds;
        fits = omega (arith, cap, limit, h.fits);
      }
