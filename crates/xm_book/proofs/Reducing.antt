-- An order of a level takes a lower rest.
use Rattle.std.proofs.Common.{rules, suc, ◌≡◌, ℕ, ◌+◌, ◌≤◌, Bool, true, false, if◌then◌else◌, List, [], ◌∷◌, get_or, map, Contains, Option, Some, None, IsSome, refl, sym, ap, ◌∙◌, subst, ◌⊎◌, inl, inr, arith, nat_eq}
use Rattle.std.proofs.lemmas.Bool.{eqb-true}
use Rattle.std.proofs.lemmas.List.{length-map}
use Rattle.std.proofs.lemmas.List.Elements.{All-head, All-map, All-tail}
use Rattle.std.proofs.lemmas.List.Sums.{sum_by-cons}
use Rattle.xm_book.specs.Levels.{IsLevelFound, at_level, level_for}
use Rattle.std.specs.List.{All}
use Rattle.xm_slots.specs.Listing.{keys_in, listed_entry, replaced_by, LiesAt}
use Rattle.xm_book.specs.Listing.{reduced_at}
use Rattle.xm_book.specs.Queued.{HasItsKind, HoldsLevel, IsLevelOf, AreOrdersQueued, is_of_level, orders_of_level, units_in}
use Rattle.xm_slots.specs.Slots.{SlotsView, Updates, get, used}
use Rattle.xm_slots.specs.declared.entry.Entry.{Entry}
use Rattle.xm_slots.specs.declared.listing.Listed.{Listed}
use Rattle.xm_book.proofs.Joining.{apart, here, is-at}
use Rattle.xm_slots.proofs.Tests.{same_some}
use Rattle.xm_slots.proofs.Leaving.{itself, listed-at}
use Rattle.xm_book.proofs.Leaving.{in-its, key-in-its, taken, taken-order}
use Rattle.xm_slots.proofs.Members.{Contains-cases, Contains-map, Contains-none}
use Rattle.xm_ladders.specs.Ladder.{HasKind}
use Rattle.xm_ladders.specs.Ladders.{ladder_on, level_on, side_of}
use Rattle.xm_ladders.specs.declared.ladders.Ladders.{Ladders}
use Rattle.xm_ladders.specs.declared.level.Level.{Level}
use Rattle.xm_queues.specs.Keys.{AreDistinct}
use Rattle.xm_queues.specs.Queue.{IsQueue}
use Rattle.xm_queues.specs.declared.links.Link.{Link}
use Rattle.xm_rules.specs.declared.orders.OrderKind.{OrderKind}
use Rattle.xm_rules.specs.declared.orders.Restriction.{Restriction}
use Rattle.xm_rules.specs.declared.orders.Side.{Side}
use Rattle.xm_rules.specs.declared.orders.Order.{Order}
use Rattle.xm_ticks.specs.declared.numbers.TheConstants.{MAX_QUANTITY}

pub no_room : {X : Type 0} (o : Option X) → o ≡ None → IsSome o → ⊥
no_room None e s = search rules
no_room (Some x) e s = cc

module _ (key rest : ℕ) where
  -- an order with the rest, if it is the one
  abbrev pub lowered : Bool → Listed Order → Listed Order
  lowered b x = if b then (let o = x.item in record x { item = record o { rest = rest } }) else x

  same-key : (b : Bool) (x : Listed Order) → (lowered b x).key ≡ x.key
  same-key true x = refl
  same-key false x = refl

  pub keys-reduced : (xs : List (Listed Order)) → keys_in (map (reduced_at key rest) xs) ≡ keys_in xs
  keys-reduced [] = refl
  keys-reduced (x ∷ xs) = (λ i. same-key (nat_eq x.key key) x i ∷ keys-reduced xs i)

  same-member : (s : Side) (r : Restriction) (k : OrderKind) (b : Bool) (x : Listed Order) → is_of_level s r k (lowered b x) ≡ is_of_level s r k x
  same-member s r k true x = refl
  same-member s r k false x = refl

  members-reduced : (s : Side) (r : Restriction) (k : OrderKind) (xs : List (Listed Order)) → orders_of_level s r k (map (reduced_at key rest) xs) ≡ map (reduced_at key rest) (orders_of_level s r k xs)
  members-reduced s r k [] = refl
  members-reduced s r k (x ∷ xs) =
      (λ i. if same-member s r k (nat_eq x.key key) x i then reduced_at key rest x ∷ members-reduced s r k xs i else members-reduced s r k xs i)
      ∙ kept_if (is_of_level s r k x)
    where
      kept_if : (b : Bool) → (if b then reduced_at key rest x ∷ map (reduced_at key rest) (orders_of_level s r k xs) else map (reduced_at key rest) (orders_of_level s r k xs))
          ≡ map (reduced_at key rest) (if b then x ∷ orders_of_level s r k xs else orders_of_level s r k xs)
      kept_if true = refl
      kept_if false = refl

  -- where no order has the key, all stay
  pub none-reduced : (xs : List (Listed Order)) → (Contains (keys_in xs) key → ⊥) → map (reduced_at key rest) xs ≡ xs
  none-reduced [] h = refl
  none-reduced (x ∷ xs) h = (λ i. same_if (nat_eq x.key key) refl i ∷ none-reduced xs (λ c. h (suc' c)) i)
    where
      suc' : Contains (keys_in xs) key → Contains (keys_in (x ∷ xs)) key
      suc' c = (suc c.0, omega (arith, c.1), c.2)

      same_if : (b : Bool) → nat_eq x.key key ≡ b → lowered b x ≡ x
      same_if true e = absurd (h (0, omega arith, eqb-true x.key key e))
      same_if false e = refl

-- the sum of the rests falls by as much as the rest
pub units-reduced : (rest : ℕ) (x : Listed Order) (xs : List (Listed Order)) → AreDistinct (keys_in xs) → Contains xs x → units_in (map (reduced_at x.key rest) xs) + x.item.rest ≡ units_in xs + rest
units-reduced rest x [] d at = absurd (Contains-none x at)
units-reduced rest x (y ∷ ys) d at = by (λ c. units-reduced rest x ys d.1 c) (Contains-cases y ys x at)
  where
    units : Listed Order → ℕ
    units z = z.item.rest

    first : (b : Bool) → nat_eq y.key x.key ≡ b → units_in (map (reduced_at x.key rest) (y ∷ ys)) ≡ units (lowered x.key rest b y) + units_in (map (reduced_at x.key rest) ys)
    first b e = sum_by-cons units (reduced_at x.key rest y) (map (reduced_at x.key rest) ys) ∙ ap (λ (c : Bool). units (lowered x.key rest c y) + units_in (map (reduced_at x.key rest) ys)) e

    here' : (b : Bool) → nat_eq y.key x.key ≡ b → y ≡ x → units_in (map (reduced_at x.key rest) (y ∷ ys)) + x.item.rest ≡ units_in (y ∷ ys) + rest
    here' true e same =
        let others = none-reduced x.key rest ys (λ c. d.0 (subst (λ (k : ℕ). Contains (keys_in ys) k) (sym (eqb-true y.key x.key e)) c)) in
        omega (arith, first true e, ap units_in others, sum_by-cons units y ys, ap units same)
    here' false e same = absurd (let t = itself x.key in let f : nat_eq x.key x.key ≡ false = ap (λ (z : Listed Order). nat_eq z.key x.key) (sym same) ∙ e in cc)

    later : (Contains ys x → units_in (map (reduced_at x.key rest) ys) + x.item.rest ≡ units_in ys + rest) → (b : Bool) → nat_eq y.key x.key ≡ b → Contains ys x
        → units_in (map (reduced_at x.key rest) (y ∷ ys)) + x.item.rest ≡ units_in (y ∷ ys) + rest
    later more true e c = absurd (d.0 (subst (λ (k : ℕ). Contains (keys_in ys) k) (sym (eqb-true y.key x.key e)) (Contains-map (λ (z : Listed Order). z.key) ys x c)))
    later more false e c = omega (arith, first false e, more c, sum_by-cons units y ys)

    by : (Contains ys x → units_in (map (reduced_at x.key rest) ys) + x.item.rest ≡ units_in ys + rest) → (y ≡ x) ⊎ Contains ys x
        → units_in (map (reduced_at x.key rest) (y ∷ ys)) + x.item.rest ≡ units_in (y ∷ ys) + rest
    by more (inl same) = here' (nat_eq y.key x.key) refl same
    by more (inr c) = later more (nat_eq y.key x.key) refl c

module _ {A : Type 0} (xs : List (Listed Order)) (entries : SlotsView Order) (links : List Link) (ladders : Ladders A) (h : AreOrdersQueued xs entries links ladders) (key : ℕ) (at : Contains (keys_in xs) key)
    (e : Entry Order) (v : get entries key ≡ Some e) (level : Level) (f : IsLevelFound (level_for e.item ladders) level) (rest : ℕ) (le : rest ≤ e.item.rest) where
  abbrev its : List (Listed Order)
  its = orders_of_level e.item.side e.item.restriction e.item.kind xs

  base : IsLevelOf links level its
  base = here xs entries links ladders h e.item level f

  module _ (entries' : SlotsView Order) (u : Updates entries entries' key (Some (let o = e.item in record e { item = record o { rest = rest } }))) (len : used entries' ≡ used entries) (cap : entries'.capacity ≡ entries.capacity)
      (ladders' : Ladders A) (units : ℕ) (fewer : units + e.item.rest ≡ level.units + rest)
      (puts : (s : Side) (r : Restriction) (k : OrderKind) → level_on (side_of s ladders') r k ≡ (if at_level s r k e.item then Some (record { ends = level.ends; orders = level.orders; units = units }) else level_on (side_of s ladders) r k))
      (kinds-kept : (s : Side) (r : Restriction) (k : OrderKind) → HasKind (ladder_on r (side_of s ladders)) k → HasKind (ladder_on r (side_of s ladders')) k) where
    abbrev new_level : Level
    new_level = record { ends = level.ends; orders = level.orders; units = units }

    left-units : units_in (map (reduced_at key rest) its) + e.item.rest ≡ units_in its + rest
    left-units =
        (λ i. units_in (map (reduced_at (sym (listed-at xs entries h.lie key at).2 i) rest) its) + (sym (taken-order xs entries links ladders h key at e v level f) i).rest)
        ∙ units-reduced rest (taken xs entries links ladders h key at e v level f) its base.queue.distinct (in-its xs entries links ladders h key at e v level f)

    lower : IsLevelOf links new_level (map (reduced_at key rest) its)
    lower = record {
      queue = subst (λ (ks : List ℕ). IsQueue links level.ends ks) (sym (keys-reduced key rest its)) base.queue;
      orders = base.orders ∙ sym (length-map its (reduced_at key rest));
      units = omega (arith, left-units, base.units, fewer);
    }

    module _ (s : Side) (r : Restriction) (k : OrderKind) where
      holds_if : (b : Bool) → at_level s r k e.item ≡ b → HoldsLevel links (if b then Some new_level else level_on (side_of s ladders) r k) (map (reduced_at key rest) (orders_of_level s r k xs))
      holds_if true t =
          let w = is-at s r k e.item t in
          subst (λ (ys : List (Listed Order)). IsLevelOf links new_level (map (reduced_at key rest) ys)) (λ i. orders_of_level (sym w.side i) (sym w.restriction i) (sym w.kind i) xs) lower
      holds_if false t =
          subst (λ (ys : List (Listed Order)). HoldsLevel links (level_on (side_of s ladders) r k) ys)
          (sym (none-reduced key rest (orders_of_level s r k xs) (λ c. apart xs entries links ladders h e.item level f s r k t key (key-in-its xs entries links ladders h key at e v level f) c)))
          (h.levels s r k)

      holds : HoldsLevel links (level_on (side_of s ladders') r k) (orders_of_level s r k (map (reduced_at key rest) xs))
      holds = subst (λ (l : Option Level). HoldsLevel links l (orders_of_level s r k (map (reduced_at key rest) xs))) (sym (puts s r k))
          (subst (λ (ys : List (Listed Order)). HoldsLevel links (if at_level s r k e.item then Some new_level else level_on (side_of s ladders) r k) ys) (sym (members-reduced key rest s r k xs))
          (holds_if (at_level s r k e.item) refl))

    lies_if : (z : Listed Order) (b : Bool) → nat_eq z.key key ≡ b → LiesAt entries z → LiesAt entries' (lowered key rest b z)
    lies_if z true t l =
        let same = eqb-true z.key key t in
        let is : e ≡ listed_entry z = same_some (sym v ∙ ap (get entries) (sym same) ∙ l) in
        ap (get entries') same ∙ u.changed ∙ ap (λ (w : Entry Order). Some (let o = w.item in record w { item = record o { rest = rest } })) is
    lies_if z false t l = u.others z.key (λ same. (let i : nat_eq z.key key ≡ true = ap (λ (n : ℕ). nat_eq n key) same ∙ itself key in cc)) ∙ l

    small_if : (z : Listed Order) (b : Bool) → z.item.rest ≤ MAX_QUANTITY → rest ≤ MAX_QUANTITY → (lowered key rest b z).item.rest ≤ MAX_QUANTITY
    small_if z true s t = t
    small_if z false s t = s

    kind_if : (z : Listed Order) (b : Bool) → HasItsKind ladders z → HasItsKind ladders' (lowered key rest b z)
    kind_if z true k = kinds-kept z.item.side z.item.restriction z.item.kind k
    kind_if z false k = kinds-kept z.item.side z.item.restriction z.item.kind k

    pub reduced-queued : rest ≤ MAX_QUANTITY → AreOrdersQueued (map (reduced_at key rest) xs) entries' links ladders'
    reduced-queued few = record {
      lie = All-map (LiesAt entries') (reduced_at key rest) xs (λ i d lt. (let z = get_or xs i d in lies_if z (nat_eq z.key key) refl (h.lie i d lt)));
      distinct = subst AreDistinct (sym (keys-reduced key rest xs)) h.distinct;
      count = len ∙ h.count ∙ sym (length-map xs (reduced_at key rest));
      few = omega (arith, h.few, length-map xs (reduced_at key rest));
      small = All-map (λ (z : Listed Order). z.item.rest ≤ MAX_QUANTITY) (reduced_at key rest) xs (λ i d lt. (let z = get_or xs i d in small_if z (nat_eq z.key key) (h.small i d lt) few));
      kinds = All-map (HasItsKind ladders') (reduced_at key rest) xs (λ i d lt. (let z = get_or xs i d in kind_if z (nat_eq z.key key) (h.kinds i d lt)));
      levels = holds;
      fits = omega (arith, cap, h.fits);
    }

-- what stands where the order of the key stood is the order with the rest
module _ (entries : SlotsView Order) (key rest : ℕ) (e : Entry Order) (v : get entries key ≡ Some e) where
  abbrev pub replacement : Listed Order
  replacement = record { key = key; time = e.time; item = (let o = e.item in record o { rest = rest }) }

  replaced_if : (z : Listed Order) (b : Bool) → nat_eq z.key key ≡ b → LiesAt entries z → (if b then replacement else z) ≡ lowered key rest b z
  replaced_if z true t lies =
      let same = eqb-true z.key key t in
      let is : e ≡ listed_entry z = same_some (sym v ∙ ap (get entries) (sym same) ∙ lies) in
      (λ i. record { key = sym same i; time = (is i).time; item = (let o = (is i).item in record o { rest = rest }) })
  replaced_if z false t lies = refl

  pub replaced-reduced : (ys : List (Listed Order)) → All (LiesAt entries) ys → map (replaced_by replacement) ys ≡ map (reduced_at key rest) ys
  replaced-reduced [] h = refl
  replaced-reduced (z ∷ zs) h =
      (λ i. replaced_if z (nat_eq z.key key) refl (All-head (LiesAt entries) z zs h) i ∷ replaced-reduced zs (All-tail (LiesAt entries) z zs h) i)
