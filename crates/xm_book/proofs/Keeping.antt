-- What the parts of the queues keep while orders join and leave, and places are reserved and given up.
use Rattle.std.proofs.Common.{◌≡◌, ℕ, zero, suc, ◌+◌, ◌<◌, ◌≤◌, Bool, true, false, ◌&&◌, if◌then◌else◌, List, [], ◌∷◌, ◌++◌, length, map, count_by, IsSome, rules, refl, sym, ap, ◌∙◌, subst, arith, nat_eq}
use Rattle.std.specs.Prelude.{nat_le}
use Rattle.std.proofs.lemmas.Bool.{and_parts}
use Rattle.std.proofs.lemmas.List.{length-append}
use Rattle.xm_book.specs.Levels.{level_for}
use Rattle.xm_slots.specs.Listing.{rises}
use Rattle.xm_book.specs.Listing.{reduced_at}
use Rattle.xm_book.specs.Places.{place_of, same_place}
use Rattle.xm_book.specs.Queued.{HasPlaces, is_limit_kind, is_limit_in}
use Rattle.xm_book.specs.Reserved.{Gains}
use Rattle.xm_slots.specs.Slots.{SlotsView}
use Rattle.xm_slots.specs.declared.listing.Listed.{Listed}
use Rattle.xm_book.specs.declared.places.Place.{Place}
use Rattle.xm_book.proofs.Joining.{restriction-itself, side-itself}
use Rattle.xm_book.proofs.Placing.{levels-less}
use Rattle.xm_book.proofs.Reserved.{Gains-length, count_one}
use Rattle.xm_book.proofs.Reserving.{same_place-self}
use Rattle.xm_ladders.specs.Ladder.{HasKind, HasLevels, LadderView}
use Rattle.xm_ladders.specs.Ladders.{ladder_on, level_on, side_of}
use Rattle.xm_ladders.specs.declared.ladders.Ladders.{Ladders}
use Rattle.xm_rules.specs.Orders.{same_restriction}
use Rattle.xm_rules.specs.Sides.{same_side}
use Rattle.xm_rules.specs.declared.orders.Order.{Order}
use Rattle.xm_rules.specs.declared.orders.OrderKind.{OrderKind}
use Rattle.xm_rules.specs.declared.orders.OrderKind.TheVariants.{Market, Limit}
use Rattle.xm_rules.specs.declared.orders.Restriction.{Restriction}
use Rattle.xm_rules.specs.declared.orders.Side.{Side}
use Rattle.xm_book.specs.declared.places.TheConstants.{MAX_PLACES}

same-time : (key rest : ℕ) (x : Listed Order) → (reduced_at key rest x).time ≡ x.time
same-time key rest x = same_if (nat_eq x.key key)
  where
    same_if : (b : Bool) → (if b then (let o = x.item in record x { item = record o { rest = rest } }) else x).time ≡ x.time
    same_if true = refl
    same_if false = refl

pub rises-reduced : (key rest l : ℕ) (xs : List (Listed Order)) (high : ℕ) → rises l xs high ≡ true → rises l (map (reduced_at key rest) xs) high ≡ true
rises-reduced key rest l [] high h = h
rises-reduced key rest l (x ∷ xs) high h =
    let parts = and_parts (nat_le l x.time) (rises (x.time + 1) xs high) h in
    (λ i. nat_le l (same-time key rest x i) && rises (same-time key rest x i + 1) (map (reduced_at key rest) xs) high)
    ∙ (λ i. parts.0 i && rises-reduced key rest (x.time + 1) xs high parts.1 i)

-- ---- room
pub levels-fewer : (l : LadderView) (k : OrderKind) (n m : ℕ) → HasLevels l k (n + m) → HasLevels l k n
levels-fewer l k n zero r = subst (λ (i : ℕ). HasLevels l k i) (let z : n + 0 ≡ n = omega arith in z) r
levels-fewer l k n (suc m) r =
    levels-fewer l k n m (levels-less l k (n + m) (subst (λ (i : ℕ). HasLevels l k i) (let s : n + suc m ≡ (n + m) + 1 = omega arith in s) r))

module _ {A : Type 0} (xs : List (Listed Order)) (ps : List Place) (entries : SlotsView Order) (ladders : Ladders A) (h : HasPlaces xs ps entries ladders) where
  -- where there are no more orders and no place more, and no room was used
  pub places-kept : (ys : List (Listed Order)) → length ys ≤ length xs → (entries' : SlotsView Order) → entries.capacity ≤ entries'.capacity → (ladders' : Ladders A)
      → ((s : Side) (r : Restriction) (k : OrderKind) → HasKind (ladder_on r (side_of s ladders)) k → HasKind (ladder_on r (side_of s ladders')) k)
      → ((s : Side) (r : Restriction) (k : OrderKind) (n : ℕ) → HasLevels (ladder_on r (side_of s ladders)) k n → HasLevels (ladder_on r (side_of s ladders')) k n)
      → HasPlaces ys ps entries' ladders'
  places-kept ys fewer entries' cap ladders' kinds levels = record {
    within = omega (arith, h.within);
    entries_room = omega (arith, h.entries_room);
    kinds_room = λ p c. kinds p.side p.restriction p.kind (h.kinds_room p c);
    levels_room = λ s r k n lt. levels s r k (n + 1) (h.levels_room s r k n lt);
  }

  -- a place less
  pub places-less : (p : Place) (qs : List Place) → Gains p qs ps → HasPlaces xs qs entries ladders
  places-less p qs gain = record {
    within = omega (arith, h.within, Gains-length p qs ps gain);
    entries_room = omega (arith, h.entries_room, Gains-length p qs ps gain);
    kinds_room = λ q c. h.kinds_room q (omega (arith, gain.counts (same_place q), count_one (same_place q) p qs));
    levels_room = λ s r k n lt. h.levels_room s r k n (omega (arith, lt, gain.counts (is_limit_in s r), count_one (is_limit_in s r) p qs));
  }

pub kept-once : (f : Place → Bool) (b : Bool) (p : Place) (ps qs : List Place) → Gains p ps qs → f p ≡ b → count_by f qs ≡ (if b then 1 else 0) + count_by f ps
kept-once f b p ps qs gain e = gain.counts f ∙ count_one f p ps ∙ ap (λ (c : Bool). (if c then 1 else 0) + count_by f ps) e

-- an order uses its place
module _ {A : Type 0} (xs : List (Listed Order)) (ps : List Place) (entries : SlotsView Order) (ladders : Ladders A) (h : HasPlaces xs ps entries ladders) (o : Order) (qs : List Place) (gain : Gains (place_of o) qs ps) where
  pub some-place : 0 < length ps
  some-place = omega (arith, Gains-length (place_of o) qs ps gain)

  pub few-orders : length xs < MAX_PLACES
  few-orders = omega (arith, h.within, some-place)

  pub kind-room : HasKind (ladder_on o.restriction (side_of o.side ladders)) o.kind
  kind-room = h.kinds_room (place_of o) (omega (arith, kept-once (same_place (place_of o)) true (place_of o) qs ps gain (same_place-self (place_of o))))

  pub level-room : HasLevels (ladder_on o.restriction (side_of o.side ladders)) o.kind 1
  level-room = room_for o.kind refl
    where
      room_for : (k : OrderKind) → o.kind ≡ k → HasLevels (ladder_on o.restriction (side_of o.side ladders)) k 1
      room_for Market e = tt
      room_for (Limit p) e =
          let one = kept-once (is_limit_in o.side o.restriction) true (place_of o) qs ps gain (λ i. (side-itself o.side i && restriction-itself o.restriction i) && is_limit_kind (e i)) in
          subst (λ (n : ℕ). HasLevels (ladder_on o.restriction (side_of o.side ladders)) (Limit p) n) (let z : 0 + 1 ≡ 1 = refl in z)
          (h.levels_room o.side o.restriction (Limit p) 0 (omega (arith, one)))

  module _ (x : Listed Order) (entries' : SlotsView Order) (cap : entries'.capacity ≡ entries.capacity) (ladders' : Ladders A)
      (kinds : (s : Side) (r : Restriction) (k : OrderKind) → HasKind (ladder_on r (side_of s ladders)) k → HasKind (ladder_on r (side_of s ladders')) k)
      (used : (s : Side) (r : Restriction) (k : OrderKind) (n : ℕ) → HasLevels (ladder_on r (side_of s ladders)) k (n + 1) → HasLevels (ladder_on r (side_of s ladders')) k n)
      (kept : IsSome (level_for o ladders) → (s : Side) (r : Restriction) (k : OrderKind) (n : ℕ) → HasLevels (ladder_on r (side_of s ladders)) k n → HasLevels (ladder_on r (side_of s ladders')) k n)
      (other : (s : Side) (r : Restriction) → (same_side s o.side && same_restriction r o.restriction) ≡ false → ladder_on r (side_of s ladders') ≡ ladder_on r (side_of s ladders)) where
    -- room for a level where its side and restriction have a place
    room-left : (s : Side) (r : Restriction) (k : OrderKind) (n : ℕ) (b : Bool) (kind : OrderKind) → o.kind ≡ kind → (same_side s o.side && same_restriction r o.restriction) ≡ b
        → count_by (is_limit_in s r) ps ≡ (if b && is_limit_kind kind then 1 else 0) + count_by (is_limit_in s r) qs → n < count_by (is_limit_in s r) qs → HasLevels (ladder_on r (side_of s ladders')) k (n + 1)
    room-left s r k n true (Limit p) e t c lt = used s r k (n + 1) (h.levels_room s r k (n + 1) (omega (arith, c, lt)))
    room-left s r k n true Market e t c lt = kept (there o.kind e) s r k (n + 1) (h.levels_room s r k n (omega (arith, c, lt)))
      where
        there : (k : OrderKind) → k ≡ Market → IsSome (level_on (side_of o.side ladders) o.restriction k)
        there Market f = search rules
        there (Limit p) f = absurd (cc)
    room-left s r k n false kind e t c lt = subst (λ (l : LadderView). HasLevels l k (n + 1)) (sym (other s r t)) (h.levels_room s r k n (omega (arith, c, lt)))

    pub places-used : HasPlaces (xs ++ x ∷ []) qs entries' ladders'
    places-used = record {
      within = omega (arith, h.within, Gains-length (place_of o) qs ps gain, length-append xs (x ∷ []));
      entries_room = omega (arith, h.entries_room, Gains-length (place_of o) qs ps gain, length-append xs (x ∷ []));
      kinds_room = λ q c. kinds q.side q.restriction q.kind (h.kinds_room q (omega (arith, gain.counts (same_place q), count_one (same_place q) (place_of o) qs)));
      levels_room = λ s r k n lt. room-left s r k n (same_side s o.side && same_restriction r o.restriction) o.kind refl refl
          (kept-once (is_limit_in s r) ((same_side s o.side && same_restriction r o.restriction) && is_limit_kind o.kind) (place_of o) qs ps gain refl) lt;
    }
