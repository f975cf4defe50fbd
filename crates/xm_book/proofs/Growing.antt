-- Queues that have more room.
use Rattle.std.proofs.Common.{◌≡◌, ℕ, ◌+◌, ◌-◌, ◌<◌, ◌≤◌, Bool, true, false, ◌&&◌, List, length, get_or, count_by, Option, None, Some, refl, sym, subst, arith}
use Rattle.std.proofs.lemmas.Bool.{and_parts}
use Rattle.xm_book.specs.Places.{same_place}
use Rattle.xm_book.specs.Queued.{HasKindOf, HasPlaces, HoldsLevel, AreOrdersQueued, is_limit_kind, is_limit_in, orders_of_level}
use Rattle.xm_book.specs.Reserved.{Gains}
use Rattle.xm_slots.specs.Slots.{SlotsView}
use Rattle.xm_slots.specs.declared.listing.Listed.{Listed}
use Rattle.xm_book.specs.declared.places.Place.{Place}
use Rattle.xm_book.proofs.Joining.{restriction-is, side-is}
use Rattle.xm_book.proofs.Keeping.{kept-once, levels-fewer}
use Rattle.xm_book.proofs.Reserved.{Gains-length, counted-within}
use Rattle.xm_book.proofs.Sameness.{same_place-is}
use Rattle.xm_ladders.specs.Ladder.{HasKind, HasLevels, LadderView}
use Rattle.xm_ladders.specs.Ladders.{ladder_on, level_on, side_of}
use Rattle.xm_ladders.specs.declared.ladders.Ladders.{Ladders}
use Rattle.xm_ladders.specs.declared.level.Level.{Level}
use Rattle.xm_queues.specs.Queue.{IsQueue, key_limit}
use Rattle.xm_queues.specs.declared.queues.Ends.{Ends}
use Rattle.xm_queues.specs.declared.links.Link.{Link}
use Rattle.xm_rules.specs.Orders.{same_restriction}
use Rattle.xm_rules.specs.Sides.{same_side}
use Rattle.xm_rules.specs.declared.orders.OrderKind.{OrderKind}
use Rattle.xm_rules.specs.declared.orders.Restriction.{Restriction}
use Rattle.xm_rules.specs.declared.orders.Side.{Side}
use Rattle.xm_rules.specs.declared.orders.Order.{Order}
use Rattle.xm_book.specs.declared.places.TheConstants.{MAX_PLACES}

module _ {A : Type 0} (xs : List (Listed Order)) (entries : SlotsView Order) (links : List Link) (ladders : Ladders A) (capacity : ℕ) (links' : List Link)
    (same : (ends : Ends) (keys : List ℕ) → IsQueue links ends keys → IsQueue links' ends keys) (fits : capacity ≤ key_limit links') (ladders' : Ladders A)
    (levels : (s : Side) (r : Restriction) (k : OrderKind) → level_on (side_of s ladders') r k ≡ level_on (side_of s ladders) r k)
    (kinds : (s : Side) (r : Restriction) (k : OrderKind) → HasKind (ladder_on r (side_of s ladders)) k → HasKind (ladder_on r (side_of s ladders')) k) where
  abbrev roomier : SlotsView Order
  roomier = record entries { capacity = capacity }

  holds : (l : Option Level) (ys : List (Listed Order)) → HoldsLevel links l ys → HoldsLevel links' l ys
  holds None ys h = h
  holds (Some l) ys h = record { queue = same l.ends _ h.queue; orders = h.orders; units = h.units }

  pub grown-queued : AreOrdersQueued xs entries links ladders → AreOrdersQueued xs roomier links' ladders'
  grown-queued h = record {
    lie = h.lie;
    distinct = h.distinct;
    count = h.count;
    few = h.few;
    small = h.small;
    kinds = λ i d lt. (let x = get_or xs i d in kinds x.item.side x.item.restriction x.item.kind (h.kinds i d lt));
    levels = λ s r k. subst (λ (l : Option Level). HoldsLevel links' l (orders_of_level s r k xs)) (sym (levels s r k)) (holds (level_on (side_of s ladders) r k) (orders_of_level s r k xs) (h.levels s r k));
    fits = fits;
  }

  module _ (rooms : (s : Side) (r : Restriction) (k : OrderKind) (n : ℕ) → HasLevels (ladder_on r (side_of s ladders)) k n → HasLevels (ladder_on r (side_of s ladders')) k n)
      (ps : List Place) (h : HasPlaces xs ps entries ladders) (p : Place) (qs : List Place) (gain : Gains p ps qs) (kind : HasKindOf ladders' p)
      (room : (k : OrderKind) → is_limit_kind p.kind ≡ true → HasLevels (ladder_on p.restriction (side_of p.side ladders')) k (length ps + 1)) where
    kinds_if : (q : Place) (b : Bool) → same_place q p ≡ b → 0 < count_by (same_place q) qs → HasKindOf ladders' q
    kinds_if q true e c = subst (λ (z : Place). HasKindOf ladders' z) (sym (same_place-is q p e)) kind
    kinds_if q false e c = kinds q.side q.restriction q.kind (h.kinds_room q (omega (arith, c, kept-once (same_place q) false p ps qs gain e)))

    room_if : (s : Side) (r : Restriction) (k : OrderKind) (n : ℕ) (b : Bool) → is_limit_in s r p ≡ b → n < count_by (is_limit_in s r) qs → HasLevels (ladder_on r (side_of s ladders')) k (n + 1)
    room_if s r k n true e lt =
        let parts = and_parts (same_side s p.side && same_restriction r p.restriction) (is_limit_kind p.kind) e in
        let ladder = and_parts (same_side s p.side) (same_restriction r p.restriction) parts.0 in
        let side : s ≡ p.side = side-is s p.side ladder.0 in
        let restriction : r ≡ p.restriction = restriction-is r p.restriction ladder.1 in
        let all = counted-within (is_limit_in s r) ps in
        let more : (length ps - n) + (n + 1) ≡ length ps + 1 = omega (arith, lt, kept-once (is_limit_in s r) true p ps qs gain e, all) in
        levels-fewer (ladder_on r (side_of s ladders')) k (n + 1) (length ps - n)
        (subst (λ (i : ℕ). HasLevels (ladder_on r (side_of s ladders')) k i) (let z : length ps + 1 ≡ (n + 1) + (length ps - n) = omega (arith, more) in z)
        (subst (λ (l : LadderView). HasLevels l k (length ps + 1)) (λ i. ladder_on (sym restriction i) (side_of (sym side i) ladders')) (room k parts.1)))
    room_if s r k n false e lt = rooms s r k (n + 1) (h.levels_room s r k n (omega (arith, lt, kept-once (is_limit_in s r) false p ps qs gain e)))

    pub grown-places : length xs + length ps < MAX_PLACES → length xs + length ps + 1 ≤ capacity → HasPlaces xs qs roomier ladders'
    grown-places few enough = record {
      within = omega (arith, few, Gains-length p ps qs gain);
      entries_room = omega (arith, enough, Gains-length p ps qs gain);
      kinds_room = λ q c. kinds_if q (same_place q p) refl c;
      levels_room = λ s r k n lt. room_if s r k n (is_limit_in s r p) refl lt;
    }
