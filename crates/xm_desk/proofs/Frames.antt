-- What is kept ready stays so through each change.
use Rattle.std.proofs.Common.{◌≡◌, ◌∙◌, ℕ, ◌+◌, ◌-◌, ◌≤◌, Bool, true, cond, List, [], ◌∷◌, ◌++◌, drop, length, sum_by, count_by, Some, None, refl, sym, ap, subst, arith}
use Rattle.std.specs.List.{list_any, slice_get}
use Rattle.std.proofs.lemmas.List.{length-append}
use Rattle.std.proofs.lemmas.List.Sums.{sum_by-append, sum_by-cons}
use Rattle.xm_book.proofs.Reserving.{any-counted, counted-cons, same_place-self}
use Rattle.xm_book.specs.Places.{SamePlaces, same_place}
use Rattle.xm_book.specs.TimeList.{Reserves, TimeList}
use Rattle.xm_book.specs.declared.places.Place.{Place}
use Rattle.xm_desk.specs.Frame.{IsFramed, places_of_stops}
use Rattle.xm_desk.specs.Settled.{joined_in, place_of_stop, places_in, trades_in}
use Rattle.xm_desk.specs.declared.unsettled.Ready.{Ready}
use Rattle.xm_desk.specs.declared.unsettled.Ready.TheVariants.{Nothing, OneTrade, ForOrder, ForStop, Used}
use Rattle.xm_rules.specs.declared.orders.Order.{Order}
use Rattle.xm_rules.specs.declared.orders.Stop.{Stop}
use Rattle.xm_stops.specs.HeldStops.{HeldStops, PendingStops}

-- before the day
pub empty-framed : IsFramed 0 (record { orders = []; reserved = []; adds = 0 }) (record { stops = []; ready = None }) (record { stops = []; gone = []; room = 0 }) 0 Nothing
empty-framed =
    record {
      reserved = record { length = refl; counts = λ p. refl };
      adds = omega arith;
      orders = omega arith;
      trades = omega arith;
      waiting = omega arith;
      stop = λ stop e. cc;
    }

-- ---- counts of places

module _ (f : Place → Bool) where
  abbrev pub one : Place → ℕ
  one p = cond (f p) 1 0

  -- how often a place that passes the test is kept for these stops
  abbrev pub for_stops : List Stop → ℕ
  for_stops stops = sum_by (λ (s : Stop). one (place_of_stop s)) stops

  pub places-counted : (stops : List Stop) → count_by f (places_of_stops stops) ≡ for_stops stops
  places-counted [] = refl
  places-counted (s ∷ stops) =
      sum_by-cons one (place_of_stop s) (places_of_stops stops) ∙ ap (λ (n : ℕ). one (place_of_stop s) + n) (places-counted stops)
      ∙ sym (sum_by-cons (λ (x : Stop). one (place_of_stop x)) s stops)

  pub kept-counted : (held pending : List Stop) (ready : List Place)
      → count_by f (places_of_stops held ++ places_of_stops pending ++ ready) ≡ for_stops held + for_stops pending + count_by f ready
  kept-counted held pending ready =
      omega (
        arith,
        sum_by-append one (places_of_stops held ++ places_of_stops pending) ready,
        sum_by-append one (places_of_stops held) (places_of_stops pending),
        places-counted held,
        places-counted pending,
      )

pub places-length : (stops : List Stop) → length (places_of_stops stops) ≡ length stops
places-length [] = refl
places-length (s ∷ stops) = omega (arith, places-length stops)

pub kept-length : (held pending : List Stop) (ready : List Place) → length (places_of_stops held ++ places_of_stops pending ++ ready) ≡ length held + length pending + length ready
kept-length held pending ready =
    omega (arith, length-append (places_of_stops held ++ places_of_stops pending) ready, length-append (places_of_stops held) (places_of_stops pending), places-length held, places-length pending)

-- the reserved places by their counts, which is easier to change
pub record AreCounted (reserved : List Place) (held pending : List Stop) (ready : List Place) : Type 0 where
  pub number : length reserved ≡ length held + length pending + length ready
  pub each : (p : Place) → count_by (same_place p) reserved ≡ for_stops (same_place p) held + for_stops (same_place p) pending + count_by (same_place p) ready

pub counted : (reserved : List Place) (held pending : List Stop) (ready : List Place) → SamePlaces reserved (places_of_stops held ++ places_of_stops pending ++ ready)
    → AreCounted reserved held pending ready
counted reserved held pending ready same =
    record { number = same.length ∙ kept-length held pending ready; each = λ p. same.counts p ∙ kept-counted (same_place p) held pending ready }

pub uncounted : (reserved : List Place) (held pending : List Stop) (ready : List Place) → AreCounted reserved held pending ready
    → SamePlaces reserved (places_of_stops held ++ places_of_stops pending ++ ready)
uncounted reserved held pending ready are =
    record { length = are.number ∙ sym (kept-length held pending ready); counts = λ p. are.each p ∙ sym (kept-counted (same_place p) held pending ready) }

-- a place that is kept is reserved
pub kept-there : (reserved : List Place) (held pending : List Stop) (place : Place) → SamePlaces reserved (places_of_stops held ++ places_of_stops pending ++ place ∷ [])
    → list_any (same_place place) reserved ≡ true
kept-there reserved held pending place same =
    let are = counted reserved held pending (place ∷ []) same in
    let once : ℕ = 1 in
    let here : cond (same_place place place) 1 0 ≡ once = rw (same_place-self place) refl in
    any-counted (same_place place) reserved (omega (arith, are.each place, counted-cons (same_place place) place [], here))

joined_once : (ready : Ready) → joined_in ready ≤ 1
joined_once Used = omega arith
joined_once Nothing = omega arith
joined_once OneTrade = omega arith
joined_once (ForOrder place) = omega arith
joined_once (ForStop stop) = omega arith

-- ---- the order for which a place is ready

module _ (accepted : ℕ) (held : HeldStops) (pending : PendingStops) where
  -- it joins the book
  pub joins : (book new : TimeList) (room : ℕ) (ready : Ready) (place : Place) (o : Order) → ready ≡ ForOrder place → IsFramed accepted book held pending room ready
      → new.orders ≡ book.orders ++ o ∷ [] → new.adds ≡ book.adds + 1 → SamePlaces book.reserved (place ∷ new.reserved) → IsFramed accepted new held pending room Used
  joins book new room ready place o kept framed orders adds used =
      let f = subst (λ (h : Ready). IsFramed accepted book held pending room h) kept framed in
      let are = counted book.reserved held.stops pending.stops (place ∷ []) f.reserved in
      let more = ap (λ (os : List Order). length os) orders in
      let one_more = length-append book.orders (o ∷ []) in
      record {
        reserved = uncounted new.reserved held.stops pending.stops [] (record {
          number = omega (arith, are.number, used.length);
          each = λ p. omega (arith, are.each p, used.counts p, counted-cons (same_place p) place new.reserved, counted-cons (same_place p) place []);
        });
        adds = omega (arith, adds, f.adds);
        orders = omega (arith, more, one_more, f.orders);
        trades = omega (arith, more, one_more, f.trades);
        waiting = f.waiting;
        stop = λ stop e. cc;
      }

  -- its place is given up, where fewer orders are left
  pub gives-up : (book new : TimeList) (room left : ℕ) (ready : Ready) (place : Place) → ready ≡ ForOrder place → IsFramed accepted book held pending room ready
      → SamePlaces book.reserved (place ∷ new.reserved) → new.adds ≡ book.adds → length new.orders + room ≤ length book.orders + 1 + left → length new.orders ≤ length book.orders
      → IsFramed accepted new held pending left Used
  gives-up book new room left ready place kept framed used adds trades fewer =
      let f = subst (λ (h : Ready). IsFramed accepted book held pending room h) kept framed in
      let are = counted book.reserved held.stops pending.stops (place ∷ []) f.reserved in
      record {
        reserved = uncounted new.reserved held.stops pending.stops [] (record {
          number = omega (arith, are.number, used.length);
          each = λ p. omega (arith, are.each p, used.counts p, counted-cons (same_place p) place new.reserved, counted-cons (same_place p) place []);
        });
        adds = omega (arith, adds, f.adds);
        orders = omega (arith, fewer, f.orders);
        trades = omega (arith, trades, f.trades);
        waiting = f.waiting;
        stop = λ stop e. cc;
      }

  -- fewer orders are left, and as much room as they may still trade
  pub fewer : (book new : TimeList) (room left : ℕ) (ready : Ready) → IsFramed accepted book held pending room ready → new.reserved ≡ book.reserved → new.adds ≡ book.adds
      → length new.orders + room ≤ length book.orders + left → length new.orders ≤ length book.orders → IsFramed accepted new held pending left ready
  fewer book new room left ready f reserved adds trades few =
      record {
        reserved = subst (λ (ps : List Place). SamePlaces ps (places_of_stops held.stops ++ places_of_stops pending.stops ++ places_in ready)) (sym reserved) f.reserved;
        adds = omega (arith, adds, f.adds);
        orders = omega (arith, few, f.orders);
        trades = omega (arith, trades, f.trades);
        waiting = f.waiting;
        stop = f.stop;
      }

  -- a call ended, which had room for one trade more
  pub ends_call : (book new : TimeList) (room left : ℕ) (ready : Ready) → ready ≡ OneTrade → IsFramed accepted book held pending room ready → new.reserved ≡ book.reserved → new.adds ≡ book.adds
      → length new.orders + room ≤ length book.orders + 1 + left → length new.orders ≤ length book.orders → IsFramed accepted new held pending left Used
  ends_call book new room left ready spare framed reserved adds trades few =
      let f = subst (λ (h : Ready). IsFramed accepted book held pending room h) spare framed in
      record {
        reserved = subst (λ (ps : List Place). SamePlaces ps (places_of_stops held.stops ++ places_of_stops pending.stops ++ [])) (sym reserved) f.reserved;
        adds = omega (arith, adds, f.adds);
        orders = omega (arith, few, f.orders);
        trades = omega (arith, trades, f.trades);
        waiting = f.waiting;
        stop = λ stop e. cc;
      }

-- the command is counted
pub counts : (accepted : ℕ) (book : TimeList) (held : HeldStops) (pending : PendingStops) (room : ℕ) (ready : Ready) → places_in ready ≡ [] → IsFramed accepted book held pending room ready
    → IsFramed (accepted + 1) book held pending room Nothing
counts accepted book held pending room ready none f =
    let joined : joined_in ready ≤ 1 = joined_once ready in
    record {
      reserved = subst (λ (ps : List Place). SamePlaces book.reserved (places_of_stops held.stops ++ places_of_stops pending.stops ++ ps)) none f.reserved;
      adds = omega (arith, joined, f.adds);
      orders = omega (arith, joined, f.orders);
      trades = omega (arith, f.trades);
      waiting = omega (arith, f.waiting);
      stop = λ stop e. cc;
    }

-- a stop joins the held ones
pub holds : (accepted : ℕ) (book : TimeList) (held new : HeldStops) (pending : PendingStops) (room : ℕ) (ready : Ready) (stop : Stop) → ready ≡ ForStop stop
    → IsFramed accepted book held pending room ready → new ≡ record { stops = held.stops ++ stop ∷ []; ready = None } → IsFramed accepted book new pending room Used
holds accepted book held new pending room ready stop is_ready framed joined =
    let f = subst (λ (h : Ready). IsFramed accepted book held pending room h) is_ready framed in
    let are = counted book.reserved held.stops pending.stops (place_of_stop stop ∷ []) f.reserved in
    let more = length-append held.stops (stop ∷ []) in
    let frame : IsFramed accepted book (record { stops = held.stops ++ stop ∷ []; ready = None }) pending room Used = record {
      reserved = uncounted book.reserved (held.stops ++ stop ∷ []) pending.stops [] (record {
        number = omega (arith, are.number, more);
        each = λ p. omega (
          arith,
          are.each p,
          sum_by-append (λ (s : Stop). one (same_place p) (place_of_stop s)) held.stops (stop ∷ []),
          sum_by-cons (λ (s : Stop). one (same_place p) (place_of_stop s)) stop [],
          counted-cons (same_place p) (place_of_stop stop) [],
        );
      });
      adds = omega (arith, more, f.adds);
      orders = omega (arith, more, f.orders);
      trades = omega (arith, more, f.trades);
      waiting = omega (arith, more, f.waiting);
      stop = λ s e. cc;
    } in
    subst (λ (h : HeldStops). IsFramed accepted book h pending room Used) (sym joined) frame

-- a stop leaves, and gives up its place
pub stop-leaves : (accepted : ℕ) (book new : TimeList) (held : HeldStops) (left : List Stop) (pending : PendingStops) (room : ℕ) (ready : Ready) (stop : Stop)
    → IsFramed accepted book held pending room ready → SamePlaces book.reserved (place_of_stop stop ∷ new.reserved) → new.orders ≡ book.orders → new.adds ≡ book.adds
    → ((f : Stop → ℕ) → sum_by f left + f stop ≡ sum_by f held.stops) → length left + 1 ≡ length held.stops
    → IsFramed accepted new (record held { stops = left }) pending room ready
stop-leaves accepted book new held left pending room ready stop f used orders adds sums shorter =
    let are = counted book.reserved held.stops pending.stops (places_in ready) f.reserved in
    let same = ap (λ (os : List Order). length os) orders in
    record {
      reserved = uncounted new.reserved left pending.stops (places_in ready) (record {
        number = omega (arith, are.number, used.length, shorter);
        each = λ p. omega (arith, are.each p, used.counts p, counted-cons (same_place p) (place_of_stop stop) new.reserved, sums (λ (s : Stop). one (same_place p) (place_of_stop s)));
      });
      adds = omega (arith, adds, shorter, f.adds);
      orders = omega (arith, same, shorter, f.orders);
      trades = omega (arith, same, shorter, f.trades);
      waiting = omega (arith, shorter, f.waiting);
      stop = f.stop;
    }

-- some held stops become pending
pub moves : (accepted : ℕ) (book : TimeList) (held : HeldStops) (stay leave : List Stop) (pending new : PendingStops) (room : ℕ) (ready : Ready)
    → IsFramed accepted book held pending room ready → ((f : Stop → ℕ) → sum_by f leave + sum_by f stay ≡ sum_by f held.stops) → length leave + length stay ≡ length held.stops
    → new ≡ record pending { stops = pending.stops ++ leave; room = pending.room - length leave }
    → IsFramed accepted book (record held { stops = stay }) new room ready
moves accepted book held stay leave pending new room ready f sums lengths moved =
    let are = counted book.reserved held.stops pending.stops (places_in ready) f.reserved in
    let more = length-append pending.stops leave in
    let p' : PendingStops = record pending { stops = pending.stops ++ leave; room = pending.room - length leave } in
    let frame : IsFramed accepted book (record held { stops = stay }) p' room ready = record {
      reserved = uncounted book.reserved stay (pending.stops ++ leave) (places_in ready) (record {
        number = omega (arith, are.number, more, lengths);
        each = λ p. omega (
          arith,
          are.each p,
          sums (λ (s : Stop). one (same_place p) (place_of_stop s)),
          sum_by-append (λ (s : Stop). one (same_place p) (place_of_stop s)) pending.stops leave,
        );
      });
      adds = omega (arith, more, lengths, f.adds);
      orders = omega (arith, more, lengths, f.orders);
      trades = omega (arith, more, lengths, f.trades);
      waiting = omega (arith, lengths, f.waiting);
      stop = f.stop;
    } in
    subst (λ (x : PendingStops). IsFramed accepted book (record held { stops = stay }) x room ready) (sym moved) frame

-- the first pending stop is ready to come in
pub first-is : (stops : List Stop) (stop : Stop) → slice_get stops 0 ≡ Some stop → stops ≡ stop ∷ drop 1 stops
first-is [] stop e = cc
first-is (s ∷ stops) stop e = let same : s ≡ stop = cc in ap (λ (x : Stop). x ∷ stops) same

module _ (accepted : ℕ) (book : TimeList) (held : HeldStops) (pending : PendingStops) (room : ℕ) (stop : Stop) (first : slice_get pending.stops 0 ≡ Some stop) where
  abbrev popped : PendingStops
  popped = record pending { stops = drop 1 pending.stops; gone = pending.gone ++ stop ∷ [] }

  head-counted : (f : Stop → ℕ) → sum_by f pending.stops ≡ f stop + sum_by f (drop 1 pending.stops)
  head-counted f = ap (λ (ss : List Stop). sum_by f ss) (first-is pending.stops stop first) ∙ sum_by-cons f stop (drop 1 pending.stops)

  head-length : length pending.stops ≡ 1 + length (drop 1 pending.stops)
  head-length = omega (arith, ap (λ (ss : List Stop). length ss) (first-is pending.stops stop first))

  pub comes-next : (ready : Ready) → places_in ready ≡ [] → IsFramed accepted book held pending room ready → IsFramed accepted book held popped room (ForOrder (place_of_stop stop))
  comes-next ready none f =
      let are = counted book.reserved held.stops pending.stops (places_in ready) f.reserved in
      let empty = ap (λ (ps : List Place). length ps) none in
      let joined : joined_in ready ≤ 1 = joined_once ready in
      record {
        reserved = uncounted book.reserved held.stops popped.stops (place_of_stop stop ∷ []) (record {
          number = omega (arith, are.number, head-length, empty);
          each = λ p. omega (
            arith,
            are.each p,
            head-counted (λ (s : Stop). one (same_place p) (place_of_stop s)),
            counted-cons (same_place p) (place_of_stop stop) [],
            ap (λ (ps : List Place). count_by (same_place p) ps) none,
          );
        });
        adds = omega (arith, head-length, joined, f.adds);
        orders = omega (arith, head-length, joined, f.orders);
        trades = omega (arith, head-length, f.trades);
        waiting = omega (arith, f.waiting);
        stop = λ s e. cc;
      }

  -- or it is deleted with its place
  pub pending-leaves : (new : TimeList) (ready : Ready) → IsFramed accepted book held pending room ready → SamePlaces book.reserved (place_of_stop stop ∷ new.reserved) → new.orders ≡ book.orders → new.adds ≡ book.adds
      → IsFramed accepted new held popped room ready
  pending-leaves new ready f used orders adds =
      let are = counted book.reserved held.stops pending.stops (places_in ready) f.reserved in
      let same = ap (λ (os : List Order). length os) orders in
      record {
        reserved = uncounted new.reserved held.stops popped.stops (places_in ready) (record {
          number = omega (arith, are.number, used.length, head-length);
          each = λ p. omega (
            arith,
            are.each p,
            used.counts p,
            counted-cons (same_place p) (place_of_stop stop) new.reserved,
            head-counted (λ (s : Stop). one (same_place p) (place_of_stop s)),
          );
        });
        adds = omega (arith, head-length, adds, f.adds);
        orders = omega (arith, head-length, same, f.orders);
        trades = omega (arith, head-length, same, f.trades);
        waiting = omega (arith, f.waiting);
        stop = f.stop;
      }

-- ---- growth

module _ (accepted : ℕ) (held : HeldStops) (pending : PendingStops) (ready : Ready) (empty : ready ≡ Nothing) where
  -- more room
  pub grown : (book : TimeList) (held' : HeldStops) (pending' : PendingStops) (room more : ℕ) → IsFramed accepted book held pending room ready → held'.stops ≡ held.stops
      → pending'.stops ≡ pending.stops → pending.room ≤ pending'.room → length book.orders + length held.stops + length pending.stops ≤ more → IsFramed accepted book held' pending' more ready
  grown book held' pending' room more f same still waiting enough =
      let stops = ap (λ (ss : List Stop). length ss) same in
      let left = ap (λ (ss : List Stop). length ss) still in
      let none = ap trades_in empty in
      record {
        reserved = subst (λ (ss : List Stop). SamePlaces book.reserved (places_of_stops held'.stops ++ places_of_stops ss ++ places_in ready)) (sym still)
            (subst (λ (ss : List Stop). SamePlaces book.reserved (places_of_stops ss ++ places_of_stops pending.stops ++ places_in ready)) (sym same) f.reserved);
        adds = omega (arith, stops, left, f.adds);
        orders = omega (arith, stops, left, f.orders);
        trades = omega (arith, stops, left, none, enough);
        waiting = omega (arith, stops, waiting, f.waiting);
        stop = λ stop e. (let no : Nothing ≡ ForStop stop = sym empty ∙ e in cc);
      }

  -- room for one trade more
  pub spares : (book : TimeList) (room : ℕ) → IsFramed accepted book held pending room ready → length book.orders + length held.stops + length pending.stops + 1 ≤ room
      → IsFramed accepted book held pending room OneTrade
  spares book room framed enough =
      let f = subst (λ (h : Ready). IsFramed accepted book held pending room h) empty framed in
      record { reserved = f.reserved; adds = f.adds; orders = f.orders; trades = omega (arith, enough); waiting = f.waiting; stop = λ stop e. cc }

  module _ (book new : TimeList) (room : ℕ) (f : IsFramed accepted book held pending room ready) (enough : length book.orders + length held.stops + length pending.stops + 1 ≤ room) where
    more-places : (place : Place) → Reserves place book new → SamePlaces new.reserved (places_of_stops held.stops ++ places_of_stops pending.stops ++ place ∷ [])
    more-places place more =
        let are = counted book.reserved held.stops pending.stops (places_in ready) f.reserved in
        let none : places_in ready ≡ [] = ap places_in empty in
        uncounted new.reserved held.stops pending.stops (place ∷ []) (record {
          number = omega (arith, are.number, more.places.length, ap (λ (ps : List Place). length ps) none);
          each = λ p. omega (
            arith,
            are.each p,
            more.places.counts p,
            counted-cons (same_place p) place book.reserved,
            counted-cons (same_place p) place [],
            ap (λ (ps : List Place). count_by (same_place p) ps) none,
          );
        })

    -- and a place in the book
    pub keeps-place : (place : Place) → Reserves place book new → IsFramed accepted new held pending room (ForOrder place)
    keeps-place place more =
        let joined = ap joined_in empty in
        let orders = ap (λ (l : TimeList). length l.orders) more.rest in
        record {
          reserved = more-places place more;
          adds = omega (arith, joined, ap (λ (l : TimeList). l.adds) more.rest, f.adds);
          orders = omega (arith, joined, orders, f.orders);
          trades = omega (arith, orders, enough);
          waiting = omega (arith, f.waiting);
          stop = λ stop e. cc;
        }

    -- and room for a stop
    pub keeps-stop : (stop : Stop) → Reserves (place_of_stop stop) book new → held.ready ≡ Some stop → length held.stops + 1 ≤ pending.room → IsFramed accepted new held pending room (ForStop stop)
    keeps-stop stop more ready waiting =
        let joined = ap joined_in empty in
        let orders = ap (λ (l : TimeList). length l.orders) more.rest in
        record {
          reserved = more-places (place_of_stop stop) more;
          adds = omega (arith, joined, ap (λ (l : TimeList). l.adds) more.rest, f.adds);
          orders = omega (arith, joined, orders, f.orders);
          trades = omega (arith, orders, enough);
          waiting = omega (arith, waiting);
          stop = λ s e. (let same : stop ≡ s = cc in ready ∙ ap Some same);
        }
