-- What a day opens with: no order meets another before the day, so each reached stop joins last.
use Rattle.std.proofs.Common.{◌≡◌, ℕ, ◌+◌, ◌≤◌, ◌==◌, Bool, true, false, ◌&&◌, not, if◌then◌else◌, List, [], ◌∷◌, ◌++◌, length, length-append, filter, map, All, refl, sym, ap, ◌∙◌, append_assoc, append-nil, arith}
use Rattle.std.proofs.lemmas.List.{length-map}
use Rattle.std.proofs.lemmas.List.Elements.{All-head, All-tail}
use Rattle.std.proofs.lemmas.List.Filters.{length-filter_both}
use Rattle.xm_rules.specs.Opening.{are_carriable, carried_over, is_still_valid, opening}
use Rattle.xm_rules.specs.Settling.{come, is_continuous, is_free, is_reached, joined, order_of_stop, reached, released, settle, sweep_of, swept}
use Rattle.xm_rules.specs.State.{State, ref1}
use Rattle.xm_rules.specs.Sweep.{rest_after}
use Rattle.xm_rules.specs.declared.carried.TheConstants.{MAX_CARRIED}
use Rattle.xm_rules.specs.declared.orders.Order.{Order}
use Rattle.xm_rules.specs.declared.orders.Stop.{Stop}
use Rattle.xm_rules.specs.declared.settings.DeskSettings.{DeskSettings}
use Rattle.xm_rules.proofs.CarriedEntries.{carriable-parts, used_once}
use Rattle.xm_rules.proofs.OneName.{named, settle-uses, stop_named, uses}
use Rattle.xm_rules.proofs.ReachedStops.{NoneReached, released-none, settle-none, settle-turn}
use Rattle.xm_rules.proofs.SettledSums.{part}

-- ---- settling where there is no trading
come-quiet : (s : State) (o : Order) → is_continuous s.phase ≡ false → come s o ≡ joined s o
come-quiet s o e =
    let rest = rest_after (sweep_of s o) in
    ap (λ (b : Bool). if b && is_free o.restriction then (if rest == 0 then swept s o else joined (swept s o) (record o { rest = rest })) else joined s o) e

drops_all : {X : Type 0} (p : X → Bool) (xs : List X) → All (λ x. p x ≡ false) xs → filter p xs ≡ []
drops_all p [] h = refl
drops_all p (x ∷ xs) h = rw (All-head (λ y. p y ≡ false) x xs h) (drops_all p xs (All-tail (λ y. p y ≡ false) x xs h))

keeps_all : {X : Type 0} (p : X → Bool) (xs : List X) → All (λ x. p x ≡ false) xs → filter (λ x. not (p x)) xs ≡ xs
keeps_all p [] h = refl
keeps_all p (x ∷ xs) h =
    rw (All-head (λ y. p y ≡ false) x xs h) (ap (λ ys. x ∷ ys) (keeps_all p xs (All-tail (λ y. p y ≡ false) x xs h)))

none-reached : (s : State) → NoneReached s → reached s ≡ []
none-reached s none = drops_all (is_reached (ref1 s)) s.stops none

none-released : (s : State) → NoneReached s → released s ≡ s
none-released s none = ap (λ (stops : List Stop). record s { stops = stops }) (keeps_all (is_reached (ref1 s)) s.stops none)

-- where no held stop is reached, the pending ones join in turn
drained : (s : State) (pending : List Stop) → is_continuous s.phase ≡ false → NoneReached s → settle s pending ≡ record s { orders = s.orders ++ map order_of_stop pending }
drained s [] e none =
    settle-none s [] (none-reached s none) ∙ none-released s none ∙ ap (λ (orders : List Order). record s { orders = orders }) (sym (append-nil s.orders))
drained s (stop ∷ rest) e none =
    let o = order_of_stop stop in
    let t = joined s o in
    let next : (stop ∷ rest) ++ reached s ≡ stop ∷ rest = ap (λ (stops : List Stop). (stop ∷ rest) ++ stops) (none-reached s none) ∙ append-nil (stop ∷ rest) in
    settle-turn s (stop ∷ rest) stop rest next
    ∙ ap (λ (u : State). settle (come u o) rest) (none-released s none)
    ∙ ap (λ (u : State). settle u rest) (come-quiet s o e)
    ∙ drained t rest e none
    ∙ ap (λ (orders : List Order). record s { orders = orders }) (append_assoc s.orders (o ∷ []) (map order_of_stop rest))

quiet_by : (s : State) (stops : List Stop) → reached s ≡ stops → is_continuous s.phase ≡ false
    → settle s [] ≡ record (released s) { orders = s.orders ++ map order_of_stop stops }
quiet_by s [] h e = settle-none s [] h ∙ ap (λ (orders : List Order). record (released s) { orders = orders }) (sym (append-nil s.orders))
quiet_by s (stop ∷ rest) h e =
    let o = order_of_stop stop in
    let t = released s in
    settle-turn s [] stop rest h
    ∙ ap (λ (u : State). settle u rest) (come-quiet t o e)
    ∙ drained (joined t o) rest e (released-none s)
    ∙ ap (λ (orders : List Order). record t { orders = orders }) (append_assoc s.orders (o ∷ []) (map order_of_stop rest))

-- where there is no trading, the reached stops join last, in their order
pub settle-quiet : (s : State) → is_continuous s.phase ≡ false → settle s [] ≡ record (released s) { orders = s.orders ++ map order_of_stop (reached s) }
settle-quiet s e = quiet_by s (reached s) refl e

-- ---- the state before the day
pub opening-is : (settings : DeskSettings)
    → opening settings ≡ (let s = carried_over settings in record (released s) { orders = s.orders ++ map order_of_stop (reached s) })
unfolding opening
opening-is settings = settle-quiet (carried_over settings) refl

-- what settling keeps of the entries before the day, a day opens with
pub opening-has : (P : State → Type 0) → ((s : State) → P s → P (settle s [])) → (settings : DeskSettings) → P (carried_over settings) → P (opening settings)
unfolding opening
opening-has P settles settings p = settles (carried_over settings) p

pub opening-settings : (settings : DeskSettings) → (opening settings).settings ≡ settings
opening-settings settings = ap (λ (s : State). s.settings) (opening-is settings)

-- no more orders and stops than were carried
counted : (settings : DeskSettings) → let s = carried_over settings in
    length (s.orders ++ map order_of_stop (reached s)) + length (released s).stops ≡ length s.orders + length s.stops
counted settings =
    let s = carried_over settings in
    omega (
      arith,
      length-append s.orders (map order_of_stop (reached s)),
      length-map (reached s) order_of_stop,
      length-filter_both (is_reached (ref1 s)) (λ (stop : Stop). not (is_reached (ref1 s) stop)) (λ stop. refl) s.stops,
    )

within : (settings : DeskSettings) → let s = carried_over settings in
    length s.orders + length s.stops ≤ length settings.carried.orders + length settings.carried.stops
within settings =
    let orders = settings.carried.orders in
    let stops = settings.carried.stops in
    let valid = λ (o : Order). is_still_valid settings.today o.validity in
    let stop_valid = λ (stop : Stop). is_still_valid settings.today stop.validity in
    omega (
      arith,
      length-filter_both valid (λ (o : Order). not (valid o)) (λ o. refl) orders,
      length-filter_both stop_valid (λ (stop : Stop). not (stop_valid stop)) (λ stop. refl) stops,
    )

pub opening-few : (settings : DeskSettings) → are_carriable settings ≡ true → length (opening settings).orders + length (opening settings).stops ≤ MAX_CARRIED
opening-few settings h =
    omega (
      arith,
      (carriable-parts settings h).few,
      within settings,
      counted settings,
      ap (λ (s : State). length s.orders + length s.stops) (opening-is settings),
    )

-- no two of one name
pub opening-uses : (settings : DeskSettings) (member reference : ℕ) → are_carriable settings ≡ true → uses member reference (opening settings) ≤ 1
unfolding opening
opening-uses settings member reference h =
    omega (
      arith,
      used_once member reference settings h,
      settle-uses member reference (carried_over settings),
      part (named member reference) (λ (o : Order). is_still_valid settings.today o.validity) settings.carried.orders,
      part (stop_named member reference) (λ (stop : Stop). is_still_valid settings.today stop.validity) settings.carried.stops,
    )
