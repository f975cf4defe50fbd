-- The records of what is left, as they are written one after another.
use Rattle.std.proofs.Common.{◌≡◌, ℕ, ◌+◌, ◌<◌, ◌++◌, Bool, true, false, List, [], ◌∷◌, length, filter, get_or, take, append_assoc, append-nil, refl, ap, sym, ◌∙◌}
use Rattle.std.specs.List.{flat_map}
use Rattle.std.proofs.lemmas.List.{flat_map_more, take_more}
use Rattle.std.proofs.lemmas.List.Elements.{filter-append}
use Rattle.xm_files.specs.Names.{NameLists}
use Rattle.xm_rules.specs.Commands.{outlasts}
use Rattle.xm_rules.specs.State.{State}
use Rattle.xm_rules.specs.declared.orders.Order.{Order}
use Rattle.xm_rules.specs.declared.orders.Stop.{Stop}
use Rattle.xm_texts.specs.Carry.{left_text, carried_order, carried_stop}
use Rattle.xm_texts.specs.Statement.{name_at}

module _ {X : Type 0} (keeps : X → Bool) (line : X → List ℕ) where
  one : (x : X) → keeps x ≡ true → filter keeps (x ∷ []) ≡ x ∷ []
  one x kept = rw kept refl

  none : (x : X) → keeps x ≡ false → filter keeps (x ∷ []) ≡ []
  none x dropped = rw dropped refl

  filtered : (xs : List X) (i : ℕ) (x : X) → i < length xs → x ≡ get_or xs i x → filter keeps (take (i + 1) xs) ≡ filter keeps (take i xs) ++ filter keeps (x ∷ [])
  filtered xs i x within is =
      ap (filter keeps) (take_more xs i x within ∙ ap (λ (y : X). take i xs ++ y ∷ []) (sym is)) ∙ filter-append keeps (take i xs) (x ∷ [])

  -- a line more, of what is kept
  pub kept-more : (begun old new : List ℕ) (xs : List X) (i : ℕ) (x : X) → i < length xs → x ≡ get_or xs i x → keeps x ≡ true → old ≡ begun ++ flat_map line (filter keeps (take i xs)) → new ≡ old ++ line x
      → new ≡ begun ++ flat_map line (filter keeps (take (i + 1) xs))
  kept-more begun old new xs i x within is kept so_far next =
      next
      ∙ ap (λ (text : List ℕ). text ++ line x) so_far
      ∙ flat_map_more line begun (filter keeps (take i xs)) x
      ∙ ap (λ (ys : List X). begun ++ flat_map line ys) (sym (filtered xs i x within is ∙ ap (λ (ys : List X). filter keeps (take i xs) ++ ys) (one x kept)))

  -- no line, of what isn't
  pub dropped-more : (begun old : List ℕ) (xs : List X) (i : ℕ) (x : X) → i < length xs → x ≡ get_or xs i x → keeps x ≡ false → old ≡ begun ++ flat_map line (filter keeps (take i xs))
      → old ≡ begun ++ flat_map line (filter keeps (take (i + 1) xs))
  dropped-more begun old xs i x within is dropped so_far =
      so_far
      ∙ ap (λ (ys : List X). begun ++ flat_map line ys) (sym (filtered xs i x within is ∙ ap (λ (ys : List X). filter keeps (take i xs) ++ ys) (none x dropped) ∙ append-nil (filter keeps (take i xs))))

-- the orders and the stops of a security
pub left-written : (names : NameLists) (index : ℕ) (s : State) (tick today : ℕ) (security : List ℕ) (orders : List Order) (stops : List Stop) (text t1 t2 : List ℕ)
    → tick ≡ s.settings.tick → today ≡ s.settings.today → security ≡ name_at names.securities index → orders ≡ s.orders → stops ≡ s.stops
    → t1 ≡ text ++ flat_map (carried_order names security tick) (filter (λ (o : Order). outlasts today o.validity) orders)
    → t2 ≡ t1 ++ flat_map (carried_stop names security tick) (filter (λ (stop : Stop). outlasts today stop.validity) stops)
    → t2 ≡ text ++ left_text names index s
left-written names index s tick today security orders stops text t1 t2 a day b c d e1 e2 =
    let f1 = rw (a, day, b, c) at e1 in
    let f2 = rw (a, day, b, d) at e2 in
    f2
    ∙ ap (λ (t : List ℕ). t ++ flat_map (carried_stop names (name_at names.securities index) s.settings.tick) (filter (λ (stop : Stop). outlasts s.settings.today stop.validity) s.stops)) f1
    ∙ append_assoc text (flat_map (carried_order names (name_at names.securities index) s.settings.tick) (filter (λ (o : Order). outlasts s.settings.today o.validity) s.orders))
    (flat_map (carried_stop names (name_at names.securities index) s.settings.tick) (filter (λ (stop : Stop). outlasts s.settings.today stop.validity) s.stops))

-- a text goes on with a piece that says this
pub goes-on : (text done piece said t next : List ℕ) → t ≡ text ++ done → next ≡ t ++ said → said ≡ piece → next ≡ text ++ (done ++ piece)
goes-on text done piece said t next so_far more is =
    more ∙ ap (λ (u : List ℕ). u ++ said) so_far ∙ append_assoc text done said ∙ ap (λ (u : List ℕ). text ++ (done ++ u)) is

-- with five pieces
pub goes-on-by_five : (text done a b c d e t next : List ℕ) → t ≡ text ++ done → next ≡ t ++ a ++ b ++ c ++ d ++ e → next ≡ text ++ (done ++ a ++ b ++ c ++ d ++ e)
goes-on-by_five text done a b c d e t next so_far more =
    let first = goes-on text done a a t (t ++ a) so_far refl refl in
    let second = goes-on text (done ++ a) b b (t ++ a) (t ++ a ++ b) first refl refl in
    let third = goes-on text (done ++ a ++ b) c c (t ++ a ++ b) (t ++ a ++ b ++ c) second refl refl in
    let fourth = goes-on text (done ++ a ++ b ++ c) d d (t ++ a ++ b ++ c) (t ++ a ++ b ++ c ++ d) third refl refl in
    goes-on text (done ++ a ++ b ++ c ++ d) e e (t ++ a ++ b ++ c ++ d) next fourth more refl
