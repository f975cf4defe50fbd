-- The orders of a book at the end of a day.
use Rattle.xm_book.specs.Listing.{order_owner, order_reference}
use Rattle.xm_slots.proofs.Naming.{items-kept, name-once, named-at, not-named, own_names-kept}
use Rattle.xm_slots.specs.Naming.{has_name, have_own_names, key_by_name}
use Rattle.std.proofs.Common.{◌≡◌, ℕ, Bool, true, false, ◌==◌, not, List, length, map, filter, find, option_map, Contains, Option, Some, None, if◌then◌else◌, refl, sym, ap, ◌∙◌, arith}
use Rattle.std.specs.List.{list_all}
use Rattle.std.proofs.lemmas.Bool.{false≢true}
use Rattle.std.proofs.lemmas.Bool.Decides.{nat_tests}
use Rattle.xm_book.specs.Expiry.{outlives}
use Rattle.xm_slots.specs.Listing.{is_other_key, keys_in, listed_item}
use Rattle.xm_slots.specs.declared.listing.Listed.{Listed}
use Rattle.xm_book.specs.Indexed.{AreOrdersIndexed}
use Rattle.xm_book.specs.Queued.{QueuedOrders}
use Rattle.xm_slots.proofs.Tests.{find-filter, length-kept, none-found}
use Rattle.xm_slots.proofs.Members.{Contains-map, IsMade-map, Passes-filter, find-Some, list_any-false}
use Rattle.xm_rules.specs.Commands.{is_in_range, outlasts}
use Rattle.xm_book.proofs.Named.{rests-kept}
use Rattle.xm_name_index.specs.Names.{NamesOfMember, Retains, lookup, reserved}
use Rattle.xm_rules.specs.Orders.{is_named}
use Rattle.xm_rules.specs.declared.orders.Order.{Order}
use Rattle.xm_queues.specs.Keys.{AreDistinct}
use Rattle.xm_slots.proofs.Leaving.{others-pass}

other-itself : (n key : ℕ) → n ≡ key → not (n == key) ≡ false
other-itself n key e = grind (arith, nat_tests)

-- ---- the order of a key leaves
module _ (key : ℕ) (xs : List (Listed Order)) where
  pub gone : (x : Listed Order) → Contains (filter (is_other_key key) xs) x → x.key ≡ key → ⊥
  gone x at same =
      let passes = Passes-filter (is_other_key key) xs x at in
      let k : true ≡ false = sym passes.passes ∙ other-itself x.key key same in
      cc

  -- those that pass a test which it fails are as before
  pub pass-as-before : (p : Listed Order → Bool) → AreDistinct (keys_in xs) → Contains (keys_in xs) key → ((x : Listed Order) → Contains xs x → x.key ≡ key → p x ≡ false)
      → filter p (filter (is_other_key key) xs) ≡ filter p xs
  pass-as-before p d at fails =
      let made = IsMade-map (λ (x : Listed Order). x.key) xs key at in
      ap (λ (n : ℕ). filter p (filter (is_other_key n) xs)) (sym made.made) ∙ others-pass p xs made.from d made.contains (fails made.from made.contains made.made)

-- ---- the name of each order that is left
module _ (p : Listed Order → Bool) (xs : List (Listed Order)) (own : have_own_names order_owner order_reference (map listed_item xs) ≡ true) (m r : ℕ) where
  abbrev is_it : Listed Order → Bool
  is_it = has_name order_owner order_reference m r

  abbrev key_if : Bool → Option ℕ → Option ℕ
  key_if b o = if b then o else None

  out : (b : Bool) (o : Option (Listed Order)) → option_map (λ (x : Listed Order). x.key) (if b then o else None) ≡ key_if b (option_map (λ (x : Listed Order). x.key) o)
  out true o = refl
  out false o = refl

  key-none : key_by_name order_owner order_reference m r xs ≡ None → key_by_name order_owner order_reference m r (filter p xs) ≡ None
  key-none none =
      let fails = list_any-false (is_named m r) (map listed_item xs) in
      let unnamed = none-found (is_named m r) (map listed_item xs) (not-named order_owner order_reference m r xs none) in
      ap (option_map (λ (x : Listed Order). x.key)) (find-filter p is_it false xs (λ x at named. absurd (false≢true (sym (fails x.item unnamed (Contains-map listed_item xs x at)) ∙ named))))

  key-some : (key : ℕ) (b : Bool) → key_by_name order_owner order_reference m r xs ≡ Some key → ((x : Listed Order) → Contains xs x → x.key ≡ key → b ≡ p x) → key_by_name order_owner order_reference m r (filter p xs) ≡ key_if b (Some key)
  key-some key b some says =
      let at = named-at order_owner order_reference m r key xs some in
      let it = find-Some is_it xs at.listed at.found in
      ap (option_map (λ (x : Listed Order). x.key)) (find-filter p is_it b xs (λ x there named. ap p (name-once order_owner order_reference m r xs at.listed x own it.contains there it.passes named) ∙ sym (says at.listed it.contains at.key_is)))
      ∙ out b (find is_it xs) ∙ ap (key_if b) some

  pub key-left : (answers : ℕ → Bool → Type 0) → ((key : ℕ) (b : Bool) → answers key b → (x : Listed Order) → Contains xs x → x.key ≡ key → b ≡ p x)
      → (old new : Option ℕ) → old ≡ key_by_name order_owner order_reference m r xs → Retains answers old new → new ≡ key_by_name order_owner order_reference m r (filter p xs)
  key-left answers says None new is left = left ∙ sym (key-none (sym is))
  key-left answers says (Some key) new is left = left.2 ∙ sym (key-some key left.0 (sym is) (says key left.0 left.1))

-- the names lead to the keys of the orders that are left
pub indexed-left : (today : ℕ) (q : QueuedOrders) (names names' : List (ℕ × NamesOfMember)) → AreOrdersIndexed q names → ((m r : ℕ) → lookup names' m r ≡ key_by_name order_owner order_reference m r (filter (outlives today) q.orders)) → ((m : ℕ) → reserved names' m ≡ reserved names m)
    → AreOrdersIndexed (record q { orders = filter (outlives today) q.orders }) names'
indexed-left today q names names' h named same =
    let left = items-kept (λ (o : Order). outlasts today o.validity) q.orders in
    let os = map listed_item q.orders in
    record {
      named = named;
      names_reserved = λ m. omega (arith, same m, h.names_reserved m);
      sound = record {
        names = ap (have_own_names order_owner order_reference) left ∙ own_names-kept order_owner order_reference (λ (o : Order). outlasts today o.validity) os h.sound.names;
        rests = ap (list_all (λ (o : Order). is_in_range o.rest)) left ∙ rests-kept (λ (o : Order). is_in_range o.rest) (λ (o : Order). outlasts today o.validity) os h.sound.rests;
        within = omega (arith, h.sound.within, ap length left, length-kept (λ (o : Order). outlasts today o.validity) os);
      };
    }
