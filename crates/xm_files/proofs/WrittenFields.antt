-- What the fields of an order's record, or of a stop's, say where each was written.
use Rattle.std.proofs.Common.{◌≡◌, ℕ, zero, suc, ◌<◌, Bool, true, false, ◌&&◌, not, ◌==◌, List, [], ◌∷◌, length, slice_get, unwrap_or, Option, Some, None, Ok, refl, arith}
use Rattle.std.proofs.lemmas.Bool.{and_parts}
use Rattle.std.proofs.lemmas.Bool.Decides.{nat_tests}
use Rattle.std.specs.List.{list_all}
use Rattle.std.specs.Prelude.{codes, nat_le, nat_lt}
use Rattle.xm_rules.specs.Commands.{has_prices_in_range, is_in_range, is_stop, order_kind, trigger_of}
use Rattle.xm_rules.specs.Opening.{is_lasting}
use Rattle.xm_rules.specs.Orders.{limit_of}
use Rattle.xm_rules.specs.Refusals.{is_given_in_range}
use Rattle.xm_rules.specs.Settling.{is_free}
use Rattle.xm_rules.specs.declared.commands.Command.TheVariants.{Enter}
use Rattle.xm_rules.specs.declared.commands.Condition.TheVariants.{Plain}
use Rattle.xm_rules.specs.declared.commands.Kind.{Kind}
use Rattle.xm_rules.specs.declared.commands.Kind.TheVariants as kind
use Rattle.xm_rules.specs.declared.orders.Order.{Order}
use Rattle.xm_rules.specs.declared.orders.OrderKind.{OrderKind}
use Rattle.xm_rules.specs.declared.orders.OrderKind.TheVariants.{Market, Limit}
use Rattle.xm_config.specs.declared.config.SecurityConfig.{SecurityConfig}
use Rattle.xm_ticks.specs.Reading.{price_of}
use Rattle.xm_files.proofs.Distinct.{place-of}
use Rattle.xm_files.specs.Carry.{entry_left, entry_with_trigger, known_index, listed_in}
use Rattle.xm_files.specs.Names.{NameLists}
use Rattle.xm_files.specs.Plain.{is_mark, is_plain}
use Rattle.xm_files.specs.Rows.{by_column, carry_columns, field, kind_in_record, restriction_of, side_named, tick_of, validity_of, whole_of}
use Rattle.xm_files.specs.Segment.{are_distinct_texts, is_name, is_name_character}
use Rattle.xm_files.specs.declared.columns.Column.TheVariants as column

-- ---- names

-- the name at a place
pub name-there : (names : List (List ℕ)) (i : ℕ) → i < length names → slice_get names i ≡ Some (unwrap_or (slice_get names i) [])
name-there [] i h = absurd (omega arith)
name-there (name ∷ names) zero h = refl
name-there (name ∷ names) (suc i) h = name-there names i (omega arith)

pub each-name : (names : List (List ℕ)) (i : ℕ) → i < length names → list_all is_name names ≡ true → is_name (unwrap_or (slice_get names i) []) ≡ true
each-name [] i h all = absurd (omega arith)
each-name (name ∷ names) zero h all = (and_parts (is_name name) (list_all is_name names) all).0
each-name (name ∷ names) (suc i) h all = each-name names i (omega arith) (and_parts (is_name name) (list_all is_name names) all).1

not-empty : (n : ℕ) (b c : Bool) → ((nat_le 1 n && b) && c) ≡ true → (n == 0) ≡ false
not-empty n b c e = grind (arith, nat_tests)

below : (i n : ℕ) → i < n → nat_lt i n ≡ true
below i n h = grind (arith, nat_tests)

-- the index of a name is its place, where no name occurs again
pub name-read : (names : List (List ℕ)) (i : ℕ) (name : List ℕ) → are_distinct_texts names ≡ true → i < length names → slice_get names i ≡ Some name → is_name name ≡ true
    → known_index names name ≡ Some i
name-read names i name distinct h at is =
    rw (not-empty (length name) (nat_le (length name) 12) (list_all is_name_character name) is, place-of names i name distinct at, below i (length names) h) refl

character-plain : (byte : ℕ) → is_name_character byte ≡ true → not (is_mark byte) ≡ true
character-plain byte e = grind (arith, nat_tests)

characters-plain : (text : List ℕ) → list_all is_name_character text ≡ true → is_plain text ≡ true
characters-plain [] each = refl
characters-plain (byte ∷ text) each =
    let parts = and_parts (is_name_character byte) (list_all is_name_character text) each in
    rw (character-plain byte parts.0) (characters-plain text parts.1)

pub name-plain : (name : List ℕ) → is_name name ≡ true → is_plain name ≡ true
name-plain name is = characters-plain name (and_parts (nat_le 1 (length name) && nat_le (length name) 12) (list_all is_name_character name) is).1

-- ---- kinds

module _ (tick : ℕ) (fields : List (List ℕ)) where
  pub market-read : field column.Kind fields ≡ codes "market" → field column.Limit fields ≡ [] → field column.Trigger fields ≡ [] → kind_in_record tick fields ≡ Some kind.Market
  market-read is no_limit no_trigger = rw (is, no_limit, no_trigger) refl

  pub limit-read : (limit : ℕ) → field column.Kind fields ≡ codes "limit" → price_of (field column.Limit fields) tick ≡ Ok limit → field column.Trigger fields ≡ []
      → kind_in_record tick fields ≡ Some (kind.Limit limit)
  limit-read limit is priced no_trigger = rw (is, no_trigger, priced) refl

  pub stop-market-read : (trigger : ℕ) → field column.Kind fields ≡ codes "stop-market" → field column.Limit fields ≡ [] → price_of (field column.Trigger fields) tick ≡ Ok trigger
      → kind_in_record tick fields ≡ Some (kind.StopMarket trigger)
  stop-market-read trigger is no_limit reached = rw (is, no_limit, reached) refl

  pub stop-limit-read : (trigger limit : ℕ) → field column.Kind fields ≡ codes "stop-limit" → price_of (field column.Limit fields) tick ≡ Ok limit → price_of (field column.Trigger fields) tick ≡ Ok trigger
      → kind_in_record tick fields ≡ Some (kind.StopLimit trigger limit)
  stop-limit-read trigger limit is priced reached = rw (is, priced, reached) refl

-- ---- records

-- the texts of an entry's fields, in the order of the columns
pub record EntryTexts : Type 0 where
  pub security : List ℕ
  pub member : List ℕ
  pub reference : List ℕ
  pub side : List ℕ
  pub kind : List ℕ
  pub limit : List ℕ
  pub trigger : List ℕ
  pub quantity : List ℕ
  pub validity : List ℕ
  pub restriction : List ℕ

abbrev pub fields_in : EntryTexts → List (List ℕ)
fields_in t =
    t.security ∷ t.member ∷ t.reference ∷ t.side ∷ t.kind ∷ t.limit ∷ t.trigger ∷ t.quantity ∷ t.validity ∷ t.restriction ∷ []

-- the kind with which an order is entered, or the stop with this trigger
abbrev pub kind_of : Option ℕ → OrderKind → Kind
kind_of None Market = kind.Market
kind_of None (Limit limit) = kind.Limit limit
kind_of (Some trigger) Market = kind.StopMarket trigger
kind_of (Some trigger) (Limit limit) = kind.StopLimit trigger limit

same-trigger : (reached : Option ℕ) (k : OrderKind) → trigger_of (kind_of reached k) ≡ reached
same-trigger None Market = refl
same-trigger None (Limit limit) = refl
same-trigger (Some trigger) Market = refl
same-trigger (Some trigger) (Limit limit) = refl

same-kind : (reached : Option ℕ) (k : OrderKind) → order_kind (kind_of reached k) ≡ k
same-kind None Market = refl
same-kind None (Limit limit) = refl
same-kind (Some trigger) Market = refl
same-kind (Some trigger) (Limit limit) = refl

prices-in_range : (reached : Option ℕ) (k : OrderKind) → is_given_in_range reached ≡ true → is_given_in_range (limit_of k) ≡ true → has_prices_in_range (kind_of reached k) ≡ true
prices-in_range None Market t l = refl
prices-in_range None (Limit limit) t l = l
prices-in_range (Some trigger) Market t l = t
prices-in_range (Some trigger) (Limit limit) t l = rw (t, l) refl

-- the order may be left, or the stop with this trigger that becomes it
pub record MayBeLeft (reached : Option ℕ) (o : Order) : Type 0 where
  pub trigger : is_given_in_range reached ≡ true
  pub limit : is_given_in_range (limit_of o.kind) ≡ true
  pub units : is_in_range o.rest ≡ true
  pub lasts : is_lasting o.validity ≡ true
  pub combined : (is_stop reached && not (is_free o.restriction)) ≡ false

left-entry : (reached : Option ℕ) (o : Order) → MayBeLeft reached o
    → entry_left (Enter o.member o.reference o.side (kind_of reached o.kind) o.rest o.validity o.restriction Plain) ≡ Some (entry_with_trigger reached o)
left-entry reached o may =
    rw (prices-in_range reached o.kind may.trigger may.limit, may.units, may.lasts, same-trigger reached o.kind, may.combined, same-kind reached o.kind) refl

-- the texts say this order of the security with this index, or the stop with this trigger that becomes it
pub record Say (names : NameLists) (securities : List SecurityConfig) (t : EntryTexts) (index : ℕ) (reached : Option ℕ) (o : Order) : Type 0 where
  pub security : known_index names.securities t.security ≡ Some index
  pub member : known_index names.members t.member ≡ Some o.member
  pub reference : whole_of t.reference ≡ Some o.reference
  pub side : side_named t.side ≡ Some o.side
  pub kind : kind_in_record (tick_of securities index) (by_column carry_columns (fields_in t)) ≡ Some (kind_of reached o.kind)
  pub quantity : whole_of t.quantity ≡ Some o.rest
  pub validity : validity_of t.validity ≡ Some o.validity
  pub restriction : restriction_of t.restriction ≡ Some o.restriction
  pub named : (length t.restriction == 0) ≡ false

-- a record whose fields say it is read as it
pub said-read : (names : NameLists) (securities : List SecurityConfig) (t : EntryTexts) (index : ℕ) (reached : Option ℕ) (o : Order) → Say names securities t index reached o → MayBeLeft reached o
    → listed_in names securities (by_column carry_columns (fields_in t)) ≡ Some (record { security = index; entry = entry_with_trigger reached o })
said-read names securities t index reached o say may =
    rw (say.security, say.member, say.restriction, say.named, say.reference, say.side, say.kind, say.quantity, say.validity, left-entry reached o may) refl
