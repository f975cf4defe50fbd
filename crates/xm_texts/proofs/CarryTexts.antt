-- The record of an order that is left, or of a stop: its line, and what its fields are read as.
use Rattle.std.proofs.Common.{◌≡◌, ℕ, ◌+◌, ◌-◌, ◌<◌, ◌≤◌, Bool, true, false, ◌&&◌, ◌==◌, List, [], ◌∷◌, ◌++◌, length, Option, Some, None, Ok, refl, arith, append_assoc, length-append, replicate}
use Rattle.std.proofs.lemmas.List.{length-replicate}
use Rattle.std.proofs.lemmas.Fmt.{length-decimal-le}
use Rattle.std.specs.Fmt.{decimal}
use Rattle.std.specs.Prelude.{codes}
use Rattle.xm_rules.proofs.Ranges.{range_high, range_low}
use Rattle.xm_rules.specs.Commands.{is_in_range, outlasts}
use Rattle.xm_rules.specs.Opening.{is_lasting}
use Rattle.xm_rules.specs.Orders.{limit_of}
use Rattle.xm_rules.specs.Refusals.{is_given_in_range}
use Rattle.xm_rules.specs.declared.orders.Order.{Order}
use Rattle.xm_rules.specs.declared.orders.OrderKind.{OrderKind}
use Rattle.xm_rules.specs.declared.orders.OrderKind.TheVariants.{Market, Limit}
use Rattle.xm_rules.specs.declared.orders.Restriction.{Restriction}
use Rattle.xm_rules.specs.declared.orders.Restriction.TheVariants.{Free, OpeningOnly, AuctionsOnly, ClosingOnly}
use Rattle.xm_rules.specs.declared.orders.Side.{Side}
use Rattle.xm_rules.specs.declared.orders.Side.TheVariants.{Buy, Sell}
use Rattle.xm_rules.specs.declared.orders.Validity.{Validity}
use Rattle.xm_rules.specs.declared.orders.Validity.TheVariants.{Day, TillDate, TillCancelled}
use Rattle.xm_config.specs.declared.config.SecurityConfig.{SecurityConfig}
use Rattle.xm_ticks.specs.Reading.{price_of}
use Rattle.xm_ticks.specs.Writing.{price_text}
use Rattle.xm_ticks.specs.declared.numbers.TheConstants.{MAX_TICK_SIZE}
use Rattle.xm_files.proofs.WrittenFields.{EntryTexts, MayBeLeft, Say, each-name, fields_in, kind_of, name-plain, name-read, name-there, limit-read, market-read, said-read, stop-limit-read, stop-market-read}
use Rattle.xm_files.proofs.WrittenLines.{is_plain_record, record_line}
use Rattle.xm_files.proofs.WrittenNumbers.{Writes, date-read, decimal-writes, digits-plain, price-plain, price-read, whole-read, zeros-write}
use Rattle.xm_files.specs.Carry.{entry_with_trigger, known_index, listed_in}
use Rattle.xm_files.specs.Names.{NameLists}
use Rattle.xm_files.specs.Plain.{is_plain}
use Rattle.xm_files.specs.Rows.{by_column, carry_columns, kind_in_record, restriction_of, side_named, tick_of, validity_of}
use Rattle.xm_texts.specs.Carry.{AreNames, FitsColumns, HasDateOfEightDigits, entry_record, given_price_text, kind_word}
use Rattle.xm_texts.specs.Statement.{date_text, name_at, restriction_word, side_word, validity_text}

-- ---- the texts of an entry

abbrev pub entry_texts : NameLists → List ℕ → ℕ → Option ℕ → Order → EntryTexts
entry_texts names security tick trigger o =
    record {
      security = security;
      member = name_at names.members o.member;
      reference = decimal o.reference;
      side = side_word o.side;
      kind = kind_word trigger o.kind;
      limit = given_price_text tick (limit_of o.kind);
      trigger = given_price_text tick trigger;
      quantity = decimal o.rest;
      validity = validity_text o.validity;
      restriction = restriction_word o.restriction;
    }

-- ten fields with commas between them and a line feed behind them, before a text
ten-fields : (a b c d e f g h i j text : List ℕ)
    → (a ++ codes "," ++ b ++ codes "," ++ c ++ codes "," ++ d ++ codes "," ++ e ++ codes "," ++ f ++ codes "," ++ g ++ codes "," ++ h ++ codes "," ++ i ++ codes "," ++ j ++ codes "\n") ++ text
    ≡ record_line (a ∷ b ∷ c ∷ d ∷ e ∷ f ∷ g ∷ h ∷ i ∷ j ∷ []) text
ten-fields a b c d e f g h i j text = simp append_assoc

pub entry-line : (names : NameLists) (security : List ℕ) (tick : ℕ) (trigger : Option ℕ) (o : Order) (text : List ℕ)
    → entry_record names security tick trigger o ++ text ≡ record_line (fields_in (entry_texts names security tick trigger o)) text
entry-line names security tick trigger o text =
    ten-fields security (name_at names.members o.member) (decimal o.reference) (side_word o.side) (kind_word trigger o.kind) (given_price_text tick (limit_of o.kind)) (given_price_text tick trigger) (decimal o.rest)
    (validity_text o.validity) (restriction_word o.restriction) text

-- ---- words

side-read : (side : Side) → side_named (side_word side) ≡ Some side
side-read Buy = refl
side-read Sell = refl

side-plain : (side : Side) → is_plain (side_word side) ≡ true
side-plain Buy = refl
side-plain Sell = refl

restriction-read : (restriction : Restriction) → restriction_of (restriction_word restriction) ≡ Some restriction
restriction-read Free = refl
restriction-read OpeningOnly = refl
restriction-read AuctionsOnly = refl
restriction-read ClosingOnly = refl

restriction-named : (restriction : Restriction) → (length (restriction_word restriction) == 0) ≡ false
restriction-named Free = refl
restriction-named OpeningOnly = refl
restriction-named AuctionsOnly = refl
restriction-named ClosingOnly = refl

restriction-plain : (restriction : Restriction) → is_plain (restriction_word restriction) ≡ true
restriction-plain Free = refl
restriction-plain OpeningOnly = refl
restriction-plain AuctionsOnly = refl
restriction-plain ClosingOnly = refl

kind-plain : (trigger : Option ℕ) (k : OrderKind) → is_plain (kind_word trigger k) ≡ true
kind-plain None Market = refl
kind-plain None (Limit p) = refl
kind-plain (Some t) Market = refl
kind-plain (Some t) (Limit p) = refl

-- ---- dates

zeros-fill : (n : ℕ) → n ≤ 8 → 8 - n + n ≡ 8
zeros-fill n h = omega arith

date-writes : (date : ℕ) → date ≤ 99999999 → Writes date (date_text date)
date-writes date small = zeros-write (8 - length (decimal date)) date (decimal date) (decimal-writes date (omega arith))

date-length : (date : ℕ) → date ≤ 99999999 → length (date_text date) ≡ 8
date-length date small =
    let few = length-decimal-le 8 date (omega arith) (omega arith) (omega arith) in
    omega (arith, length-append (replicate (8 - length (decimal date)) 48) (decimal date), length-replicate {A = ℕ} (8 - length (decimal date)) 48, zeros-fill (length (decimal date)) few)

validity-read : (validity : Validity) → HasDateOfEightDigits validity → validity_of (validity_text validity) ≡ Some validity
validity-read Day short = refl
validity-read (TillDate date) short = date-read date (date_text date) (date-writes date short) (date-length date short) short
validity-read TillCancelled short = refl

validity-plain : (validity : Validity) → HasDateOfEightDigits validity → is_plain (validity_text validity) ≡ true
validity-plain Day short = refl
validity-plain (TillDate date) short = digits-plain (date_text date) (date-writes date short).each
validity-plain TillCancelled short = refl

pub outlasting : (today : ℕ) (validity : Validity) → outlasts today validity ≡ true → is_lasting validity ≡ true
outlasting today Day h = cc
outlasting today (TillDate date) h = refl
outlasting today TillCancelled h = refl

-- ---- prices

price-back : (tick price : ℕ) → 1 ≤ tick → tick ≤ MAX_TICK_SIZE → is_in_range price ≡ true → price_of (price_text price tick) tick ≡ Ok price
price-back tick price low high is = price-read price tick (let some = range_low price is in omega arith) (range_high price is) low high

given-plain : (tick : ℕ) (given : Option ℕ) → tick ≤ MAX_TICK_SIZE → is_given_in_range given ≡ true → is_plain (given_price_text tick given) ≡ true
given-plain tick None fine is = refl
given-plain tick (Some price) fine is = price-plain price tick (range_high price is) fine

-- the kind, by its word and its prices
abbrev with_kind : EntryTexts → ℕ → Option ℕ → OrderKind → EntryTexts
with_kind t tick trigger k = record t { kind = kind_word trigger k; limit = given_price_text tick (limit_of k); trigger = given_price_text tick trigger }

kind-read : (t : EntryTexts) (tick : ℕ) (trigger : Option ℕ) (k : OrderKind) → 1 ≤ tick → tick ≤ MAX_TICK_SIZE → is_given_in_range trigger ≡ true → is_given_in_range (limit_of k) ≡ true
    → kind_in_record tick (by_column carry_columns (fields_in (with_kind t tick trigger k))) ≡ Some (kind_of trigger k)
kind-read t tick None Market low high reached limited = market-read tick (by_column carry_columns (fields_in (with_kind t tick None Market))) refl refl refl
kind-read t tick None (Limit p) low high reached limited =
    limit-read tick (by_column carry_columns (fields_in (with_kind t tick None (Limit p)))) p refl (price-back tick p low high limited) refl
kind-read t tick (Some trigger) Market low high reached limited =
    stop-market-read tick (by_column carry_columns (fields_in (with_kind t tick (Some trigger) Market))) trigger refl refl (price-back tick trigger low high reached)
kind-read t tick (Some trigger) (Limit p) low high reached limited =
    stop-limit-read tick (by_column carry_columns (fields_in (with_kind t tick (Some trigger) (Limit p)))) trigger p refl (price-back tick p low high limited) (price-back tick trigger low high reached)

-- ---- an entry of a security

-- a security of a segment whose names are these
pub record IsSecurity (names : NameLists) (securities : List SecurityConfig) (index : ℕ) : Type 0 where
  pub known : AreNames names.members
  pub others : AreNames names.securities
  pub named : index < length names.securities
  pub low : 1 ≤ tick_of securities index
  pub high : tick_of securities index ≤ MAX_TICK_SIZE

-- an order, or the stop with this trigger that becomes it, whose fields can be written
pub record CanBeWritten (names : NameLists) (trigger : Option ℕ) (o : Order) : Type 0 where
  pub member : o.member < length names.members
  pub fits : FitsColumns o.reference o.validity
  pub may : MayBeLeft trigger o

-- the texts of an entry of the security with this index
abbrev pub texts_at : NameLists → List SecurityConfig → ℕ → Option ℕ → Order → EntryTexts
texts_at names securities index trigger o = entry_texts names (name_at names.securities index) (tick_of securities index) trigger o

known-name : (texts : List (List ℕ)) (i : ℕ) → AreNames texts → i < length texts → known_index texts (name_at texts i) ≡ Some i
known-name texts i names within = name-read texts i (name_at texts i) names.distinct within (name-there texts i within) (each-name texts i within names.each)

says : (names : NameLists) (securities : List SecurityConfig) (index : ℕ) (trigger : Option ℕ) (o : Order) → IsSecurity names securities index → CanBeWritten names trigger o
    → Say names securities (texts_at names securities index trigger o) index trigger o
says names securities index trigger o is can =
    let may = can.may in
    let few = range_high o.rest may.units in
    record {
      security = known-name names.securities index is.others is.named;
      member = known-name names.members o.member is.known can.member;
      reference = whole-read o.reference can.fits.bits;
      side = side-read o.side;
      kind = kind-read (texts_at names securities index trigger o) (tick_of securities index) trigger o.kind is.low is.high may.trigger may.limit;
      quantity = whole-read o.rest (omega (arith, few));
      validity = validity-read o.validity can.fits.date;
      restriction = restriction-read o.restriction;
      named = restriction-named o.restriction;
    }

-- its record is read as it
pub entry-read : (names : NameLists) (securities : List SecurityConfig) (index : ℕ) (trigger : Option ℕ) (o : Order) → IsSecurity names securities index → CanBeWritten names trigger o
    → listed_in names securities (by_column carry_columns (fields_in (texts_at names securities index trigger o))) ≡ Some (record { security = index; entry = entry_with_trigger trigger o })
entry-read names securities index trigger o is can = said-read names securities (texts_at names securities index trigger o) index trigger o (says names securities index trigger o is can) can.may

number-plain : (n : ℕ) → n ≤ 4294967295 → is_plain (decimal n) ≡ true
number-plain n small = digits-plain (decimal n) (decimal-writes n (omega arith)).each

ten-plain : (a b c d e f g h i j : Bool) → a ≡ true → b ≡ true → c ≡ true → d ≡ true → e ≡ true → f ≡ true → g ≡ true → h ≡ true → i ≡ true → j ≡ true
    → (a && (b && (c && (d && (e && (f && (g && (h && (i && (j && true)))))))))) ≡ true
ten-plain a b c d e f g h i j pa pb pc pd pe pf pg ph pi pj = rw (pa, pb, pc, pd, pe, pf, pg, ph, pi, pj) refl

-- and has no marks
pub entry-plain : (names : NameLists) (securities : List SecurityConfig) (index : ℕ) (trigger : Option ℕ) (o : Order) → IsSecurity names securities index → CanBeWritten names trigger o
    → is_plain_record (fields_in (texts_at names securities index trigger o)) ≡ true
entry-plain names securities index trigger o is can =
    let may = can.may in
    let few = range_high o.rest may.units in
    ten-plain _ _ _ _ _ _ _ _ _ _ (name-plain (name_at names.securities index) (each-name names.securities index is.named is.others.each))
    (name-plain (name_at names.members o.member) (each-name names.members o.member can.member is.known.each)) (number-plain o.reference can.fits.bits) (side-plain o.side) (kind-plain trigger o.kind)
    (given-plain (tick_of securities index) (limit_of o.kind) is.high may.limit) (given-plain (tick_of securities index) trigger is.high may.trigger) (number-plain o.rest (omega (arith, few)))
    (validity-plain o.validity can.fits.date) (restriction-plain o.restriction)
