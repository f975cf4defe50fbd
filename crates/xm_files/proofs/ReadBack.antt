-- A carry file of orders and stops that were written is read back as these.
use Rattle.std.proofs.Common.{◌≡◌, ◌≢◌, ℕ, suc, ◌+◌, ◌<◌, ◌≤◌, Bool, true, false, ◌||◌, cond, if◌then◌else◌, List, [], ◌∷◌, ◌++◌, All, get_or, length, map, Some, None, Result, Ok, Err, refl, sym, ap, ◌∙◌, arith, append_assoc, append-nil, length-append}
use Rattle.std.proofs.lemmas.Bool.Decides.{nat_tests}
use Rattle.std.proofs.lemmas.List.{get_or-set_same, get_or_at, length-map, length-set, length_push, map_push, set-get_or, set-set, set_at}
use Rattle.std.proofs.lemmas.List.Elements.{All-append, All-head, All-map, All-tail}
use Rattle.std.proofs.lemmas.List.Sums.{sum_by-append, sum_by-cons, sum_by_push}
use Rattle.std.specs.List.{count_by, fold, list_all, list_any}
use Rattle.std.specs.Prelude.{nat_le, nat_lt, slice_set}
use Rattle.xm_rules.proofs.Orderings.{sum-map}
use Rattle.xm_rules.specs.Entries.{Entries, is_same_name, names, none_left, order_name, stop_name}
use Rattle.xm_rules.specs.Orders.{is_named, is_stop_named}
use Rattle.xm_rules.specs.Settling.{order_of_stop}
use Rattle.xm_rules.specs.declared.carried.TheConstants.{MAX_CARRIED}
use Rattle.xm_rules.specs.declared.orders.Order.{Order}
use Rattle.xm_rules.specs.declared.orders.Stop.{Stop}
use Rattle.xm_config.specs.declared.config.SecurityConfig.{SecurityConfig}
use Rattle.xm_config.specs.declared.config.SegmentConfig.{SegmentConfig}
use Rattle.csv.specs.Reading.{default_config, records}
use Rattle.xm_files.proofs.CsvFields.{same-number}
use Rattle.xm_files.proofs.LineRecords.{strip-unmarked}
use Rattle.xm_files.proofs.WrittenFields.{EntryTexts, fields_in}
use Rattle.xm_files.proofs.WrittenLines.{is_plain_record, lines-read, lines_of}
use Rattle.xm_files.specs.Carry.{carry_of, empty_lists, entry_name, entry_with_trigger, listed_in, lists_after, lists_in, one_more, with_lists, with_one_more}
use Rattle.xm_files.specs.FileFaults.{fault_at, max_bytes, result_then}
use Rattle.xm_files.specs.Names.{NameLists}
use Rattle.xm_files.specs.Orders.{records_in}
use Rattle.xm_files.specs.Rows.{by_column, carry_columns, is_header}
use Rattle.xm_files.specs.declared.file_faults.FileCause.TheVariants.{BadHeader, TooLong}
use Rattle.xm_files.specs.declared.file_faults.FileFault.{FileFault}
use Rattle.xm_files.specs.declared.listed.CarriedEntry.{CarriedEntry}
use Rattle.xm_files.specs.declared.listed.CarriedEntry.TheVariants as entry
use Rattle.xm_files.specs.declared.order_format.OrderFormat.TheVariants.{Carry}

-- ---- names, and how often one is used

none-if : (t : Bool) (n : ℕ) (more : Bool) → cond t 1 0 + n ≡ 0 → (n ≡ 0 → more ≡ false) → (t || more) ≡ false
none-if true n more none rest = absurd (omega arith)
none-if false n more none rest = rest (omega arith)

-- a name that is used nowhere is none of these
unused : (p : ℕ × ℕ → Bool) (ns : List (ℕ × ℕ)) → count_by p ns ≡ 0 → list_any p ns ≡ false
unused p [] none = refl
unused p (n ∷ ns) none = none-if (p n) (count_by p ns) (list_any p ns) (sym (sum_by-cons (λ m. cond (p m) 1 0) n ns) ∙ none) (unused p ns)

-- one entry more uses its name once more
uses-more : (p : ℕ × ℕ → Bool) (left : Entries) (e : CarriedEntry) → count_by p (names (one_more left e)) ≡ count_by p (names left) + cond (p (entry_name e)) 1 0
uses-more p left (entry.Order o) =
    let once : ℕ × ℕ → ℕ = λ n. cond (p n) 1 0 in
    omega (
      arith,
      sum_by-append once (map order_name (left.orders ++ o ∷ [])) (map stop_name left.stops),
      ap (count_by p) (map_push order_name left.orders o),
      sum_by_push once (map order_name left.orders) (order_name o),
      sum_by-append once (map order_name left.orders) (map stop_name left.stops),
    )
uses-more p left (entry.Stop stop) =
    let once : ℕ × ℕ → ℕ = λ n. cond (p n) 1 0 in
    omega (
      arith,
      sum_by-append once (map order_name left.orders) (map stop_name (left.stops ++ stop ∷ [])),
      ap (count_by p) (map_push stop_name left.stops stop),
      sum_by_push once (map stop_name left.stops) (stop_name stop),
      sum_by-append once (map order_name left.orders) (map stop_name left.stops),
    )

own-name : (name : ℕ × ℕ) → is_same_name name name ≡ true
own-name name = rw (same-number name.0, same-number name.1) refl

-- ---- the entries of one security

abbrev count_of : Entries → ℕ
count_of left = length left.orders + length left.stops

count-more : (left : Entries) (e : CarriedEntry) → count_of (one_more left e) ≡ count_of left + 1
count-more left (entry.Order o) = omega (arith, length_push left.orders o)
count-more left (entry.Stop stop) = omega (arith, length_push left.stops stop)

-- an entry of a name that is free may be listed, where there is room
free-listed : (line : ℕ) (left : Entries) (e : CarriedEntry) → list_any (is_same_name (entry_name e)) (names left) ≡ false → count_of left < MAX_CARRIED → with_one_more line left e ≡ Ok (one_more left e)
free-listed line left e free room = rw (free, there_is_room (count_of left) room) refl where
  there_is_room : (n : ℕ) → n < MAX_CARRIED → nat_le MAX_CARRIED n ≡ false
  there_is_room n h = grind (arith, nat_tests)

-- the entries, one more at the end for each of these
abbrev with_entries : Entries → List CarriedEntry → Entries
with_entries left es = fold one_more left es

-- how often these entries use a name
abbrev uses_in : ℕ × ℕ → List CarriedEntry → ℕ
uses_in name es = count_by (λ e. is_same_name name (entry_name e)) es

abbrev uses_of : ℕ × ℕ → Entries → ℕ
uses_of name left = count_by (is_same_name name) (names left)

module _ (known : NameLists) (securities : List SecurityConfig) (written : CarriedEntry → EntryTexts) (security : ℕ) where
  -- the record of an entry is read as it
  abbrev IsReadBack : CarriedEntry → Type 0
  IsReadBack e = listed_in known securities (by_column carry_columns (fields_in (written e))) ≡ Some (record { security = security; entry = e })

  abbrev record_of_entry : CarriedEntry → List (List ℕ)
  record_of_entry e = fields_in (written e)

  one-listed : (line : ℕ) (lists : List Entries) (left : Entries) (e : CarriedEntry) (more : List (List (List ℕ))) → get_or lists security none_left ≡ left → IsReadBack e
      → list_any (is_same_name (entry_name e)) (names left) ≡ false → count_of left < MAX_CARRIED
      → lists_after known securities line lists (record_of_entry e ∷ more) ≡ lists_after known securities (line + 1) (slice_set lists security (one_more left e)) more
  one-listed line lists left e more at back free room = rw (back, at, free-listed line left e free room) refl

  free-name : (left : Entries) (e : CarriedEntry) (es : List CarriedEntry) → uses_of (entry_name e) left + uses_in (entry_name e) (e ∷ es) ≤ 1 → list_any (is_same_name (entry_name e)) (names left) ≡ false
  free-name left e es once =
      let own = ap {B = ℕ} (λ (t : Bool). cond t 1 0) (own-name (entry_name e)) in
      unused (is_same_name (entry_name e)) (names left)
      (omega (arith, once, own, sum_by-cons (λ (other : CarriedEntry). cond (is_same_name (entry_name e) (entry_name other)) 1 0) e es))

  -- the records of entries of which no two have one name, and behind them others
  entries-listed : (es : List CarriedEntry) (line : ℕ) (lists : List Entries) (left : Entries) (more : List (List (List ℕ))) → security < length lists → get_or lists security none_left ≡ left
      → All IsReadBack es → ((name : ℕ × ℕ) → uses_of name left + uses_in name es ≤ 1) → count_of left + length es ≤ MAX_CARRIED
      → lists_after known securities line lists (map record_of_entry es ++ more) ≡ lists_after known securities (line + length es) (slice_set lists security (with_entries left es)) more
  entries-listed [] line lists left more within at back once few =
      (λ i. lists_after known securities (same i) (as_before i) more)
    where
      same : line ≡ line + 0
      same = omega arith

      as_before : lists ≡ slice_set lists security left
      as_before = sym (ap (slice_set lists security) (sym at) ∙ set-get_or lists security none_left)
  entries-listed (e ∷ es) line lists left more within at back once few =
      let longer = slice_set lists security (one_more left e) in
      let count : line + 1 + length es ≡ line + suc (length es) = omega arith in
      one-listed line lists left e (map record_of_entry es ++ more) at (All-head IsReadBack e es back) (free-name left e es (once (entry_name e))) (omega arith)
      ∙ entries-listed es (line + 1) longer (one_more left e) more
      (omega (arith, within, length-set lists security (one_more left e))) (get_or-set_same lists security (one_more left e) none_left within) (All-tail IsReadBack e es back)
      (λ name. omega (arith, once name, uses-more (is_same_name name) left e, sum_by-cons (λ (other : CarriedEntry). cond (is_same_name name (entry_name other)) 1 0) e es))
      (omega (arith, few, count-more left e))
      ∙ (λ i. lists_after known securities (count i) (set-set lists security (one_more left e) (with_entries (one_more left e) es) i) more)

-- ---- the orders of a security, and then its stops

abbrev of_orders : List Order → List CarriedEntry
of_orders orders = map (λ (o : Order). entry.Order o) orders

abbrev of_stops : List Stop → List CarriedEntry
of_stops stops = map (λ (stop : Stop). entry.Stop stop) stops

abbrev entries_of : Entries → List CarriedEntry
entries_of left = of_orders left.orders ++ of_stops left.stops

with-orders : (left : Entries) (orders : List Order) (es : List CarriedEntry) → with_entries left (of_orders orders ++ es) ≡ with_entries (record left { orders = left.orders ++ orders }) es
with-orders left [] es = ap (λ (orders : List Order). with_entries (record left { orders = orders }) es) (sym (append-nil left.orders))
with-orders left (o ∷ orders) es =
    with-orders (one_more left (entry.Order o)) orders es
    ∙ ap (λ (all : List Order). with_entries (record left { orders = all }) es) (append_assoc left.orders (o ∷ []) orders)

with-stops : (left : Entries) (stops : List Stop) → with_entries left (of_stops stops) ≡ record left { stops = left.stops ++ stops }
with-stops left [] = ap (λ (stops : List Stop). record left { stops = stops }) (sym (append-nil left.stops))
with-stops left (stop ∷ stops) =
    with-stops (one_more left (entry.Stop stop)) stops
    ∙ ap (λ (all : List Stop). record left { stops = all }) (append_assoc left.stops (stop ∷ []) stops)

-- these are its entries
made-again : (left : Entries) → with_entries none_left (entries_of left) ≡ left
made-again left = with-orders none_left left.orders (of_stops left.stops) ∙ with-stops (record { orders = left.orders; stops = [] }) left.stops

entries-number : (left : Entries) → length (entries_of left) ≡ count_of left
entries-number left =
    omega (
      arith,
      length-append (of_orders left.orders) (of_stops left.stops),
      length-map left.orders (λ (o : Order). entry.Order o),
      length-map left.stops (λ (stop : Stop). entry.Stop stop),
    )

uses-orders : (member reference : ℕ) (orders : List Order) → uses_in (member, reference) (of_orders orders) ≡ count_by (is_named member reference) orders
uses-orders member reference orders = sum-map (λ (e : CarriedEntry). cond (is_same_name (member, reference) (entry_name e)) 1 0) (λ (o : Order). entry.Order o) orders

uses-stops : (member reference : ℕ) (stops : List Stop) → uses_in (member, reference) (of_stops stops) ≡ count_by (is_stop_named member reference) stops
uses-stops member reference stops = sum-map (λ (e : CarriedEntry). cond (is_same_name (member, reference) (entry_name e)) 1 0) (λ (stop : Stop). entry.Stop stop) stops

entries-use : (member reference : ℕ) (left : Entries)
    → uses_in (member, reference) (entries_of left) ≡ count_by (is_named member reference) left.orders + count_by (is_stop_named member reference) left.stops
entries-use member reference left =
    omega (
      arith,
      sum_by-append (λ (e : CarriedEntry). cond (is_same_name (member, reference) (entry_name e)) 1 0) (of_orders left.orders) (of_stops left.stops),
      uses-orders member reference left.orders,
      uses-stops member reference left.stops,
    )

-- ---- the entries of all securities

module _ (known : NameLists) (securities : List SecurityConfig) (order_texts : ℕ → Order → EntryTexts) (stop_texts : ℕ → Stop → EntryTexts) where
  -- the record of an order is read as it, and that of a stop
  abbrev pub IsOrderRead : ℕ → Order → Type 0
  IsOrderRead security o =
      listed_in known securities (by_column carry_columns (fields_in (order_texts security o))) ≡ Some (record { security = security; entry = entry_with_trigger None o })

  abbrev pub IsStopRead : ℕ → Stop → Type 0
  IsStopRead security stop =
      listed_in known securities (by_column carry_columns (fields_in (stop_texts security stop))) ≡ Some (record { security = security; entry = entry_with_trigger (Some stop.trigger) (order_of_stop stop) })

  -- a security takes these entries, and reads each back
  pub record CanBeListed (security : ℕ) (left : Entries) : Type 0 where
    pub orders : All (IsOrderRead security) left.orders
    pub stops : All (IsStopRead security) left.stops
    pub names : (member reference : ℕ) → count_by (is_named member reference) left.orders + count_by (is_stop_named member reference) left.stops ≤ 1
    pub few : length left.orders + length left.stops ≤ MAX_CARRIED

  -- each of the securities from this index on
  abbrev pub AllCanBeListed : ℕ → List Entries → Type 0
  AllCanBeListed security [] = Unit {0}
  AllCanBeListed security (left ∷ more) = CanBeListed security left × AllCanBeListed (security + 1) more

  -- the records of what they leave
  abbrev pub records_of : ℕ → List Entries → List (List (List ℕ))
  records_of security [] = []
  records_of security (left ∷ more) =
      map (λ (o : Order). fields_in (order_texts security o)) left.orders ++ (map (λ (stop : Stop). fields_in (stop_texts security stop)) left.stops ++ records_of (security + 1) more)

  abbrev entry_texts : ℕ → CarriedEntry → EntryTexts
  entry_texts security (entry.Order o) = order_texts security o
  entry_texts security (entry.Stop stop) = stop_texts security stop

  abbrev record_at : ℕ → CarriedEntry → List (List ℕ)
  record_at security e = fields_in (entry_texts security e)

  order-records : (security : ℕ) (orders : List Order) (es : List CarriedEntry) (more : List (List (List ℕ)))
      → map (record_at security) (of_orders orders ++ es) ++ more ≡ map (λ (o : Order). fields_in (order_texts security o)) orders ++ (map (record_at security) es ++ more)
  order-records security [] es more = refl
  order-records security (o ∷ orders) es more = ap (λ (rest : List (List (List ℕ))). fields_in (order_texts security o) ∷ rest) (order-records security orders es more)

  stop-records : (security : ℕ) (stops : List Stop) (more : List (List (List ℕ)))
      → map (record_at security) (of_stops stops) ++ more ≡ map (λ (stop : Stop). fields_in (stop_texts security stop)) stops ++ more
  stop-records security [] more = refl
  stop-records security (stop ∷ stops) more = ap (λ (rest : List (List (List ℕ))). fields_in (stop_texts security stop) ∷ rest) (stop-records security stops more)

  entry-records : (security : ℕ) (left : Entries) (more : List Entries)
      → records_of security (left ∷ more) ≡ map (record_at security) (entries_of left) ++ records_of (security + 1) more
  entry-records security left more =
      sym (order-records security left.orders (of_stops left.stops) (records_of (security + 1) more)
      ∙ ap (λ (rest : List (List (List ℕ))). map (λ (o : Order). fields_in (order_texts security o)) left.orders ++ rest) (stop-records security left.stops (records_of (security + 1) more)))

  each-read : (security : ℕ) (left : Entries) → CanBeListed security left → All (IsReadBack known securities (entry_texts security) security) (entries_of left)
  each-read security left can =
      All-append (IsReadBack known securities (entry_texts security) security) (of_orders left.orders) (of_stops left.stops)
      (All-map (IsReadBack known securities (entry_texts security) security) (λ (o : Order). entry.Order o) left.orders can.orders)
      (All-map (IsReadBack known securities (entry_texts security) security) (λ (stop : Stop). entry.Stop stop) left.stops can.stops)

  -- the lists of the securities before are whole, and nothing is listed for those behind
  all-listed : (lefts : List Entries) (security line : ℕ) (done : List Entries) → length done ≡ security → AllCanBeListed security lefts
      → lists_after known securities line (done ++ map (λ _. none_left) lefts) (records_of security lefts) ≡ Ok (done ++ lefts)
  all-listed [] security line done size each = refl
  all-listed (left ∷ more) security line done size each =
      let here = each.0 in
      let few = here.few in
      let behind = map (λ (_ : Entries). none_left) more in
      let lists = done ++ none_left ∷ behind in
      let next : length (done ++ left ∷ []) ≡ security + 1 = omega (arith, length_push done left) in
      ap (lists_after known securities line lists) (entry-records security left more)
      ∙ entries-listed known securities (entry_texts security) security (entries_of left) line lists none_left (records_of (security + 1) more)
      (omega (arith, length-append done (none_left ∷ behind))) (get_or_at done none_left behind none_left security size) (each-read security left here)
      (λ name. omega (arith, here.names name.0 name.1, entries-use name.0 name.1 left)) (omega (arith, entries-number left))
      ∙ ap (λ (all : List Entries). lists_after known securities (line + length (entries_of left)) all (records_of (security + 1) more))
      (ap (slice_set lists security) (made-again left) ∙ set_at done none_left behind left security size ∙ sym (append_assoc done (left ∷ []) behind))
      ∙ all-listed more (security + 1) (line + length (entries_of left)) (done ++ left ∷ []) next each.1
      ∙ ap (λ (all : List Entries). Ok all) (append_assoc done (left ∷ []) more)

nothing-listed : (securities : List SecurityConfig) (lefts : List Entries) → length lefts ≡ length securities → empty_lists securities ≡ map (λ _. none_left) lefts
nothing-listed [] [] same = refl
nothing-listed [] (left ∷ lefts) same = absurd (omega arith)
nothing-listed (security ∷ securities) [] same = absurd (omega arith)
nothing-listed (security ∷ securities) (left ∷ lefts) same = ap (λ (all : List Entries). none_left ∷ all) (nothing-listed securities lefts (omega arith))

not-long : (n : ℕ) → n ≤ max_bytes → nat_lt max_bytes n ≡ false
not-long n h = grind (arith, nat_tests)

-- a file of these records below a header gives each security its entries
pub carry-read : (known : NameLists) (config : SegmentConfig) (order_texts : ℕ → Order → EntryTexts) (stop_texts : ℕ → Stop → EntryTexts) (lefts : List Entries) (header : List (List ℕ)) → is_header Carry header ≡ true
    → length lefts ≡ length config.securities → AllCanBeListed known config.securities order_texts stop_texts 0 lefts
    → let file = header ∷ records_of known config.securities order_texts stop_texts 0 lefts in
    list_all is_plain_record file ≡ true → get_or (lines_of file) 0 0 ≢ 239 → length (lines_of file) ≤ max_bytes
    → carry_of known config (lines_of file) ≡ Ok (record config { securities = with_lists config.securities lefts })
carry-read known config order_texts stop_texts lefts header is same each plain unmarked short =
    let file = header ∷ records_of known config.securities order_texts stop_texts 0 lefts in
    let read : records_in (lines_of file) ≡ file = ap (records default_config) (strip-unmarked (lines_of file) unmarked) ∙ lines-read file plain in
    let listed : lists_in known config.securities file ≡ Ok lefts =
    ap (λ (t : Bool). if t then lists_after known config.securities 2 (empty_lists config.securities) (records_of known config.securities order_texts stop_texts 0 lefts) else Err (fault_at 1 BadHeader)) is
    ∙ ap (λ (lists : List Entries). lists_after known config.securities 2 lists (records_of known config.securities order_texts stop_texts 0 lefts)) (nothing-listed config.securities lefts same)
    ∙ all-listed known config.securities order_texts stop_texts lefts 0 2 [] refl each in
    ap (λ (t : Bool). if t then Err (fault_at 0 TooLong) else result_then (lists_in known config.securities (records_in (lines_of file))) (λ lists. Ok (record config { securities = with_lists config.securities lists })))
    (not-long (length (lines_of file)) short)
    ∙ ap (λ (r : Result (List Entries) FileFault). result_then r (λ lists. Ok (record config { securities = with_lists config.securities lists })))
    (ap (lists_in known config.securities) read ∙ listed)
