-- What the days of lawful journals leave is read back from their carry file.
use Rattle.std.proofs.Common.{◌≡◌, ℕ, zero, suc, ◌+◌, ◌<◌, ◌≤◌, true, List, [], ◌∷◌, ◌++◌, All, get_or, length, map, Some, None, Ok, refl, sym, ap, subst, ◌∙◌, arith, append_assoc}
use Rattle.std.proofs.lemmas.List.{length-map}
use Rattle.std.proofs.lemmas.List.Elements.{All-filter, All-head, All-tail, All-weaker, filter_passes}
use Rattle.std.proofs.lemmas.List.Folds.{list_all-append}
use Rattle.std.specs.List.{count_by, flat_map, list_all}
use Rattle.std.specs.Prelude.{codes}
use Rattle.xm_rules.proofs.DayLimits.{kept}
use Rattle.xm_rules.proofs.KnownMembers.{IsOf, IsStopOf, known}
use Rattle.xm_rules.proofs.OneName.{named, stop_named}
use Rattle.xm_rules.proofs.SettledSums.{part}
use Rattle.xm_rules.specs.Commands.{outlasts}
use Rattle.xm_rules.specs.Entries.{Entries}
use Rattle.xm_rules.specs.Orders.{is_named, is_stop_named}
use Rattle.xm_rules.specs.Settling.{order_of_stop}
use Rattle.xm_rules.specs.Step.{Journal, is_lawful, replay}
use Rattle.xm_rules.specs.declared.orders.Order.{Order}
use Rattle.xm_rules.specs.declared.orders.Stop.{Stop}
use Rattle.xm_rules.specs.declared.settings.DeskSettings.{DeskSettings}
use Rattle.xm_config.specs.declared.config.SecurityConfig.{SecurityConfig}
use Rattle.xm_config.specs.declared.config.SegmentConfig.{SegmentConfig}
use Rattle.xm_files.proofs.ReadBack.{AllCanBeListed, CanBeListed, IsOrderRead, IsStopRead, carry-read, records_of}
use Rattle.xm_files.proofs.WrittenFields.{EntryTexts, fields_in}
use Rattle.xm_files.proofs.WrittenLines.{is_plain_record, lines_of, record_line}
use Rattle.xm_files.specs.Carry.{carry_of, with_lists}
use Rattle.xm_files.specs.FileFaults.{max_bytes}
use Rattle.xm_files.specs.Names.{NameLists}
use Rattle.xm_files.specs.Rows.{tick_of}
use Rattle.xm_texts.proofs.CarryTexts.{CanBeWritten, IsSecurity, entry-line, entry-plain, entry-read, outlasting, texts_at}
use Rattle.xm_texts.proofs.LeftInRange.{IsInRange, IsStopInRange, orders-in_range, stops-in_range}
use Rattle.xm_texts.specs.Carry.{CanBeRead, LeavesReadable, carry_text, carried_forward, left_text, lefts_text, carried_order, carried_stop}
use Rattle.xm_texts.specs.Statement.{name_at}

-- ---- ticks

ticks-at : (securities : List SecurityConfig) (journals : List Journal) → map (λ (j : Journal). j.settings.tick) journals ≡ map (λ (security : SecurityConfig). security.tick) securities
    → (i : ℕ) (d : Journal) → i < length journals → tick_of securities i ≡ (get_or journals i d).settings.tick
ticks-at [] [] same i d within = absurd (omega arith)
ticks-at [] (j ∷ journals) same i d within = cc
ticks-at (security ∷ securities) [] same i d within = absurd (omega arith)
ticks-at (security ∷ securities) (j ∷ journals) same zero d within = cc
ticks-at (security ∷ securities) (j ∷ journals) same (suc i) d within = ticks-at securities journals (cc) i d (omega arith)

module _ (names : NameLists) (securities : List SecurityConfig) where
  -- a journal of the security with this index
  record IsDayOf (index : ℕ) (j : Journal) : Type 0 where
    pub leaves : LeavesReadable (length names.members) j
    pub security : IsSecurity names securities index
    pub tick : tick_of securities index ≡ j.settings.tick

  -- a journal for each security from this index on
  abbrev DaysFrom : ℕ → List Journal → Type 0
  DaysFrom index [] = Unit {0}
  DaysFrom index (j ∷ journals) = IsDayOf index j × DaysFrom (index + 1) journals

  days-from : (journals : List Journal) (index : ℕ) → ((i : ℕ) (d : Journal) → i < length journals → IsDayOf (index + i) (get_or journals i d)) → DaysFrom index journals
  days-from [] index each = tt
  days-from (j ∷ journals) index each =
      let here : index + 0 ≡ index = omega arith in (
        subst (λ (n : ℕ). IsDayOf n j) here (each 0 j (omega arith)),
        days-from journals (index + 1)
            (λ i d within. (let next : index + suc i ≡ index + 1 + i = omega arith in subst (λ (n : ℕ). IsDayOf n (get_or journals i d)) next (each (suc i) d (omega arith)))),
      )

-- ---- one day

orders-written : (names : NameLists) (j : Journal) → LeavesReadable (length names.members) j → All (CanBeWritten names None) (carried_forward (replay j)).orders
orders-written names j leaves = λ k d within.
    let h = leaves.lawful in
    let s = replay j in
    let lasts = λ (o : Order). outlasts s.settings.today o.validity in
    let all = leaves.known in
    let member = All-filter lasts (IsOf j.settings.members) s.orders (known j h).orders k d within in
    let ranged = All-filter lasts IsInRange s.orders (orders-in_range j h) k d within in
    record {
      member = omega arith;
      fits = leaves.orders k d within;
      may = record { trigger = refl; limit = ranged.limit; units = ranged.units; lasts = outlasting _ _ (filter_passes lasts s.orders k d within); combined = refl };
    }

stops-written : (names : NameLists) (j : Journal) → LeavesReadable (length names.members) j
    → All (λ (stop : Stop). CanBeWritten names (Some stop.trigger) (order_of_stop stop)) (carried_forward (replay j)).stops
stops-written names j leaves = λ k d within.
    let h = leaves.lawful in
    let s = replay j in
    let lasts = λ (stop : Stop). outlasts s.settings.today stop.validity in
    let all = leaves.known in
    let member = All-filter lasts (IsStopOf j.settings.members) s.stops (known j h).stops k d within in
    let ranged = All-filter lasts IsStopInRange s.stops (stops-in_range j h) k d within in
    record {
      member = omega arith;
      fits = leaves.stops k d within;
      may = record { trigger = ranged.trigger; limit = ranged.order.limit; units = ranged.order.units; lasts = outlasting _ _ (filter_passes lasts s.stops k d within); combined = refl };
    }

-- no two of what is left have one name
left-once : (j : Journal) (member reference : ℕ) → is_lawful j ≡ true
    → count_by (is_named member reference) (carried_forward (replay j)).orders + count_by (is_stop_named member reference) (carried_forward (replay j)).stops ≤ 1
left-once j member reference h =
    let s = replay j in
    omega (
      arith,
      (kept j h).names member reference,
      part (named member reference) (λ (o : Order). outlasts s.settings.today o.validity) s.orders,
      part (stop_named member reference) (λ (stop : Stop). outlasts s.settings.today stop.validity) s.stops,
    )

module _ (names : NameLists) (securities : List SecurityConfig) where
  abbrev order_texts : ℕ → Order → EntryTexts
  order_texts index o = texts_at names securities index None o

  abbrev stop_texts : ℕ → Stop → EntryTexts
  stop_texts index stop = texts_at names securities index (Some stop.trigger) (order_of_stop stop)

  abbrev lefts : List Journal → List Entries
  lefts journals = map carried_forward (map replay journals)

  day-listed : (index : ℕ) (j : Journal) → IsDayOf names securities index j → CanBeListed names securities order_texts stop_texts index (carried_forward (replay j))
  day-listed index j day =
      record {
        orders = All-weaker (CanBeWritten names None) (IsOrderRead names securities order_texts stop_texts index) (λ o can. entry-read names securities index None o day.security can) (carried_forward (replay j)).orders
            (orders-written names j day.leaves);
        stops = All-weaker (λ (stop : Stop). CanBeWritten names (Some stop.trigger) (order_of_stop stop)) (IsStopRead names securities order_texts stop_texts index)
            (λ stop can. entry-read names securities index (Some stop.trigger) (order_of_stop stop) day.security can) (carried_forward (replay j)).stops (stops-written names j day.leaves);
        names = λ member reference. left-once j member reference day.leaves.lawful;
        few = day.leaves.few;
      }

  days-listed : (index : ℕ) (journals : List Journal) → DaysFrom names securities index journals → AllCanBeListed names securities order_texts stop_texts index (lefts journals)
  days-listed index [] days = tt
  days-listed index (j ∷ journals) days = (day-listed index j days.0, days-listed (index + 1) journals days.1)

  -- ---- their records have no marks

  each-plain : {X : Type 0} (P : X → Type 0) (fields : X → List (List ℕ)) → ((x : X) → P x → is_plain_record (fields x) ≡ true) → (xs : List X) → All P xs → list_all is_plain_record (map fields xs) ≡ true
  each-plain P fields gives [] all = refl
  each-plain P fields gives (x ∷ xs) all = rw (gives x (All-head P x xs all)) (each-plain P fields gives xs (All-tail P x xs all))

  both-plain : (rs more : List (List (List ℕ))) → list_all is_plain_record rs ≡ true → list_all is_plain_record more ≡ true → list_all is_plain_record (rs ++ more) ≡ true
  both-plain rs more a b = list_all-append is_plain_record rs more ∙ rw (a, b) refl

  records-plain : (index : ℕ) (journals : List Journal) → DaysFrom names securities index journals
      → list_all is_plain_record (records_of names securities order_texts stop_texts index (lefts journals)) ≡ true
  records-plain index [] days = refl
  records-plain index (j ∷ journals) days =
      let day = days.0 in
      let left = carried_forward (replay j) in
      let more = records_of names securities order_texts stop_texts (index + 1) (lefts journals) in
      let stops = map (λ (stop : Stop). fields_in (stop_texts index stop)) left.stops in
      both-plain (map (λ (o : Order). fields_in (order_texts index o)) left.orders) (stops ++ more)
      (each-plain (CanBeWritten names None) (λ (o : Order). fields_in (order_texts index o)) (λ o can. entry-plain names securities index None o day.security can) left.orders (orders-written names j day.leaves))
      (both-plain stops more
      (each-plain (λ (stop : Stop). CanBeWritten names (Some stop.trigger) (order_of_stop stop)) (λ (stop : Stop). fields_in (stop_texts index stop))
      (λ stop can. entry-plain names securities index (Some stop.trigger) (order_of_stop stop) day.security can) left.stops (stops-written names j day.leaves))
      (records-plain (index + 1) journals days.1))

  -- ---- their lines are the text

  flat-lines : {X : Type 0} (line : X → List ℕ) (fields : X → List (List ℕ)) → ((x : X) (text : List ℕ) → line x ++ text ≡ record_line (fields x) text) → (xs : List X) (more : List (List (List ℕ)))
      → flat_map line xs ++ lines_of more ≡ lines_of (map fields xs ++ more)
  flat-lines line fields is [] more = refl
  flat-lines line fields is (x ∷ xs) more =
      append_assoc (line x) (flat_map line xs) (lines_of more)
      ∙ ap (λ (text : List ℕ). line x ++ text) (flat-lines line fields is xs more)
      ∙ is x (lines_of (map fields xs ++ more))

  day-text : (index : ℕ) (j : Journal) (more : List (List (List ℕ))) → IsDayOf names securities index j
      → left_text names index (replay j) ++ lines_of more
      ≡ lines_of (map (λ (o : Order). fields_in (order_texts index o)) (carried_forward (replay j)).orders ++ (map (λ (stop : Stop). fields_in (stop_texts index stop)) (carried_forward (replay j)).stops ++ more))
  day-text index j more day =
      let s = replay j in
      let left = carried_forward s in
      let security = name_at names.securities index in
      let tick = tick_of securities index in
      let same : s.settings.tick ≡ tick = ap (λ (d : DeskSettings). d.tick) (kept j day.leaves.lawful).same ∙ sym day.tick in
      let stops = map (λ (stop : Stop). fields_in (stop_texts index stop)) left.stops in
      ap (λ (n : ℕ). (flat_map (carried_order names security n) left.orders ++ flat_map (carried_stop names security n) left.stops) ++ lines_of more) same
      ∙ append_assoc (flat_map (carried_order names security tick) left.orders) (flat_map (carried_stop names security tick) left.stops) (lines_of more)
      ∙ ap (λ (text : List ℕ). flat_map (carried_order names security tick) left.orders ++ text)
      (flat-lines (carried_stop names security tick) (λ (stop : Stop). fields_in (stop_texts index stop)) (λ stop text. entry-line names security tick (Some stop.trigger) (order_of_stop stop) text) left.stops more)
      ∙ flat-lines (carried_order names security tick) (λ (o : Order). fields_in (order_texts index o)) (λ o text. entry-line names security tick None o text) left.orders (stops ++ more)

  days-text : (index : ℕ) (journals : List Journal) → DaysFrom names securities index journals
      → lefts_text names index (map replay journals) ≡ lines_of (records_of names securities order_texts stop_texts index (lefts journals))
  days-text index [] days = refl
  days-text index (j ∷ journals) days =
      ap (λ (text : List ℕ). left_text names index (replay j) ++ text) (days-text (index + 1) journals days.1)
      ∙ day-text index j (records_of names securities order_texts stop_texts (index + 1) (lefts journals)) days.0

-- ---- all days

abbrev header_fields : List (List ℕ)
header_fields =
    codes "security" ∷ codes "member" ∷ codes "reference" ∷ codes "side" ∷ codes "kind" ∷ codes "limit" ∷ codes "trigger" ∷ codes "quantity" ∷ codes "validity" ∷ codes "restriction" ∷ []

pub carried-back : (names : NameLists) (config : SegmentConfig) (journals : List Journal) → CanBeRead names config journals
    → carry_of names config (carry_text names (map replay journals)) ≡ Ok (record config { securities = with_lists config.securities (map carried_forward (map replay journals)) })
carried-back names config journals can =
    let securities = config.securities in
    let size : length journals ≡ length securities =
    sym (length-map journals (λ (j : Journal). j.settings.tick)) ∙ ap length can.ticks ∙ length-map securities (λ (security : SecurityConfig). security.tick) in
    let day : (i : ℕ) (d : Journal) → i < length journals → IsDayOf names securities (0 + i) (get_or journals i d) = λ i d within.
    (let here : i ≡ 0 + i = omega arith in
    let leaves = can.each i d within in
    let tick = ticks-at securities journals can.ticks i d within in
    let low = leaves.tick_low in
    let high = leaves.tick_high in
    let many = can.named in
    subst (λ (n : ℕ). IsDayOf names securities n (get_or journals i d)) here
    (record { leaves = leaves; security = record { known = can.members; others = can.securities; named = omega arith; low = omega arith; high = omega arith }; tick = tick })) in
    let days = days-from names securities journals 0 day in
    let all = map carried_forward (map replay journals) in
    let rs = records_of names securities (order_texts names securities) (stop_texts names securities) 0 all in
    let text : carry_text names (map replay journals) ≡ lines_of (header_fields ∷ rs) = ap (record_line header_fields) (days-text names securities 0 journals days) in
    ap (carry_of names config) text
    ∙ carry-read names config (order_texts names securities) (stop_texts names securities) all header_fields refl
    (length-map (map replay journals) carried_forward ∙ length-map journals replay ∙ size) (days-listed names securities 0 journals days) (records-plain names securities 0 journals days) (λ e. omega arith)
    (subst (λ (file : List ℕ). length file ≤ max_bytes) text can.short)
