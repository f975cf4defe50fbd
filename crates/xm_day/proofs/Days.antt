-- A day as a value: from rows that were taken to its texts, and from these to what is written.
use Rattle.std.proofs.Common.{◌≡◌, ◌∙◌, ℕ, Bool, true, false, List, [], Option, None, Some, Result, Ok, Err, IfOk, length, option_map, unwrap_or, refl, ap, ap₂, sym, subst, inl, inr, ◌⊎◌, ◌<◌, take, append-nil, arith}
use Rattle.std.specs.Io.KnownBytes.{Appends}
use Rattle.xm_day.specs.Answers.{DayEnds, DayOfRowsEnds, OrdersRun, InFileOrder, IsSegmentOf, OrdersEnd, StatementEnds, statement_of}
use Rattle.xm_day.specs.CarriedDays.{BothEnd, CarriedDayEnds, IsCutOff, OpensWith, Outputs}
use Rattle.xm_day.specs.Days.{BothBegun, BothWritten, DayFiles, HasTextsOf, IsDay, IsDayOfRows, IsStated, OpeningRead, OpensBy, SharesRows, StatementWritten, TakesFile, nothing_asked, taken_day, text_where}
use Rattle.xm_day.specs.declared.value.DayTexts.{DayTexts}
use Rattle.xm_day.specs.declared.value.HandsOn.{HandsOn}
use Rattle.xm_day.specs.declared.value.HandsOn.TheVariants.{WhatIsLeft}
use Rattle.xm_day.specs.declared.taking.TakenDay.{TakenDay}
use Rattle.xm_files.specs.Names.{NameLists}
use Rattle.xm_config.specs.Day.{Day, day_of}
use Rattle.xm_texts.specs.Feeds.{Feed, feed_of}
use Rattle.xm_texts.specs.RowAnswers.{answers_text, where_asked}
use Rattle.xm_texts.specs.RowEvents.{events_text}
use Rattle.xm_texts.specs.RowTrades.{trades_text}
use Rattle.xm_replay.specs.Taken.{IsOpenFault, RowsTaken}
use Rattle.xm_replay.specs.declared.desks.OpenDay.{OpenDay}
use Rattle.xm_replay.specs.declared.faults.DayFault.{DayFault}
use Rattle.xm_replay.specs.declared.faults.DayFault.TheVariants.{Segment, Carry, Orders, Open, OutOfMemory, WriteFailed}
use Rattle.xm_texts.specs.declared.asked.AskedTexts.{AskedTexts}
use Rattle.xm_replay.specs.declared.report.DayReport.{DayReport}
use Rattle.xm_rules.specs.State.{State}
use Rattle.xm_rules.specs.Step.{Journal}
use Rattle.xm_config.specs.Opening.{segment_fault}
use Rattle.xm_config.specs.declared.config.SegmentConfig.{SegmentConfig}
use Rattle.xm_config.specs.declared.rows.Row.{Row}
use Rattle.xm_texts.specs.Carry.{carry_text}
use Rattle.xm_ticks.specs.Writing.{AppendsPrefix}
use Rattle.xm_workers.specs.Workers.{IsShared}

-- ---- rows that were taken

-- desks have taken these rows, and have no statement yet
pub record Took (days : SegmentConfig → List Row → Day → Type 0) (asked : AskedTexts) (names : NameLists) (texts : ℕ → List ℕ) (config : SegmentConfig) (rows : List Row) (d : OpenDay) : Type 0 where
  sound : segment_fault config ≡ None
  each : length d.desks.items ≡ length config.securities
  is_of_rows : days config rows (taken_day d)
  answers_are : d.told.answers ≡ where_asked asked.answers (answers_text names config texts rows)
  trades_are : d.told.trades ≡ where_asked asked.trades (trades_text names config texts rows)
  events_are : d.told.events ≡ where_asked asked.events (events_text names config rows)
  depth_is : d.told.depth ≡ where_asked asked.depth (feed_of names config rows)

abbrev pub Takes : (SegmentConfig → List Row → Day → Type 0) → AskedTexts → NameLists → (ℕ → List ℕ) → SegmentConfig → List Row → Result OpenDay DayFault → Type 0
Takes days asked names texts config rows (Ok d) = Took days asked names texts config rows d
Takes days asked names texts config rows (Err (Open fault)) = IsOpenFault config fault
Takes days asked names texts config rows (Err (OutOfMemory _)) = segment_fault config ≡ None
Takes days asked names texts config rows (Err fault) = ⊥

pub in-order : (asked : AskedTexts) (config : SegmentConfig) (names : NameLists) (orders : List (Option (List ℕ))) (taken : Result OpenDay DayFault) → OrdersRun (RowsTaken asked names) config names orders taken
    → OrdersRun (Takes InFileOrder asked names) config names orders taken
in-order asked config names orders (Ok d) run =
    (run.0, run.1, run.2, run.3, record { sound = run.4.sound; each = run.4.each; is_of_rows = run.4.day_is; answers_are = run.4.answers_are; trades_are = run.4.trades_are; events_are = run.4.events_are; depth_is = run.4.depth_is })
in-order asked config names orders (Err (Segment fault)) run = run
in-order asked config names orders (Err (Carry fault)) run = run
in-order asked config names orders (Err (Orders fault)) run = run
in-order asked config names orders (Err (Open fault)) run = run
in-order asked config names orders (Err (OutOfMemory _)) run = run
in-order asked config names orders (Err WriteFailed) run = run

pub shared : (workers : ℕ) (config : SegmentConfig) (names : NameLists) (orders : List (Option (List ℕ))) (taken : Result OpenDay DayFault) → OrdersRun (SharesRows workers) config names orders taken
    → OrdersRun (Takes (IsShared workers) nothing_asked names) config names orders taken
shared workers config names orders (Ok d) run =
    (run.0, run.1, run.2, run.3, record { sound = run.4.0.0; each = run.4.0.1; is_of_rows = run.4.0.2; answers_are = run.4.1.answers; trades_are = run.4.1.trades; events_are = run.4.1.events; depth_is = run.4.1.depth })
shared workers config names orders (Err (Segment fault)) run = run
shared workers config names orders (Err (Carry fault)) run = run
shared workers config names orders (Err (Orders fault)) run = run
shared workers config names orders (Err (Open fault)) run = run
shared workers config names orders (Err (OutOfMemory _)) run = run
shared workers config names orders (Err WriteFailed) run = run

-- their segment was opened
pub opened : (days : SegmentConfig → List Row → Day → Type 0) (asked : AskedTexts) (config : SegmentConfig) (names : NameLists) (orders : List (Option (List ℕ))) (taken : Result OpenDay DayFault) → OrdersRun (Takes days asked names) config names orders taken
    → IfOk taken (λ d. (segment_fault config ≡ None) × (length d.desks.items ≡ length config.securities))
opened days asked config names orders (Ok d) run = (run.4.sound, run.4.each)
opened days asked config names orders (Err fault) run = tt

untaken : (days : SegmentConfig → List Row → Day → Type 0) (asked : AskedTexts) (config : SegmentConfig) (names : NameLists) (orders : List (Option (List ℕ))) (fault : DayFault) → OrdersRun (Takes days asked names) config names orders (Err fault)
    → TakesFile days asked config names orders (Err fault)
untaken days asked config names orders (Segment fault) run = run
untaken days asked config names orders (Carry fault) run = run
untaken days asked config names orders (Orders fault) run = run
untaken days asked config names orders (Open fault) run = run
untaken days asked config names orders (OutOfMemory _) run = run
untaken days asked config names orders WriteFailed run = run

-- what took them has its statement
pub stated : (days : SegmentConfig → List Row → Day → Type 0) (asked : AskedTexts) (config : SegmentConfig) (names : NameLists) (orders : List (Option (List ℕ))) (taken : Result OpenDay DayFault) (result : Result TakenDay DayFault)
    → OrdersRun (Takes days asked names) config names orders taken → IsStated names taken result → TakesFile days asked config names orders result
stated days asked config names orders (Err fault) result run s = subst (TakesFile days asked config names orders) (sym s) (untaken days asked config names orders fault run)
stated days asked config names orders (Ok d) (Err fault) run s =
    subst (λ (f : DayFault). TakesFile days asked config names orders (Err f)) (sym s) (run.0, run.1, run.2, run.3, run.4.sound)
stated days asked config names orders (Ok d) (Ok t) run s =
    let same : taken_day t.day ≡ taken_day d = ap₂ (λ (js : List Journal) (r : DayReport). day_of js r.accepted r.refused) s.desks_are s.report_is in (
      run.0,
      run.1,
      run.2,
      run.3,
      record {
        sound = run.4.sound;
        each = ap length s.desks_are ∙ run.4.each;
        is_of_rows = subst (days config run.2) (sym same) run.4.is_of_rows;
        statement_is = s.statement_is ∙ ap (statement_of names) (sym same);
        answers_are = ap (λ told. told.answers) s.told_is ∙ run.4.answers_are;
        trades_are = ap (λ told. told.trades) s.told_is ∙ run.4.trades_are;
        events_are = ap (λ told. told.events) s.told_is ∙ run.4.events_are;
        depth_is = ap (λ told. told.depth) s.told_is ∙ run.4.depth_is;
      },
    )

-- ---- texts

text-where : (b : Bool) (text : List ℕ) → unwrap_or (where_asked b text) [] ≡ text_where b text
text-where true text = refl
text-where false text = refl

levels-where : (b : Bool) (feed : Feed) → unwrap_or (option_map (λ (f : Feed). f.text) (where_asked b feed)) [] ≡ text_where b feed.text
levels-where true feed = refl
levels-where false feed = refl

untexted : (days : SegmentConfig → List Row → Day → Type 0) (asked : AskedTexts) (handing : HandsOn) (config : SegmentConfig) (names : NameLists) (orders : List (Option (List ℕ))) (fault : DayFault) → TakesFile days asked config names orders (Err fault)
    → IsDayOfRows days asked handing config names orders (Err fault)
untexted days asked handing config names orders (Segment fault) run = run
untexted days asked handing config names orders (Carry fault) run = run
untexted days asked handing config names orders (Orders fault) run = run
untexted days asked handing config names orders (Open fault) run = run
untexted days asked handing config names orders (OutOfMemory _) run = run
untexted days asked handing config names orders WriteFailed run = run

-- the texts of what took rows are those of a day of these rows
pub texted : (days : SegmentConfig → List Row → Day → Type 0) (asked : AskedTexts) (handing : HandsOn) (config : SegmentConfig) (names : NameLists) (orders : List (Option (List ℕ))) (taken : Result TakenDay DayFault) (result : Result DayTexts DayFault)
    → TakesFile days asked config names orders taken → HasTextsOf names handing taken result → IsDayOfRows days asked handing config names orders result
texted days asked handing config names orders (Err fault) result run s = subst (IsDayOfRows days asked handing config names orders) (sym s) (untexted days asked handing config names orders fault run)
texted days asked handing config names orders (Ok t) (Err fault) run s =
    subst (λ (f : DayFault). IsDayOfRows days asked handing config names orders (Err f)) (sym s) (run.0, run.1, run.2, run.3, run.4.sound)
texted days asked handing config names orders (Ok t) (Ok texts) run s = (
  run.0,
  run.1,
  run.2,
  run.3,
  record {
    sound = run.4.sound;
    day = taken_day t.day;
    is_of_rows = run.4.is_of_rows;
    statement_is = s.statement_is ∙ run.4.statement_is;
    answers_are = s.answers_are ∙ ap (λ (o : Option (List ℕ)). unwrap_or o []) run.4.answers_are ∙ text-where asked.answers _;
    trades_are = s.trades_are ∙ ap (λ (o : Option (List ℕ)). unwrap_or o []) run.4.trades_are ∙ text-where asked.trades _;
    events_are = s.events_are ∙ ap (λ (o : Option (List ℕ)). unwrap_or o []) run.4.events_are ∙ text-where asked.events _;
    depth_is = s.depth_is ∙ ap (λ (o : Option Feed). unwrap_or (option_map (λ (f : Feed). f.text) o) []) run.4.depth_is ∙ levels-where asked.depth (feed_of names config run.2);
    carry_is = s.carry_is;
    accepted = ap (λ (r : DayReport). r.accepted) s.report_is;
    refused = ap (λ (r : DayReport). r.refused) s.report_is;
    completeness_is = s.completeness_is;
  },
)

-- ---- what is written

unmade : (Written : NameLists → (Day → Type 0) → Result DayReport DayFault → Type 0) (days : SegmentConfig → List Row → Day → Type 0) (asked : AskedTexts) (handing : HandsOn) (config : SegmentConfig) (names : NameLists) (orders : List (Option (List ℕ))) (fault : DayFault)
    → IsDayOfRows days asked handing config names orders (Err fault) → DayOfRowsEnds Written days config names orders (Err fault)
unmade Written days asked handing config names orders (Segment fault) run = absurd run.4
unmade Written days asked handing config names orders (Carry fault) run = absurd run.4
unmade Written days asked handing config names orders (Orders fault) run = run
unmade Written days asked handing config names orders (Open fault) run = (run.2, (run.0, run.1, run.3), run.4)
unmade Written days asked handing config names orders (OutOfMemory _) run = (run.2, (run.0, run.1, run.3), run.4)
unmade Written days asked handing config names orders WriteFailed run = absurd run.4

pub orders-end : (days : SegmentConfig → List Row → Day → Type 0) (asked : AskedTexts) (handing : HandsOn) (config : SegmentConfig) (names : NameLists) (orders : List (Option (List ℕ))) (old new : Option (List ℕ)) (made : Result DayTexts DayFault) (result : Result DayReport DayFault)
    → IsDayOfRows days asked handing config names orders made → StatementWritten old new made result → OrdersEnd days config names orders old new result
orders-end days asked handing config names orders old new (Err fault) result run w = subst (OrdersEnd days config names orders old new) (sym w) (unmade (StatementEnds old new) days asked handing config names orders fault run)
orders-end days asked handing config names orders old new (Ok t) (Err fault) run w =
    let texts = run.4 in
    subst (λ (f : DayFault). OrdersEnd days config names orders old new (Err f)) (sym w.0)
    (run.2, (run.0, run.1, run.3), (texts.sound, record { day = texts.day; is_of_rows = texts.is_of_rows; written = subst (AppendsPrefix old new) texts.statement_is w.1 }))
orders-end days asked handing config names orders old new (Ok t) (Ok report) run w =
    let texts = run.4 in (
      run.2,
      (run.0, run.1, run.3),
      (
        texts.sound,
        record {
          day = texts.day;
          is_of_rows = texts.is_of_rows;
          written = subst (Appends old new) texts.statement_is w.1;
          accepted = ap (λ (r : DayReport). r.accepted) w.0 ∙ texts.accepted;
          refused = ap (λ (r : DayReport). r.refused) w.0 ∙ texts.refused;
        },
      ),
    )

nothing : (kept : Option (List ℕ)) (text : List ℕ) → Appends kept kept (take 0 text)
nothing None text = tt
nothing (Some bytes) text = sym (append-nil bytes)

some : (names : NameLists) (states : List State) → 0 < length (carry_text names states)
some names states = omega arith

-- where not all was written, and all of a statement isn't all, since what is left has a line at least
cut-off : (out : Outputs) (statement : List ℕ) (names : NameLists) (states : List State) → BothBegun out statement (carry_text names states) → IsCutOff out statement (carry_text names states)
cut-off out statement names states (inr kept) = inr kept
cut-off out statement names states (inl begun) = go begun.0
  where
    go : AppendsPrefix out.old out.new statement ⊎ Appends out.old out.new statement → IsCutOff out statement (carry_text names states)
    go (inl part) = inl (part, begun.1)
    go (inr whole) = inr (whole, (0, some names states, subst (λ (kept : Option (List ℕ)). Appends out.kept_old kept (take 0 (carry_text names states))) (sym begun.1) (nothing out.kept_old (carry_text names states))))

pub both-end : (days : SegmentConfig → List Row → Day → Type 0) (asked : AskedTexts) (config : SegmentConfig) (names : NameLists) (orders : List (Option (List ℕ))) (out : Outputs) (made : Result DayTexts DayFault) (result : Result DayReport DayFault)
    → IsDayOfRows days asked WhatIsLeft config names orders made → BothWritten out made result → DayOfRowsEnds (BothEnd out) days config names orders result
both-end days asked config names orders out (Err fault) result run w = subst (DayOfRowsEnds (BothEnd out) days config names orders) (sym w) (unmade (BothEnd out) days asked WhatIsLeft config names orders fault run)
both-end days asked config names orders out (Ok t) (Err fault) run w =
    let texts = run.4 in
    let begun = subst (λ (text : List ℕ). BothBegun out text t.carry.items) texts.statement_is w.1 in
    let cut = cut-off out (statement_of names texts.day) names texts.day.states (subst (BothBegun out (statement_of names texts.day)) texts.carry_is begun) in
    subst (λ (f : DayFault). DayOfRowsEnds (BothEnd out) days config names orders (Err f)) (sym w.0)
    (run.2, (run.0, run.1, run.3), (texts.sound, record { day = texts.day; is_of_rows = texts.is_of_rows; cut_off = cut }))
both-end days asked config names orders out (Ok t) (Ok report) run w =
    let texts = run.4 in (
      run.2,
      (run.0, run.1, run.3),
      (
        texts.sound,
        record {
          day = texts.day;
          is_of_rows = texts.is_of_rows;
          written = subst (Appends out.old out.new) texts.statement_is w.1;
          kept = subst (Appends out.kept_old out.kept_new) texts.carry_is w.2;
          accepted = ap (λ (r : DayReport). r.accepted) w.0 ∙ texts.accepted;
          refused = ap (λ (r : DayReport). r.refused) w.0 ∙ texts.refused;
        },
      ),
    )

-- ---- files that are opened

pub unopened : (days : SegmentConfig → List Row → Day → Type 0) (segment : Option (List ℕ)) (orders : List (Option (List ℕ))) (old new : Option (List ℕ)) (fault : DayFault) → OpeningRead segment None (Err fault) → DayEnds days segment orders old new (Err fault)
unopened days segment orders old new (Segment fault) read = read
unopened days segment orders old new (Carry fault) read = absurd read
unopened days segment orders old new (Orders fault) read = absurd read
unopened days segment orders old new (Open fault) read = absurd read
unopened days segment orders old new (OutOfMemory _) read = absurd read
unopened days segment orders old new WriteFailed read = absurd read

pub day-ends : (days : SegmentConfig → List Row → Day → Type 0) (segment : Option (List ℕ)) (orders : List (Option (List ℕ))) (old new : Option (List ℕ)) (config : SegmentConfig) (names : NameLists) (result : Result DayReport DayFault)
    → IsSegmentOf segment config names → OrdersEnd days config names orders old new result → DayEnds days segment orders old new result
day-ends days segment orders old new config names (Ok report) read ends = (config, names, read, ends)
day-ends days segment orders old new config names (Err (Segment fault)) read ends = absurd ends.2
day-ends days segment orders old new config names (Err (Carry fault)) read ends = (config, names, read, ends)
day-ends days segment orders old new config names (Err (Orders fault)) read ends = (config, names, read, ends)
day-ends days segment orders old new config names (Err (Open fault)) read ends = (config, names, read, ends)
day-ends days segment orders old new config names (Err (OutOfMemory _)) read ends = (config, names, read, ends)
day-ends days segment orders old new config names (Err WriteFailed) read ends = (config, names, read, ends)

pub carry-unopened : (days : SegmentConfig → List Row → Day → Type 0) (segment carry : Option (List ℕ)) (orders : List (Option (List ℕ))) (out : Outputs) (fault : DayFault) → OpeningRead segment (Some carry) (Err fault) → CarriedDayEnds days segment carry orders out (Err fault)
carry-unopened days segment carry orders out (Segment fault) read = read
carry-unopened days segment carry orders out (Carry fault) read = read
carry-unopened days segment carry orders out (Orders fault) read = absurd read
carry-unopened days segment carry orders out (Open fault) read = absurd read
carry-unopened days segment carry orders out (OutOfMemory _) read = absurd read
carry-unopened days segment carry orders out WriteFailed read = absurd read

-- a carry file isn't read behind a segment file that has a fault
pub uncarried : (segment carry : Option (List ℕ)) (fault : DayFault) → OpeningRead segment None (Err fault) → OpeningRead segment (Some carry) (Err fault)
uncarried segment carry (Segment fault) read = read
uncarried segment carry (Carry fault) read = absurd read
uncarried segment carry (Orders fault) read = absurd read
uncarried segment carry (Open fault) read = absurd read
uncarried segment carry (OutOfMemory _) read = absurd read
uncarried segment carry WriteFailed read = absurd read

pub carried-day-ends : (days : SegmentConfig → List Row → Day → Type 0) (segment carry : Option (List ℕ)) (orders : List (Option (List ℕ))) (out : Outputs) (config : SegmentConfig) (names : NameLists) (result : Result DayReport DayFault)
    → OpensWith segment carry config names → DayOfRowsEnds (BothEnd out) days config names orders result → CarriedDayEnds days segment carry orders out result
carried-day-ends days segment carry orders out config names (Ok report) read ends = (config, names, read, ends)
carried-day-ends days segment carry orders out config names (Err (Segment fault)) read ends = absurd ends.2
carried-day-ends days segment carry orders out config names (Err (Carry fault)) read ends = absurd ends.2
carried-day-ends days segment carry orders out config names (Err (Orders fault)) read ends = (config, names, read, ends)
carried-day-ends days segment carry orders out config names (Err (Open fault)) read ends = (config, names, read, ends)
carried-day-ends days segment carry orders out config names (Err (OutOfMemory _)) read ends = (config, names, read, ends)
carried-day-ends days segment carry orders out config names (Err WriteFailed) read ends = (config, names, read, ends)

-- ---- the value of all files

pub unopened-day : (days : SegmentConfig → List Row → Day → Type 0) (asked : AskedTexts) (handing : HandsOn) (files : DayFiles) (fault : DayFault) → OpeningRead files.segment files.carried (Err fault) → IsDay days asked handing files (Err fault)
unopened-day days asked handing files (Segment fault) read = read
unopened-day days asked handing files (Carry fault) read = read
unopened-day days asked handing files (Orders fault) read = absurd read
unopened-day days asked handing files (Open fault) read = absurd read
unopened-day days asked handing files (OutOfMemory _) read = absurd read
unopened-day days asked handing files WriteFailed read = absurd read

pub opened-day : (days : SegmentConfig → List Row → Day → Type 0) (asked : AskedTexts) (handing : HandsOn) (files : DayFiles) (config : SegmentConfig) (names : NameLists) (made : Result DayTexts DayFault)
    → OpensBy files.segment files.carried config names → IsDayOfRows days asked handing config names files.orders made → IsDay days asked handing files made
opened-day days asked handing files config names (Ok texts) opens day = (config, names, opens, day)
opened-day days asked handing files config names (Err (Segment fault)) opens day = absurd day.4
opened-day days asked handing files config names (Err (Carry fault)) opens day = absurd day.4
opened-day days asked handing files config names (Err (Orders fault)) opens day = (config, names, opens, day)
opened-day days asked handing files config names (Err (Open fault)) opens day = (config, names, opens, day)
opened-day days asked handing files config names (Err (OutOfMemory _)) opens day = (config, names, opens, day)
opened-day days asked handing files config names (Err WriteFailed) opens day = (config, names, opens, day)
