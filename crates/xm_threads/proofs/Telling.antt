-- What securities tell of the rows that they have taken apart, in the order of the rows.
use Rattle.std.proofs.Common.{◌≡◌, ◌≢◌, ◌==◌, ℕ, ◌<◌, ◌≤◌, Bool, true, false, ◌||◌, if◌then◌else◌, List, [], ◌∷◌, ◌++◌, append_assoc, fold, get_or, length, map, slice_get, Option, Some, None, Result, Err, option_map, set, refl, ap, ap₂, sym, arith, ◌∙◌}
use Rattle.std.specs.List.{flat_map}
use Rattle.std.proofs.lemmas.Bool.Decides.{nat_tests}
use Rattle.std.proofs.lemmas.List.{append-nil, get_or-set_other, get_or-set_same, length-set}
use Rattle.std.proofs.lemmas.Option.{get_or_from_slice_get, slice_get-get_or, slice_get-map, slice_get_past}
use Rattle.xm_threads.proofs.Apart.{all_row, at-row, length-row, one-row, own-row, past-end, row-at}
use Rattle.xm_replay.proofs.Places.{within-length}
use Rattle.xm_texts.proofs.Tells.{with_text-asked}
use Rattle.xm_config.specs.Day.{Day as TheDay, after_row, answer_on, day_of, told_behind, told_of_rows}
use Rattle.xm_threads.specs.KeptRows.{KeptRow, behind_first}
use Rattle.xm_threads.specs.Lanes.{LaneView, LanesAndTexts, TextsView, asks_any, fresh_lane, if_asked, lane_after, lane_row, lane_rows, own_kept, own_row, own_rows, tells_any, texts_where, told_by_lane, told_row, with_first}
use Rattle.xm_desk.specs.Answered.{journal_after}
use Rattle.xm_texts.specs.MarketDepth.{depths_of, told_change, told_depth}
use Rattle.xm_texts.specs.RowAnswers.{answer_line, answers_of, record_line, told_of, unknown_fields, where_asked, with_text}
use Rattle.xm_texts.specs.RowEvents.{events_of, row_events, told_events}
use Rattle.xm_texts.specs.RowTrades.{told_trades, trade_lines, trades_of}
use Rattle.xm_texts.specs.declared.asked.AskedTexts.{AskedTexts}
use Rattle.xm_files.specs.Names.{NameLists}
use Rattle.xm_rules.specs.State.{State}
use Rattle.xm_rules.specs.Step.{Journal, replay}
use Rattle.xm_rules.specs.declared.replies.Refusal.{Refusal}
use Rattle.xm_rules.specs.declared.replies.Refusal.TheVariants.{UnknownSecurity}
use Rattle.xm_rules.specs.declared.replies.Reply.{Reply}
use Rattle.xm_config.specs.declared.rows.Row.{Row}

-- ---- what a security keeps of rows

-- what the security with this index, whose journal was this before rows, keeps of those that are its own
abbrev pub own_kepts : AskedTexts → NameLists → ℕ → Journal → List Row → List KeptRow
own_kepts asked names k j [] = []
own_kepts asked names k j (row ∷ rows) = (if row.security == k then if_asked (asks_any asked) (own_kept asked names j row ∷ []) else []) ++ own_kepts asked names k (own_row k j row) rows

-- one that has taken rows, and told all before them
abbrev pub keeps : AskedTexts → NameLists → ℕ → Journal → List Row → LaneView
keeps asked names k j rows = record { asked = asked; journal = own_rows k j rows; kept = own_kepts asked names k j rows; lacks_memory = false }

-- one that goes on with rows
abbrev with_all : NameLists → ℕ → LaneView → List Row → LaneView
with_all names k l rows = record l { journal = own_rows k l.journal rows; kept = l.kept ++ own_kepts l.asked names k l.journal rows }

all-first : (names : NameLists) (k : ℕ) (l : LaneView) (row : Row) (rows : List Row) → with_all names k (lane_row names k l row) rows ≡ with_all names k l (row ∷ rows)
all-first names k l row rows = go (row.security == k)
  where
    j : Journal
    j = journal_after l.journal row.command

    own : List KeptRow
    own = if_asked (asks_any l.asked) (own_kept l.asked names l.journal row ∷ [])

    first : Bool → LaneView
    first b = record l { journal = own_rows k (if b then j else l.journal) rows; kept = l.kept ++ ((if b then own else []) ++ own_kepts l.asked names k (if b then j else l.journal) rows) }

    go : (b : Bool) → with_all names k (if b then lane_after names l row else l) rows ≡ first b
    go true = ap (λ kept. record l { journal = own_rows k j rows; kept = kept }) (append_assoc l.kept own (own_kepts l.asked names k j rows))
    go false = refl

lane-all : (names : NameLists) (k : ℕ) (l : LaneView) (rows : List Row) → lane_rows names k l rows ≡ with_all names k l rows
lane-all names k l [] = ap (λ kept. record l { kept = kept }) (sym (append-nil l.kept))
lane-all names k l (row ∷ rows) = lane-all names k (lane_row names k l row) rows ∙ all-first names k l row rows

pub keeps-asked : (asked : AskedTexts) (names : NameLists) (k : ℕ) (j : Journal) (rows : List Row) → lane_rows names k (fresh_lane asked j) rows ≡ keeps asked names k j rows
keeps-asked asked names k j rows = lane-all names k (fresh_lane asked j) rows

-- it keeps nothing where nothing is asked for
pub kepts-none : (asked : AskedTexts) (names : NameLists) (k : ℕ) (j : Journal) (rows : List Row) → asks_any asked ≡ false → own_kepts asked names k j rows ≡ []
kepts-none asked names k j [] none = refl
kepts-none asked names k j (row ∷ rows) none =
    ap (λ (b : Bool). (if row.security == k then if_asked b (own_kept asked names j row ∷ []) else []) ++ own_kepts asked names k (own_row k j row) rows) none
    ∙ go (row.security == k)
    ∙ kepts-none asked names k (own_row k j row) rows none
  where
    go : (b : Bool) → (if b then [] else []) ++ own_kepts asked names k (own_row k j row) rows ≡ own_kepts asked names k (own_row k j row) rows
    go true = refl
    go false = refl

-- ---- a row is told

-- the security with this index behind a row that was told, if the row is its own
abbrev popped : ℕ → Row → LaneView → LaneView
popped k row l = if row.security == k then record l { kept = behind_first l.kept } else l

popped-own : (k : ℕ) (row : Row) (l : LaneView) → (row.security == k) ≡ true → popped k row l ≡ record l { kept = behind_first l.kept }
popped-own k row l own = ap (λ (b : Bool). if b then record l { kept = behind_first l.kept } else l) own

popped-other : (k : ℕ) (row : Row) (l : LaneView) → (row.security == k) ≡ false → popped k row l ≡ l
popped-other k row l other = ap (λ (b : Bool). if b then record l { kept = behind_first l.kept } else l) other

pub popped-same : (k : ℕ) (row : Row) (l : LaneView) → ((popped k row l).journal ≡ l.journal) × ((popped k row l).lacks_memory ≡ l.lacks_memory)
popped-same k row l = go (row.security == k)
  where
    go : (b : Bool) → ((if b then record l { kept = behind_first l.kept } else l).journal ≡ l.journal) × ((if b then record l { kept = behind_first l.kept } else l).lacks_memory ≡ l.lacks_memory)
    go true = (refl, refl)
    go false = (refl, refl)

keeps-less : (asked : AskedTexts) (names : NameLists) (k : ℕ) (j : Journal) (row : Row) (rows : List Row) → asks_any asked ≡ true → popped k row (keeps asked names k j (row ∷ rows)) ≡ keeps asked names k (own_row k j row) rows
keeps-less asked names k j row rows asks = go (row.security == k) (asks_any asked) asks
  where
    after : Bool → List KeptRow → LaneView
    after b first =
        record { asked = asked; journal = own_rows k (if b then journal_after j row.command else j) rows; kept = first ++ own_kepts asked names k (if b then journal_after j row.command else j) rows; lacks_memory = false }

    first : Bool → Bool → List KeptRow
    first b c = if b then if_asked c (own_kept asked names j row ∷ []) else []

    go : (b c : Bool) → c ≡ true → (if b then record (after b (first b c)) { kept = behind_first (after b (first b c)).kept } else after b (first b c)) ≡ after b []
    go true true is = refl
    go true false is = absurd (cc)
    go false c is = refl

own-index : (row : Row) → (row.security == row.security) ≡ true
own-index row = grind (arith, nat_tests)

keeps-first : (asked : AskedTexts) (names : NameLists) (j : Journal) (row : Row) (rows : List Row) → asks_any asked ≡ true
    → own_kepts asked names row.security j (row ∷ rows) ≡ own_kept asked names j row ∷ own_kepts asked names row.security (own_row row.security j row) rows
keeps-first asked names j row rows asks =
    ap₂ (λ (b c : Bool). (if b then if_asked c (own_kept asked names j row ∷ []) else []) ++ own_kepts asked names row.security (own_row row.security j row) rows) (own-index row) asks

-- the security of a row lost what it kept first
pub set-popped : (lanes : List LaneView) (row : Row) (l : LaneView) → slice_get lanes row.security ≡ Some l
    → (k : ℕ) (d : LaneView) → k < length lanes → get_or (set lanes row.security (record l { kept = behind_first l.kept })) k d ≡ popped k row (get_or lanes k d)
set-popped lanes row l at k d inside = by (row.security == k) refl
  where
    new : LaneView
    new = record l { kept = behind_first l.kept }

    by : (b : Bool) → (row.security == k) ≡ b → get_or (set lanes row.security new) k d ≡ popped k row (get_or lanes k d)
    by true own =
        let same : k ≡ row.security = grind (arith, nat_tests) in
        let was : get_or lanes k d ≡ l = ap (λ (i : ℕ). get_or lanes i d) same ∙ get_or_from_slice_get lanes row.security l d at in
        ap (λ (i : ℕ). get_or (set lanes row.security new) i d) same
        ∙ get_or-set_same lanes row.security new d (within-length lanes row.security l at)
        ∙ sym (popped-own k row (get_or lanes k d) own ∙ ap (λ (v : LaneView). record v { kept = behind_first v.kept }) was)
    by false other =
        let apart : k ≢ row.security = (λ same. absurd (grind (arith, nat_tests))) in
        get_or-set_other lanes row.security k new d apart ∙ sym (popped-other k row (get_or lanes k d) other)

-- none of them is that of the row
none-popped : (lanes : List LaneView) (row : Row) → length lanes ≤ row.security → (k : ℕ) (d : LaneView) → k < length lanes → get_or lanes k d ≡ popped k row (get_or lanes k d)
none-popped lanes row past k d inside =
    let other : (row.security == k) ≡ false = grind (arith, nat_tests) in
    sym (popped-other k row (get_or lanes k d) other)

-- ---- what a day tells of a row

-- the state of the security of a row before it and behind it
stands-before : (js : List Journal) (row : Row) → slice_get (map replay js) row.security ≡ option_map replay (slice_get js row.security)
stands-before js row = slice_get-map replay js row.security

stands-behind : (js : List Journal) (row : Row) (a r : ℕ) → slice_get (after_row (day_of js a r) row).states row.security ≡ option_map replay (option_map (λ (j : Journal). own_row row.security j row) (slice_get js row.security))
stands-behind js row a r =
    let one = one-row js row a r in
    ap (λ (d : TheDay). slice_get d.states row.security) one.is
    ∙ slice_get-map replay (all_row js row) row.security
    ∙ ap (option_map replay) (at-row js row row.security)

module _ (js : List Journal) (row : Row) (a r : ℕ) where
  -- where its security is unknown
  module _ (none : slice_get js row.security ≡ None) where
    unknown-by : (tells : Row → List ℕ → Result Reply Refusal → Option State → List ℕ) (texts : ℕ → List ℕ) → tells row (texts row.line) (Err UnknownSecurity) None ≡ told_behind tells texts (day_of js a r) row
    unknown-by tells texts =
        sym (ap₂ (λ (o p : Option State). tells row (texts row.line) (answer_on row o) p) (stands-before js row ∙ ap (option_map replay) none)
        (stands-behind js row a r ∙ ap (λ (o : Option Journal). option_map replay (option_map (λ (j : Journal). own_row row.security j row) o)) none))

    unknown-depth : (names : NameLists) → [] ≡ told_depth names (day_of js a r) row
    unknown-depth names = sym (ap (λ (o : Option State). told_change names row o (slice_get (after_row (day_of js a r) row).states row.security)) (stands-before js row ∙ ap (option_map replay) none))

    unknown-events : (names : NameLists) → row_events names row (Err UnknownSecurity) None ≡ told_events names (day_of js a r) row
    unknown-events names = sym (ap (λ (o : Option State). row_events names row (answer_on row o) o) (stands-before js row ∙ ap (option_map replay) none))

  -- where it has this journal
  module _ (j : Journal) (at : slice_get js row.security ≡ Some j) where
    behind : slice_get (after_row (day_of js a r) row).states row.security ≡ Some (replay (journal_after j row.command))
    behind =
        stands-behind js row a r
        ∙ ap (λ (o : Option Journal). option_map replay (option_map (λ (i : Journal). own_row row.security i row) o)) at
        ∙ ap (λ (i : Journal). Some (replay i)) (own-row row.security row j (own-index row))

    before : slice_get (map replay js) row.security ≡ Some (replay j)
    before = stands-before js row ∙ ap (option_map replay) at

    known-by : (tells : Row → List ℕ → Result Reply Refusal → Option State → List ℕ) (texts : ℕ → List ℕ)
        → tells row (texts row.line) (answer_on row (Some (replay j))) (Some (replay (journal_after j row.command))) ≡ told_behind tells texts (day_of js a r) row
    known-by tells texts = sym (ap₂ (λ (o p : Option State). tells row (texts row.line) (answer_on row o) p) before behind)

    known-depth : (names : NameLists) → told_change names row (Some (replay j)) (Some (replay (journal_after j row.command))) ≡ told_depth names (day_of js a r) row
    known-depth names = sym (ap₂ (told_change names row) before behind)

    known-events : (names : NameLists) → row_events names row (answer_on row (Some (replay j))) (Some (replay j)) ≡ told_events names (day_of js a r) row
    known-events names = sym (ap (λ (o : Option State). row_events names row (answer_on row o) o) before)

-- ---- texts that are asked for

asked-part : {A : Type 0} (asked : Bool) (tells : List A → List ℕ) (told : List A) (begun : List ℕ) → with_text (tells (if_asked asked told)) (where_asked asked begun) ≡ where_asked asked (begun ++ tells told)
asked-part true tells told begun = refl
asked-part false tells told begun = refl

abbrev pub made_texts : Option (List ℕ) → Option (List ℕ) → Option (List ℕ) → Option (List ℕ) → TextsView
made_texts answers trades levels events = record { answers = answers; trades = trades; levels = levels; events = events }

pub same-texts : (a b c d e f g h : Option (List ℕ)) → a ≡ b → c ≡ d → e ≡ f → g ≡ h → made_texts a c e g ≡ made_texts b d f h
same-texts a b c d e f g h answers trades levels events = λ i. made_texts (answers i) (trades i) (levels i) (events i)

pub texts-are : (asked : AskedTexts) (a b c d e f g h : List ℕ) → a ≡ b → c ≡ d → e ≡ f → g ≡ h → texts_where asked a c e g ≡ texts_where asked b d f h
texts-are asked a b c d e f g h answers trades levels events = λ i. texts_where asked (answers i) (trades i) (levels i) (events i)

pub tells-asked : (asked : AskedTexts) (answers trades levels events : List ℕ) → tells_any (texts_where asked answers trades levels events) ≡ asks_any asked
tells-asked asked answers trades levels events = go asked.answers asked.trades asked.depth asked.events
  where
    go : (b c d e : Bool) → tells_any (made_texts (where_asked b answers) (where_asked c trades) (where_asked d levels) (where_asked e events)) ≡ (b || c || d || e)
    go true c d e = refl
    go false true d e = refl
    go false false true e = refl
    go false false false true = refl
    go false false false false = refl

-- nothing is told where nothing is asked for
pub texts-unasked : (asked : AskedTexts) (a b c d e f g h : List ℕ) → asks_any asked ≡ false → texts_where asked a c e g ≡ texts_where asked b d f h
texts-unasked asked a b c d e f g h none = go asked.answers asked.trades asked.depth asked.events none
  where
    go : (x y z w : Bool) → (x || y || z || w) ≡ false
        → made_texts (where_asked x a) (where_asked y c) (where_asked z e) (where_asked w g) ≡ made_texts (where_asked x b) (where_asked y d) (where_asked z f) (where_asked w h)
    go true y z w none = absurd (cc)
    go false true z w none = absurd (cc)
    go false false true w none = absurd (cc)
    go false false false true none = absurd (cc)
    go false false false false none = refl

-- ---- the rows of a batch

module _ (asked : AskedTexts) (names : NameLists) (texts : ℕ → List ℕ) (asks : asks_any asked ≡ true) where
  -- a row was told: the texts went on with it, and the securities keep what they keep of the others
  record ToldOne (js : List Journal) (a r : ℕ) (row : Row) (rows : List Row) (lanes : List LaneView) (answers trades levels events : List ℕ) : Type 0 where
    pub left : List LaneView
    pub is : told_row names texts (record { lanes = lanes; texts = texts_where asked answers trades levels events }) row
        ≡ record {
          lanes = left;
          texts = texts_where asked (answers ++ told_of names texts (day_of js a r) row) (trades ++ told_trades names texts (day_of js a r) row) (levels ++ told_depth names (day_of js a r) row) (events ++ told_events names (day_of js a r) row);
        }
    pub long : length left ≡ length lanes
    pub keep : (k : ℕ) (d : LaneView) → k < length lanes → get_or left k d ≡ keeps asked names k (own_row k (get_or js k d.journal) row) rows

  told-one : (js : List Journal) (a r : ℕ) (row : Row) (rows : List Row) (lanes : List LaneView) (answers trades levels events : List ℕ) → length js ≡ length lanes
      → ((k : ℕ) (d : LaneView) → k < length lanes → get_or lanes k d ≡ keeps asked names k (get_or js k d.journal) (row ∷ rows)) → ToldOne js a r row rows lanes answers trades levels events
  told-one js a r row rows lanes answers trades levels events all has = by (slice_get js row.security) refl
    where
      s : ℕ
      s = row.security

      text : List ℕ
      text = texts row.line

      before : LanesAndTexts
      before = record { lanes = lanes; texts = texts_where asked answers trades levels events }

      by : (o : Option Journal) → slice_get js s ≡ o → ToldOne js a r row rows lanes answers trades levels events
      by None none =
          let past : length lanes ≤ s = omega (arith, all, past-end js s none) in
          record {
            left = lanes;
            is =
                ap (λ (o : Option LaneView). told_by_lane names row text o before) (slice_get_past lanes s past)
                ∙ ap (λ (t : TextsView). record { lanes = lanes; texts = t })
                (same-texts _ _ _ _ _ _ _ _ (with_text-asked asked.answers answers (record_line row text (unknown_fields (Err UnknownSecurity)))) (with_text-asked asked.trades trades []) (with_text-asked asked.depth levels [])
                (with_text-asked asked.events events (row_events names row (Err UnknownSecurity) None))
                ∙ texts-are asked _ _ _ _ _ _ _ _ (ap (λ more. answers ++ more) (unknown-by js row a r none (answer_line names) texts)) (ap (λ more. trades ++ more) (unknown-by js row a r none (trade_lines names) texts))
                (ap (λ more. levels ++ more) (unknown-depth js row a r none names)) (ap (λ more. events ++ more) (unknown-events js row a r none names)));
            long = refl;
            keep = λ k d inside. none-popped lanes row past k d inside ∙ ap (popped k row) (has k d inside) ∙ keeps-less asked names k (get_or js k d.journal) row rows asks;
          }
      by (Some j) at =
          let inside : s < length lanes = omega (arith, all, within-length js s j at) in
          let l = keeps asked names s j (row ∷ rows) in
          let e = fresh_lane asked j in
          let stands : slice_get lanes s ≡ Some l = slice_get-get_or lanes s e inside ∙ ap Some (has s e inside ∙ ap (λ (i : Journal). keeps asked names s i (row ∷ rows)) (get_or_from_slice_get js s j j at)) in
          let left = set lanes s (record l { kept = behind_first l.kept }) in
          record {
            left = left;
            is =
                ap (λ (o : Option LaneView). told_by_lane names row text o before) stands
                ∙ ap (λ (t : TextsView). record { lanes = left; texts = t })
                (ap (λ (kept : List KeptRow). with_first row text kept (texts_where asked answers trades levels events)) (keeps-first asked names j row rows asks)
                ∙ same-texts _ _ _ _ _ _ _ _ (asked-part asked.answers (record_line row text) _ answers) (asked-part asked.trades (flat_map (record_line row text)) _ trades) (asked-part asked.depth (λ more. more) _ levels)
                (asked-part asked.events (λ more. more) _ events)
                ∙ texts-are asked _ _ _ _ _ _ _ _ (ap (λ more. answers ++ more) (known-by js row a r j at (answer_line names) texts)) (ap (λ more. trades ++ more) (known-by js row a r j at (trade_lines names) texts))
                (ap (λ more. levels ++ more) (known-depth js row a r j at names)) (ap (λ more. events ++ more) (known-events js row a r j at names)));
            long = length-set lanes s (record l { kept = behind_first l.kept });
            keep = λ k d within. set-popped lanes row l stands k d within ∙ ap (popped k row) (has k d within) ∙ keeps-less asked names k (get_or js k d.journal) row rows asks;
          }

-- a text with what is told of a row, and of those behind it
goes-on : (told : TheDay → Row → List ℕ) (d e : TheDay) (row : Row) (rows : List Row) (before : List ℕ) → after_row d row ≡ e → (before ++ told d row) ++ told_of_rows told e rows ≡ before ++ told_of_rows told d (row ∷ rows)
goes-on told d e row rows before is = append_assoc before (told d row) (told_of_rows told e rows) ∙ ap (λ (x : TheDay). before ++ (told d row ++ told_of_rows told x rows)) (sym is)

-- securities whose journals were these before rows have told them
pub record HaveTold (asked : AskedTexts) (names : NameLists) (texts : ℕ → List ℕ) (js : List Journal) (a r : ℕ) (rows : List Row) (answers trades levels events : List ℕ) (s : LanesAndTexts) : Type 0 where
  pub lanes_are : (k : ℕ) (d : LaneView) → k < length js → get_or s.lanes k d ≡ fresh_lane asked (own_rows k (get_or js k d.journal) rows)
  pub texts_are : s.texts ≡ texts_where asked (answers ++ answers_of names texts (day_of js a r) rows) (trades ++ trades_of names texts (day_of js a r) rows) (levels ++ depths_of names (day_of js a r) rows) (events ++ events_of names (day_of js a r) rows)

have-told : (asked : AskedTexts) (names : NameLists) (texts : ℕ → List ℕ) → asks_any asked ≡ true → (js : List Journal) (a r : ℕ) (rows : List Row) (lanes : List LaneView) (answers trades levels events : List ℕ) → length js ≡ length lanes
    → ((k : ℕ) (d : LaneView) → k < length lanes → get_or lanes k d ≡ keeps asked names k (get_or js k d.journal) rows)
    → HaveTold asked names texts js a r rows answers trades levels events (fold (told_row names texts) (record { lanes = lanes; texts = texts_where asked answers trades levels events }) rows)
have-told asked names texts asks js a r [] lanes answers trades levels events all has = record {
  lanes_are = λ k d inside. has k d (omega (arith, all, inside));
  texts_are = texts-are asked _ _ _ _ _ _ _ _ (sym (append-nil answers)) (sym (append-nil trades)) (sym (append-nil levels)) (sym (append-nil events));
}
have-told asked names texts asks js a r (row ∷ rows) lanes answers trades levels events all has =
    let day = day_of js a r in
    let one = told-one asked names texts asks js a r row rows lanes answers trades levels events all has in
    let next = one-row js row a r in
    let long = length-row js row (slice_get js row.security) refl in
    let rest =
    have-told asked names texts asks (all_row js row) next.accepted next.refused rows one.left (answers ++ told_of names texts day row) (trades ++ told_trades names texts day row) (levels ++ told_depth names day row) (events ++ told_events names day row)
    (long ∙ all ∙ sym one.long)
    (λ k d inside. one.keep k d (omega (arith, one.long, inside)) ∙ ap (λ (j : Journal). keeps asked names k j rows) (sym (row-at js row k d.journal (omega (arith, all, one.long, inside))))) in
    record {
      lanes_are = λ k d inside.
          ap (λ (s : LanesAndTexts). get_or (fold (told_row names texts) s rows).lanes k d) one.is
          ∙ rest.lanes_are k d (omega (arith, long, inside))
          ∙ ap (λ (j : Journal). fresh_lane asked (own_rows k j rows)) (row-at js row k d.journal inside);
      texts_are =
          ap (λ (s : LanesAndTexts). (fold (told_row names texts) s rows).texts) one.is
          ∙ rest.texts_are
          ∙ texts-are asked _ _ _ _ _ _ _ _ (goes-on (told_of names texts) day _ row rows answers next.is) (goes-on (told_trades names texts) day _ row rows trades next.is) (goes-on (told_depth names) day _ row rows levels next.is) (goes-on (told_events names) day _ row rows events next.is);
    }

-- where nothing is asked for, there was nothing to tell
pub told-added : (asked : AskedTexts) (names : NameLists) (texts : ℕ → List ℕ) (js : List Journal) (a r : ℕ) (rows : List Row) (old new : List LaneView) (answers trades levels events : List ℕ) (after : TextsView) → length js ≡ length old
    → ((k : ℕ) (d : LaneView) → k < length old → get_or old k d ≡ keeps asked names k (get_or js k d.journal) rows)
    → record { lanes = new; texts = after }
    ≡ (if tells_any (texts_where asked answers trades levels events) then fold (told_row names texts) (record { lanes = old; texts = texts_where asked answers trades levels events }) rows else record { lanes = old; texts = texts_where asked answers trades levels events })
    → HaveTold asked names texts js a r rows answers trades levels events (record { lanes = new; texts = after })
told-added asked names texts js a r rows old new answers trades levels events after all has is = by (asks_any asked) refl
  where
    before : LanesAndTexts
    before = record { lanes = old; texts = texts_where asked answers trades levels events }

    either : (b : Bool) → asks_any asked ≡ b → record { lanes = new; texts = after } ≡ (if b then fold (told_row names texts) before rows else before)
    either b asks = is ∙ ap (λ (c : Bool). if c then fold (told_row names texts) before rows else before) (tells-asked asked answers trades levels events ∙ asks)

    by : (b : Bool) → asks_any asked ≡ b → HaveTold asked names texts js a r rows answers trades levels events (record { lanes = new; texts = after })
    by true asks =
        let told = have-told asked names texts asks js a r rows old answers trades levels events all has in
        record {
          lanes_are = λ k d inside. ap (λ (s : LanesAndTexts). get_or s.lanes k d) (either true asks) ∙ told.lanes_are k d inside;
          texts_are = ap (λ (s : LanesAndTexts). s.texts) (either true asks) ∙ told.texts_are;
        }
    by false none = record {
      lanes_are = λ k d inside.
          ap (λ (s : LanesAndTexts). get_or s.lanes k d) (either false none)
          ∙ has k d (omega (arith, all, inside))
          ∙ ap (λ kept. record { asked = asked; journal = own_rows k (get_or js k d.journal) rows; kept = kept; lacks_memory = false }) (kepts-none asked names k (get_or js k d.journal) rows none);
      texts_are = ap (λ (s : LanesAndTexts). s.texts) (either false none) ∙ texts-unasked asked _ _ _ _ _ _ _ _ none;
    }
