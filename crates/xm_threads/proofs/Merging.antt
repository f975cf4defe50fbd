-- The texts that securities tell together, batch by batch.
use Rattle.std.proofs.Common.{◌≡◌, ℕ, ◌+◌, ◌<◌, Bool, true, false, List, [], ◌∷◌, ◌++◌, ◌||◌, append_assoc, fold, get_or, if◌then◌else◌, length, map, slice_get, take, Option, Some, None, Result, option_map, refl, ap, ap₂, sym, subst, arith, ◌∙◌}
use Rattle.std.proofs.lemmas.Bool.{OnTrue_at}
use Rattle.std.proofs.lemmas.List.{append-nil, length-map, length-set}
use Rattle.std.proofs.lemmas.List.Elements.{All-head, All-tail}
use Rattle.std.proofs.lemmas.List.Sums.{fold-append, fold_more}
use Rattle.std.specs.Bool.{OnTrue}
use Rattle.xm_threads.proofs.Apart.{all_rows, counts-of, fresh-at, fresh-taken, length-rows, rows-at, taken-more}
use Rattle.xm_config.proofs.Days.{day-opened}
use Rattle.xm_threads.proofs.Telling.{keeps-asked, popped-same, set-popped, texts-are, told-added}
use Rattle.xm_texts.proofs.Tells.{agree-left, agree-right, agree-with_itself, told_of_rows-append}
use Rattle.xm_config.specs.Day.{Day as TheDay, after_rows, answer_on, day, day_of, opening_day, told_of_rows}
use Rattle.xm_texts.specs.Feeds.{feed_of}
use Rattle.xm_threads.specs.KeptRows.{KeptRow, behind_first}
use Rattle.xm_threads.specs.Lanes.{AreTaken, AreTakenSoFar, AreTold, HaveBegun, HaveBegunUnless, IsAdded, LaneView, LanesAndTexts, MergedView, TextsView, TookFile, TookMore, TookOwnRows, asks_any, fresh_lane, if_asked, kept_row, lane_after, lane_rows, own_kept, own_row, own_rows, tells_any, texts_where, told_by_lane, told_row}
use Rattle.xm_desk.specs.Answered.{journal_after}
use Rattle.xm_texts.specs.MarketDepth.{change_lines, depth_header, depth_text, market_depth, told_change, told_depth}
use Rattle.xm_texts.specs.declared.depth.MarketDepth.{MarketDepth}
use Rattle.xm_texts.specs.RowAnswers.{AgreeOn, answers_header, answers_text, told_of, where_asked}
use Rattle.xm_texts.specs.RowEvents.{events_header, events_text, row_events, told_events}
use Rattle.xm_texts.specs.RowTrades.{told_trades, trades_header, trades_text}
use Rattle.xm_replay.specs.declared.faults.DayFault.{DayFault}
use Rattle.xm_texts.specs.declared.asked.AskedTexts.{AskedTexts}
use Rattle.xm_files.specs.Names.{NameLists}
use Rattle.xm_rules.specs.State.{State}
use Rattle.xm_rules.specs.Step.{Journal, replay}
use Rattle.xm_rules.specs.declared.replies.Refusal.{Refusal}
use Rattle.xm_rules.specs.declared.replies.Reply.{Reply}
use Rattle.xm_config.specs.Opening.{journal_of}
use Rattle.xm_config.specs.declared.config.SegmentConfig.{SegmentConfig}
use Rattle.xm_config.specs.declared.rows.Row.{Row}

-- ---- a row of its own

levels-kept : (asked : Bool) (names : NameLists) (row : Row) (j next : Journal) (before after : MarketDepth) → OnTrue asked (before ≡ market_depth (replay j)) → OnTrue asked (after ≡ market_depth (replay next))
    → if_asked asked (change_lines names row (replay next).settings.tick before after) ≡ if_asked asked (told_change names row (Some (replay j)) (Some (replay next)))
levels-kept false names row j next before after was is = refl
levels-kept true names row j next before after was is = ap₂ (change_lines names row (replay next).settings.tick) (OnTrue_at refl was) (OnTrue_at refl is)

-- something is asked for where events are
pub asks-events : (asked : AskedTexts) → asked.events ≡ true → asks_any asked ≡ true
asks-events asked events = ap (λ (b : Bool). asked.answers || asked.trades || asked.depth || b) events ∙ by asked.answers asked.trades asked.depth
  where
    by : (answers trades depth : Bool) → (answers || trades || depth || true) ≡ true
    by true trades depth = refl
    by false true depth = refl
    by false false true = refl
    by false false false = refl

-- what isn't asked for is kept as anything else
pub kept-unasked : (asked : Bool) (told events : List ℕ) → asked ≡ false → if_asked asked told ≡ if_asked asked events
kept-unasked asked told events none = ap (λ (b : Bool). if_asked b told) none ∙ ap (λ (b : Bool). if_asked b events) (sym none)

-- what is kept of a row that a desk has taken and answered, between levels that were shown
pub kept-own : (asked : AskedTexts) (names : NameLists) (row : Row) (j next : Journal) (answer : Result Reply Refusal) (before after : MarketDepth) (events : List ℕ) → answer ≡ answer_on row (Some (replay j))
    → next ≡ journal_after j row.command → OnTrue asked.depth (before ≡ market_depth (replay j)) → OnTrue asked.depth (after ≡ market_depth (replay next))
    → if_asked asked.events events ≡ if_asked asked.events (row_events names row (answer_on row (Some (replay j))) (Some (replay j)))
    → kept_row asked names row answer (replay next) (change_lines names row (replay next).settings.tick before after) events ≡ own_kept asked names j row
kept-own asked names row j next answer before after events answers journal was is told =
    let lines = row_events names row (answer_on row (Some (replay j))) (Some (replay j)) in
    ap₂ (λ (levels own : List ℕ). record (kept_row asked names row answer (replay next) [] []) { levels = levels; events = own }) (levels-kept asked.depth names row j next before after was is) told
    ∙ ap₂ (λ (a : Result Reply Refusal) (n : Journal). kept_row asked names row a (replay n) (told_change names row (Some (replay j)) (Some (replay n))) lines) answers journal

-- a security that has taken it
pub lane-answered : (names : NameLists) (row : Row) (l : LaneView) (next : Journal) (kept : List KeptRow) → next ≡ journal_after l.journal row.command → kept ≡ l.kept ++ if_asked (asks_any l.asked) (own_kept l.asked names l.journal row ∷ [])
    → record l { journal = next; kept = kept } ≡ lane_after names l row
lane-answered names row l next kept journal keeps = ap₂ (λ (j : Journal) (ks : List KeptRow). record l { journal = j; kept = ks }) journal keeps

-- ---- desks stand as they stood

-- what they keep aside, securities stand as they stood
record AreSame (old new : List LaneView) : Type 0 where
  pub long : length new ≡ length old
  pub each : (k : ℕ) (d : LaneView) → k < length old → ((get_or new k d).journal ≡ (get_or old k d).journal) × ((get_or new k d).lacks_memory ≡ (get_or old k d).lacks_memory)

same-then : (a b c : List LaneView) → AreSame a b → AreSame b c → AreSame a c
same-then a b c first next = record {
  long = next.long ∙ first.long;
  each = λ k d inside.
      let one = first.each k d inside in
      let other = next.each k d (omega (arith, first.long, inside)) in
      (other.0 ∙ one.0, other.1 ∙ one.1);
}

same-row : (names : NameLists) (texts : ℕ → List ℕ) (row : Row) (s : LanesAndTexts) → AreSame s.lanes (told_row names texts s row).lanes
same-row names texts row s = by (slice_get s.lanes row.security) refl
  where
    by : (o : Option LaneView) → slice_get s.lanes row.security ≡ o → AreSame s.lanes (told_by_lane names row (texts row.line) o s).lanes
    by None none = record { long = refl; each = λ k d inside. (refl, refl) }
    by (Some l) at = record {
      long = length-set s.lanes row.security (record l { kept = behind_first l.kept });
      each = λ k d inside.
          let is = popped-same k row (get_or s.lanes k d) in
          let popped = set-popped s.lanes row l at k d inside in
          (ap (λ (v : LaneView). v.journal) popped ∙ is.0, ap (λ (v : LaneView). v.lacks_memory) popped ∙ is.1);
    }

same-rows : (names : NameLists) (texts : ℕ → List ℕ) (rows : List Row) (s : LanesAndTexts) → AreSame s.lanes (fold (told_row names texts) s rows).lanes
same-rows names texts [] s = record { long = refl; each = λ k d inside. (refl, refl) }
same-rows names texts (row ∷ rows) s =
    same-then s.lanes (told_row names texts s row).lanes (fold (told_row names texts) (told_row names texts s row) rows).lanes (same-row names texts row s) (same-rows names texts rows (told_row names texts s row))

same-added : (names : NameLists) (own : ℕ → List ℕ) (rows : List Row) (old new : List LaneView) (before after : TextsView) → IsAdded names own rows old before new after → AreSame old new
same-added names own rows old new before after is = subst (AreSame old) (sym (ap (λ (s : LanesAndTexts). s.lanes) is)) (go (tells_any before))
  where
    go : (b : Bool) → AreSame old (if b then fold (told_row names own) (record { lanes = old; texts = before }) rows else record { lanes = old; texts = before }).lanes
    go true = same-rows names own rows (record { lanes = old; texts = before })
    go false = record { long = refl; each = λ k d inside. (refl, refl) }

-- ---- texts that are the same for these records

told-alike_row : (names : NameLists) (texts own : ℕ → List ℕ) (row : Row) (s : LanesAndTexts) → texts row.line ≡ own row.line → told_row names own s row ≡ told_row names texts s row
told-alike_row names texts own row s same = ap (λ (text : List ℕ). told_by_lane names row text (slice_get s.lanes row.security) s) (sym same)

told-alike_rows : (names : NameLists) (texts own : ℕ → List ℕ) (rows : List Row) (s : LanesAndTexts) → AgreeOn texts own rows → fold (told_row names own) s rows ≡ fold (told_row names texts) s rows
told-alike_rows names texts own [] s agree = refl
told-alike_rows names texts own (row ∷ rows) s agree =
    let first : texts row.line ≡ own row.line = All-head (λ (r : Row). texts r.line ≡ own r.line) row rows agree in
    told-alike_rows names texts own rows (told_row names own s row) (All-tail (λ (r : Row). texts r.line ≡ own r.line) row rows agree)
    ∙ ap (λ (t : LanesAndTexts). fold (told_row names texts) t rows) (told-alike_row names texts own row s first)

-- texts that went on with these rows by their own texts did so by any that agree with these
added-alike : (names : NameLists) (texts own : ℕ → List ℕ) (rows : List Row) (old new : List LaneView) (before after : TextsView) → AgreeOn texts own rows → IsAdded names own rows old before new after → IsAdded names texts rows old before new after
added-alike names texts own rows old new before after agree is =
    is ∙ ap (λ (s : LanesAndTexts). if tells_any before then s else record { lanes = old; texts = before }) (told-alike_rows names texts own rows (record { lanes = old; texts = before }) agree)

same-taken : (config : SegmentConfig) (rows : List Row) (mid new : List LaneView) → AreSame mid new → AreTaken config rows mid → AreTaken config rows new
same-taken config rows mid new same has = record {
  each = same.long ∙ has.each;
  taken = λ k d inside had.
      let within : k < length mid = omega (arith, same.long, inside) in
      let is = same.each k d within in
      is.0 ∙ has.taken k d within (sym is.1 ∙ had);
}

-- ---- a row more

-- texts that went on with some rows went on with one more
pub told-one_more : (names : NameLists) (own at : ℕ → List ℕ) (rows : List Row) (i : ℕ) (row : Row) (begun old new : LanesAndTexts) → i < length rows → at ≡ own → old ≡ fold (told_row names own) begun (take i rows) → new ≡ told_row names at old (get_or rows i row)
    → new ≡ fold (told_row names own) begun (take (i + 1) rows)
told-one_more names own at rows i row begun old new within same so_far step =
    step
    ∙ ap (λ (by_number : ℕ → List ℕ). told_row names by_number old (get_or rows i row)) same
    ∙ ap (λ (s : LanesAndTexts). told_row names own s (get_or rows i row)) so_far
    ∙ sym (fold_more (told_row names own) begun rows i row within)

-- ---- since the opening

-- a text of rows behind a header goes on with more
text-more : (told : TheDay → Row → List ℕ) (header : List ℕ) (begun at : TheDay) (taken rows : List Row) → at ≡ after_rows begun taken → (header ++ told_of_rows told begun taken) ++ told_of_rows told at rows ≡ header ++ told_of_rows told begun (taken ++ rows)
text-more told header begun at taken rows is =
    ap (λ (d : TheDay). (header ++ told_of_rows told begun taken) ++ told_of_rows told d rows) is
    ∙ append_assoc header (told_of_rows told begun taken) (told_of_rows told (after_rows begun taken) rows)
    ∙ ap (λ (text : List ℕ). header ++ text) (sym (told_of_rows-append told begun taken rows))

-- rows more are taken and told
pub took-more : (names : NameLists) (own : ℕ → List ℕ) (rows : List Row) (old mid new : List LaneView) (before after : MergedView) → length mid ≡ length old → TookOwnRows names 0 old rows mid
    → (after.lacks_memory ≡ false → (before.lacks_memory ≡ false) × IsAdded names own rows mid before.texts new after.texts) → TookMore names own rows old before new after
took-more names own rows old mid new before after kept took adds = record {
  since_opening = λ config earlier so had.
      let added = adds had in
      same-taken config (earlier ++ rows) mid new (same-added names own rows mid new before.texts after.texts added.1) (taken-more names config earlier rows old mid kept took (so added.0));
  told = λ asked texts config earlier agree each so had all.
      let added = adds had in
      let is = added-alike names texts own rows mid new before.texts after.texts agree added.1 in
      let same = same-added names texts rows mid new before.texts after.texts is in
      let opened : List Journal = map (journal_of config) config.securities in
      let js = all_rows opened earlier in
      let long : length opened ≡ length old = length-map config.securities (journal_of config) ∙ sym each in
      let as_long : length js ≡ length mid = length-rows opened earlier ∙ long ∙ sym kept in
      let had_memory : (k : ℕ) (d : LaneView) → k < length old → (get_or mid k d).lacks_memory ≡ false =
      λ k d inside. sym (same.each k d (omega (arith, kept, inside))).1 ∙ all k d (omega (arith, kept, same.long, inside)) in
      let was = so added.0 (λ k d inside. (took k d inside (had_memory k d inside)).0) in
      let stood : (k : ℕ) (d : LaneView) → k < length old → get_or js k d.journal ≡ own_rows k (get_or opened k d.journal) earlier = λ k d inside. rows-at opened earlier k d.journal (omega (arith, long, inside)) in
      let counts = counts-of opened earlier 0 0 in
      let at : day_of js counts.accepted counts.refused ≡ after_rows (opening_day config) earlier = sym counts.is ∙ ap (λ (d : TheDay). after_rows d earlier) (day-opened config opened refl) in
      let added_to : IsAdded names texts rows mid (texts_where asked (answers_text names config texts earlier) (trades_text names config texts earlier) (depth_text names config earlier) (events_text names config earlier)) new after.texts =
      subst (λ (t : TextsView). IsAdded names texts rows mid t new after.texts) was.texts_are is in
      let told =
      told-added asked names texts js counts.accepted counts.refused rows mid new (answers_text names config texts earlier) (trades_text names config texts earlier) (depth_text names config earlier) (events_text names config earlier) after.texts as_long
      (λ k d inside.
      let within : k < length old = omega (arith, kept, inside) in
      let same_index : 0 + k ≡ k = omega arith in
      (took k d within (had_memory k d within)).1
      ∙ ap (λ (i : ℕ). lane_rows names i (get_or old k d) rows) same_index
      ∙ ap (λ (l : LaneView). lane_rows names k l rows) (was.lanes_are k d within ∙ ap (fresh_lane asked) (sym (stood k d within)))
      ∙ keeps-asked asked names k (get_or js k d.journal) rows) added_to in
      record {
        lanes_are = λ k d inside.
            told.lanes_are k d (omega (arith, as_long, same.long, inside))
            ∙ ap (λ (j : Journal). fresh_lane asked (own_rows k j rows)) (stood k d (omega (arith, kept, same.long, inside)))
            ∙ ap (fresh_lane asked) (sym (fold-append (own_row k) (get_or opened k d.journal) earlier rows));
        texts_are =
            told.texts_are
            ∙ texts-are asked _ _ _ _ _ _ _ _ (text-more (told_of names texts) answers_header (opening_day config) _ earlier rows at)
            (text-more (told_trades names texts) trades_header (opening_day config) _ earlier rows at) (text-more (told_depth names) depth_header (opening_day config) _ earlier rows at)
            (text-more (told_events names) events_header (opening_day config) _ earlier rows at);
      };
}

-- no rows are
pub took-none : (names : NameLists) (own : ℕ → List ℕ) (lanes : List LaneView) (merged : MergedView) → TookMore names own [] lanes merged lanes merged
took-none names own lanes merged = record {
  since_opening = λ config earlier so. subst (λ (rows : List Row). AreTakenSoFar config rows lanes merged) (sym (append-nil earlier)) so;
  told = λ asked texts config earlier agree each so. subst (λ (rows : List Row). AreTold asked names texts config rows lanes merged) (sym (append-nil earlier)) so;
}

-- and more behind them
pub took-then : (names : NameLists) (own : ℕ → List ℕ) (rows more : List Row) (old mid new : List LaneView) (before between after : MergedView) → length mid ≡ length old → TookMore names own rows old before mid between → TookMore names own more mid between new after
    → TookMore names own (rows ++ more) old before new after
took-then names own rows more old mid new before between after kept first next = record {
  since_opening = λ config earlier so.
      subst (λ (rs : List Row). AreTakenSoFar config rs new after) (append_assoc earlier rows more) (next.since_opening config (earlier ++ rows) (first.since_opening config earlier so));
  told = λ asked texts config earlier agree each so.
      let so_far = first.told asked texts config earlier (agree-left texts own rows more agree) each so in
      subst (λ (rs : List Row). AreTold asked names texts config rs new after) (append_assoc earlier rows more)
      (next.told asked texts config (earlier ++ rows) (agree-right texts own rows more agree) (kept ∙ each) so_far);
}

-- the same by texts that agree with these
pub took-alike : (names : NameLists) (texts own : ℕ → List ℕ) (rows : List Row) (old new : List LaneView) (before after : MergedView) → AgreeOn texts own rows → TookMore names own rows old before new after → TookMore names texts rows old before new after
took-alike names texts own rows old new before after same took = record {
  since_opening = took.since_opening;
  told = λ asked others config earlier agree each so. took.told asked others config earlier (λ k d within. agree k d within ∙ same k d within) each so;
}

-- none are, where the segment was opened just now
pub fresh-told : (asked : AskedTexts) (names : NameLists) (own : ℕ → List ℕ) (config : SegmentConfig) (lanes : List LaneView) (merged : MergedView) → lanes ≡ map (fresh_lane asked) (map (journal_of config) config.securities)
    → (merged.lacks_memory ≡ false → merged.texts ≡ texts_where asked answers_header trades_header depth_header events_header) → AreTold asked names own config [] lanes merged
fresh-told asked names own config lanes merged fresh begun had all = record {
  lanes_are = λ k d inside. fresh-at asked (map (journal_of config) config.securities) lanes k d fresh inside;
  texts_are = begun had ∙ texts-are asked _ _ _ _ _ _ _ _ (sym (append-nil answers_header)) (sym (append-nil trades_header)) (sym (append-nil depth_header)) (sym (append-nil events_header));
}

-- the feed of a day behind its rows
pub feed-behind : (asked : Bool) (names : NameLists) (config : SegmentConfig) (rows : List Row) (states : List State) (levels : Option (List ℕ)) → levels ≡ where_asked asked (depth_text names config rows) → states ≡ (day config rows).states
    → option_map (λ (text : List ℕ). record { text = text; shown = map market_depth states }) levels ≡ where_asked asked (feed_of names config rows)
feed-behind asked names config rows states levels is stand = ap (option_map (λ (text : List ℕ). record { text = text; shown = map market_depth states })) is ∙ go asked
  where
    go : (b : Bool) → option_map (λ (text : List ℕ). record { text = text; shown = map market_depth states }) (where_asked b (depth_text names config rows)) ≡ where_asked b (feed_of names config rows)
    go false = refl
    go true = ap (λ (ss : List State). Some (record { text = depth_text names config rows; shown = map market_depth ss })) stand

-- securities that were opened just now took the rows of a file, for which they were lent, and told of them
pub file-taken : (asked : AskedTexts) (names : NameLists) (own : ℕ → List ℕ) (config : SegmentConfig) (rows : List Row) (count : ℕ) (unopened : Option DayFault) (opened lent lanes back : List LaneView) (before after : MergedView)
    → unopened ≡ None → HaveBegunUnless unopened asked config opened before → lent ≡ opened → back ≡ lanes → TookFile names own lent before lanes after config rows count
    → (length rows ≡ count) × AreTakenSoFar config rows back after × AreTold asked names own config rows back after
file-taken asked names own config rows count unopened opened lent lanes back before after none begun is given file =
    let all : HaveBegun asked config opened before = subst (λ (o : Option DayFault). HaveBegunUnless o asked config opened before) none begun in
    let lanes_are = is ∙ all.lanes_are in
    let fresh = fresh-taken asked config lent lanes_are in (
      sym file.counted,
      subst (λ (ls : List LaneView). AreTakenSoFar config rows ls after) (sym given) (file.took.since_opening config [] (λ had. fresh)),
      subst (λ (ls : List LaneView). AreTold asked names own config rows ls after) (sym given)
          (file.took.told asked own config [] (agree-with_itself own rows) fresh.each (fresh-told asked names own config lent before lanes_are all.texts_are)),
    )
