-- The levels that a day tells behind its rows.
use Rattle.std.proofs.Common.{◌≡◌, ℕ, suc, zero, ◌+◌, ◌<◌, ◌≤◌, Bool, true, false, List, [], ◌∷◌, ◌++◌, append_assoc, length, map, set, slice_get, slice_set, get_or, take, Option, Some, None, option_map, unwrap_or, refl, ap, ap₂, sym, subst, arith, ◌∙◌}
use Rattle.std.proofs.lemmas.List.{append-nil, length-take-le, map-append, map-set, take_more}
use Rattle.std.proofs.lemmas.Option.{slice_get-map, slice_get_past, slice_get_read}
use Rattle.xm_config.proofs.Days.{after_rows-append}
use Rattle.xm_texts.proofs.Tells.{told_of_rows-append}
use Rattle.xm_config.specs.Day.{Day as TheDay, after_row, after_rows, answered, day, on_security, opening_day}
use Rattle.xm_texts.specs.Feeds.{Feed, feed_after, feed_of, feed_shows, next_feed}
use Rattle.xm_texts.specs.MarketDepth.{change_lines, depth_header, depths_of, limit_line, limit_lines, market_depth, told_change, told_depth}
use Rattle.xm_texts.specs.RowAnswers.{where_asked}
use Rattle.xm_texts.specs.declared.depth.MarketDepth.{MarketDepth}
use Rattle.xm_files.specs.Names.{NameLists}
use Rattle.xm_rules.specs.Refusals.{refusal_of}
use Rattle.xm_rules.specs.State.{State}
use Rattle.xm_rules.specs.Step.{Journal, replay, step}
use Rattle.xm_rules.specs.declared.orders.Side.{Side}
use Rattle.xm_rules.specs.declared.replies.Refusal.{Refusal}
use Rattle.xm_config.specs.declared.config.SegmentConfig.{SegmentConfig}
use Rattle.xm_config.specs.declared.rows.Row.{Row}

-- ---- elements that are set

pub get-set : {A : Type 0} (xs : List A) (i : ℕ) (x y : A) → slice_get xs i ≡ Some x → slice_get (slice_set xs i y) i ≡ Some y
get-set [] i x y is = absurd (cc)
get-set (z ∷ xs) zero x y is = refl
get-set (z ∷ xs) (suc i) x y is = get-set xs i x y is

pub set-same : {A : Type 0} (xs : List A) (i : ℕ) (x : A) → slice_get xs i ≡ Some x → slice_set xs i x ≡ xs
set-same [] i x is = refl
set-same (z ∷ xs) zero x is = ap (λ y. y ∷ xs) (ap (λ o. unwrap_or o x) (sym is))
set-same (z ∷ xs) (suc i) x is = ap (λ ys. z ∷ ys) (set-same xs i x is)

-- what is shown of some desks, and of one more
pub depths-more : (desks : List Journal) (i : ℕ) (desk : Journal) (shown : MarketDepth) (before after : List MarketDepth) → i < length desks → desk ≡ get_or desks i desk → shown ≡ market_depth (replay desk)
    → before ≡ map market_depth (map replay (take i desks)) → after ≡ before ++ shown ∷ [] → after ≡ map market_depth (map replay (take (i + 1) desks))
depths-more desks i desk shown before after within is depth so_far step =
    step
    ∙ ap₂ (λ (ds : List MarketDepth) (d : MarketDepth). ds ++ d ∷ []) so_far (depth ∙ ap (λ (j : Journal). market_depth (replay j)) is)
    ∙ sym (map-append market_depth (map replay (take i desks)) (map replay (get_or desks i desk ∷ [])))
    ∙ ap (map market_depth) (sym (map-append replay (take i desks) (get_or desks i desk ∷ [])))
    ∙ ap (λ (js : List Journal). map market_depth (map replay js)) (sym (take_more desks i desk within))

-- ---- lines

-- the lines of some levels, and of one more
pub limit_lines-push : (row : List ℕ) (tick : ℕ) (side : Side) (rank : ℕ) (levels : List (Option (ℕ × ℕ))) (level : Option (ℕ × ℕ))
    → limit_lines row tick side rank (levels ++ level ∷ []) ≡ limit_lines row tick side rank levels ++ limit_line row tick side (rank + length levels) level
limit_lines-push row tick side rank [] level =
    let none : rank ≡ rank + 0 = omega arith in
    append-nil (limit_line row tick side rank level) ∙ ap (λ (n : ℕ). limit_line row tick side n level) none
limit_lines-push row tick side rank (first ∷ levels) level =
    ap (λ (text : List ℕ). limit_line row tick side rank first ++ text) (limit_lines-push row tick side (suc rank) levels level)
    ∙ sym (append_assoc (limit_line row tick side rank first) (limit_lines row tick side (suc rank) levels) (limit_line row tick side (suc rank + length levels) level))
    ∙ ap (λ (n : ℕ). (limit_line row tick side rank first ++ limit_lines row tick side (suc rank) levels) ++ limit_line row tick side n level) (omega arith)

-- a text with the lines of some levels, and of one more
pub levels-more : (row : List ℕ) (tick : ℕ) (side : Side) (levels : List (Option (ℕ × ℕ))) (i : ℕ) (level : Option (ℕ × ℕ)) (first before after : List ℕ) (rank : ℕ) → i < length levels → rank ≡ i + 1 → level ≡ get_or levels i level
    → before ≡ first ++ limit_lines row tick side 1 (take i levels) → after ≡ before ++ limit_line row tick side rank level → after ≡ first ++ limit_lines row tick side 1 (take (i + 1) levels)
levels-more row tick side levels i level first before after rank within is at so_far step =
    let so = limit_lines row tick side 1 (take i levels) in
    let next = get_or levels i level in
    let long : length (take i levels) ≡ i = length-take-le i levels (omega (arith, within)) in
    let count : 1 + length (take i levels) ≡ rank = omega (arith, is, long) in
    let one : limit_lines row tick side 1 (take (i + 1) levels) ≡ so ++ limit_line row tick side rank next =
    ap (limit_lines row tick side 1) (take_more levels i level within) ∙ limit_lines-push row tick side 1 (take i levels) next ∙ ap (λ (n : ℕ). so ++ limit_line row tick side n next) count in
    step
    ∙ ap₂ (λ (text : List ℕ) (l : Option (ℕ × ℕ)). text ++ limit_line row tick side rank l) so_far at
    ∙ append_assoc first so (limit_line row tick side rank next)
    ∙ ap (λ (text : List ℕ). first ++ text) (sym one)

-- ---- the feed of a row

-- a feed of fewer securities is left as it is
pub next-unshown : (names : NameLists) (row : Row) (states : List State) (f : Feed) → length f.shown ≤ row.security → next_feed names row (slice_get states row.security) f ≡ f
next-unshown names row states f past = go (slice_get states row.security)
  where
    go : (o : Option State) → next_feed names row o f ≡ f
    go None = refl
    go (Some s) = ap (λ (shown : Option MarketDepth). feed_shows names row s shown f) (slice_get_past f.shown row.security past)

-- so it is by a row of an unknown security
pub next-unknown : (names : NameLists) (row : Row) (desks : List Journal) (f : Feed) → length desks ≤ row.security → next_feed names row (slice_get (map replay desks) row.security) f ≡ f
next-unknown names row desks f past =
    let none : slice_get (map replay desks) row.security ≡ None = slice_get-map replay desks row.security ∙ ap (option_map replay) (slice_get_past desks row.security past) in
    ap (λ (o : Option State). next_feed names row o f) none

-- one of a known security adds its lines, and shows how it stands
pub next-shown : (names : NameLists) (row : Row) (desks : List Journal) (desk : Journal) (before after : MarketDepth) (tick : ℕ) (f : Feed) (text : List ℕ) (shown : List MarketDepth) → row.security < length desks → desk ≡ get_or desks row.security desk
    → row.security < length f.shown → before ≡ get_or f.shown row.security before → after ≡ market_depth (replay desk) → tick ≡ (replay desk).settings.tick → text ≡ f.text ++ change_lines names row tick before after
    → shown ≡ slice_set f.shown row.security after → record { text = text; shown = shown } ≡ next_feed names row (slice_get (map replay desks) row.security) f
next-shown names row desks desk before after tick f text shown known is within at stands tick_is told set =
    let state : slice_get (map replay desks) row.security ≡ Some (replay desk) = slice_get-map replay desks row.security ∙ ap (option_map replay) (slice_get_read desks (length desks) row.security desk refl known is) in
    let had : slice_get f.shown row.security ≡ Some before = slice_get_read f.shown (length f.shown) row.security before refl within at in
    ap₂ (λ (t : List ℕ) (ds : List MarketDepth). record { text = t; shown = ds }) told set
    ∙ ap₂ (λ (n : ℕ) (d : MarketDepth). record { text = f.text ++ change_lines names row n before d; shown = slice_set f.shown row.security d }) tick_is stands
    ∙ ap (λ (o : Option MarketDepth). feed_shows names row (replay desk) o f) (sym had)
    ∙ ap (λ (o : Option State). next_feed names row o f) (sym state)

-- the security is known, and stands so behind a row
next-known : (names : NameLists) (row : Row) (states after : List State) (s t : State) (f : Feed) → f.shown ≡ map market_depth states → slice_get states row.security ≡ Some s → slice_get after row.security ≡ Some t
    → after ≡ slice_set states row.security t
    → next_feed names row (slice_get after row.security) f ≡ record { text = f.text ++ told_change names row (slice_get states row.security) (slice_get after row.security); shown = map market_depth after }
next-known names row states after s t f is before behind changed =
    let known : slice_get f.shown row.security ≡ Some (market_depth s) = ap (λ (ds : List MarketDepth). slice_get ds row.security) is ∙ slice_get-map market_depth states row.security ∙ ap (option_map market_depth) before in
    let shown : slice_set f.shown row.security (market_depth t) ≡ map market_depth after =
    ap (λ (ds : List MarketDepth). slice_set ds row.security (market_depth t)) is ∙ sym (map-set market_depth states row.security t) ∙ ap (map market_depth) (sym changed) in
    ap (λ (o : Option State). next_feed names row o f) behind
    ∙ ap (λ (o : Option MarketDepth). feed_shows names row t o f) known
    ∙ ap (λ (ds : List MarketDepth). record { text = f.text ++ told_change names row (Some s) (Some t); shown = ds }) shown
    ∙ ap₂ (λ (o p : Option State). record { text = f.text ++ told_change names row o p; shown = map market_depth after }) (sym before) (sym behind)

-- a feed that has shown what stands goes on with the lines of a row
next-told : (names : NameLists) (d : TheDay) (row : Row) (f : Feed) → f.shown ≡ map market_depth d.states
    → next_feed names row (slice_get (after_row d row).states row.security) f ≡ record { text = f.text ++ told_depth names d row; shown = map market_depth (after_row d row).states }
next-told names d row f is = by_state (slice_get d.states row.security) refl
  where
    Told : TheDay → Type 0
    Told e = next_feed names row (slice_get e.states row.security) f ≡ record { text = f.text ++ told_change names row (slice_get d.states row.security) (slice_get e.states row.security); shown = map market_depth e.states }

    by_refusal : (s : State) → slice_get d.states row.security ≡ Some s → (r : Option Refusal) → Told (answered d row s r)
    by_refusal s known None = next-known names row d.states (slice_set d.states row.security (step s row.command)) s (step s row.command) f is known (get-set d.states row.security s (step s row.command) known) refl
    by_refusal s known (Some refusal) = next-known names row d.states d.states s s f is known known (sym (set-same d.states row.security s known))

    by_state : (o : Option State) → slice_get d.states row.security ≡ o → Told (after_row d row)
    by_state None unknown =
        subst Told (sym (ap (on_security d row) unknown))
        (ap (λ (o : Option State). next_feed names row o f) unknown
        ∙ ap₂ (λ (text : List ℕ) (ds : List MarketDepth). record { text = text; shown = ds }) (sym (append-nil f.text)) is
        ∙ ap (λ (o : Option State). record { text = f.text ++ told_change names row o (slice_get d.states row.security); shown = map market_depth d.states }) (sym unknown))
    by_state (Some s) known = subst Told (sym (ap (on_security d row) known)) (by_refusal s known (refusal_of s row.command))

-- ---- the feed of rows

feed_after-append : (names : NameLists) (d : TheDay) (rows more : List Row) (f : Feed) → feed_after names d (rows ++ more) f ≡ feed_after names (after_rows d rows) more (feed_after names d rows f)
feed_after-append names d [] more f = refl
feed_after-append names d (row ∷ rows) more f = feed_after-append names (after_row d row) rows more (next_feed names row (slice_get (after_row d row).states row.security) f)

-- a feed that has shown what stands goes on with the lines of rows
fed : (names : NameLists) (d : TheDay) (rows : List Row) (f : Feed) → f.shown ≡ map market_depth d.states
    → feed_after names d rows f ≡ record { text = f.text ++ depths_of names d rows; shown = map market_depth (after_rows d rows).states }
fed names d [] f is = ap₂ (λ (text : List ℕ) (ds : List MarketDepth). record { text = text; shown = ds }) (sym (append-nil f.text)) is
fed names d (row ∷ rows) f is =
    ap (feed_after names (after_row d row) rows) (next-told names d row f is)
    ∙ fed names (after_row d row) rows (record { text = f.text ++ told_depth names d row; shown = map market_depth (after_row d row).states }) refl
    ∙ ap (λ (text : List ℕ). record { text = text; shown = map market_depth (after_rows (after_row d row) rows).states }) (append_assoc f.text (told_depth names d row) (depths_of names (after_row d row) rows))

-- the feed of the rows so far, with one more
pub fed-more : (names : NameLists) (begun d : TheDay) (rows : List Row) (i : ℕ) (row : Row) (first before after : Option Feed) → i < length rows → d ≡ after_rows begun (take i rows)
    → before ≡ option_map (feed_after names begun (take i rows)) first → after ≡ option_map (next_feed names (get_or rows i row) (slice_get (after_row d (get_or rows i row)).states (get_or rows i row).security)) before
    → after ≡ option_map (feed_after names begun (take (i + 1) rows)) first
fed-more names begun d rows i row first before after within is so_far next =
    next ∙ ap (λ (e : TheDay). option_map (next_feed names next_row (slice_get (after_row e next_row).states next_row.security)) before) is ∙ ap (option_map (next_feed names next_row state)) so_far ∙ go first
  where
    next_row : Row
    next_row = get_or rows i row

    state : Option State
    state = slice_get (after_row (after_rows begun (take i rows)) next_row).states next_row.security

    go : (o : Option Feed) → option_map (next_feed names next_row state) (option_map (feed_after names begun (take i rows)) o) ≡ option_map (feed_after names begun (take (i + 1) rows)) o
    go None = refl
    go (Some f) = ap Some (sym (feed_after-append names begun (take i rows) (next_row ∷ []) f) ∙ ap (λ (rs : List Row). feed_after names begun rs f) (sym (take_more rows i row within)))

pub fed-nothing : (names : NameLists) (begun : TheDay) (o : Option Feed) → o ≡ option_map (feed_after names begun []) o
fed-nothing names begun None = refl
fed-nothing names begun (Some f) = refl

-- the feed of the rows of a segment so far, and of more
pub feed-joined : (asked : Bool) (names : NameLists) (config : SegmentConfig) (taken rows : List Row) (at : TheDay) (before after : Option Feed) → before ≡ where_asked asked (feed_of names config taken) → at ≡ after_rows (opening_day config) taken
    → after ≡ option_map (feed_after names at rows) before → after ≡ where_asked asked (feed_of names config (taken ++ rows))
feed-joined asked names config taken rows at before after so_far is next = next ∙ ap (option_map (feed_after names at rows)) so_far ∙ go asked
  where
    begun : TheDay
    begun = opening_day config

    whole : feed_after names (day config taken) rows (feed_of names config taken) ≡ feed_of names config (taken ++ rows)
    whole =
        fed names (day config taken) rows (feed_of names config taken) refl
        ∙ ap₂ (λ (text : List ℕ) (d : TheDay). record { text = text; shown = map market_depth d.states })
        (append_assoc depth_header (depths_of names begun taken) (depths_of names (day config taken) rows) ∙ ap (λ (text : List ℕ). depth_header ++ text) (sym (told_of_rows-append (told_depth names) begun taken rows)))
        (sym (after_rows-append begun taken rows))

    go : (b : Bool) → option_map (feed_after names at rows) (where_asked b (feed_of names config taken)) ≡ where_asked b (feed_of names config (taken ++ rows))
    go false = refl
    go true = ap Some (ap (λ (d : TheDay). feed_after names d rows (feed_of names config taken)) is ∙ whole)

-- the feed before any row
pub feed-begun : (names : NameLists) (config : SegmentConfig) (states : List State) → states ≡ (opening_day config).states
    → record { text = depth_header; shown = map market_depth states } ≡ feed_of names config []
feed-begun names config states is = ap₂ (λ (text : List ℕ) (ss : List State). record { text = text; shown = map market_depth ss }) (sym (append-nil depth_header)) is

-- the text of a feed, where it is asked for
pub feed-text : (asked : Bool) (f : Feed) → option_map (λ (feed : Feed). feed.text) (where_asked asked f) ≡ where_asked asked f.text
feed-text false f = refl
feed-text true f = refl
