-- The day of a segment whose securities take its rows apart.
use Rattle.std.proofs.Common.{◌≡◌, ◌≢◌, ◌==◌, ℕ, zero, suc, ◌+◌, ◌-◌, ◌<◌, ◌≤◌, Bool, true, false, if◌then◌else◌, List, [], ◌∷◌, ◌++◌, length, map, slice_get, set, get_or, fold, take, All, Option, Some, None, Result, Ok, Err, option_map, refl, ap, sym, subst, arith, ◌∙◌}
use Rattle.std.specs.Result.{IsErrAnd}
use Rattle.std.proofs.lemmas.Bool.Decides.{nat_tests}
use Rattle.std.proofs.lemmas.List.{get_or_default, get_or-set_other, get_or-set_same, length-map, length-set, length_push}
use Rattle.std.proofs.lemmas.List.Sums.{fold-append, fold_more, sum_by-cons, sum_by-set}
use Rattle.std.proofs.lemmas.Option.{get_or_from_slice_get, slice_get-get_or, slice_get-map, slice_get_past}
use Rattle.xm_replay.proofs.Places.{set-there, within-length}
use Rattle.xm_config.proofs.Days.{day-opened, on_accepted, on_refused, on_unknown, with_command}
use Rattle.xm_texts.proofs.Feeding.{get-set, set-same}
use Rattle.xm_config.specs.Day.{Day as TheDay, after_rows, day, day_of}
use Rattle.xm_threads.specs.Lanes.{AreOpened, AreTaken, LaneView, TookOwnRows, fresh_lane, lane_after, lane_row, lane_rows, own_row, own_rows}
use Rattle.xm_desk.specs.Answered.{if_accepted, journal_after}
use Rattle.xm_replay.specs.Taken.{commands_in}
use Rattle.xm_replay.specs.declared.faults.DayFault.{DayFault}
use Rattle.xm_replay.specs.declared.faults.DayFault.TheVariants.{OutOfMemory}
use Rattle.xm_texts.specs.declared.asked.AskedTexts.{AskedTexts}
use Rattle.xm_files.specs.Names.{NameLists}
use Rattle.xm_rules.specs.Refusals.{refusal_of}
use Rattle.xm_rules.specs.Step.{Journal, replay}
use Rattle.xm_rules.specs.declared.replies.Refusal.{Refusal}
use Rattle.xm_config.specs.Opening.{journal_of, segment_fault}
use Rattle.xm_config.specs.declared.config.SecurityConfig.{SecurityConfig}
use Rattle.xm_config.specs.declared.config.SegmentConfig.{SegmentConfig}
use Rattle.xm_config.specs.declared.rows.Row.{Row}

-- ---- all journals behind rows

abbrev pub on_known : List Journal → Row → Option Journal → List Journal
on_known js row None = js
on_known js row (Some j) = set js row.security (journal_after j row.command)

abbrev pub all_row : List Journal → Row → List Journal
all_row js row = on_known js row (slice_get js row.security)

abbrev pub all_rows : List Journal → List Row → List Journal
all_rows js rows = fold all_row js rows

-- what a day counts that begins with some counts and takes rows, and its journals
pub record CountsOf (js : List Journal) (rows : List Row) (a r : ℕ) : Type 0 where
  pub accepted : ℕ
  pub refused : ℕ
  pub is : after_rows (day_of js a r) rows ≡ day_of (all_rows js rows) accepted refused
  pub all : accepted + refused ≡ a + r + length rows
  pub commands : accepted + commands_in js ≡ a + commands_in (all_rows js rows)

pub past-end : {A : Type 0} (xs : List A) (i : ℕ) → slice_get xs i ≡ None → length xs ≤ i
past-end [] i none = omega arith
past-end (x ∷ xs) zero none = absurd (cc)
past-end (x ∷ xs) (suc i) none = omega (arith, past-end xs i none)

-- one row
pub one-row : (js : List Journal) (row : Row) (a r : ℕ) → CountsOf js (row ∷ []) a r
one-row js row a r = by (slice_get js row.security) refl
  where
    of-known : (j : Journal) → slice_get js row.security ≡ Some j → (v : Option Refusal) → refusal_of (replay j) row.command ≡ v → CountsOf js (row ∷ []) a r
    of-known j is (Some refusal) refuses =
        let kept : all_row js row ≡ js =
        ap (on_known js row) is ∙ ap (λ (o : Option Refusal). set js row.security (if_accepted o j row.command)) refuses ∙ set-same js row.security j is in
        record {
          accepted = a;
          refused = r + 1;
          is = on_refused js row j refusal a r is refuses ∙ ap (λ (ks : List Journal). day_of ks a (r + 1)) (sym kept);
          all = omega arith;
          commands = ap (λ (ks : List Journal). a + commands_in ks) (sym kept);
        }
    of-known j is None passes =
        let grown = with_command j row.command in
        let became : all_row js row ≡ set js row.security grown =
        ap (on_known js row) is ∙ ap (λ (o : Option Refusal). set js row.security (if_accepted o j row.command)) passes in
        let within = within-length js row.security j is in
        let counts = sum_by-set (λ (k : Journal). length k.commands) js row.security grown j within in
        let at : length (get_or js row.security j).commands ≡ length j.commands = ap (λ (k : Journal). length k.commands) (get_or_from_slice_get js row.security j j is) in
        let one : length grown.commands ≡ length j.commands + 1 = length_push j.commands row.command in
        let all = ap commands_in became in
        record {
          accepted = a + 1;
          refused = r;
          is = on_accepted js row j a r is passes ∙ ap (λ (ks : List Journal). day_of ks (a + 1) r) (sym became);
          all = omega arith;
          commands = omega (arith, counts, at, one, all);
        }

    by : (o : Option Journal) → slice_get js row.security ≡ o → CountsOf js (row ∷ []) a r
    by None none =
        let kept : all_row js row ≡ js = ap (on_known js row) none in
        record {
          accepted = a;
          refused = r + 1;
          is = on_unknown js row a r (past-end js row.security none) ∙ ap (λ (ks : List Journal). day_of ks a (r + 1)) (sym kept);
          all = omega arith;
          commands = ap (λ (ks : List Journal). a + commands_in ks) (sym kept);
        }
    by (Some j) is = of-known j is (refusal_of (replay j) row.command) refl

pub counts-of : (js : List Journal) (rows : List Row) (a r : ℕ) → CountsOf js rows a r
counts-of js [] a r = record { accepted = a; refused = r; is = refl; all = omega arith; commands = refl }
counts-of js (row ∷ rows) a r =
    let one = one-row js row a r in
    let rest = counts-of (all_row js row) rows one.accepted one.refused in
    record {
      accepted = rest.accepted;
      refused = rest.refused;
      is = ap (λ (d : TheDay). after_rows d rows) one.is ∙ rest.is;
      all = omega (arith, one.all, rest.all);
      commands = omega (arith, one.commands, rest.commands);
    }

-- ---- each journal by itself

pub same-map : {A : Type 0} (f : A → A) (o : Option A) → ((x : A) → f x ≡ x) → o ≡ option_map f o
same-map f None same = refl
same-map f (Some x) same = ap Some (sym (same x))

pub other-row : (k : ℕ) (row : Row) (j : Journal) → (row.security == k) ≡ false → own_row k j row ≡ j
other-row k row j other = ap (λ (b : Bool). if b then journal_after j row.command else j) other

pub own-row : (k : ℕ) (row : Row) (j : Journal) → (row.security == k) ≡ true → own_row k j row ≡ journal_after j row.command
own-row k row j own = ap (λ (b : Bool). if b then journal_after j row.command else j) own

pub at-row : (js : List Journal) (row : Row) (k : ℕ) → slice_get (all_row js row) k ≡ option_map (λ j. own_row k j row) (slice_get js k)
at-row js row k = by (slice_get js row.security) refl (row.security == k) refl
  where
    by : (o : Option Journal) → slice_get js row.security ≡ o → (b : Bool) → (row.security == k) ≡ b → slice_get (all_row js row) k ≡ option_map (λ j. own_row k j row) (slice_get js k)
    by None none true own =
        let same : row.security ≡ k = grind (arith, nat_tests) in
        let at : slice_get js k ≡ None = ap (slice_get js) (sym same) ∙ none in
        ap (λ (ks : List Journal). slice_get ks k) (ap (on_known js row) none) ∙ at ∙ sym (ap (option_map (λ j. own_row k j row)) at)
    by None none false other =
        ap (λ (ks : List Journal). slice_get ks k) (ap (on_known js row) none) ∙ same-map (λ j. own_row k j row) (slice_get js k) (λ j. other-row k row j other)
    by (Some j) is true own =
        let same : row.security ≡ k = grind (arith, nat_tests) in
        let at : slice_get js k ≡ Some j = ap (slice_get js) (sym same) ∙ is in
        ap (λ (ks : List Journal). slice_get ks k) (ap (on_known js row) is)
        ∙ ap (λ (i : ℕ). slice_get (set js i (journal_after j row.command)) k) same
        ∙ get-set js k j (journal_after j row.command) at
        ∙ ap Some (sym (own-row k row j own))
        ∙ sym (ap (option_map (λ i. own_row k i row)) at)
    by (Some j) is false other =
        let differs : k ≢ row.security = (λ same. absurd (grind (arith, nat_tests))) in
        ap (λ (ks : List Journal). slice_get ks k) (ap (on_known js row) is)
        ∙ set-there js row.security k (journal_after j row.command) differs
        ∙ same-map (λ i. own_row k i row) (slice_get js k) (λ i. other-row k row i other)

maps-on : (o : Option Journal) (f g : Journal → Journal) → option_map g (option_map f o) ≡ option_map (λ j. g (f j)) o
maps-on None f g = refl
maps-on (Some j) f g = refl

pub at-rows : (js : List Journal) (rows : List Row) (k : ℕ) → slice_get (all_rows js rows) k ≡ option_map (λ j. own_rows k j rows) (slice_get js k)
at-rows js [] k = same-map (λ j. own_rows k j []) (slice_get js k) (λ j. refl)
at-rows js (row ∷ rows) k =
    at-rows (all_row js row) rows k
    ∙ ap (option_map (λ j. own_rows k j rows)) (at-row js row k)
    ∙ maps-on (slice_get js k) (λ j. own_row k j row) (λ j. own_rows k j rows)

same-elements : {A : Type 0} (xs ys : List A) → ((k : ℕ) → slice_get xs k ≡ slice_get ys k) → xs ≡ ys
same-elements [] [] each = refl
same-elements [] (y ∷ ys) each = let first = each 0 in absurd (cc)
same-elements (x ∷ xs) [] each = let first = each 0 in absurd (cc)
same-elements (x ∷ xs) (y ∷ ys) each =
    let first : Some x ≡ Some y = each 0 in
    let same : x ≡ y = cc in
    ap (λ z. z ∷ xs) same ∙ ap (λ zs. y ∷ zs) (same-elements xs ys (λ k. each (suc k)))

pub length-row : (js : List Journal) (row : Row) (o : Option Journal) → slice_get js row.security ≡ o → length (all_row js row) ≡ length js
length-row js row None none = ap (λ (ks : List Journal). length ks) (ap (on_known js row) none)
length-row js row (Some j) is = ap (λ (ks : List Journal). length ks) (ap (on_known js row) is) ∙ length-set js row.security (journal_after j row.command)

pub length-rows : (js : List Journal) (rows : List Row) → length (all_rows js rows) ≡ length js
length-rows js [] = refl
length-rows js (row ∷ rows) = length-rows (all_row js row) rows ∙ length-row js row (slice_get js row.security) refl

pub rows-at : (js : List Journal) (rows : List Row) (k : ℕ) (j : Journal) → k < length js → get_or (all_rows js rows) k j ≡ own_rows k (get_or js k j) rows
rows-at js rows k j inside = get_or_from_slice_get (all_rows js rows) k (own_rows k (get_or js k j) rows) j (at-rows js rows k ∙ ap (option_map (λ i. own_rows k i rows)) (slice_get-get_or js k j inside))

pub row-at : (js : List Journal) (row : Row) (k : ℕ) (j : Journal) → k < length js → get_or (all_row js row) k j ≡ own_row k (get_or js k j) row
row-at js row k j inside = rows-at js (row ∷ []) k j inside

-- ---- securities that take their rows

-- the security with an index behind a row of another one, and behind one of its own
pub other-lane : (names : NameLists) (k : ℕ) (row : Row) (l : LaneView) → (row.security == k) ≡ false → lane_row names k l row ≡ l
other-lane names k row l other = ap (λ (b : Bool). if b then lane_after names l row else l) other

pub own-lane : (names : NameLists) (k : ℕ) (row : Row) (l : LaneView) → (row.security == k) ≡ true → lane_row names k l row ≡ lane_after names l row
own-lane names k row l own = ap (λ (b : Bool). if b then lane_after names l row else l) own

-- the security at a place has taken the row
pub lane-taken : (names : NameLists) (first : ℕ) (lanes : List LaneView) (row : Row) (place : ℕ) (old new : LaneView) → row.security ≡ first + place → place < length lanes
    → (new.lacks_memory ≡ false → ((get_or lanes place old).lacks_memory ≡ false) × (new ≡ lane_after names (get_or lanes place old) row))
    → (k : ℕ) (d : LaneView) → k < length lanes → (get_or (set lanes place new) k d).lacks_memory ≡ false
    → ((get_or lanes k d).lacks_memory ≡ false) × (get_or (set lanes place new) k d ≡ lane_row names (first + k) (get_or lanes k d) row)
lane-taken names first lanes row place old new is within took k d inside had = by (row.security == first + k) refl
  where
    by : (b : Bool) → (row.security == first + k) ≡ b → ((get_or lanes k d).lacks_memory ≡ false) × (get_or (set lanes place new) k d ≡ lane_row names (first + k) (get_or lanes k d) row)
    by true own =
        let same : k ≡ place = grind (arith, nat_tests) in
        let left : get_or (set lanes place new) k d ≡ new = ap (λ (i : ℕ). get_or (set lanes place new) i d) same ∙ get_or-set_same lanes place new d within in
        let was : get_or lanes place old ≡ get_or lanes k d = get_or_default lanes place old d within ∙ ap (λ (i : ℕ). get_or lanes i d) (sym same) in
        let did = took (sym (ap (λ (v : LaneView). v.lacks_memory) left) ∙ had) in (
          sym (ap (λ (v : LaneView). v.lacks_memory) was) ∙ did.0,
          left ∙ did.1 ∙ ap (λ (v : LaneView). lane_after names v row) was ∙ sym (own-lane names (first + k) row (get_or lanes k d) own),
        )
    by false other =
        let apart : k ≢ place = (λ same. absurd (grind (arith, nat_tests))) in
        let kept : get_or (set lanes place new) k d ≡ get_or lanes k d = get_or-set_other lanes place k new d apart in
        (sym (ap (λ (v : LaneView). v.lacks_memory) kept) ∙ had, kept ∙ sym (other-lane names (first + k) row (get_or lanes k d) other))

-- the row is none of theirs
pub row-passed : (names : NameLists) (first : ℕ) (lanes : List LaneView) (row : Row) → ((k : ℕ) → k < length lanes → row.security ≢ first + k)
    → (k : ℕ) (d : LaneView) → k < length lanes → (get_or lanes k d).lacks_memory ≡ false
    → ((get_or lanes k d).lacks_memory ≡ false) × (get_or lanes k d ≡ lane_row names (first + k) (get_or lanes k d) row)
row-passed names first lanes row apart k d inside had =
    let differs = apart k inside in
    let other : (row.security == first + k) ≡ false = grind (arith, nat_tests, differs) in
    (had, sym (other-lane names (first + k) row (get_or lanes k d) other))

-- a row more
pub rows-taken-more : (names : NameLists) (first : ℕ) (begun : List LaneView) (rows : List Row) (i : ℕ) (row : Row) (old new : List LaneView) → i < length rows → length old ≡ length begun → TookOwnRows names first begun (take i rows) old
    → ((k : ℕ) (d : LaneView) → k < length old → (get_or new k d).lacks_memory ≡ false → ((get_or old k d).lacks_memory ≡ false) × (get_or new k d ≡ lane_row names (first + k) (get_or old k d) (get_or rows i row)))
    → TookOwnRows names first begun (take (i + 1) rows) new
rows-taken-more names first begun rows i row old new within kept so_far took k d inside had =
    let last = took k d (omega (arith, kept, inside)) had in
    let earlier = so_far k d inside last.0 in (
      earlier.0,
      last.1 ∙ ap (λ (l : LaneView). lane_row names (first + k) l (get_or rows i row)) earlier.1 ∙ sym (fold_more (lane_row names (first + k)) (get_or begun k d) rows i row within),
    )

row-journal : (names : NameLists) (k : ℕ) (l : LaneView) (row : Row) (b : Bool) → (row.security == k) ≡ b → (lane_row names k l row).journal ≡ own_row k l.journal row
row-journal names k l row true own = ap (λ (v : LaneView). v.journal) (own-lane names k row l own) ∙ sym (own-row k row l.journal own)
row-journal names k l row false other = ap (λ (v : LaneView). v.journal) (other-lane names k row l other) ∙ sym (other-row k row l.journal other)

-- the journal of a security behind rows
lane-journal : (names : NameLists) (k : ℕ) (l : LaneView) (rows : List Row) → (lane_rows names k l rows).journal ≡ own_rows k l.journal rows
lane-journal names k l [] = refl
lane-journal names k l (row ∷ rows) = lane-journal names k (lane_row names k l row) rows ∙ ap (λ (j : Journal). own_rows k j rows) (row-journal names k l row (row.security == k) refl)

-- rows more than those since the opening
pub taken-more : (names : NameLists) (config : SegmentConfig) (before rows : List Row) (old new : List LaneView) → length new ≡ length old → TookOwnRows names 0 old rows new → AreTaken config before old → AreTaken config (before ++ rows) new
taken-more names config before rows old new kept took has = record {
  each = kept ∙ has.each;
  taken = λ k d inside had.
      let within : k < length old = omega (arith, kept, inside) in
      let last = took k d within had in
      let same : 0 + k ≡ k = omega arith in
      ap (λ (l : LaneView). l.journal) last.1 ∙ lane-journal names (0 + k) (get_or old k d) rows
      ∙ ap (λ (i : ℕ). own_rows i (get_or old k d).journal rows) same
      ∙ ap (λ (j : Journal). own_rows k j rows) (has.taken k d within last.0)
      ∙ sym (fold-append (own_row k) (get_or (map (journal_of config) config.securities) k d.journal) before rows);
}

-- each security that was opened
pub fresh-at : (asked : AskedTexts) (desks : List Journal) (lanes : List LaneView) (k : ℕ) (d : LaneView) → lanes ≡ map (fresh_lane asked) desks → k < length lanes → get_or lanes k d ≡ fresh_lane asked (get_or desks k d.journal)
fresh-at asked desks lanes k d fresh inside =
    let within : k < length desks = omega (arith, ap length fresh, length-map desks (fresh_lane asked), inside) in
    let at : slice_get lanes k ≡ Some (fresh_lane asked (get_or desks k d.journal)) = ap (λ (ls : List LaneView). slice_get ls k) fresh ∙ slice_get-map (fresh_lane asked) desks k ∙ ap (option_map (fresh_lane asked)) (slice_get-get_or desks k d.journal within) in
    get_or_from_slice_get lanes k (fresh_lane asked (get_or desks k d.journal)) d at

-- they have taken none
pub fresh-taken : (asked : AskedTexts) (config : SegmentConfig) (lanes : List LaneView) → lanes ≡ map (fresh_lane asked) (map (journal_of config) config.securities) → AreTaken config [] lanes
fresh-taken asked config lanes fresh = record {
  each = ap length fresh ∙ length-map (map (journal_of config) config.securities) (fresh_lane asked) ∙ length-map config.securities (journal_of config);
  taken = λ k d inside had. ap (λ (v : LaneView). v.journal) (fresh-at asked (map (journal_of config) config.securities) lanes k d fresh inside);
}

none-stands : (config : SegmentConfig) (securities : List SecurityConfig) → commands_in (map (journal_of config) securities) ≡ 0
none-stands config [] = refl
none-stands config (security ∷ more) = omega (arith, sum_by-cons (λ (j : Journal). length j.commands) (journal_of config security) (map (journal_of config) more), none-stands config more)

-- want of memory at the opening is told as such
pub unopened-if_memory : {A : Type 0} (lanes_in : A → List LaneView) (asked : AskedTexts) (config : SegmentConfig) (result : Result A DayFault) → IsErrAnd result (λ fault. fault ≡ OutOfMemory tt) → segment_fault config ≡ None → AreOpened lanes_in asked config result
unopened-if_memory lanes_in asked config (Ok opened) is sound = absurd is
unopened-if_memory lanes_in asked config (Err fault) is sound = subst (λ (f : DayFault). AreOpened lanes_in asked config (Err f)) (sym is) sound

-- ---- securities that have taken their rows

module _ (config : SegmentConfig) (rows : List Row) (lanes : List LaneView) (taken : AreTaken config rows lanes) (none : All (λ (l : LaneView). l.lacks_memory ≡ false) lanes) where
  abbrev pub journals : List Journal
  journals = map (λ (l : LaneView). l.journal) lanes

  abbrev pub opened : List Journal
  opened = map (journal_of config) config.securities

  as-long : length opened ≡ length lanes
  as-long = length-map config.securities (journal_of config) ∙ sym taken.each

  at-lane : (k : ℕ) → slice_get journals k ≡ slice_get (all_rows opened rows) k
  at-lane k = by (slice_get lanes k) refl
    where
      by : (o : Option LaneView) → slice_get lanes k ≡ o → slice_get journals k ≡ slice_get (all_rows opened rows) k
      by None past =
          let end : slice_get opened k ≡ None = slice_get_past opened k (omega (arith, as-long, past-end lanes k past)) in
          slice_get-map (λ (l : LaneView). l.journal) lanes k ∙ ap (option_map (λ (l : LaneView). l.journal)) past
          ∙ sym (at-rows opened rows k ∙ ap (option_map (λ j. own_rows k j rows)) end)
      by (Some l) at =
          let within = within-length lanes k l at in
          let read : get_or lanes k l ≡ l = get_or_from_slice_get lanes k l l at in
          let begun : slice_get opened k ≡ Some (get_or opened k l.journal) = slice_get-get_or opened k l.journal (omega (arith, as-long, within)) in
          slice_get-map (λ (v : LaneView). v.journal) lanes k ∙ ap (option_map (λ (v : LaneView). v.journal)) at
          ∙ ap (λ (v : LaneView). Some v.journal) (sym read)
          ∙ ap Some (taken.taken k l within (none k l within))
          ∙ sym (at-rows opened rows k ∙ ap (option_map (λ j. own_rows k j rows)) begun)

  journals-are : journals ≡ all_rows opened rows
  journals-are = same-elements journals (all_rows opened rows) at-lane

  counts : CountsOf opened rows 0 0
  counts = counts-of opened rows 0 0

  accepted-all : commands_in journals ≡ counts.accepted
  accepted-all = omega (arith, ap commands_in journals-are, counts.commands, none-stands config config.securities)

  pub few-accepted : commands_in journals ≤ length rows
  few-accepted = omega (arith, accepted-all, counts.all)

  -- their day is that of the rows
  pub day-apart : day_of journals (commands_in journals) (length rows - commands_in journals) ≡ day config rows
  day-apart =
      let left : length rows - commands_in journals ≡ counts.refused = omega (arith, accepted-all, counts.all) in
      ap (λ (js : List Journal). day_of js (commands_in journals) (length rows - commands_in journals)) journals-are
      ∙ ap (λ (a : ℕ). day_of (all_rows opened rows) a (length rows - commands_in journals)) accepted-all
      ∙ ap (day_of (all_rows opened rows) counts.accepted) left
      ∙ sym counts.is
      ∙ ap (λ (d : TheDay). after_rows d rows) (day-opened config opened refl)
