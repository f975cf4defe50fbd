-- Boards, watches and rows of a segment that opens, taken from the last on.
use Rattle.atomic_table.specs.Seated.{TableId}
use Rattle.std.proofs.Common.{Box, Global, ◌≡◌, ℕ, zero, suc, ◌+◌, ◌<◌, List, [], ◌∷◌, ◌++◌, length, get_or, map, take, Option, Some, None, refl, sym, ap, ◌∙◌, subst, arith, ⊎_elim}
use Rattle.std.specs.Option.{option_to_list}
use Rattle.std.specs.Prelude.{option_map, slice_get}
use Rattle.std.proofs.lemmas.List.{length-append, length-map, map-append, take-map, take_more}
use Rattle.std.proofs.lemmas.Option.{slice_get-map}
use Rattle.xm_board.proofs.Publishing.{quote-is}
use Rattle.xm_board.specs.Journals.{known_by, opening_of, quote_of}
use Rattle.xm_board.specs.Opened.{Unnamed}
use Rattle.xm_board.specs.declared.watch.Known.{Known}
use Rattle.xm_rules.proofs.Journals.{journal_of as journal_of_settings}
use Rattle.xm_rules.specs.Quote.{quote}
use Rattle.xm_rules.specs.Step.{Journal, replay}
use Rattle.xm_rules.specs.declared.commands.Command.{Command}
use Rattle.xm_rules.specs.declared.replies.Quote.{Quote}
use Rattle.xm_rules.specs.declared.settings.DeskSettings.{DeskSettings}
use Rattle.xm_segment.proofs.Closing.{fresh-journals}
use Rattle.xm_segment.proofs.Seating.{get-push, none-there}
use Rattle.xm_segment.specs.Boards.{AreBoards, AreFresh, AreLeft, IsColumn, IsFresh, NamedView}
use Rattle.xm_segment.specs.Names.{board_names}
use Rattle.xm_config.specs.Opening.{fresh_journal, journal_of, settings_of}
use Rattle.xm_segment.specs.Watches.{RowView, fresh_row, fresh_watch}
use Rattle.xm_config.specs.declared.config.SecurityConfig.{SecurityConfig}
use Rattle.xm_config.specs.declared.config.SegmentConfig.{SegmentConfig}

next : (k : ℕ) → suc k ≡ k + 1
next k = omega arith

-- ---- the last of what stands first

last-of : {A : Type 0} (xs : List A) (k : ℕ) (ys : List A) (y : A) → k < length (ys ++ y ∷ []) → ys ++ y ∷ [] ≡ take (suc k) xs → (ys ≡ take k xs) × (slice_get xs k ≡ Some y) × (length ys ≡ k)
last-of [] k [] y more is = absurd (cc)
last-of [] k (z ∷ zs) y more is = absurd (cc)
last-of (x ∷ xs) zero [] y more is = (refl, ap Some (cc), refl)
last-of (x ∷ xs) zero (z ∷ []) y more is = absurd (cc)
last-of (x ∷ xs) zero (z ∷ w ∷ zs) y more is = absurd (cc)
last-of (x ∷ xs) (suc k) [] y more is = absurd (omega (arith, more))
last-of (x ∷ xs) (suc k) (z ∷ zs) y more is =
    let first : z ≡ x = cc in
    let rest : zs ++ y ∷ [] ≡ take (suc k) xs = cc in
    let r = last-of xs k zs y (omega (arith, more)) rest in
    ((λ i. first i ∷ r.0 i), r.1, ap suc r.2)

-- so many there are at least
some-long : {A : Type 0} (xs : List A) (k : ℕ) (x : A) → slice_get xs k ≡ Some x → k < length (take (suc k) xs)
some-long [] k x at = absurd (cc)
some-long (y ∷ ys) zero x at = omega arith
some-long (y ∷ ys) (suc k) x at = omega (arith, some-long ys k x at)

-- ---- boards

abbrev board_settings : List Unnamed → List DeskSettings
board_settings boards = map (λ (board : Unnamed). board.settings) boards

settings-append : (left : List Unnamed) (last : Unnamed) → board_settings (left ++ last ∷ []) ≡ board_settings left ++ last.settings ∷ []
settings-append [] last = refl
settings-append (b ∷ bs) last = ap (λ (ss : List DeskSettings). b.settings ∷ ss) (settings-append bs last)

get-before : {A : Type 0} (xs : List A) (y : A) (i : ℕ) (x : A) → slice_get xs i ≡ Some x → slice_get (xs ++ y ∷ []) i ≡ Some x
get-before [] y i x at = absurd (cc)
get-before (z ∷ zs) y zero x at = at
get-before (z ∷ zs) y (suc i) x at = get-before zs y i x at

get-last : {A : Type 0} (xs : List A) (y : A) → slice_get (xs ++ y ∷ []) (length xs) ≡ Some y
get-last [] y = refl
get-last (z ∷ zs) y = get-last zs y

last-named : (settings : List DeskSettings) (names : ℕ → TableId) (k : ℕ) (left : List Unnamed) (last : Unnamed) → k < length (left ++ last ∷ []) → AreBoards (take (k + 1) settings) names (left ++ last ∷ [])
    → AreBoards (take k settings) names left × (slice_get settings k ≡ Some last.settings) × (last.table ≡ names k)
last-named settings names k left last more are =
    let same = length-map left (λ (board : Unnamed). board.settings) in
    let longer : k < length (board_settings left ++ last.settings ∷ []) = omega (arith, more, length-append left (last ∷ []), length-append (board_settings left) (last.settings ∷ []), same) in
    let r = last-of settings k (board_settings left) last.settings longer (sym (settings-append left last) ∙ are.settings_are ∙ ap (λ (n : ℕ). take n settings) (sym (next k))) in
    let at : length left ≡ k = sym same ∙ r.2 in (
      record { settings_are = r.0; names_are = λ lane board there. are.names_are lane board (get-before left last lane board there) },
      r.1,
      are.names_are (length left) last (get-last left last) ∙ ap names at,
    )

-- the last board is that of the lane with this index
pub last-board : (settings : List DeskSettings) (names : ℕ → TableId) (k : ℕ) (boards left : List Unnamed) (last : Unnamed) → boards ≡ left ++ last ∷ [] → k < length boards → AreBoards (take (k + 1) settings) names boards
    → AreBoards (take k settings) names left × (slice_get settings k ≡ Some last.settings) × (last.table ≡ names k)
last-board settings names k boards left last is more are =
    last-named settings names k left last (subst (λ (bs : List Unnamed). k < length bs) is more) (subst (AreBoards (take (k + 1) settings) names) is are)

-- the names by which a segment's type is picked are those of its boards
named-at : (boards : List Unnamed) (lane : ℕ) (board : Unnamed) → slice_get boards lane ≡ Some board → board.table ≡ board_names boards lane
named-at [] lane board at = absurd (cc)
named-at (b ∷ bs) zero board at = let same : b ≡ board = cc in ap (λ (x : Unnamed). x.table) (sym same)
named-at (b ∷ bs) (suc lane) board at = named-at bs lane board at

pub boards-named : (settings : List DeskSettings) (names : ℕ → TableId) (boards : List Unnamed) → settings ≡ board_settings boards → names ≡ board_names boards → AreBoards settings names boards
boards-named settings names boards opened picked =
    record { settings_are = sym opened; names_are = λ lane board at. named-at boards lane board at ∙ ap (λ (f : ℕ → TableId). f lane) (sym picked) }

-- ---- the desks that stand beside them

-- the quote of a desk that has taken no command is that of a board that opens
pub fresh-quote : (d : Journal) (q : Quote) (settings : DeskSettings) → q ≡ quote (replay d) → d.commands ≡ [] → settings ≡ d.settings → q ≡ quote_of (opening_of settings)
fresh-quote d q settings shows none same =
    shows ∙ ap (λ (cs : List Command). quote (replay (journal_of_settings d.settings cs))) none ∙ sym (quote-is (opening_of d.settings)) ∙ ap (λ (s : DeskSettings). quote_of (opening_of s)) (sym same)

-- one board more
pub boards-more : (desks : List Journal) (boards : List Unnamed) (board : Unnamed) (i : ℕ) (d : Journal) → i < length desks → board_settings boards ≡ map (λ (desk : Journal). desk.settings) (take i desks) → board.settings ≡ (get_or desks i d).settings
    → board_settings (boards ++ board ∷ []) ≡ map (λ (desk : Journal). desk.settings) (take (i + 1) desks)
boards-more desks boards board i d within before same =
    settings-append boards board ∙ (λ k. before k ++ same k ∷ []) ∙ sym (ap (λ (ds : List Journal). map (λ (desk : Journal). desk.settings) ds) (take_more desks i d within) ∙ map-append (λ (desk : Journal). desk.settings) (take i desks) (get_or desks i d ∷ []))

pub all-fresh : (config : SegmentConfig) (ss : List SecurityConfig) (i : ℕ) (desk : Journal) → slice_get (map (journal_of config) ss) i ≡ Some desk → desk.commands ≡ []
all-fresh config [] i desk at = absurd (cc)
all-fresh config (s ∷ ss) zero desk at = let same : journal_of config s ≡ desk = cc in ap (λ (j : Journal). j.commands) (sym same)
all-fresh config (s ∷ ss) (suc i) desk at = all-fresh config ss i desk at

desks-of : (boards : List Unnamed) → map (λ (board : Unnamed). fresh_journal board.settings) boards ≡ map fresh_journal (board_settings boards)
desks-of [] = refl
desks-of (b ∷ bs) = ap (λ (js : List Journal). fresh_journal b.settings ∷ js) (desks-of bs)

opened-settings : (config : SegmentConfig) (ss : List SecurityConfig) → map (λ (j : Journal). j.settings) (map (journal_of config) ss) ≡ map (settings_of config) ss
opened-settings config [] = refl
opened-settings config (s ∷ ss) = ap (λ (os : List DeskSettings). settings_of config s ∷ os) (opened-settings config ss)

-- the boards of the desks that were opened
pub beside : (config : SegmentConfig) (ss : List SecurityConfig) (desks : List Journal) (boards : List Unnamed) → desks ≡ map (journal_of config) ss → board_settings boards ≡ map (λ (j : Journal). j.settings) desks
    → (board_settings boards ≡ map (settings_of config) ss) × (desks ≡ map (λ (board : Unnamed). fresh_journal board.settings) boards)
beside config ss desks boards opened same =
    let settings = same ∙ ap (λ (js : List Journal). map (λ (j : Journal). j.settings) js) opened ∙ opened-settings config ss in
    (settings, opened ∙ fresh-journals config ss ∙ ap (λ (os : List DeskSettings). map fresh_journal os) (sym settings) ∙ sym (desks-of boards))

pub named-desks : (settings : List DeskSettings) (desks : List Journal) (boards : List Unnamed) → settings ≡ board_settings boards → desks ≡ map (λ (board : Unnamed). fresh_journal board.settings) boards → desks ≡ map fresh_journal settings
named-desks settings desks boards opened fresh = fresh ∙ desks-of boards ∙ ap (λ (os : List DeskSettings). map fresh_journal os) (sym opened)

-- ---- a lane that opens

fresh-some : (rows : ℕ) (here : Option DeskSettings) (b : NamedView) → IsFresh rows here (Some b) → (opened : DeskSettings) × (here ≡ Some opened) × (b.published ≡ opening_of opened)
fresh-some rows None b is = absurd is
fresh-some rows (Some o) b is = (o, refl, is.0)

pub fresh-column : (rows : ℕ) (here : Option DeskSettings) (b : Option NamedView) → IsFresh rows here b → IsColumn rows here (option_map (λ (n : NamedView). n.watches) b)
fresh-column rows None None is = is
fresh-column rows None (Some b) is = absurd is
fresh-column rows (Some o) None is = absurd is
fresh-column rows (Some o) (Some b) is = is.1

fresh-at : (settings : List DeskSettings) (k : ℕ) (desk : Journal) → slice_get (map fresh_journal settings) k ≡ Some desk → (slice_get settings k ≡ Some desk.settings) × (desk.commands ≡ [])
fresh-at [] k desk at = absurd (cc)
fresh-at (s ∷ ss) zero desk at = let same : fresh_journal s ≡ desk = cc in (ap (λ (j : Journal). Some j.settings) same, ap (λ (j : Journal). j.commands) (sym same))
fresh-at (s ∷ ss) (suc k) desk at = fresh-at ss k desk at

-- of desks that stand before the day the last one is that of the lane with this index
last-fresh : (settings : List DeskSettings) (k : ℕ) (opened : DeskSettings) (left : List Journal) (last : Journal) → slice_get settings k ≡ Some opened → left ++ last ∷ [] ≡ map fresh_journal (take (k + 1) settings)
    → (left ≡ map fresh_journal (take k settings)) × (slice_get settings k ≡ Some last.settings) × (last.commands ≡ [])
last-fresh settings k opened left last at is =
    let all = map fresh_journal settings in
    let first : left ++ last ∷ [] ≡ take (suc k) all = is ∙ ap (λ (n : ℕ). map fresh_journal (take n settings)) (sym (next k)) ∙ sym (take-map fresh_journal (suc k) settings) in
    let there : slice_get all k ≡ Some (fresh_journal opened) = slice_get-map fresh_journal settings k ∙ ap (option_map fresh_journal) at in
    let r = last-of all k left last (subst (λ (ds : List Journal). k < length ds) (sym first) (some-long all k (fresh_journal opened) there)) first in
    let fresh = fresh-at settings k last r.1 in
    (r.0 ∙ take-map fresh_journal k settings, fresh.0, fresh.1)

-- the last desk and the board of a lane that opens
pub record OpensLane (settings : List DeskSettings) (k : ℕ) (left : List Journal) (desk : Journal) (board : NamedView) : Type 0 where
  pub left_are : left ≡ map fresh_journal (take k settings)
  pub opened : slice_get settings k ≡ Some desk.settings
  pub fresh : desk.commands ≡ []
  pub unwritten : board.published ≡ opening_of desk.settings

last-opens : (settings : List DeskSettings) (k rows : ℕ) (desks left : List Journal) (desk : Journal) (board : NamedView) → desks ≡ map fresh_journal (take (k + 1) settings) → desks ≡ left ++ desk ∷ []
    → IsFresh rows (slice_get settings k) (Some board) → OpensLane settings k left desk board
last-opens settings k rows desks left desk board are is fresh =
    let b = fresh-some rows (slice_get settings k) board fresh in
    let d = last-fresh settings k b.0 left desk b.1 (sym is ∙ are) in
    let same : b.0 ≡ desk.settings = let both = sym b.1 ∙ d.1 in cc in
    record { left_are = d.0; opened = d.1; fresh = d.2; unwritten = b.2 ∙ ap opening_of same }

-- desks that each lie in a place of its own
pub last-taken : (settings : List DeskSettings) (k rows : ℕ) (desks left : List (Box Journal Global)) (taken : Option (Box Journal Global)) (desk : Box Journal Global) (board : NamedView)
    → map (λ desk. desk.value) desks ≡ map fresh_journal (take (k + 1) settings) → desks ≡ left ++ option_to_list taken → taken ≡ Some desk → IsFresh rows (slice_get settings k) (Some board)
    → OpensLane settings k (map (λ desk. desk.value) left) desk.value board
last-taken settings k rows desks left taken desk board are was is fresh =
    let value : Box Journal Global → Journal = λ desk. desk.value in
    let popped = was ∙ ap (λ (o : Option (Box Journal Global)). left ++ option_to_list o) is in
    let values = ap (λ (ds : List (Box Journal Global)). map value ds) popped ∙ map-append value left (desk ∷ []) in
    last-opens settings k rows (map value desks) (map value left) desk.value board are values fresh

-- ---- the watches of a lane, taken from the last on

fresh-fewer : (opened : DeskSettings) (n : ℕ) (left : List Known) (last : Known) → AreFresh opened (n + 1) (left ++ last ∷ []) → AreFresh opened n left × (last ≡ known_by n (opening_of opened) [])
fresh-fewer opened n left last are =
    let at : length left ≡ n = omega (arith, length-append left (last ∷ []), are.all) in (
      record { all = at; each = λ number w there. are.each number w (get-before left last number w there) },
      are.each (length left) last (get-last left last) ∙ ap (λ (k : ℕ). known_by k (opening_of opened) []) at,
    )

pub column-fewer : (here : Option DeskSettings) (n : ℕ) (left : List Known) (last : Known) → IsColumn (n + 1) here (Some (left ++ last ∷ [])) → IsColumn n here (Some left) × (Some last ≡ fresh_watch n here)
column-fewer None n left last are = absurd are
column-fewer (Some o) n left last are = let r = fresh-fewer o n left last are in (r.0, ap Some r.1)

pub column-empty : (here : Option DeskSettings) (n : ℕ) → IsColumn (n + 1) here (Some []) → ⊥
column-empty None n are = are
column-empty (Some o) n are = absurd (omega (arith, are.all))

-- ---- the rows that are left

pub left-more : (settings : List DeskSettings) (count n : ℕ) (rows : List RowView) (row : RowView) → AreLeft settings count (n + 1) rows → row ≡ fresh_row settings n → AreLeft settings count n (rows ++ row ∷ [])
left-more settings count n rows row are is =
    record {
      all = omega (arith, length-append rows (row ∷ []), are.all);
      each = λ i number other at there.
          ⊎_elim (λ before. are.each i number other at before) (λ last. last.1 ∙ is ∙ ap (fresh_row settings) (let same : n ≡ number = omega (arith, last.0, are.all, at) in same)) (get-push rows row i other there);
    }

pub left-fewer : (settings : List DeskSettings) (count first : ℕ) (left : List RowView) (last : RowView) → AreLeft settings count first (left ++ last ∷ []) → AreLeft settings count (first + 1) left × (last ≡ fresh_row settings first)
left-fewer settings count first left last are =
    let long = length-append left (last ∷ []) in (
      record { all = omega (arith, long, are.all); each = λ i number row at there. are.each i number row at (get-before left last i row there) },
      are.each (length left) first last (omega (arith, long, are.all)) (get-last left last),
    )

pub no-left : (settings : List DeskSettings) (count : ℕ) → AreLeft settings count count []
no-left settings count = record { all = omega arith; each = λ i number row at there. absurd (none-there i row there) }

-- what a lane's watches are after the last of them was taken
pub column-popped : (here : Option DeskSettings) (n : ℕ) (watches left : List Known) (last : Option Known) → watches ≡ left ++ option_to_list last → (last ≡ None → length watches ≡ 0) → IsColumn (n + 1) here (Some watches)
    → IsColumn n here (Some left) × (last ≡ fresh_watch n here)
column-popped here n watches left (Some last) is empty are = column-fewer here n left last (subst (λ (ws : List Known). IsColumn (n + 1) here (Some ws)) is are)
column-popped here n [] left None is empty are = absurd (column-empty here n are)
column-popped here n (w ∷ ws) left None is empty are = let none = empty refl in absurd (omega (arith, none))
