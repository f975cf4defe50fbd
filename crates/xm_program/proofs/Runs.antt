-- Words that ask for a day or a check are answered with it.
use Rattle.std.proofs.lemmas.Bool.{le-leb}
use Rattle.std.proofs.Common.{ℕ, ◌≡◌, ◌≤◌, ◌+◌, length, map, append-nil, arith, ◌&&◌, ◌++◌, unwrap_or, slice_get, ◌==◌, is_some, List, [], ◌∷◌, Option, Some, None, Err, true, false, not, if◌then◌else◌, codes, refl, subst, sym, ap, ap₂, ◌∙◌, fold, Bool, Result, Ok, IfErr, IfSome, IsErrAnd, IsSome, inl, inr, ◌⊎◌, option_map, option_and_then}
use Rattle.std.specs.Str.{bytes_eq}
use Rattle.std.specs.Fmt.{decimal}
use Rattle.std.specs.List.{list_all}
use Rattle.clap.specs.Facts.{unwrap_or_range}
use Rattle.clap.specs.Lexer.{long_of}
use Rattle.clap.specs.Simple.{Shape, built, entered, filled, is_simple, names_of, with_index}
use Rattle.clap.specs.Takes.{default_passes, entered_passes, is_valid, level_passes, settle_passes, turn_passes, use_passes, value_passes, values_pass, walk_passes}
use Rattle.clap.specs.Walk.{Held, Names, Walk, action_of, arg_by_id, arg_by_long, finished, nothing_held, reading_by, walk, walk_from, walked}
use Rattle.clap.specs.declared.builder.action.ArgAction.TheVariants.{Set, SetTrue}
use Rattle.clap.specs.declared.builder.value_parser.Reading.TheVariants.{AsWritten, WithoutMinus}
use Rattle.clap.specs.declared.parser.matches.ValueSource.TheVariants.{CommandLine, DefaultValue}
use Rattle.clap.specs.Words.{App, HasKind, HasMatchesOf, IsAmong, Kinds, Row, Rule, Text, fault_of, first_of, is_simple_and_free, kind_of, one_of, subcommand_rows_of, takes}
use Rattle.clap.specs.declared.parser.matches.ArgMatches.{ArgMatches}
use Rattle.clap.specs.declared.error.Error.{Error}
use Rattle.clap.specs.declared.error.kind.ErrorKind.{ErrorKind}
use Rattle.clap.specs.declared.error.kind.ErrorKind.TheVariants as kind
use Rattle.clap.proofs.OnLiterals.{clap_on_literals}
use Rattle.clap.proofs.WalkLemmas.{both, walk_stopped}
use Rattle.xm_replay.specs.declared.faults.DayFault.TheVariants.{OutOfMemory}
use Rattle.xm_program.specs.declared.requests.Failure.TheVariants.{Day}
use Rattle.xm_program.specs.declared.requests.Request.{Request}
use Rattle.xm_program.specs.declared.requests.Request.TheVariants as request
use Rattle.xm_program.specs.declared.requests.Request.TheVariants.{Check, Help}
use Rattle.xm_program.specs.Requests.{AnswersWords, Asked, AskedAuction, AskedDay, AskedExplanation, Asks, AsksAuction, AsksDay, AsksExplanation, IsCount, IsOfWords, IsRequest, Meets, answer_at, answer_of, ArePaths, asked_in, asked_of, auction, auction_in, can_write, check, concurrency_of, count_in, count_rule, day, day_app, day_in, explanation, explanation_in, file_rule, flag_rule, form_in, is_csv, is_mistake, is_strict, is_plain_path, is_plain_word, max_order_files, option_words, order_files, outputs, paths_rule, record_of, required_rule, strict_words, strictness_in, threads_in}
use Rattle.xm_calls.specs.declared.asked.Form.{Form}
use Rattle.xm_calls.specs.declared.asked.Form.TheVariants.{Csv, Plain}
use Rattle.xm_program.specs.declared.outcome.Strictness.{Strictness}
use Rattle.xm_program.specs.declared.outcome.Strictness.TheVariants.{Lenient, Strict}
use Rattle.xm_program.proofs.Numbers.{number-text}
use Rattle.xm_program.proofs.Walks.{ArePlain, Gathered, IsFlag, IsOption, IsPlain, IsSeveral, IsWalked, Stands, Steps, and-then, both-true, default-else, defaults-at, flag-step, further, gathered_of, given, more-walked, or_default, or_else, row, row_at, rows_in, step, walked_over, with_row}

false_of : (b : Bool) → not b ≡ true → b ≡ false
false_of true h = absurd (cc)
false_of false h = refl

pub answer-memory : (error : Error) → kind_of error ≡ kind.OutOfMemory → answer_of error ≡ Err (Day (OutOfMemory tt))
answer-memory error e = rw e refl

-- words that are taken, and ask for this
pub record IsTaken (words : List Text) (asked : Asked) : Type 0 where
  pub taken : takes day_app words ≡ true
  pub asks : asked_of words ≡ Some asked

plain : (word : Text) → is_plain_word word ≡ true → IsPlain word
plain [] h = record { no_hyphen = refl; no_hyphens = refl }
plain (x ∷ word) h =
    let differs = false_of (x == 45) h in
    record { no_hyphen = rw differs refl; no_hyphens = rw differs refl }

taken-check : (program s : Text) → IsPlain s → IsTaken (program ∷ codes "check" ∷ s ∷ []) (check s)
unfolding clap_on_literals
taken-check program s p = record { taken = simp (p.no_hyphen, p.no_hyphens); asks = simp (p.no_hyphen, p.no_hyphens) }

-- ---- a subcommand, and the words behind it

abbrev top : Shape
top = (built day_app).top

abbrev subcommands : Names
subcommands = names_of (built day_app)

abbrev start : Walk
start = walk_from nothing_held

abbrev stopped_at : Text → List Text → Walk
stopped_at name behind = record start { stopped = Some (name, behind) }

stopped-passes : (w : Walk) (p : Text × List Text) (words : List Text) → walk_passes top subcommands (record w { stopped = Some p }) words ≡ true
unfolding walk_passes walked
stopped-passes w p [] = refl
stopped-passes w p (word ∷ words) = stopped-passes w (p.0, p.1 ++ word ∷ []) words

-- what the command line is asked where the walk over its words stopped so
abbrev stop_passes : Walk → Bool → Bool
stop_passes w passes =
    is_simple day_app && (entered_passes (built day_app) w.stopped && (passes && (settle_passes top.rules top.args_override_self w.held
    && (list_all default_passes top.rules && is_valid top (finished top.rules w.held) (is_some (entered (built day_app) w.stopped))))))

-- what a subcommand is asked after the walk over its words
abbrev shape_passes : Shape → Held → Bool
shape_passes shape end =
    settle_passes shape.rules shape.args_override_self end && (list_all default_passes shape.rules && is_valid shape (finished shape.rules end) false)

-- the subcommand of this name has this shape
record IsSubcommand (name : Text) (shape : Shape) : Type 0 where
  stops : walked top.rules subcommands start name ≡ stopped_at name []
  passes : turn_passes top subcommands start name ≡ true
  level : (behind : List Text) → stop_passes (stopped_at name behind) true ≡ (level_passes shape [] nothing_held behind false && true)
  enters : (behind : List Text) → entered (built day_app) (Some (name, behind)) ≡ Some (name, finished shape.rules (walk shape.rules [] nothing_held behind).held)

-- words that it is behind and that it takes, and what its values then ask for
taken-by : (name : Text) (shape : Shape) (s : IsSubcommand name shape) (program : Text) (behind : List Text) (end : Walk) (asked : Asked) → IsWalked shape start behind end → shape_passes shape end.held ≡ true
    → asked_in (Some (name, finished shape.rules end.held)) ≡ Some asked → IsTaken (program ∷ name ∷ behind) asked
unfolding walk_passes
taken-by name shape s program behind end asked w ends is =
    let stop : walk top.rules subcommands nothing_held (name ∷ behind) ≡ stopped_at name behind =
    ap (λ (k : Walk). fold (walked top.rules subcommands) k behind) s.stops ∙ sym (walk_stopped top.rules subcommands start name [] behind) in
    let passes : walk_passes top subcommands start (name ∷ behind) ≡ true =
    both-true _ _ s.passes (ap (λ (k : Walk). walk_passes top subcommands k behind) s.stops ∙ stopped-passes start (name, []) behind) in
    let here = ap (λ (k : Walk). asked_in (Some (name, finished shape.rules k.held))) w.comes_to in
    record {
      taken = ap₂ stop_passes stop passes ∙ s.level behind ∙ both-true _ _ (both-true _ _ w.passes (ap (λ (k : Walk). shape_passes shape k.held) w.comes_to ∙ ends)) refl;
      asks = ap (λ (k : Walk). asked_in (entered (built day_app) k.stopped)) stop ∙ ap asked_in (s.enters behind) ∙ here ∙ is;
    }

-- ---- the options of a day

abbrev file_option : Text → Rule
file_option id = filled (file_rule id)

abbrev count_option : Text → List Text → Rule
count_option id defaults = filled (record (count_rule id) { defaults = defaults })

abbrev workers_option : Rule
workers_option = count_option (codes "workers") (codes "1" ∷ [])

abbrev threads_option : Rule
threads_option = count_option (codes "threads") []

abbrev strict_option : Rule
strict_option = filled (flag_rule (codes "strict"))

-- the number that is read where none is given
abbrev one : Text → Row
one id = row id WithoutMinus DefaultValue (codes "1" ∷ [])

abbrev default_of : Shape → Text → Option Row
default_of shape id = fold (or_default id) None shape.rules

abbrev paths_row : Text → List Text → Row
paths_row id paths = row id AsWritten CommandLine paths

abbrev path_row : Text → Text → Row
path_row id path = paths_row id (path ∷ [])

record IsDayShape (shape : Shape) : Type 0 where
  answers : IsOption shape (codes "--answers") (file_option (codes "answers"))
  trades : IsOption shape (codes "--trades") (file_option (codes "trades"))
  events : IsOption shape (codes "--events") (file_option (codes "events"))
  depth : IsOption shape (codes "--depth") (file_option (codes "depth"))
  workers : IsOption shape (codes "--workers") workers_option
  threads : IsOption shape (codes "--threads") threads_option
  strict : IsFlag shape (codes "--strict") strict_option
  strict_is : strict.value ≡ codes "true"
  no_answers : default_of shape (codes "answers") ≡ None
  no_trades : default_of shape (codes "trades") ≡ None
  no_events : default_of shape (codes "events") ≡ None
  no_depth : default_of shape (codes "depth") ≡ None
  no_threads : default_of shape (codes "threads") ≡ None
  no_out : default_of shape (codes "out") ≡ None
  one_worker : default_of shape (codes "workers") ≡ Some (one (codes "workers"))
  lenient : default_of shape (codes "strict") ≡ Some (row (codes "strict") (reading_by strict_option) DefaultValue (codes "false" ∷ []))
  defaults : list_all default_passes shape.rules ≡ true

-- what stands before the options of a day: the paths that these words are
record HasPaths (name : Text) (shape : Shape) (words : List Text) (d : AskedDay) : Type 0 where
  position : ℕ
  gathered : Gathered
  at : Text → Option Row
  is_walked : IsWalked shape start words (walked_over position gathered)
  stands : Stands shape at gathered
  answers : at (codes "answers") ≡ None
  trades : at (codes "trades") ≡ None
  events : at (codes "events") ≡ None
  depth : at (codes "depth") ≡ None
  workers : at (codes "workers") ≡ None
  threads : at (codes "threads") ≡ None
  strict : at (codes "strict") ≡ None
  segment : at (codes "SEGMENT") ≡ Some (path_row (codes "SEGMENT") d.segment)
  -- values among which these are
  valid : (values : List Row) → ((k : Text) (r : Row) → at k ≡ Some r → row_at k values ≡ Some r) → is_valid shape values false ≡ true
  asks : (values : List Row) → ((k : Text) (r : Row) → at k ≡ Some r → row_at k values ≡ Some r) → row_at (codes "out") values ≡ at (codes "out") → day_in d.carrying d.orders values ≡ Some d
      → asked_in (Some (name, values)) ≡ Some (day d)

plain-file : (id : Text) (path : Option Text) → is_plain_path path ≡ true → (text : Text) → path ≡ Some text → IsPlain text × (value_passes (file_option id) text ≡ true)
plain-file id None h text e = absurd (cc)
plain-file id (Some path) h text e = let same : path ≡ text = cc in rw (sym same) (plain path h, refl)

plain-count : (id : Text) (defaults : List Text) (number : Option ℕ) → IfSome number IsCount → (text : Text) → option_map decimal number ≡ Some text → IsPlain text × (value_passes (count_option id defaults) text ≡ true)
plain-count id defaults None h text e = absurd (cc)
plain-count id defaults (Some number) h text e =
    let same : decimal number ≡ text = cc in
    let is = number-text number h.0 h.1 in
    rw (sym same) (plain (decimal number) is.is_plain, is.passes)

abbrev options : AskedDay → Option ℕ → Option ℕ → List Text
options d w n =
    option_words (codes "--answers") d.answers ++ (option_words (codes "--trades") d.trades ++ (option_words (codes "--events") d.events ++ (option_words (codes "--depth") d.depth
    ++ (option_words (codes "--workers") (option_map decimal w) ++ (option_words (codes "--threads") (option_map decimal n) ++ strict_words d.strictness)))))

-- a day can be written, with paths and numbers that are taken as they stand
record IsFine (d : AskedDay) (w n : Option ℕ) : Type 0 where
  answers : is_plain_path d.answers ≡ true
  trades : is_plain_path d.trades ≡ true
  events : is_plain_path d.events ≡ true
  depth : is_plain_path d.depth ≡ true
  workers : IfSome w IsCount
  threads : IfSome n IsCount
  concurrency : concurrency_of (unwrap_or w 1) n ≡ Some d.concurrency
  can : can_write d ≡ true
  files : order_files d.orders ≡ Some d.orders

-- no row that is named otherwise
unnamed : (o : Option Row) → or_else (or_else (or_else (or_else (or_else (or_else (or_else (or_else o None) None) None) None) None) None) None) None ≡ o
unnamed (Some r) = refl
unnamed None = refl

module _ (name : Text) (shape : Shape) (command : IsSubcommand name shape) (is : IsDayShape shape) (words : List Text) (d : AskedDay) (of : HasPaths name shape words d) (w n : Option ℕ) (fine : IsFine d w n) where
  abbrev at_end : Text → Option Row
  at_end =
      with_row strict_option (if is_strict d.strictness then Some is.strict.value else None) (with_row threads_option (option_map decimal n) (with_row workers_option (option_map decimal w) (with_row (file_option (codes "depth")) d.depth
      (with_row (file_option (codes "events")) d.events (with_row (file_option (codes "trades")) d.trades (with_row (file_option (codes "answers")) d.answers of.at))))))

  steps : Steps shape of.position of.gathered (options d w n) at_end
  steps =
      let a = step of.position d.answers of.stands is.answers of.answers (plain-file (codes "answers") d.answers fine.answers) in
      let t = step of.position d.trades a.stands is.trades (rw of.trades refl) (plain-file (codes "trades") d.trades fine.trades) in
      let v = step of.position d.events t.stands is.events (rw of.events refl) (plain-file (codes "events") d.events fine.events) in
      let l = step of.position d.depth v.stands is.depth (rw of.depth refl) (plain-file (codes "depth") d.depth fine.depth) in
      let m = step of.position (option_map decimal w) l.stands is.workers (rw of.workers refl) (plain-count (codes "workers") (codes "1" ∷ []) w fine.workers) in
      let o = step of.position (option_map decimal n) m.stands is.threads (rw of.threads refl) (plain-count (codes "threads") [] n fine.threads) in
      let f = flag-step of.position (is_strict d.strictness) o.stands is.strict (rw of.strict refl) in
      and-then a (and-then t (and-then v (and-then l (and-then m (and-then o f)))))

  abbrev values : List Row
  values = finished shape.rules (walked_over of.position steps.end).held

  value-at : (k : Text) → row_at k values ≡ or_else (at_end k) (default_of shape k)
  value-at k = defaults-at k shape.rules (rows_in shape steps.end) ∙ ap (λ (o : Option Row). fold (or_default k) o shape.rules) (steps.stands.rows_are k) ∙ default-else k shape.rules (at_end k)

  path-at : (k : Text) (r : Row) → of.at k ≡ Some r → row_at k values ≡ Some r
  path-at k r has = value-at k ∙ rw has refl

  out-at : row_at (codes "out") values ≡ of.at (codes "out")
  out-at = value-at (codes "out") ∙ rw is.no_out (unnamed (of.at (codes "out")))

  answers-read : (o : Option Text) → d.answers ≡ o → first_of (codes "answers") values ≡ o
  answers-read None e = rw (value-at (codes "answers"), of.answers, is.no_answers, e) refl
  answers-read (Some path) e = rw (value-at (codes "answers"), of.answers, is.no_answers, e) refl

  trades-read : (o : Option Text) → d.trades ≡ o → first_of (codes "trades") values ≡ o
  trades-read None e = rw (value-at (codes "trades"), of.trades, is.no_trades, e) refl
  trades-read (Some path) e = rw (value-at (codes "trades"), of.trades, is.no_trades, e) refl

  events-read : (o : Option Text) → d.events ≡ o → first_of (codes "events") values ≡ o
  events-read None e = rw (value-at (codes "events"), of.events, is.no_events, e) refl
  events-read (Some path) e = rw (value-at (codes "events"), of.events, is.no_events, e) refl

  depth-read : (o : Option Text) → d.depth ≡ o → first_of (codes "depth") values ≡ o
  depth-read None e = rw (value-at (codes "depth"), of.depth, is.no_depth, e) refl
  depth-read (Some path) e = rw (value-at (codes "depth"), of.depth, is.no_depth, e) refl

  workers-read : (o : Option ℕ) → w ≡ o → IfSome o IsCount → option_and_then count_in (one_of (codes "workers") values) ≡ Some (unwrap_or o 1)
  workers-read None e h = rw (value-at (codes "workers"), of.workers, is.one_worker, e) refl
  workers-read (Some k) e h =
      let text = number-text k h.0 h.1 in
      rw (value-at (codes "workers"), of.workers, is.one_worker, e) (ap count_in text.as_it_stands ∙ text.is_in)

  threads-read : (o : Option ℕ) → n ≡ o → IfSome o IsCount → threads_in values ≡ Some o
  threads-read None e h = rw (value-at (codes "threads"), of.threads, is.no_threads, e) refl
  threads-read (Some k) e h =
      let text = number-text k h.0 h.1 in
      rw (value-at (codes "threads"), of.threads, is.no_threads, e) (ap (option_map Some) (ap count_in text.as_it_stands ∙ text.is_in))

  strictness-read : (s : Strictness) → d.strictness ≡ s → strictness_in values ≡ s
  strictness-read Lenient e = rw (value-at (codes "strict"), of.strict, is.lenient, e) refl
  strictness-read Strict e = rw (value-at (codes "strict"), of.strict, is.lenient, e, is.strict_is) refl

  -- the day that these values ask for
  day-read : day_in d.carrying d.orders values ≡ Some d
  day-read =
      rw (
        path-at (codes "SEGMENT") _ of.segment,
        fine.files,
        workers-read w refl fine.workers,
        threads-read n refl fine.threads,
        fine.concurrency,
        answers-read d.answers refl,
        trades-read d.trades refl,
        events-read d.events refl,
        depth-read d.depth refl,
        strictness-read d.strictness refl,
        fine.can,
      ) refl

  taken-behind : (program : Text) → IsTaken (program ∷ name ∷ (words ++ options d w n)) (day d)
  taken-behind program =
      taken-by name shape command program (words ++ options d w n) (walked_over of.position steps.end) (day d)
      (further shape start (walked_over of.position of.gathered) (walked_over of.position steps.end) words (options d w n) of.is_walked steps.is_walked)
      (both-true _ _ steps.stands.passes (both-true _ _ is.defaults (of.valid values path-at))) (of.asks values path-at out-at day-read)

-- ---- the paths

-- the command lines of both days, as they are built
abbrev run_shape : Shape
run_shape = unwrap_or (slice_get (built day_app).subs 0) day_app.top

abbrev carry_shape : Shape
carry_shape = unwrap_or (slice_get (built day_app).subs 1) day_app.top

option-of : (shape : Shape) (word name : Text) (rule : Rule) → bytes_eq word (45 ∷ 45 ∷ []) ≡ false → long_of word ≡ Some (name, None) → arg_by_long shape.rules name ≡ Some rule → arg_by_id shape.rules rule.id ≡ Some rule
    → bytes_eq rule.id rule.id ≡ true → (unwrap_or_range rule.range).start_inclusive ≡ 1 → (unwrap_or_range rule.range).end_inclusive ≡ 1 → action_of rule ≡ Set → IsOption shape word rule
option-of shape word name rule no_hyphens is_long by_long by_id is_itself least most sets =
    record { no_hyphens = no_hyphens; name = name; is_long = is_long; by_long = by_long; by_id = by_id; is_itself = is_itself; least = least; most = most; sets = sets }

abbrev flag-of : (shape : Shape) (word name : Text) (rule : Rule) → bytes_eq word (45 ∷ 45 ∷ []) ≡ false → long_of word ≡ Some (name, None) → arg_by_long shape.rules name ≡ Some rule
    → bytes_eq rule.id rule.id ≡ true → (unwrap_or_range rule.range).start_inclusive ≡ 0 → (unwrap_or_range rule.range).end_inclusive ≡ 0 → action_of rule ≡ SetTrue → (value : Text) → rule.missing ≡ value ∷ []
    → value_passes rule value ≡ true → IsFlag shape word rule
flag-of shape word name rule no_hyphens is_long by_long is_itself least most sets value stands_for passes =
    record { no_hyphens = no_hyphens; name = name; is_long = is_long; by_long = by_long; is_itself = is_itself; least = least; most = most; sets = sets; value = value; stands_for = stands_for; passes = passes }

run-shape : IsDayShape run_shape
run-shape = record {
  answers = option-of run_shape (codes "--answers") (codes "answers") (file_option (codes "answers")) refl refl refl refl refl refl refl refl;
  trades = option-of run_shape (codes "--trades") (codes "trades") (file_option (codes "trades")) refl refl refl refl refl refl refl refl;
  events = option-of run_shape (codes "--events") (codes "events") (file_option (codes "events")) refl refl refl refl refl refl refl refl;
  depth = option-of run_shape (codes "--depth") (codes "depth") (file_option (codes "depth")) refl refl refl refl refl refl refl refl;
  workers = option-of run_shape (codes "--workers") (codes "workers") workers_option refl refl refl refl refl refl refl refl;
  threads = option-of run_shape (codes "--threads") (codes "threads") threads_option refl refl refl refl refl refl refl refl;
  strict = flag-of run_shape (codes "--strict") (codes "strict") strict_option refl refl refl refl refl refl refl (codes "true") refl refl;
  strict_is = refl;
  no_answers = refl;
  no_trades = refl;
  no_events = refl;
  no_depth = refl;
  no_threads = refl;
  no_out = refl;
  one_worker = refl;
  lenient = refl;
  defaults = refl;
}

run-subcommand : IsSubcommand (codes "run") run_shape
unfolding clap_on_literals
run-subcommand = record { stops = refl; passes = refl; level = λ behind. refl; enters = λ behind. refl }

carry-shape : IsDayShape carry_shape
carry-shape = record {
  answers = option-of carry_shape (codes "--answers") (codes "answers") (file_option (codes "answers")) refl refl refl refl refl refl refl refl;
  trades = option-of carry_shape (codes "--trades") (codes "trades") (file_option (codes "trades")) refl refl refl refl refl refl refl refl;
  events = option-of carry_shape (codes "--events") (codes "events") (file_option (codes "events")) refl refl refl refl refl refl refl refl;
  depth = option-of carry_shape (codes "--depth") (codes "depth") (file_option (codes "depth")) refl refl refl refl refl refl refl refl;
  workers = option-of carry_shape (codes "--workers") (codes "workers") workers_option refl refl refl refl refl refl refl refl;
  threads = option-of carry_shape (codes "--threads") (codes "threads") threads_option refl refl refl refl refl refl refl refl;
  strict = flag-of carry_shape (codes "--strict") (codes "strict") strict_option refl refl refl refl refl refl refl (codes "true") refl refl;
  strict_is = refl;
  no_answers = refl;
  no_trades = refl;
  no_events = refl;
  no_depth = refl;
  no_threads = refl;
  no_out = refl;
  one_worker = refl;
  lenient = refl;
  defaults = refl;
}

carry-subcommand : IsSubcommand (codes "carry") carry_shape
unfolding clap_on_literals
carry-subcommand = record { stops = refl; passes = refl; level = λ behind. refl; enters = λ behind. refl }

-- ORDERS, as it is built
abbrev orders_option : ℕ → ℕ → Rule
orders_option position most = with_index position (filled (paths_rule (codes "ORDERS") most))

run-orders : IsSeveral run_shape 2 (orders_option 2 max_order_files)
run-orders = record { by_index = refl; is_itself = refl; several = refl; no_trailing = refl }

carry-orders : IsSeveral carry_shape 3 (orders_option 3 (max_order_files + 1))
carry-orders = record { by_index = refl; is_itself = refl; several = refl; no_trailing = refl }

carry-out : IsOption carry_shape (codes "--out") (file_option (codes "out"))
carry-out = option-of carry_shape (codes "--out") (codes "out") (file_option (codes "out")) refl refl refl refl refl refl refl refl

-- each path is a value that it may have
paths-pass : (position most : ℕ) (paths : List Text) → values_pass (orders_option position most) paths ≡ true
paths-pass position most [] = refl
paths-pass position most (path ∷ paths) = paths-pass position most paths

orders-pass : (position most : ℕ) (o : Text) (rest : List Text) → length (o ∷ rest) ≤ most → use_passes false (orders_option position most) (o ∷ rest) [] ≡ true
orders-pass position most o rest few =
    both-true _ _ (le-leb 1 (length (o ∷ rest)) (omega arith)) (both-true _ _ (le-leb (length (o ∷ rest)) most few) (paths-pass position most (o ∷ rest)))

-- `run` with its paths

abbrev run_at : Text → List Text → Text → Option Row
run_at s orders k = row_at k (path_row (codes "SEGMENT") s ∷ paths_row (codes "ORDERS") orders ∷ [])

abbrev run_gathered : Text → List Text → Gathered
run_gathered s = gathered_of (orders_option 2 max_order_files) (path_row (codes "SEGMENT") s ∷ [])

two-walked : (s o : Text) → IsPlain s → IsPlain o → IsWalked run_shape start (s ∷ o ∷ []) (walked_over 2 (run_gathered s (o ∷ [])))
unfolding clap_on_literals
two-walked s o p q = record { comes_to = simp (p.no_hyphen, p.no_hyphens, q.no_hyphen, q.no_hyphens); passes = simp (p.no_hyphen, p.no_hyphens, q.no_hyphen, q.no_hyphens) }

run-walked : (s o : Text) (rest : List Text) → IsPlain s → ArePlain (o ∷ rest) → IsWalked run_shape start (s ∷ o ∷ rest) (walked_over 2 (run_gathered s (o ∷ rest)))
run-walked s o rest p q =
    further run_shape start (walked_over 2 (run_gathered s (o ∷ []))) (walked_over 2 (run_gathered s (o ∷ rest))) (s ∷ o ∷ []) rest (two-walked s o p q.0)
    (more-walked run_shape 2 (orders_option 2 max_order_files) run-orders (path_row (codes "SEGMENT") s ∷ []) (o ∷ []) rest q.1)

run-stands : (s o : Text) (rest : List Text) → length (o ∷ rest) ≤ max_order_files → Stands run_shape (run_at s (o ∷ rest)) (run_gathered s (o ∷ rest))
run-stands s o rest few = record { passes = orders-pass 2 max_order_files o rest few; rows_are = λ k. refl }

run-paths : (d : AskedDay) (o : Text) (rest : List Text) → d.carrying ≡ None → d.orders ≡ o ∷ rest → IsPlain d.segment → ArePlain (o ∷ rest) → length (o ∷ rest) ≤ max_order_files
    → HasPaths (codes "run") run_shape (d.segment ∷ o ∷ rest) d
run-paths d o rest e f p q few = record {
  position = 2;
  gathered = run_gathered d.segment (o ∷ rest);
  at = run_at d.segment (o ∷ rest);
  is_walked = run-walked d.segment o rest p q;
  stands = run-stands d.segment o rest few;
  answers = refl;
  trades = refl;
  events = refl;
  depth = refl;
  workers = refl;
  threads = refl;
  strict = refl;
  segment = refl;
  valid = λ values has. rw (has (codes "SEGMENT") _ refl, has (codes "ORDERS") _ refl) refl;
  asks = λ values has out read. rw (has (codes "ORDERS") _ refl)
      (ap₂ (λ (c : Option (Text × Text)) (paths : List Text). option_map day (day_in c paths values)) (sym e) (sym f) ∙ ap (option_map day) read);
}

-- `carry` with its paths

abbrev carry_at : Text → Text → List Text → Text → Option Row
carry_at s i orders k = row_at k (path_row (codes "SEGMENT") s ∷ path_row (codes "IN") i ∷ paths_row (codes "ORDERS") orders ∷ [])

abbrev carry_gathered : Text → Text → List Text → Gathered
carry_gathered s i = gathered_of (orders_option 3 (max_order_files + 1)) (path_row (codes "SEGMENT") s ∷ path_row (codes "IN") i ∷ [])

three-walked : (s i o : Text) → IsPlain s → IsPlain i → IsPlain o → IsWalked carry_shape start (s ∷ i ∷ o ∷ []) (walked_over 3 (carry_gathered s i (o ∷ [])))
unfolding clap_on_literals
three-walked s i o p q r = record {
  comes_to = simp (p.no_hyphen, p.no_hyphens, q.no_hyphen, q.no_hyphens, r.no_hyphen, r.no_hyphens);
  passes = simp (p.no_hyphen, p.no_hyphens, q.no_hyphen, q.no_hyphens, r.no_hyphen, r.no_hyphens);
}

carry-walked : (s i o : Text) (rest : List Text) → IsPlain s → IsPlain i → ArePlain (o ∷ rest) → IsWalked carry_shape start (s ∷ i ∷ o ∷ rest) (walked_over 3 (carry_gathered s i (o ∷ rest)))
carry-walked s i o rest p q r =
    further carry_shape start (walked_over 3 (carry_gathered s i (o ∷ []))) (walked_over 3 (carry_gathered s i (o ∷ rest))) (s ∷ i ∷ o ∷ []) rest (three-walked s i o p q r.0)
    (more-walked carry_shape 3 (orders_option 3 (max_order_files + 1)) carry-orders (path_row (codes "SEGMENT") s ∷ path_row (codes "IN") i ∷ []) (o ∷ []) rest r.1)

carry-stands : (s i o : Text) (rest : List Text) → length (o ∷ rest) ≤ max_order_files + 1 → Stands carry_shape (carry_at s i (o ∷ rest)) (carry_gathered s i (o ∷ rest))
carry-stands s i o rest few = record { passes = orders-pass 3 (max_order_files + 1) o rest few; rows_are = λ k. refl }

-- with `--out`

carry-kept : (s i o out : Text) (rest : List Text) → length (o ∷ rest) ≤ max_order_files → IsPlain out
    → Steps carry_shape 3 (carry_gathered s i (o ∷ rest)) (codes "--out" ∷ out ∷ []) (with_row (file_option (codes "out")) (Some out) (carry_at s i (o ∷ rest)))
carry-kept s i o out rest few p =
    given carry_shape 3 (carry_gathered s i (o ∷ rest)) (carry_at s i (o ∷ rest)) (carry-stands s i o rest (omega (arith, few))) (codes "--out") (file_option (codes "out")) carry-out out p refl refl

out-paths : (d : AskedDay) (c : Text × Text) (o : Text) (rest : List Text) → d.carrying ≡ Some c → d.orders ≡ o ∷ rest → IsPlain d.segment → IsPlain c.0 → ArePlain (o ∷ rest) → IsPlain c.1
    → length (o ∷ rest) ≤ max_order_files → HasPaths (codes "carry") carry_shape (d.segment ∷ c.0 ∷ o ∷ (rest ++ codes "--out" ∷ c.1 ∷ [])) d
out-paths d c o rest e f p q r u few =
    let kept = carry-kept d.segment c.0 o c.1 rest few u in
    record {
      position = 3;
      gathered = kept.end;
      at = with_row (file_option (codes "out")) (Some c.1) (carry_at d.segment c.0 (o ∷ rest));
      is_walked = further carry_shape start (walked_over 3 (carry_gathered d.segment c.0 (o ∷ rest))) (walked_over 3 kept.end) (d.segment ∷ c.0 ∷ o ∷ rest) (codes "--out" ∷ c.1 ∷ [])
          (carry-walked d.segment c.0 o rest p q r) kept.is_walked;
      stands = kept.stands;
      answers = refl;
      trades = refl;
      events = refl;
      depth = refl;
      workers = refl;
      threads = refl;
      strict = refl;
      segment = refl;
      valid = λ values has. rw (has (codes "SEGMENT") _ refl, has (codes "IN") _ refl, has (codes "ORDERS") _ refl) refl;
      asks = λ values has out read. rw (has (codes "IN") _ refl, has (codes "out") _ refl, has (codes "ORDERS") _ refl)
          (ap₂ (λ (k : Option (Text × Text)) (paths : List Text). option_map day (day_in k paths values)) (sym e) (sym f) ∙ ap (option_map day) read);
    }

-- with OUT behind one order file

last-paths : (d : AskedDay) (c : Text × Text) (o : Text) → d.carrying ≡ Some c → d.orders ≡ o ∷ [] → IsPlain d.segment → IsPlain c.0 → IsPlain o → IsPlain c.1
    → HasPaths (codes "carry") carry_shape (d.segment ∷ c.0 ∷ o ∷ c.1 ∷ []) d
last-paths d c o e f p q r u = record {
  position = 3;
  gathered = carry_gathered d.segment c.0 (o ∷ c.1 ∷ []);
  at = carry_at d.segment c.0 (o ∷ c.1 ∷ []);
  is_walked = carry-walked d.segment c.0 o (c.1 ∷ []) p q (r, (u, tt));
  stands = carry-stands d.segment c.0 o (c.1 ∷ []) (omega arith);
  answers = refl;
  trades = refl;
  events = refl;
  depth = refl;
  workers = refl;
  threads = refl;
  strict = refl;
  segment = refl;
  valid = λ values has. rw (has (codes "SEGMENT") _ refl, has (codes "IN") _ refl, has (codes "ORDERS") _ refl) refl;
  asks = λ values has out read. rw (has (codes "IN") _ refl, out, has (codes "ORDERS") _ refl)
      (ap₂ (λ (k : Option (Text × Text)) (paths : List Text). option_map day (day_in k paths values)) (sym e) (sym f) ∙ ap (option_map day) read);
}

-- ---- the words of a day

-- what is said of the words of a day, where it goes on so, and has these order files
record AsksSo (words : List Text) (d : AskedDay) (carrying : Option (Text × Text)) (orders : List Text) : Type 0 where
  asks : AsksDay words d
  carrying_is : d.carrying ≡ carrying
  orders_are : d.orders ≡ orders
  paths_are : ArePaths asks.paths d.segment orders carrying
  segment : IsPlain d.segment
  from : is_plain_path (option_map (λ c. c.0) carrying) ≡ true
  plain_orders : ArePlain orders
  to : is_plain_path (option_map (λ c. c.1) carrying) ≡ true
  some : 1 ≤ length orders
  few : length orders ≤ max_order_files
  fine : IsFine d asks.workers asks.threads

-- the words that ask for a day are taken
taken-so : (words : List Text) (d : AskedDay) (carrying : Option (Text × Text)) (orders : List Text) → AsksSo words d carrying orders → IsTaken words (day d)
taken-so words d carrying [] is = let bad : 1 ≤ 0 = is.some in absurd (omega (arith, bad))
taken-so words d None (o ∷ rest) is =
    let asks = is.asks in
    let same : words ≡ asks.program ∷ codes "run" ∷ d.segment ∷ o ∷ (rest ++ options d asks.workers asks.threads) =
    asks.words_are ∙ ap (λ (paths : List Text). asks.program ∷ (paths ++ options d asks.workers asks.threads)) is.paths_are in
    rw same (taken-behind (codes "run") run_shape run-subcommand run-shape _ d (run-paths d o rest is.carrying_is is.orders_are is.segment is.plain_orders is.few) asks.workers asks.threads is.fine asks.program)
taken-so words d (Some c) (o ∷ rest) is = go rest is is.paths_are
  where
    go : (rest : List Text) (is : AsksSo words d (Some c) (o ∷ rest)) → ArePaths is.asks.paths d.segment (o ∷ rest) (Some c) → IsTaken words (day d)
    go rest is (inl paths) =
        let asks = is.asks in
        let same = asks.words_are ∙ ap (λ (paths : List Text). asks.program ∷ (paths ++ options d asks.workers asks.threads)) paths in
        rw same (taken-behind (codes "carry") carry_shape carry-subcommand carry-shape _ d
        (out-paths d c o rest is.carrying_is is.orders_are is.segment (plain c.0 is.from) is.plain_orders (plain c.1 is.to) is.few) asks.workers asks.threads is.fine asks.program)
    go [] is (inr paths) =
        let asks = is.asks in
        let same = asks.words_are ∙ ap (λ (paths : List Text). asks.program ∷ (paths ++ options d asks.workers asks.threads)) paths.1 in
        rw same (taken-behind (codes "carry") carry_shape carry-subcommand carry-shape _ d
        (last-paths d c o is.carrying_is is.orders_are is.segment (plain c.0 is.from) is.plain_orders.0 (plain c.1 is.to)) asks.workers asks.threads is.fine asks.program)
    go (second ∷ rest) is (inr paths) = let bad = paths.0 in absurd (omega (arith, bad))

-- order files that are taken as they stand, and more paths
plain-orders : (orders : List Text) (more : List (Option Text)) → list_all is_plain_path (map Some orders ++ more) ≡ true → ArePlain orders × (list_all is_plain_path more ≡ true)
plain-orders [] more h = (tt, h)
plain-orders (path ∷ orders) more h =
    let now = both _ _ h in
    let rest = plain-orders orders more now.1 in
    ((plain path now.0, rest.0), rest.1)

files-are : (orders : List Text) → 1 ≤ length orders → length orders ≤ max_order_files → order_files orders ≡ Some orders
files-are orders some few = rw (le-leb 1 (length orders) some, le-leb (length orders) max_order_files few) refl

-- ---- the words of an auction

abbrev auction_shape : Shape
auction_shape = unwrap_or (slice_get (built day_app).subs 3) day_app.top

abbrev security_option : Rule
security_option = filled (required_rule (codes "security"))

abbrev csv_option : Rule
csv_option = filled (flag_rule (codes "csv"))

auction-subcommand : IsSubcommand (codes "auction") auction_shape
unfolding clap_on_literals
auction-subcommand = record { stops = refl; passes = refl; level = λ behind. refl; enters = λ behind. refl }

auction-orders : IsSeveral auction_shape 2 (orders_option 2 max_order_files)
auction-orders = record { by_index = refl; is_itself = refl; several = refl; no_trailing = refl }

auction-security : IsOption auction_shape (codes "--security") security_option
auction-security = option-of auction_shape (codes "--security") (codes "security") security_option refl refl refl refl refl refl refl refl

auction-record : IsOption auction_shape (codes "--record") (file_option (codes "record"))
auction-record = option-of auction_shape (codes "--record") (codes "record") (file_option (codes "record")) refl refl refl refl refl refl refl refl

abbrev auction-csv : IsFlag auction_shape (codes "--csv") csv_option
auction-csv = flag-of auction_shape (codes "--csv") (codes "csv") csv_option refl refl refl refl refl refl refl (codes "true") refl refl

auction-two : (s o : Text) → IsPlain s → IsPlain o → IsWalked auction_shape start (s ∷ o ∷ []) (walked_over 2 (run_gathered s (o ∷ [])))
unfolding clap_on_literals
auction-two s o p q = record { comes_to = simp (p.no_hyphen, p.no_hyphens, q.no_hyphen, q.no_hyphens); passes = simp (p.no_hyphen, p.no_hyphens, q.no_hyphen, q.no_hyphens) }

auction-walked : (s o : Text) (rest : List Text) → IsPlain s → ArePlain (o ∷ rest) → IsWalked auction_shape start (s ∷ o ∷ rest) (walked_over 2 (run_gathered s (o ∷ rest)))
auction-walked s o rest p q =
    further auction_shape start (walked_over 2 (run_gathered s (o ∷ []))) (walked_over 2 (run_gathered s (o ∷ rest))) (s ∷ o ∷ []) rest (auction-two s o p q.0)
    (more-walked auction_shape 2 (orders_option 2 max_order_files) auction-orders (path_row (codes "SEGMENT") s ∷ []) (o ∷ []) rest q.1)

auction-stands : (s o : Text) (rest : List Text) → length (o ∷ rest) ≤ max_order_files → Stands auction_shape (run_at s (o ∷ rest)) (run_gathered s (o ∷ rest))
auction-stands s o rest few = record { passes = orders-pass 2 max_order_files o rest few; rows_are = λ k. refl }

auction-carry : IsOption auction_shape (codes "--carry") (file_option (codes "carry"))
auction-carry = option-of auction_shape (codes "--carry") (codes "carry") (file_option (codes "carry")) refl refl refl refl refl refl refl refl

abbrev auction_options : AskedAuction → Option Text → List Text
auction_options a text =
    option_words (codes "--security") (Some a.security) ++ (option_words (codes "--record") text ++ (option_words (codes "--carry") a.carried ++ (if is_csv a.form then codes "--csv" ∷ [] else [])))

module _ (a : AskedAuction) (o : Text) (rest : List Text) (text : Option Text) (orders_are : a.orders ≡ o ∷ rest) (segment : IsPlain a.segment) (orders : ArePlain (o ∷ rest)) (security : IsPlain a.security)
    (plain_text : is_plain_path text ≡ true) (plain_carried : is_plain_path a.carried ≡ true) (few : length (o ∷ rest) ≤ max_order_files) (at_is : record_of text ≡ Some a.at) where
  abbrev auction_end : Text → Option Row
  auction_end =
      with_row csv_option (if is_csv a.form then Some auction-csv.value else None) (with_row (file_option (codes "carry")) a.carried
      (with_row (file_option (codes "record")) text (with_row security_option (Some a.security) (run_at a.segment (o ∷ rest)))))

  auction-steps : Steps auction_shape 2 (run_gathered a.segment (o ∷ rest)) (auction_options a text) auction_end
  auction-steps =
      let n = given auction_shape 2 (run_gathered a.segment (o ∷ rest)) (run_at a.segment (o ∷ rest)) (auction-stands a.segment o rest few) (codes "--security") security_option auction-security a.security security refl refl in
      let r = step 2 text n.stands auction-record refl (plain-file (codes "record") text plain_text) in
      let k = step 2 a.carried r.stands auction-carry refl (plain-file (codes "carry") a.carried plain_carried) in
      let f = flag-step 2 (is_csv a.form) k.stands auction-csv refl in
      and-then n (and-then r (and-then k f))

  abbrev auction_values : List Row
  auction_values = finished auction_shape.rules (walked_over 2 auction-steps.end).held

  auction-at : (k : Text) → row_at k auction_values ≡ or_else (auction_end k) (default_of auction_shape k)
  auction-at k =
      defaults-at k auction_shape.rules (rows_in auction_shape auction-steps.end) ∙ ap (λ (o : Option Row). fold (or_default k) o auction_shape.rules) (auction-steps.stands.rows_are k) ∙ default-else k auction_shape.rules (auction_end k)

  number-read : (t : Option Text) → text ≡ t → first_of (codes "record") auction_values ≡ t
  number-read None e = rw (auction-at (codes "record"), e) refl
  number-read (Some path) e = rw (auction-at (codes "record"), e) refl

  carried-read : (t : Option Text) → a.carried ≡ t → first_of (codes "carry") auction_values ≡ t
  carried-read None e = rw (auction-at (codes "carry"), e) refl
  carried-read (Some path) e = rw (auction-at (codes "carry"), e) refl

  form-read : (form : Form) → a.form ≡ form → form_in auction_values ≡ form
  form-read Plain e = rw (auction-at (codes "csv"), e) refl
  form-read Csv e = rw (auction-at (codes "csv"), e) refl

  auction-read : auction_in auction_values ≡ Some a
  auction-read =
      rw (
        auction-at (codes "SEGMENT"),
        auction-at (codes "ORDERS"),
        auction-at (codes "security"),
        number-read text refl,
        carried-read a.carried refl,
        at_is,
        form-read a.form refl,
        files-are (o ∷ rest) (omega arith) few,
        sym orders_are,
      ) refl

  taken-auction : (program : Text) → IsTaken (program ∷ codes "auction" ∷ a.segment ∷ o ∷ (rest ++ auction_options a text)) (auction a)
  taken-auction program =
      taken-by (codes "auction") auction_shape auction-subcommand program (a.segment ∷ o ∷ (rest ++ auction_options a text)) (walked_over 2 auction-steps.end) (auction a)
      (further auction_shape start (walked_over 2 (run_gathered a.segment (o ∷ rest))) (walked_over 2 auction-steps.end) (a.segment ∷ o ∷ rest) (auction_options a text) (auction-walked a.segment o rest segment orders) auction-steps.is_walked)
      (both-true _ _ auction-steps.stands.passes (both-true _ _ refl (rw (auction-at (codes "SEGMENT"), auction-at (codes "ORDERS"), auction-at (codes "security")) refl)))
      (ap (option_map auction) auction-read)

-- the same, whatever its order files are
taken-of : (words : List Text) (a : AskedAuction) → AsksAuction words a → (paths : List Text) → a.orders ≡ paths → ArePlain paths → 1 ≤ length paths → length paths ≤ max_order_files → IsPlain a.segment → IsPlain a.security → IsTaken words (auction a)
taken-of words a asks [] e plain_orders some few s n = let bad : 1 ≤ 0 = some in absurd (omega (arith, bad))
taken-of words a asks (o ∷ rest) e plain_orders some few s n =
    let after = both _ _ asks.are_plain in
    let security = both _ _ after.1 in
    let number = both _ _ security.1 in
    let carried = both _ _ number.1 in
    let same : words ≡ asks.program ∷ codes "auction" ∷ a.segment ∷ o ∷ (rest ++ auction_options a asks.record_text) =
    asks.words_are ∙ ap (λ (paths : List Text). asks.program ∷ codes "auction" ∷ a.segment ∷ (paths ++ auction_options a asks.record_text)) e in
    rw same (taken-auction a o rest asks.record_text e s plain_orders n number.0 carried.0 few asks.record_is asks.program)

-- ---- the words of an explanation

abbrev explain_shape : Shape
explain_shape = unwrap_or (slice_get (built day_app).subs 4) day_app.top

explain-subcommand : IsSubcommand (codes "explain") explain_shape
unfolding clap_on_literals
explain-subcommand = record { stops = refl; passes = refl; level = λ behind. refl; enters = λ behind. refl }

explain-orders : IsSeveral explain_shape 2 (orders_option 2 max_order_files)
explain-orders = record { by_index = refl; is_itself = refl; several = refl; no_trailing = refl }

explain-carry : IsOption explain_shape (codes "--carry") (file_option (codes "carry"))
explain-carry = option-of explain_shape (codes "--carry") (codes "carry") (file_option (codes "carry")) refl refl refl refl refl refl refl refl

explain-two : (s o : Text) → IsPlain s → IsPlain o → IsWalked explain_shape start (s ∷ o ∷ []) (walked_over 2 (run_gathered s (o ∷ [])))
unfolding clap_on_literals
explain-two s o p q = record { comes_to = simp (p.no_hyphen, p.no_hyphens, q.no_hyphen, q.no_hyphens); passes = simp (p.no_hyphen, p.no_hyphens, q.no_hyphen, q.no_hyphens) }

explain-walked : (s o : Text) (rest : List Text) → IsPlain s → ArePlain (o ∷ rest) → IsWalked explain_shape start (s ∷ o ∷ rest) (walked_over 2 (run_gathered s (o ∷ rest)))
explain-walked s o rest p q =
    further explain_shape start (walked_over 2 (run_gathered s (o ∷ []))) (walked_over 2 (run_gathered s (o ∷ rest))) (s ∷ o ∷ []) rest (explain-two s o p q.0)
    (more-walked explain_shape 2 (orders_option 2 max_order_files) explain-orders (path_row (codes "SEGMENT") s ∷ []) (o ∷ []) rest q.1)

explain-stands : (s o : Text) (rest : List Text) → length (o ∷ rest) ≤ max_order_files → Stands explain_shape (run_at s (o ∷ rest)) (run_gathered s (o ∷ rest))
explain-stands s o rest few = record { passes = orders-pass 2 max_order_files o rest few; rows_are = λ k. refl }

module _ (x : AskedExplanation) (o : Text) (rest : List Text) (orders_are : x.orders ≡ o ∷ rest) (segment : IsPlain x.segment) (orders : ArePlain (o ∷ rest)) (plain_carried : is_plain_path x.carried ≡ true)
    (few : length (o ∷ rest) ≤ max_order_files) where
  abbrev explain_end : Text → Option Row
  explain_end = with_row (file_option (codes "carry")) x.carried (run_at x.segment (o ∷ rest))

  explain-steps : Steps explain_shape 2 (run_gathered x.segment (o ∷ rest)) (option_words (codes "--carry") x.carried) explain_end
  explain-steps = step 2 x.carried (explain-stands x.segment o rest few) explain-carry refl (plain-file (codes "carry") x.carried plain_carried)

  abbrev explain_values : List Row
  explain_values = finished explain_shape.rules (walked_over 2 explain-steps.end).held

  explain-at : (k : Text) → row_at k explain_values ≡ or_else (explain_end k) (default_of explain_shape k)
  explain-at k =
      defaults-at k explain_shape.rules (rows_in explain_shape explain-steps.end) ∙ ap (λ (o : Option Row). fold (or_default k) o explain_shape.rules) (explain-steps.stands.rows_are k) ∙ default-else k explain_shape.rules (explain_end k)

  earlier-read : (t : Option Text) → x.carried ≡ t → first_of (codes "carry") explain_values ≡ t
  earlier-read None e = rw (explain-at (codes "carry"), e) refl
  earlier-read (Some path) e = rw (explain-at (codes "carry"), e) refl

  explanation-read : explanation_in explain_values ≡ Some x
  explanation-read =
      rw (
        explain-at (codes "SEGMENT"),
        explain-at (codes "ORDERS"),
        earlier-read x.carried refl,
        files-are (o ∷ rest) (omega arith) few,
        sym orders_are,
      ) refl

  taken-explanation : (program : Text) → IsTaken (program ∷ codes "explain" ∷ x.segment ∷ o ∷ (rest ++ option_words (codes "--carry") x.carried)) (explanation x)
  taken-explanation program =
      taken-by (codes "explain") explain_shape explain-subcommand program (x.segment ∷ o ∷ (rest ++ option_words (codes "--carry") x.carried)) (walked_over 2 explain-steps.end) (explanation x)
      (further explain_shape start (walked_over 2 (run_gathered x.segment (o ∷ rest))) (walked_over 2 explain-steps.end) (x.segment ∷ o ∷ rest) (option_words (codes "--carry") x.carried)
      (explain-walked x.segment o rest segment orders) explain-steps.is_walked)
      (both-true _ _ explain-steps.stands.passes (both-true _ _ refl (rw (explain-at (codes "SEGMENT"), explain-at (codes "ORDERS")) refl)))
      (ap (option_map explanation) explanation-read)

-- the same, whatever its order files are
explained-of : (words : List Text) (x : AskedExplanation) → AsksExplanation words x → (paths : List Text) → x.orders ≡ paths → ArePlain paths → 1 ≤ length paths → length paths ≤ max_order_files → IsPlain x.segment → is_plain_path x.carried ≡ true
    → IsTaken words (explanation x)
explained-of words x asks [] e plain_orders some few s c = let bad : 1 ≤ 0 = some in absurd (omega (arith, bad))
explained-of words x asks (o ∷ rest) e plain_orders some few s c =
    let same : words ≡ asks.program ∷ codes "explain" ∷ x.segment ∷ o ∷ (rest ++ option_words (codes "--carry") x.carried) =
    asks.words_are ∙ ap (λ (paths : List Text). asks.program ∷ codes "explain" ∷ x.segment ∷ (paths ++ option_words (codes "--carry") x.carried)) e in
    rw same (taken-explanation x o rest e s plain_orders c few asks.program)

-- the words that ask for it are taken
pub taken : (words : List Text) (asked : Asked) → Asks words asked → IsTaken words asked
taken words (day d) asks =
    let segment = both _ _ asks.are_plain in
    let from = both _ _ segment.1 in
    let orders = plain-orders d.orders (outputs d) from.1 in
    let answers = both _ _ orders.1 in
    let trades = both _ _ answers.1 in
    let events = both _ _ trades.1 in
    let depth = both _ _ events.1 in
    let to = both _ _ depth.1 in
    taken-so words d d.carrying d.orders (record {
      asks = asks;
      carrying_is = refl;
      orders_are = refl;
      paths_are = asks.paths_are;
      segment = plain d.segment segment.0;
      from = from.0;
      plain_orders = orders.0;
      to = to.0;
      some = asks.are_so_many.0;
      few = asks.are_so_many.1;
      fine = record {
        answers = answers.0;
        trades = trades.0;
        events = events.0;
        depth = depth.0;
        workers = asks.are_counts.0;
        threads = asks.are_counts.1;
        concurrency = asks.concurrency_is;
        can = asks.is_writable;
        files = files-are d.orders asks.are_so_many.0 asks.are_so_many.1;
      };
    })
taken words (check segment) asks = rw asks.words_are (taken-check asks.program segment (plain segment asks.segment_is_plain))
taken words (auction a) asks =
    let segment = both _ _ asks.are_plain in
    let security = both _ _ segment.1 in
    let number = both _ _ security.1 in
    let carried = both _ _ number.1 in
    let orders = plain-orders a.orders [] (rw (append-nil (map Some a.orders)) carried.1) in
    taken-of words a asks a.orders refl orders.0 asks.are_so_many.0 asks.are_so_many.1 (plain a.segment segment.0) (plain a.security security.0)
taken words (explanation x) asks =
    let segment = both _ _ asks.are_plain in
    let carried = both _ _ segment.1 in
    let orders = plain-orders x.orders [] (rw (append-nil (map Some x.orders)) carried.1) in
    explained-of words x asks x.orders refl orders.0 asks.are_so_many.0 asks.are_so_many.1 (plain x.segment segment.0) carried.0

-- what matches of these words meet, the words ask for
pub asked-met : (m : ArgMatches) (words : List Text) (app : App) (met : Option Request) → app ≡ day_app → HasMatchesOf app words m → Meets (asked_in (subcommand_rows_of m)) met → (o : Option Request) → met ≡ o → Meets (asked_of words) o
asked-met m words app met is matched meets o e =
    let of_day = subst (λ (a : App). HasMatchesOf a words m) is matched in
    subst (Meets (asked_of words)) e (subst (λ (rows : Option (Text × List Row)). Meets (asked_in rows) met) ((of_day refl).1) meets)

pub unasked : {P : Type 0} (asked : Option Asked) → asked ≡ None → IsSome asked → P
unasked asked none some = let no : false ≡ true = rw none at some in absurd (cc)

-- where there is no fault, said of the command line that a command has
pub no_fault : (app : App) (words : List Text) → app ≡ day_app → (is_simple_and_free app ≡ true → fault_of app words ≡ []) → fault_of day_app words ≡ []
no_fault app words e h = let k = rw e at h in k refl

-- where there is one
pub fault-met : (app : App) (words : List Text) (error : Error) → app ≡ day_app → (is_simple_and_free app ≡ true → HasKind (fault_of app words) error) → HasKind (fault_of day_app words) error
fault-met app words error e h = let k = rw e at h in k refl

pub of_words : (faults : Kinds) (asked : Option Asked) (error : Error) → HasKind faults error → IsOfWords faults asked error
of_words faults asked error (inl memory) = inl memory
of_words faults asked error (inr fault) = inr (inl fault)

-- an error of another text, and of the same kind, is of the same words
pub of_kind : (faults : Kinds) (asked : Option Asked) (error told : Error) → kind_of told ≡ kind_of error → IsOfWords faults asked error → IsOfWords faults asked told
of_kind faults asked error told is of = rw is of

-- help or the version is among the faults of words that are answered with it
among : (faults : Kinds) (asked : Option Asked) (error : Error) → (kind_of error ≡ kind.DisplayHelp) ⊎ (kind_of error ≡ kind.DisplayVersion) → IsOfWords faults asked error → IsAmong (kind_of error) faults
among faults asked error is (inr (inl fault)) = fault
among faults asked error (inl help) (inl memory) = let bad : kind.DisplayHelp ≡ kind.OutOfMemory = sym help ∙ memory in absurd (cc)
among faults asked error (inr version) (inl memory) = let bad : kind.DisplayVersion ≡ kind.OutOfMemory = sym version ∙ memory in absurd (cc)
among faults asked error (inl help) (inr (inr none)) = let bad : false ≡ true = ap is_mistake (sym help) ∙ none.0 in absurd (cc)
among faults asked error (inr version) (inr (inr none)) = let bad : false ≡ true = ap is_mistake (sym version) ∙ none.0 in absurd (cc)

-- what the answer to an error of the words is
pub answered : (faults : Kinds) (asked : Option Asked) (error : Error) → IsOfWords faults asked error → AnswersWords faults asked (answer_of error)
answered faults asked error of = go (kind_of error) refl
  where
    go : (k : ErrorKind) → kind_of error ≡ k → AnswersWords faults asked (answer_at error k)
    go kind.DisplayHelp e = (rw e refl, among faults asked error (inl e) of)
    go kind.DisplayVersion e = (rw e refl, among faults asked error (inr e) of)
    go kind.OutOfMemory e = refl
    go _ e = of

-- what holds of the error that a result was made of
pub err_from : {A : Type 0} (r : Result A Error) (v : Error) (P : Error → Type 0) → IsErrAnd r (λ e. e ≡ v) → P v → IfErr r P
err_from (Ok a) v P h p = tt
err_from (Err e) v P h p = rw h p

-- what was asked for is the answer to words without a fault
pub requested : (faults : Kinds) (asked : Option Asked) (request : Request) → faults ≡ [] → IsRequest asked request → AnswersWords faults asked (Ok request)
requested faults asked (request.Day d) none is = (none, is)
requested faults asked (Check segment) none is = (none, is)
requested faults asked (request.Auction a) none is = (none, is)
requested faults asked (request.Explanation x) none is = (none, is)
requested faults asked (Help error) none is = absurd is
