-- How the words of a command line are answered.
use Rattle.std.specs.Prelude.{◌≡◌, ◌≤◌, ◌==◌, ◌+◌, ℕ, pos, Bool, false, true, ◌&&◌, ◌||◌, not, if◌then◌else◌, ◌⊎◌, List, [], ◌∷◌, ◌++◌, length, map, nat_le, Option, Some, None, IfSome, is_some, Result, Ok, Err, ⊤, codes, option_and_then, option_map, unwrap_or}
use Rattle.std.specs.Fmt.{decimal}
use Rattle.std.specs.List.{list_all, list_any}
use Rattle.std.specs.Str.{bytes_eq}
use Rattle.std.specs.Str.Parse.{digits_value, without_leading_plus}
use Rattle.clap.specs.Values.{kind_of}
use Rattle.clap.specs.ValueTests.{is_unsigned_in}
use Rattle.clap.specs.Words.{App, IsAmong, Kinds, Row, Rule, Text, all_of, first_of, new_app, new_rule, one_of, subcommand_of, with_rule, with_subcommand}
use Rattle.clap.specs.Simple.{on_top}
use Rattle.clap.specs.declared.builder.action.ArgAction.TheVariants.{Append, Set, SetTrue}
use Rattle.clap.specs.declared.builder.value_parser.ValueParser.TheVariants.{Signed}
use Rattle.clap.specs.declared.error.Error.{Error}
use Rattle.clap.specs.declared.error.kind.ErrorKind.{ErrorKind}
use Rattle.clap.specs.declared.error.kind.ErrorKind.TheVariants as kind
use Rattle.std_io.specs.declared.io.kind.ErrorKind.{ErrorKind as ReadKind}
use Rattle.std_io.specs.declared.io.kind.ErrorKind.TheVariants as reading
use Rattle.xm_files.specs.declared.order_files.TheConstants.{MAX_FILES}
use Rattle.xm_files.specs.Rows.{whole_of}
use Rattle.xm_replay.specs.declared.faults.DayFault.TheVariants.{OutOfMemory}
use Rattle.xm_texts.specs.declared.asked.AskedTexts.{AskedTexts}
use Rattle.xm_config.specs.Opening.{max_workers}
use Rattle.xm_program.specs.declared.concurrency.Concurrency.{Concurrency}
use Rattle.xm_program.specs.declared.concurrency.Concurrency.TheVariants.{Threads, Workers}
use Rattle.xm_program.specs.Outcomes.{outcome_status}
use Rattle.xm_calls.specs.declared.asked.CallsAsked.{CallsAsked}
use Rattle.xm_calls.specs.declared.asked.Form.{Form}
use Rattle.xm_calls.specs.declared.asked.Form.TheVariants.{Csv, Plain}
use Rattle.xm_program.specs.declared.outcome.Outcome.{Outcome}
use Rattle.xm_program.specs.declared.outcome.Strictness.{Strictness}
use Rattle.xm_program.specs.declared.outcome.Strictness.TheVariants.{Lenient, Strict}
use Rattle.xm_program.specs.declared.requests.Request.{Request}
use Rattle.xm_program.specs.declared.requests.Request.TheVariants as request
use Rattle.xm_program.specs.declared.requests.Request.TheVariants.{Check, Help}
use Rattle.xm_program.specs.declared.requests.AuctionRequest.{AuctionRequest}
use Rattle.xm_program.specs.declared.requests.Carrying.{Carrying}
use Rattle.xm_program.specs.declared.requests.DayRequest.{DayRequest}
use Rattle.xm_program.specs.declared.requests.ExplanationRequest.{ExplanationRequest}
use Rattle.xm_program.specs.declared.requests.Failure.{Failure}
use Rattle.xm_program.specs.declared.requests.Failure.TheVariants.{Day, Words}

-- ---- the command line

-- an argument that has to be given, with one value
abbrev pub path_rule : Text → Rule
path_rule id = record (new_rule id) { required = true; action = Some Set }

-- so many order files a day has at most
abbrev pub max_order_files : ℕ
max_order_files = MAX_FILES

-- one that has to be given, with so many values at most, one behind the other
abbrev pub paths_rule : Text → ℕ → Rule
paths_rule id most = record (new_rule id) {
  required = true;
  action = Some Append;
  range = Some (record { start_inclusive = 1; end_inclusive = most });
}

-- `--workers N` or `--threads N`, a number from 1 on, which may be left out
abbrev pub count_rule : Text → Rule
count_rule id = record (new_rule id) {
  long = Some id;
  action = Some Set;
  value_names = 1;
  parser = Some (Signed (pos 1) (pos max_workers));
}

-- `--workers N`, which is 1 where the words give none
abbrev pub workers_rule : Rule
workers_rule = record (count_rule (codes "workers")) { defaults = codes "1" ∷ [] }

-- `--answers FILE`, `--trades FILE`, `--events FILE`, `--depth FILE` or `--out OUT`, which may be left out
abbrev pub file_rule : Text → Rule
file_rule id = record (new_rule id) { long = Some id; action = Some Set; value_names = 1 }

-- `--strict`, which may be left out, and has no value
abbrev pub flag_rule : Text → Rule
flag_rule id = record (new_rule id) { long = Some id; action = Some SetTrue }

-- how the rows of a day are taken, the texts beside its statement, and how it is judged: `--workers N --threads N --answers FILE
-- --trades FILE --events FILE --depth FILE --strict`
abbrev pub with_options : App → App
with_options app =
    with_rule (with_rule (with_rule (with_rule (with_rule (with_rule (with_rule app workers_rule) (count_rule (codes "threads")))
    (file_rule (codes "answers"))) (file_rule (codes "trades"))) (file_rule (codes "events"))) (file_rule (codes "depth"))) (flag_rule (codes "strict"))

-- `run SEGMENT ORDERS...`, with these options
abbrev pub run_app : App
run_app = with_options (with_rule (with_rule (new_app (codes "run")) (path_rule (codes "SEGMENT"))) (paths_rule (codes "ORDERS") max_order_files))

-- `carry SEGMENT IN ORDERS... --out OUT`, with the same: where `--out` is left out, OUT is the last of ORDERS
abbrev pub carry_app : App
carry_app =
    with_options (with_rule (with_rule (with_rule (with_rule (new_app (codes "carry")) (path_rule (codes "SEGMENT"))) (path_rule (codes "IN")))
    (paths_rule (codes "ORDERS") (max_order_files + 1))) (file_rule (codes "out")))

-- `check SEGMENT`
abbrev pub check_app : App
check_app = with_rule (new_app (codes "check")) (path_rule (codes "SEGMENT"))

-- `--security NAME`, which has to be given
abbrev pub required_rule : Text → Rule
required_rule id = record (file_rule id) { required = true }

-- `SEGMENT ORDERS... --carry IN`: the files of a day, of which the carry file may be left out
abbrev pub with_day_files : App → App
with_day_files app = with_rule (with_rule (with_rule app (path_rule (codes "SEGMENT"))) (paths_rule (codes "ORDERS") max_order_files)) (file_rule (codes "carry"))

-- `auction` with these, `--security NAME`, `--record N` and `--csv`
abbrev pub auction_app : App
auction_app =
    with_rule (with_rule (with_rule (with_day_files (new_app (codes "auction"))) (required_rule (codes "security"))) (file_rule (codes "record"))) (flag_rule (codes "csv"))

-- `explain` with these
abbrev pub explain_app : App
explain_app = with_day_files (new_app (codes "explain"))

-- `xetra-day` without its subcommands, of which one has to be given
abbrev pub top_app : App
top_app = on_top (λ s. record s { has_version = true; subcommand_required = true; arg_required_else_help = true }) (new_app (codes "xetra-day"))

-- `xetra-day`, with a subcommand
abbrev pub day_app : App
day_app =
    with_subcommand (with_subcommand (with_subcommand (with_subcommand (with_subcommand top_app run_app.top) carry_app.top) check_app.top) auction_app.top)
    explain_app.top

-- ---- what the words ask for

-- a day, by the paths of its files
pub record AskedDay : Type 0 where
  pub segment : Text
  -- of its order files, one after the other
  pub orders : List Text
  -- of a day that goes on from earlier ones: the carry file of what these left, and the one that gets what it leaves
  pub carrying : Option (Text × Text)
  -- how its rows are taken
  pub concurrency : Concurrency
  -- the texts beside its statement, as far as they are asked for
  pub answers : Option Text
  pub trades : Option Text
  pub events : Option Text
  pub depth : Option Text
  -- whether the status tells that it is incomplete
  pub strictness : Strictness

-- what is wrong with the files of a day, by their paths
pub record AskedExplanation : Type 0 where
  pub segment : Text
  pub orders : List Text
  -- the carry file that the day opens with, if it opens with one
  pub carried : Option Text

-- the calls of a security, by the paths of the files of its day
pub record AskedAuction : Type 0 where
  pub segment : Text
  pub orders : List Text
  pub carried : Option Text
  -- its name
  pub security : Text
  -- the record at which its call is told, or none, where each end of a call is
  pub at : Option ℕ
  pub form : Form

-- which calls of it are told, and how
abbrev pub calls_asked : AskedAuction → CallsAsked
calls_asked a = record { at = a.at; form = a.form }

-- a day, the check of a segment file, the calls of a security, or what is wrong with files
pub data Asked : Type 0 where
  day : AskedDay → Asked
  check : Text → Asked
  auction : AskedAuction → Asked
  explanation : AskedExplanation → Asked

-- a number of workers or of threads, by its decimal digits
abbrev pub count_in : Text → Option ℕ
count_in text = if is_unsigned_in 1 max_workers text then Some (digits_value 10 (without_leading_plus text)) else None

-- how so many workers take the rows, on so many threads where the words say it: one worker in the order of the file, several side by
-- side, each on one thread
abbrev pub concurrency_of : ℕ → Option ℕ → Option Concurrency
concurrency_of workers threads = if workers == 1 then Some (Threads threads) else (if unwrap_or threads 1 == 1 then Some (Workers workers) else None)

-- on how many threads, if the words say it
abbrev pub threads_in : List Row → Option (Option ℕ)
threads_in rows =
    if is_some (first_of (codes "threads") rows) then option_map Some (option_and_then count_in (one_of (codes "threads") rows)) else Some None

-- how rows are taken, by these values
abbrev pub concurrency_in : List Row → Option Concurrency
concurrency_in rows =
    option_and_then (λ workers. option_and_then (concurrency_of workers) (threads_in rows))
    (option_and_then count_in (one_of (codes "workers") rows))

-- the value of a flag says that it was given
abbrev pub is_given : Option Text → Bool
is_given None = false
is_given (Some value) = bytes_eq value (codes "true")

-- how a day is judged, by these values
abbrev pub strictness_in : List Row → Strictness
strictness_in rows = if is_given (first_of (codes "strict") rows) then Strict else Lenient

-- a path is not that of standard output
abbrev pub is_file : Option Text → Bool
is_file None = true
is_file (Some path) = not (bytes_eq path (codes "-"))

abbrev pub is_one_path : Option Text → Option Text → Bool
is_one_path (Some first) (Some second) = bytes_eq first second
is_one_path _ _ = false

-- no two of these paths are the same, and none is standard output
abbrev pub are_apart : List (Option Text) → Bool
are_apart [] = true
are_apart (path ∷ paths) = is_file path && (not (list_any (is_one_path path) paths) && are_apart paths)

-- the files that a day is written to beside standard output, in the order in which they are
abbrev pub outputs : AskedDay → List (Option Text)
outputs d = d.answers ∷ d.trades ∷ d.events ∷ d.depth ∷ option_map (λ c. c.1) d.carrying ∷ []

-- the files that it is read from
abbrev pub inputs : AskedDay → List (Option Text)
inputs d = Some d.segment ∷ option_map (λ c. c.0) d.carrying ∷ map Some d.orders

-- the texts beside its statement that are asked for
abbrev pub asked_texts : AskedDay → AskedTexts
asked_texts d = record { answers = is_some d.answers; trades = is_some d.trades; events = is_some d.events; depth = is_some d.depth }

-- these are told of rows in the order of the file
abbrev pub can_tell : Concurrency → AskedTexts → Bool
can_tell (Threads threads) asked = true
can_tell (Workers workers) asked = not (asked.answers || (asked.trades || (asked.events || asked.depth)))

-- the day can be written
abbrev pub can_write : AskedDay → Bool
can_write d = can_tell d.concurrency (asked_texts d) && are_apart (outputs d)

abbrev pub written : AskedDay → Option AskedDay
written d = if can_write d then Some d else None

-- the paths of a day's order files, if they are not too many, and there is one
abbrev pub order_files : List Text → Option (List Text)
order_files paths = if nat_le 1 (length paths) && nat_le (length paths) max_order_files then Some paths else None

-- the day of these order files that these values ask for, which goes on so from earlier ones
abbrev pub day_in : Option (Text × Text) → List Text → List Row → Option AskedDay
day_in carrying paths rows =
    option_and_then (λ segment. option_and_then (λ orders. option_and_then (λ concurrency. written (record {
      segment = segment;
      orders = orders;
      carrying = carrying;
      concurrency = concurrency;
      answers = first_of (codes "answers") rows;
      trades = first_of (codes "trades") rows;
      events = first_of (codes "events") rows;
      depth = first_of (codes "depth") rows;
      strictness = strictness_in rows;
    })) (concurrency_in rows)) (order_files paths)) (first_of (codes "SEGMENT") rows)

-- the paths that these values have for ORDERS
abbrev pub paths_in : List Row → List Text
paths_in rows = unwrap_or (all_of (codes "ORDERS") rows) []

-- the day of the order files that these values name
abbrev pub run_day_in : List Row → Option AskedDay
run_day_in rows = day_in None (paths_in rows) rows

-- the order files among these paths, and the carry file of the next day: that of `--out`, or else the second of two paths
abbrev pub kept_in : Option Text → List Text → Option (List Text × Text)
kept_in (Some out) paths = Some (paths, out)
kept_in None (orders ∷ out ∷ []) = Some (orders ∷ [], out)
kept_in None _ = None

-- the same of a day that goes on from earlier ones by the carry files that these values name
abbrev pub carried_day_in : List Row → Option AskedDay
carried_day_in rows =
    option_and_then (λ from. option_and_then (λ kept. day_in (Some (from, kept.1)) kept.0 rows)
    (kept_in (first_of (codes "out") rows) (paths_in rows))) (first_of (codes "IN") rows)

-- the record at which a call is told, if these values say it, by its number
abbrev pub record_of : Option Text → Option (Option ℕ)
record_of None = Some None
record_of (Some text) = option_map Some (whole_of text)

abbrev pub form_in : List Row → Form
form_in rows = if is_given (first_of (codes "csv") rows) then Csv else Plain

-- the calls of a security that these values ask for
abbrev pub auction_in : List Row → Option AskedAuction
auction_in rows =
    option_and_then (λ segment. option_and_then (λ orders. option_and_then (λ security. option_map (λ at. record {
      segment = segment;
      orders = orders;
      carried = first_of (codes "carry") rows;
      security = security;
      at = at;
      form = form_in rows;
    }) (record_of (first_of (codes "record") rows))) (first_of (codes "security") rows)) (order_files (paths_in rows))) (first_of (codes "SEGMENT") rows)

-- what is wrong with the files that these values name
abbrev pub explanation_in : List Row → Option AskedExplanation
explanation_in rows =
    option_and_then (λ segment. option_map (λ orders. record { segment = segment; orders = orders; carried = first_of (codes "carry") rows }) (order_files (paths_in rows)))
    (first_of (codes "SEGMENT") rows)

abbrev pub asked_in : Option (Text × List Row) → Option Asked
asked_in None = None
asked_in (Some p) =
    if bytes_eq p.0 (codes "run")
    then option_map day (run_day_in p.1)
    else (if bytes_eq p.0 (codes "carry")
    then option_map day (carried_day_in p.1)
    else (if bytes_eq p.0 (codes "check")
    then option_map check (first_of (codes "SEGMENT") p.1)
    else (if bytes_eq p.0 (codes "auction")
    then option_map auction (auction_in p.1)
    else (if bytes_eq p.0 (codes "explain") then option_map explanation (explanation_in p.1) else None))))

-- the day or the check that the words ask for
abbrev pub asked_of : List Text → Option Asked
asked_of words = asked_in (subcommand_of day_app words)

-- a word that is taken as it stands: it does not begin with a hyphen
abbrev pub is_plain_word : Text → Bool
is_plain_word [] = true
is_plain_word (first ∷ rest) = not (first == 45)

-- there is no path, or one that is taken as it stands
abbrev pub is_plain_path : Option Text → Bool
is_plain_path None = true
is_plain_path (Some path) = is_plain_word path

-- an option with its value, if there is one for it
abbrev pub option_words : Text → Option Text → List Text
option_words option None = []
option_words option (Some value) = option ∷ value ∷ []

abbrev pub is_strict : Strictness → Bool
is_strict Strict = true
is_strict Lenient = false

-- the flag of a strict day
abbrev pub strict_words : Strictness → List Text
strict_words strictness = if is_strict strictness then codes "--strict" ∷ [] else []

-- a number that an option may have
abbrev pub IsCount : ℕ → Type 0
IsCount number = (1 ≤ number) × (number ≤ max_workers)

-- the words are a subcommand with its paths; behind one order file OUT may stand without `--out`
abbrev pub ArePaths : List Text → Text → List Text → Option (Text × Text) → Type 0
ArePaths words segment orders None = words ≡ codes "run" ∷ segment ∷ orders
ArePaths words segment orders (Some c) =
    (words ≡ codes "carry" ∷ segment ∷ c.0 ∷ (orders ++ codes "--out" ∷ c.1 ∷ []))
    ⊎ ((length orders ≡ 1) × (words ≡ codes "carry" ∷ segment ∷ c.0 ∷ (orders ++ c.1 ∷ [])))

-- the words are the program's name, a subcommand with its paths, and then, as far as they are asked for, `--answers`, `--trades`,
-- `--events` and `--depth`, each with a path, `--workers` and `--threads`, each with a number, and `--strict`; the day can be written, and its
-- order files are not too many
pub record AsksDay (words : List Text) (d : AskedDay) : Type 0 where
  pub program : Text
  pub workers : Option ℕ
  pub threads : Option ℕ
  pub paths : List Text
  pub paths_are : ArePaths paths d.segment d.orders d.carrying
  pub words_are : words ≡ program ∷ (paths
      ++ (option_words (codes "--answers") d.answers ++ (option_words (codes "--trades") d.trades ++ (option_words (codes "--events") d.events ++ (option_words (codes "--depth") d.depth
      ++ (option_words (codes "--workers") (option_map decimal workers) ++ (option_words (codes "--threads") (option_map decimal threads) ++ strict_words d.strictness)))))))
  pub are_plain : list_all is_plain_path (inputs d ++ outputs d) ≡ true
  pub are_so_many : (1 ≤ length d.orders) × (length d.orders ≤ max_order_files)
  pub are_counts : IfSome workers IsCount × IfSome threads IsCount
  pub concurrency_is : concurrency_of (unwrap_or workers 1) threads ≡ Some d.concurrency
  pub is_writable : can_write d ≡ true

-- the words are the program's name, `check` and a path
pub record AsksCheck (words : List Text) (segment : Text) : Type 0 where
  pub program : Text
  pub words_are : words ≡ program ∷ codes "check" ∷ segment ∷ []
  pub segment_is_plain : is_plain_word segment ≡ true

abbrev pub is_csv : Form → Bool
is_csv Csv = true
is_csv Plain = false

-- the words are the program's name, `auction` with its paths, `--security` with a name, and then, as far as they are asked for, `--record`
-- with a number, `--carry` with a path, and `--csv`; its order files are not too many
pub record AsksAuction (words : List Text) (a : AskedAuction) : Type 0 where
  pub program : Text
  pub record_text : Option Text
  pub words_are : words ≡ program ∷ codes "auction" ∷ a.segment ∷ (a.orders
      ++ (option_words (codes "--security") (Some a.security) ++ (option_words (codes "--record") record_text ++ (option_words (codes "--carry") a.carried
      ++ (if is_csv a.form then codes "--csv" ∷ [] else [])))))
  pub are_plain : list_all is_plain_path (Some a.segment ∷ Some a.security ∷ record_text ∷ a.carried ∷ map Some a.orders) ≡ true
  pub are_so_many : (1 ≤ length a.orders) × (length a.orders ≤ max_order_files)
  pub record_is : record_of record_text ≡ Some a.at

-- the words are the program's name, `explain` with its paths, and then, if it is asked for, `--carry` with a path; its order files are not
-- too many
pub record AsksExplanation (words : List Text) (e : AskedExplanation) : Type 0 where
  pub program : Text
  pub words_are : words ≡ program ∷ codes "explain" ∷ e.segment ∷ (e.orders ++ option_words (codes "--carry") e.carried)
  pub are_plain : list_all is_plain_path (Some e.segment ∷ e.carried ∷ map Some e.orders) ≡ true
  pub are_so_many : (1 ≤ length e.orders) × (length e.orders ≤ max_order_files)

-- the words ask for it in a form that is always taken
abbrev pub Asks : List Text → Asked → Type 0
Asks words (day d) = AsksDay words d
Asks words (check segment) = AsksCheck words segment
Asks words (auction a) = AsksAuction words a
Asks words (explanation e) = AsksExplanation words e

-- ---- the answer

-- the paths that go with a request for a day
abbrev pub carried_by : Carrying → Text × Text
carried_by c = (c.from.now, c.to.now)

abbrev pub named_day : DayRequest → AskedDay
named_day d = record {
  segment = d.segment.now;
  orders = map (λ s. s.now) d.orders.items;
  carrying = option_map carried_by d.carrying;
  concurrency = d.concurrency;
  answers = option_map (λ s. s.now) d.texts.answers;
  trades = option_map (λ s. s.now) d.texts.trades;
  events = option_map (λ s. s.now) d.texts.events;
  depth = option_map (λ s. s.now) d.texts.depth;
  strictness = d.strictness;
}

abbrev pub named_auction : AuctionRequest → AskedAuction
named_auction a = record {
  segment = a.segment.now;
  orders = map (λ s. s.now) a.orders.items;
  carried = option_map (λ s. s.now) a.carried;
  security = a.security.now;
  at = a.at;
  form = a.form;
}

abbrev pub named_explanation : ExplanationRequest → AskedExplanation
named_explanation e = record { segment = e.segment.now; orders = map (λ s. s.now) e.orders.items; carried = option_map (λ s. s.now) e.carried }

-- the request is what was asked for, and not a help text
abbrev pub IsRequest : Option Asked → Request → Type 0
IsRequest asked (request.Day d) = asked ≡ Some (day (named_day d))
IsRequest asked (Check segment) = asked ≡ Some (check segment.now)
IsRequest asked (request.Auction a) = asked ≡ Some (auction (named_auction a))
IsRequest asked (request.Explanation e) = asked ≡ Some (explanation (named_explanation e))
IsRequest asked (Help error) = ⊥

-- what was asked for is met, if there was something
abbrev pub Meets : Option Asked → Option Request → Type 0
Meets asked (Some request) = IsRequest asked request
Meets asked None = asked ≡ None

-- the answer is what was asked for, or want of memory
abbrev pub IsGranted : Result Request Failure → Asked → Type 0
IsGranted (Ok request) asked = IsRequest (Some asked) request
IsGranted (Err failure) asked = failure ≡ Day (OutOfMemory tt)

abbrev pub answer_at : Error → ErrorKind → Result Request Failure
answer_at error kind.DisplayHelp = Ok (Help error)
answer_at error kind.DisplayVersion = Ok (Help error)
answer_at error kind.OutOfMemory = Err (Day (OutOfMemory tt))
answer_at error _ = Err (Words error)

-- what is answered where nothing is done: a help text, want of memory, or a mistake in the words
abbrev pub answer_of : Error → Result Request Failure
answer_of error = answer_at error (kind_of error)

-- an error of the command line that tells of a mistake, and not a help text, the version or want of memory
abbrev pub is_mistake : ErrorKind → Bool
is_mistake kind.DisplayHelp = false
is_mistake kind.DisplayVersion = false
is_mistake kind.OutOfMemory = false
is_mistake _ = true

-- a failure that is told as one: its words are mistaken
abbrev pub IsTold : Failure → Type 0
IsTold (Day fault) = ⊤
IsTold (Words error) = is_mistake (kind_of error) ≡ true

-- what an error is of words with these faults, which ask for this: want of memory, one of the faults, or, where there is none, a
-- mistake of words that ask for nothing that can be done
abbrev pub IsOfWords : Kinds → Option Asked → Error → Type 0
IsOfWords faults asked error = (kind_of error ≡ kind.OutOfMemory) ⊎ (IsAmong (kind_of error) faults
    ⊎ ((is_mistake (kind_of error) ≡ true) × (faults ≡ []) × (asked ≡ None)))

-- the answer to words with these faults, which ask for this: what they ask for only where there is no fault, help or the
-- version only where they ask for it, a mistake only for a fault of theirs, or where they ask for nothing
abbrev pub AnswersWords : Kinds → Option Asked → Result Request Failure → Type 0
AnswersWords faults asked (Ok (Help error)) = (is_mistake (kind_of error) ≡ false) × IsAmong (kind_of error) faults
AnswersWords faults asked (Ok request) = (faults ≡ []) × IsRequest asked request
AnswersWords faults asked (Err (Day fault)) = fault ≡ OutOfMemory tt
AnswersWords faults asked (Err (Words error)) = IsOfWords faults asked error

-- words that are not text are a mistake, or memory is wanting
abbrev pub RefusesBytes : Failure → Type 0
RefusesBytes (Day fault) = fault ≡ OutOfMemory tt
RefusesBytes (Words error) = kind_of error ≡ kind.ValueValidation

-- why words were not read: one is not text, where that was the cause, or memory is wanting
abbrev pub IsUnread : ReadKind → Failure → Type 0
IsUnread cause (Day fault) = fault ≡ OutOfMemory tt
IsUnread cause (Words error) = (cause ≡ reading.InvalidData) × (kind_of error ≡ kind.ValueValidation)

-- the status that the program ends with after a failure: 1 where what was asked for could not be done, 2 where the words were
-- mistaken
abbrev pub failure_status : Failure → ℕ
failure_status (Day fault) = 1
failure_status (Words error) = 2

-- the status that the program ends with
abbrev pub end_status : Result Outcome Failure → ℕ
end_status (Ok outcome) = outcome_status outcome
end_status (Err failure) = failure_status failure
