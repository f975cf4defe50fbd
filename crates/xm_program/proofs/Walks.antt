-- The walk of a command line over paths, of which the last may be several, over options behind them that have one value each, and over flags.
use Rattle.std.proofs.Common.{ℕ, ◌≡◌, ◌∙◌, ◌++◌, ◌&&◌, Bool, true, false, if◌then◌else◌, List, [], ◌∷◌, Option, Some, None, is_some, find, fold, refl, subst, sym, ap, append-nil, append_assoc}
use Rattle.std.specs.Prelude.{option_map}
use Rattle.std.specs.Str.{bytes_eq}
use Rattle.std.proofs.lemmas.Slice.Eq.{bytes_eq-Decides}
use Rattle.clap.proofs.WalkLemmas.{both}
use Rattle.clap.specs.Facts.{unwrap_or_range}
use Rattle.clap.specs.Lexer.{long_of, strip_byte}
use Rattle.clap.specs.Simple.{Shape}
use Rattle.clap.specs.Takes.{settle_passes, value_passes, walk_passes}
use Rattle.clap.specs.Walk.{Waiting, Walk, action_of, arg_by_id, arg_by_index, arg_by_long, at_row, has_row, idle, more_values, option, positional, reading_by, settled_rows, subcommand_met, used, takes_several, walked, with_default, without}
use Rattle.clap.specs.Words.{Row, Rule, Text}
use Rattle.clap.specs.declared.builder.action.ArgAction.TheVariants.{Set, SetTrue}
use Rattle.clap.specs.declared.builder.value_parser.Reading.{Reading}
use Rattle.clap.specs.declared.parser.matches.ValueSource.{ValueSource}
use Rattle.clap.specs.declared.parser.matches.ValueSource.TheVariants.{CommandLine, DefaultValue}
use Rattle.xm_program.specs.Requests.{option_words}

-- ---- rows, by their names

abbrev pub row_at : Text → List Row → Option Row
row_at id rows = find (λ r. bytes_eq r.id id) rows

-- a row of values
abbrev pub row : Text → Reading → ValueSource → List Text → Row
row id how source values = record { id = id; values = values; count = None; source = Some source; reading = how }

abbrev pub or_else : Option Row → Option Row → Option Row
or_else (Some r) other = Some r
or_else None other = other

abbrev pub where_named : Text → Option Row → Text → Option Row
where_named id r k = if bytes_eq id k then r else None

no-other : (o : Option Row) → or_else o None ≡ o
no-other (Some r) = refl
no-other None = refl

-- no row is the other one
none-named : (id k : Text) (o : Option Row) → or_else o (where_named id None k) ≡ o
none-named id k o = go (bytes_eq id k)
  where
    go : (b : Bool) → or_else o (if b then None else None) ≡ o
    go true = no-other o
    go false = no-other o

has_row-is : (id : Text) (rows : List Row) → has_row id rows ≡ is_some (row_at id rows)
has_row-is id [] = refl
has_row-is id (r ∷ rows) = go (bytes_eq r.id id) refl (has_row-is id rows)
  where
    go : (b : Bool) → bytes_eq r.id id ≡ b → has_row id rows ≡ is_some (row_at id rows) → has_row id (r ∷ rows) ≡ is_some (row_at id (r ∷ rows))
    go true e more = rw e refl
    go false e more = rw e more

-- without a name that no row has
none-left-out : (id : Text) (rows : List Row) → row_at id rows ≡ None → without id rows ≡ rows
none-left-out id [] none = refl
none-left-out id (r ∷ rows) none = go (bytes_eq r.id id) refl (none-left-out id rows)
  where
    go : (b : Bool) → bytes_eq r.id id ≡ b → (row_at id rows ≡ None → without id rows ≡ rows) → without id (r ∷ rows) ≡ r ∷ rows
    go true e more = let bad : ◌≡◌ {A = Option Row} (Some r) None = rw e at none in absurd (cc)
    go false e more = let rest : row_at id rows ≡ None = rw e at none in rw e (ap (λ rs. r ∷ rs) (more rest))

-- a row of such a name joins
joined : (id : Text) (change : Row → List Row) (new : Row) (k : Text) (rows : List Row) → row_at id rows ≡ None → row_at k (at_row id change (new ∷ []) rows) ≡ or_else (row_at k rows) (where_named new.id (Some new) k)
joined id change new k [] none = refl
joined id change new k (r ∷ rows) none = go (bytes_eq r.id id) (bytes_eq r.id k) refl refl (joined id change new k rows)
  where
    go : (b c : Bool) → bytes_eq r.id id ≡ b → bytes_eq r.id k ≡ c → (row_at id rows ≡ None → row_at k (at_row id change (new ∷ []) rows) ≡ or_else (row_at k rows) (where_named new.id (Some new) k))
        → row_at k (at_row id change (new ∷ []) (r ∷ rows)) ≡ or_else (row_at k (r ∷ rows)) (where_named new.id (Some new) k)
    go true c e f more = let bad : ◌≡◌ {A = Option Row} (Some r) None = rw e at none in absurd (cc)
    go false true e f more = rw (e, f) refl
    go false false e f more = let rest : row_at id rows ≡ None = rw e at none in rw (e, f) (more rest)

-- ---- defaults

abbrev pub default_row : Rule → List Text → Option Row
default_row a [] = None
default_row a (value ∷ values) = Some (row a.id (reading_by a) DefaultValue (value ∷ values))

abbrev pub or_default : Text → Option Row → Rule → Option Row
or_default k o a = or_else o (where_named a.id (default_row a a.defaults) k)

-- where there is a row, no default joins
default-kept : (id k : Text) (rows : List Row) (r : Row) (other : Option Row) → row_at id rows ≡ Some r → row_at k rows ≡ or_else (row_at k rows) (where_named id other k)
default-kept id k rows r other e = go (bytes_eq id k) refl
  where
    go : (b : Bool) → bytes_eq id k ≡ b → row_at k rows ≡ or_else (row_at k rows) (where_named id other k)
    go true f =
        let here : row_at k rows ≡ Some r = subst (λ (name : Text). row_at name rows ≡ Some r) ((bytes_eq-Decides id k).0 f) e in
        rw here refl
    go false f = rw f (sym (no-other (row_at k rows)))

default-at : (k : Text) (rows : List Row) (a : Rule) → row_at k (with_default rows a) ≡ or_default k (row_at k rows) a
default-at k rows a = go (row_at a.id rows) refl a.defaults refl
  where
    go : (o : Option Row) → row_at a.id rows ≡ o → (values : List Text) → a.defaults ≡ values → row_at k (with_default rows a) ≡ or_default k (row_at k rows) a
    go (Some r) e values d =
        let has : has_row a.id rows ≡ true = has_row-is a.id rows ∙ ap is_some e in
        rw has (default-kept a.id k rows r (default_row a a.defaults) e)
    go None e [] d =
        let has : has_row a.id rows ≡ false = has_row-is a.id rows ∙ ap is_some e in
        rw (has, d) (sym (none-named a.id k (row_at k rows)))
    go None e (value ∷ values) d =
        let has : has_row a.id rows ≡ false = has_row-is a.id rows ∙ ap is_some e in
        rw (has, d) (joined a.id (more_values DefaultValue (value ∷ values)) (row a.id (reading_by a) DefaultValue (value ∷ values)) k rows e)

pub defaults-at : (k : Text) (rules : List Rule) (rows : List Row) → row_at k (fold with_default rows rules) ≡ fold (or_default k) (row_at k rows) rules
defaults-at k [] rows = refl
defaults-at k (a ∷ rules) rows = defaults-at k rules (with_default rows a) ∙ ap (λ (o : Option Row). fold (or_default k) o rules) (default-at k rows a)

-- a row that is there outweighs all defaults
kept : (k : Text) (rules : List Rule) (r : Row) → fold (or_default k) (Some r) rules ≡ Some r
kept k [] r = refl
kept k (a ∷ rules) r = kept k rules r

pub default-else : (k : Text) (rules : List Rule) (o : Option Row) → fold (or_default k) o rules ≡ or_else o (fold (or_default k) None rules)
default-else k rules None = refl
default-else k rules (Some r) = kept k rules r

-- ---- the walk

-- a word that is taken as it stands
pub record IsPlain (word : Text) : Type 0 where
  pub no_hyphen : strip_byte 45 word ≡ None
  pub no_hyphens : bytes_eq word (45 ∷ 45 ∷ []) ≡ false

-- where the walk over words comes to, all of which pass
pub record IsWalked (shape : Shape) (from : Walk) (words : List Text) (end : Walk) : Type 0 where
  pub comes_to : fold (walked shape.rules []) from words ≡ end
  pub passes : walk_passes shape [] from words ≡ true

pub both-true : (p q : Bool) → p ≡ true → q ≡ true → (p && q) ≡ true
both-true p q h k = rw (h, k) refl

-- more words behind words that are walked
pub further : (shape : Shape) (from mid end : Walk) (words more : List Text) → IsWalked shape from words mid → IsWalked shape mid more end → IsWalked shape from (words ++ more) end
unfolding walk_passes
further shape from mid end [] more a b = subst (λ (w : Walk). IsWalked shape w more end) (sym a.comes_to) b
further shape from mid end (word ∷ words) more a b =
    let now = both _ _ a.passes in
    let rest = further shape (walked shape.rules [] from word) mid end words more (record { comes_to = a.comes_to; passes = now.1 }) b in
    record { comes_to = rest.comes_to; passes = both-true _ _ now.0 rest.passes }

-- what a walk has gathered: rows, the last values, which may not be among them yet, and what takes the next word
pub record Gathered : Type 0 where
  pub rows : List Row
  pub pending : Option (Text × List Text)
  pub waiting : Waiting

-- the walk that stands at this position, and has gathered so much
abbrev pub walked_over : ℕ → Gathered → Walk
walked_over position g = record {
  held = record { rows = g.rows; pending = g.pending; skip = 0 };
  waiting = g.waiting;
  position = position;
  is_trailing = false;
  stopped = None;
}

abbrev pub rows_in : Shape → Gathered → List Row
rows_in shape g = settled_rows shape.rules g.pending g.rows

-- the last values pass, and the rows with them are these
pub record Stands (shape : Shape) (at : Text → Option Row) (g : Gathered) : Type 0 where
  pub passes : settle_passes shape.rules shape.args_override_self (walked_over 0 g).held ≡ true
  pub rows_are : (k : Text) → row_at k (rows_in shape g) ≡ at k

-- the walk over more words comes to these rows
pub record Steps (shape : Shape) (position : ℕ) (from : Gathered) (words : List Text) (at : Text → Option Row) : Type 0 where
  pub end : Gathered
  pub is_walked : IsWalked shape (walked_over position from) words (walked_over position end)
  pub stands : Stands shape at end

-- no subcommand is met where there is none
none-met : (waiting : Waiting) (word : Text) → subcommand_met [] waiting word ≡ None
none-met idle word = refl
none-met (option id) word = refl
none-met positional word = refl

-- ---- several values of a positional

abbrev pub ArePlain : List Text → Type 0
ArePlain [] = Unit {0}
ArePlain (word ∷ words) = IsPlain word × ArePlain words

-- the positional of this rule stands at this position, and takes several values
pub record IsSeveral (shape : Shape) (position : ℕ) (rule : Rule) : Type 0 where
  pub by_index : arg_by_index shape.rules position ≡ Some rule
  pub is_itself : bytes_eq rule.id rule.id ≡ true
  pub several : takes_several rule ≡ true
  pub no_trailing : rule.trailing_var_arg ≡ false

-- so many values of a positional behind these rows
abbrev pub gathered_of : Rule → List Row → List Text → Gathered
gathered_of rule rows values = record { rows = rows; pending = Some (rule.id, values); waiting = positional }

module _ (shape : Shape) (position : ℕ) (rule : Rule) (is : IsSeveral shape position rule) (rows : List Row) where
  abbrev with_all : List Text → Walk
  with_all values = walked_over position (gathered_of rule rows values)

  one-more : (values : List Text) (word : Text) → IsPlain word → IsWalked shape (with_all values) (word ∷ []) (with_all (values ++ word ∷ []))
  unfolding walked walk_passes
  one-more values word p = record {
    comes_to = simp (p.no_hyphen, p.no_hyphens, is.by_index, is.is_itself, is.several, is.no_trailing);
    passes = simp (p.no_hyphen, p.no_hyphens, is.by_index, is.is_itself, is.several);
  }

  none-more : (values : List Text) → IsWalked shape (with_all values) [] (with_all values)
  unfolding walk_passes
  none-more values = record { comes_to = refl; passes = refl }

  -- more values of it
  pub more-walked : (values words : List Text) → ArePlain words → IsWalked shape (with_all values) words (with_all (values ++ words))
  more-walked values [] p = subst (λ (all : List Text). IsWalked shape (with_all values) [] (with_all all)) (sym (append-nil values)) (none-more values)
  more-walked values (word ∷ words) p =
      further shape (with_all values) (with_all (values ++ word ∷ [])) (with_all (values ++ word ∷ words)) (word ∷ []) words (one-more values word p.0)
      (subst (λ (all : List Text). IsWalked shape (with_all (values ++ word ∷ [])) words (with_all all)) (append_assoc values (word ∷ []) words)
      (more-walked (values ++ word ∷ []) words p.1))

-- ---- options

-- the word is an option of this rule, with one value
pub record IsOption (shape : Shape) (word : Text) (rule : Rule) : Type 0 where
  pub no_hyphens : bytes_eq word (45 ∷ 45 ∷ []) ≡ false
  pub name : Text
  pub is_long : long_of word ≡ Some (name, None)
  pub by_long : arg_by_long shape.rules name ≡ Some rule
  pub by_id : arg_by_id shape.rules rule.id ≡ Some rule
  pub is_itself : bytes_eq rule.id rule.id ≡ true
  pub least : (unwrap_or_range rule.range).start_inclusive ≡ 1
  pub most : (unwrap_or_range rule.range).end_inclusive ≡ 1
  pub sets : action_of rule ≡ Set

-- the rows with one more, if there is a value for it
abbrev pub with_row : Rule → Option Text → (Text → Option Row) → Text → Option Row
with_row rule value at k = or_else (at k) (where_named rule.id (option_map (λ text. row rule.id (reading_by rule) CommandLine (text ∷ [])) value) k)

module _ (shape : Shape) (position : ℕ) (g : Gathered) (at : Text → Option Row) (s : Stands shape at g) (word : Text) (rule : Rule) (o : IsOption shape word rule) where
  -- an option that is left out
  pub left-out : Steps shape position g [] (with_row rule None at)
  unfolding walk_passes
  left-out = record {
    end = g;
    is_walked = record { comes_to = refl; passes = refl };
    stands = record { passes = s.passes; rows_are = λ k. s.rows_are k ∙ sym (none-named rule.id k (at k)) };
  }

  module _ (value : Text) (p : IsPlain value) where
    abbrev next : Gathered
    next = record { rows = rows_in shape g; pending = Some (rule.id, value ∷ []); waiting = idle }

    option-walked : IsWalked shape (walked_over position g) (word ∷ value ∷ []) (walked_over position next)
    unfolding walked walk_passes
    option-walked = record {
      comes_to = simp (none-met g.waiting word, o.no_hyphens, o.is_long, o.by_long, o.by_id, o.is_itself, o.most, p.no_hyphen, p.no_hyphens);
      passes = simp (none-met g.waiting word, o.no_hyphens, o.is_long, o.by_long, o.most, p.no_hyphen, p.no_hyphens, s.passes);
    }

    -- an option with its value
    pub given : at rule.id ≡ None → value_passes rule value ≡ true → Steps shape position g (word ∷ value ∷ []) (with_row rule (Some value) at)
    given none passes =
        let new = s.rows_are rule.id ∙ none in
        let has : has_row rule.id (rows_in shape g) ≡ false = has_row-is rule.id (rows_in shape g) ∙ ap is_some new in
        record {
          end = next;
          is_walked = option-walked;
          stands = record {
            passes = rw (o.by_id, o.least, o.most, o.sets, has, passes) refl;
            rows_are = λ k. rw (o.by_id, o.sets, none-left-out rule.id (rows_in shape g) new, joined rule.id _ (row rule.id (reading_by rule) CommandLine (value ∷ [])) k (rows_in shape g) new, s.rows_are k) refl;
          };
        }

-- an option, with its value if there is one
pub step : {shape : Shape} {g : Gathered} {at : Text → Option Row} {word : Text} {rule : Rule} (position : ℕ) (value : Option Text) → Stands shape at g → IsOption shape word rule → at rule.id ≡ None
    → ((text : Text) → value ≡ Some text → IsPlain text × (value_passes rule text ≡ true)) → Steps shape position g (option_words word value) (with_row rule value at)
step {shape} {g} {at} {word} {rule} position None s o none fine = left-out shape position g at s word rule o
step {shape} {g} {at} {word} {rule} position (Some value) s o none fine = let f = fine value refl in given shape position g at s word rule o value f.0 none f.1

-- ---- flags

-- the word is a flag of this rule
pub record IsFlag (shape : Shape) (word : Text) (rule : Rule) : Type 0 where
  pub no_hyphens : bytes_eq word (45 ∷ 45 ∷ []) ≡ false
  pub name : Text
  pub is_long : long_of word ≡ Some (name, None)
  pub by_long : arg_by_long shape.rules name ≡ Some rule
  pub is_itself : bytes_eq rule.id rule.id ≡ true
  pub least : (unwrap_or_range rule.range).start_inclusive ≡ 0
  pub most : (unwrap_or_range rule.range).end_inclusive ≡ 0
  pub sets : action_of rule ≡ SetTrue
  pub value : Text
  pub stands_for : rule.missing ≡ value ∷ []
  pub passes : value_passes rule value ≡ true

-- a flag that is given
flag-given : (shape : Shape) (position : ℕ) (g : Gathered) (at : Text → Option Row) (s : Stands shape at g) (word : Text) (rule : Rule) (f : IsFlag shape word rule) → at rule.id ≡ None
    → Steps shape position g (word ∷ []) (with_row rule (Some f.value) at)
unfolding walked walk_passes
flag-given shape position g at s word rule f none =
    let new = s.rows_are rule.id ∙ none in
    let has : has_row rule.id (rows_in shape g) ≡ false = has_row-is rule.id (rows_in shape g) ∙ ap is_some new in
    record {
      end = record { rows = used rule [] (rows_in shape g); pending = None; waiting = idle };
      is_walked = record {
        comes_to = simp (none-met g.waiting word, f.no_hyphens, f.is_long, f.by_long, f.most);
        passes = simp (none-met g.waiting word, f.no_hyphens, f.is_long, f.by_long, f.least, f.most, f.sets, f.stands_for, f.passes, has, s.passes);
      };
      stands = record {
        passes = refl;
        rows_are = λ k. rw (f.sets, f.stands_for, none-left-out rule.id (rows_in shape g) new, joined rule.id _ (row rule.id (reading_by rule) CommandLine (f.value ∷ [])) k (rows_in shape g) new, s.rows_are k) refl;
      };
    }

-- a flag that is given or left out
pub flag-step : {shape : Shape} {g : Gathered} {at : Text → Option Row} {word : Text} {rule : Rule} (position : ℕ) (given : Bool) → Stands shape at g → (f : IsFlag shape word rule) → at rule.id ≡ None
    → Steps shape position g (if given then word ∷ [] else []) (with_row rule (if given then Some f.value else None) at)
unfolding walk_passes
flag-step {shape} {g} {at} {word} {rule} position false s f none = record {
  end = g;
  is_walked = record { comes_to = refl; passes = refl };
  stands = record { passes = s.passes; rows_are = λ k. s.rows_are k ∙ sym (none-named rule.id k (at k)) };
}
flag-step {shape} {g} {at} {word} {rule} position true s f none = flag-given shape position g at s word rule f none

-- steps behind others
pub and-then : {shape : Shape} {position : ℕ} {g : Gathered} {words more : List Text} {at then_at : Text → Option Row} (a : Steps shape position g words at) → Steps shape position a.end more then_at → Steps shape position g (words ++ more) then_at
and-then {shape} {position} {g} {words} {more} a b =
    record { end = b.end; is_walked = further shape (walked_over position g) (walked_over position a.end) (walked_over position b.end) words more a.is_walked b.is_walked; stands = b.stands }
