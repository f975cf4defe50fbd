-- Which rows a record stands for, by its command word: one of a member, or phase rows.
use Rattle.std.proofs.Common.{◌≡◌, ℕ, zero, suc, ◌+◌, Bool, true, false, not, if◌then◌else◌, List, [], ◌∷◌, map, length, Option, Some, None, is_some, option_map, IfSome, refl}
use Rattle.std.specs.List.{list_all, range_with_len}
use Rattle.std.specs.Option.{option_map_or}
use Rattle.std.specs.Prelude.{codes}
use Rattle.std.specs.Str.{bytes_eq}
use Rattle.xm_rules.specs.Commands.{member_of}
use Rattle.xm_rules.specs.declared.commands.Command.{Command}
use Rattle.xm_rules.specs.declared.commands.Command.TheVariants as command
use Rattle.xm_rules.specs.declared.commands.Condition.{Condition}
use Rattle.xm_rules.specs.declared.commands.Kind.{Kind}
use Rattle.xm_rules.specs.declared.orders.Restriction.{Restriction}
use Rattle.xm_rules.specs.declared.orders.Side.{Side}
use Rattle.xm_rules.specs.declared.orders.Validity.{Validity}
use Rattle.xm_files.specs.Names.{NameLists}
use Rattle.xm_files.specs.Rows.{are_empty, by_column, cancel_all_blank, cancel_blank, change_blank, change_command, columns_of, command_in, condition_in, entry_with, field, given_limit, has_short_text, has_word, is_members_word, kind_in_record, member_row, name_index, names_members_command, order_command, phase_blank, phase_entry, restriction_of, rows_of_entry, rows_of_record, side_named, tick_of, validity_of, whole_of, word_of}
use Rattle.xm_files.specs.declared.columns.Column.TheVariants as column
use Rattle.xm_files.specs.Steps.{◌>>=◌}
use Rattle.xm_files.specs.Timetable.{is_of_member}
use Rattle.xm_files.specs.declared.entries.RecordEntry.{RecordEntry}
use Rattle.xm_files.specs.declared.entries.RecordEntry.TheVariants.{One, Each}
use Rattle.xm_files.specs.declared.entries.Word.{Word}
use Rattle.xm_files.specs.declared.entries.Word.TheVariants as word
use Rattle.xm_files.specs.declared.order_format.OrderFormat.{OrderFormat}
use Rattle.xm_config.specs.declared.config.SecurityConfig.{SecurityConfig}
use Rattle.xm_config.specs.declared.config.SegmentConfig.{SegmentConfig}
use Rattle.xm_config.specs.declared.rows.Row.{Row}

-- what holds of a value, if there is one
mapped : {A B : Type 0} (P : B → Type 0) (o : Option A) (f : A → B) → ((x : A) → P (f x)) → IfSome (option_map f o) P
mapped P None f h = tt
mapped P (Some x) f h = h x

where-true : {A : Type 0} (P : A → Type 0) (t : Bool) (o : Option A) → IfSome o P → IfSome (if t then o else None) P
where-true P true o h = h
where-true P false o h = tt

-- commands that members give, and the one row of such a command
abbrev IsMembers : Command → Type 0
IsMembers c = is_some (member_of c) ≡ true

abbrev IsMembersRow : RecordEntry → Type 0
IsMembersRow (One security made) = IsMembers made
IsMembersRow (Each c) = ⊥

-- a phase row, or one for each security
abbrev ArePhaseRows : RecordEntry → Type 0
ArePhaseRows (One security made) = is_some (member_of made) ≡ false
ArePhaseRows (Each c) = is_some (member_of c) ≡ false

made-row : (security : ℕ) (made : Option Command) → IfSome made IsMembers → IfSome (made >>= (λ c. Some (One security c))) IsMembersRow
made-row security None of = tt
made-row security (Some c) of = of

row-by : (member security : Option ℕ) (make : ℕ → ℕ → Option Command) → ((m s : ℕ) → IfSome (make m s) IsMembers)
    → IfSome (member >>= (λ m. security >>= (λ s. make m s >>= (λ c. Some (One s c))))) IsMembersRow
row-by None security make of = tt
row-by (Some m) None make of = tt
row-by (Some m) (Some s) make of = made-row s (make m s) (of m s)

members-row : (names : NameLists) (fields : List (List ℕ)) (make : ℕ → ℕ → Option Command) → ((m s : ℕ) → IfSome (make m s) IsMembers) → IfSome (member_row names fields make) IsMembersRow
members-row names fields make of = row-by (name_index names.members (field column.Member fields)) (name_index names.securities (field column.Security fields)) make of

order-by : (member : ℕ) (reference : Option ℕ) (side : Option Side) (kind : Option Kind) (quantity : Option ℕ) (validity : Option Validity) (restriction : Option Restriction) (condition : Option Condition)
    → IfSome (reference >>= (λ r. side >>= (λ s. kind >>= (λ k. quantity >>= (λ q. validity >>= (λ v. restriction >>= (λ t. condition >>= (λ c. Some (command.Enter member r s k q v t c))))))))) IsMembers
order-by member None side kind quantity validity restriction condition = tt
order-by member (Some r) None kind quantity validity restriction condition = tt
order-by member (Some r) (Some s) None quantity validity restriction condition = tt
order-by member (Some r) (Some s) (Some k) None validity restriction condition = tt
order-by member (Some r) (Some s) (Some k) (Some q) None restriction condition = tt
order-by member (Some r) (Some s) (Some k) (Some q) (Some v) None condition = tt
order-by member (Some r) (Some s) (Some k) (Some q) (Some v) (Some t) None = tt
order-by member (Some r) (Some s) (Some k) (Some q) (Some v) (Some t) (Some c) = refl

members-order : (format : OrderFormat) (tick member : ℕ) (fields : List (List ℕ)) → IfSome (order_command format tick member fields) IsMembers
members-order format tick member fields =
    order-by member (whole_of (field column.Reference fields)) (side_named (field column.Side fields)) (kind_in_record tick fields) (whole_of (field column.Quantity fields)) (validity_of (field column.Validity fields)) (restriction_of (field column.Restriction fields))
    (condition_in format (field column.Condition fields))

change-by : (member : ℕ) (reference quantity : Option ℕ) (limit : Option (Option ℕ)) → IfSome (reference >>= (λ r. quantity >>= (λ q. limit >>= (λ l. Some (command.Change member r q l))))) IsMembers
change-by member None quantity limit = tt
change-by member (Some r) None limit = tt
change-by member (Some r) (Some q) None = tt
change-by member (Some r) (Some q) (Some l) = refl

members-change : (tick member : ℕ) (fields : List (List ℕ)) → IfSome (change_command tick member fields) IsMembers
members-change tick member fields = change-by member (whole_of (field column.Reference fields)) (whole_of (field column.Quantity fields)) (given_limit tick (field column.Limit fields))

phase-by : (phase : Command) (security : Option ℕ) (blank each : Bool) → is_some (member_of phase) ≡ false
    → IfSome (if blank then (if each then Some (Each phase) else option_map (λ s. One s phase) security) else None) ArePhaseRows
phase-by phase security false each of = tt
phase-by phase security true true of = of
phase-by phase None true false of = tt
phase-by phase (Some s) true false of = of

phase-rows : (phase : Command) (names : NameLists) (fields : List (List ℕ)) → is_some (member_of phase) ≡ false → IfSome (phase_entry phase names fields) ArePhaseRows
phase-rows phase names fields of =
    phase-by phase (name_index names.securities (field column.Security fields)) (are_empty phase_blank fields) (bytes_eq (field column.Security fields) (codes "*")) of

-- what an entry is by its word
abbrev IsOfWord : Bool → RecordEntry → Type 0
IsOfWord true entry = IsMembersRow entry
IsOfWord false entry = ArePhaseRows entry

entry-of : (format : OrderFormat) (w : Word) (names : NameLists) (securities : List SecurityConfig) (fields : List (List ℕ)) → IfSome (entry_with format (Some w) names securities fields) (IsOfWord (is_members_word w))
entry-of format word.Enter names securities fields = members-row names fields (λ m s. order_command format (tick_of securities s) m fields) (λ m s. members-order format (tick_of securities s) m fields)
entry-of format word.Change names securities fields =
    where-true IsMembersRow (are_empty change_blank fields) (member_row names fields (λ m s. change_command (tick_of securities s) m fields))
    (members-row names fields (λ m s. change_command (tick_of securities s) m fields) (λ m s. members-change (tick_of securities s) m fields))
entry-of format word.Cancel names securities fields =
    where-true IsMembersRow (are_empty cancel_blank fields) (member_row names fields (λ m s. option_map (command.Cancel m) (whole_of (field column.Reference fields))))
    (members-row names fields (λ m s. option_map (command.Cancel m) (whole_of (field column.Reference fields))) (λ m s. mapped IsMembers (whole_of (field column.Reference fields)) (command.Cancel m) (λ reference. refl)))
entry-of format word.CancelAll names securities fields =
    where-true IsMembersRow (are_empty cancel_all_blank fields) (member_row names fields (λ m s. Some (command.CancelAll m))) (members-row names fields (λ m s. Some (command.CancelAll m)) (λ m s. refl))
entry-of format word.Open names securities fields = phase-rows command.StartOpening names fields refl
entry-of format word.Intraday names securities fields = phase-rows command.StartIntraday names fields refl
entry-of format word.Close names securities fields = phase-rows command.StartClosing names fields refl
entry-of format word.Uncross names securities fields = phase-rows command.Uncross names fields refl
entry-of format word.End names securities fields = phase-rows command.EndDay names fields refl

-- a text that names no word of the format gives nothing
entry-by : (format : OrderFormat) (o : Option Word) (names : NameLists) (securities : List SecurityConfig) (fields : List (List ℕ))
    → IfSome (entry_with format (o >>= (λ kind. if has_word format kind then Some kind else None)) names securities fields) (IsOfWord (option_map_or is_members_word o false))
entry-by format None names securities fields = tt
entry-by format (Some w) names securities fields = entry-if (has_word format w)
  where
    entry-if : (t : Bool) → IfSome (entry_with format (if t then Some w else None) names securities fields) (IsOfWord (is_members_word w))
    entry-if true = entry-of format w names securities fields
    entry-if false = tt

-- the rows of an entry
abbrev pub AreOfWord : Bool → List Row → Type 0
AreOfWord true rows = (row : Row) × (rows ≡ row ∷ []) × (is_of_member row ≡ true)
AreOfWord false rows = list_all (λ row. not (is_of_member row)) rows ≡ true

each-phase : (line : ℕ) (c : Command) (first count : ℕ) → is_some (member_of c) ≡ false → (list_all (λ row. not (is_of_member row)) (map (λ security. record { line = line; security = security; command = c }) (range_with_len first count))) ≡ true
each-phase line c first zero of = refl
each-phase line c first (suc count) of = rw of (each-phase line c (first + 1) count of)

rows-of : (t : Bool) (line count : ℕ) (entry : RecordEntry) → IsOfWord t entry → AreOfWord t (rows_of_entry line count entry)
rows-of true line count (One security made) of = (record { line = line; security = security; command = made }, refl, of)
rows-of true line count (Each c) of = absurd of
rows-of false line count (One security made) of = rw of refl
rows-of false line count (Each c) of = each-phase line c 0 count of

rows-if : (t : Bool) (line count : ℕ) (o : Option RecordEntry) → IfSome o (IsOfWord t) → IfSome (option_map (rows_of_entry line count) o) (AreOfWord t)
rows-if t line count None h = tt
rows-if t line count (Some entry) h = rows-of t line count entry h

pub record-rows : (format : OrderFormat) (names : NameLists) (config : SegmentConfig) (line : ℕ) (fields : List (List ℕ)) → IfSome (rows_of_record format names config line fields) (AreOfWord (names_members_command (command_in format fields)))
record-rows format names config line fields =
    let texts = by_column (columns_of format) fields in
    let is = names_members_command (command_in format fields) in
    rows-if is line (length names.securities) _ (where-true (IsOfWord is) (has_short_text texts) _ (entry-by format (word_of (command_in format fields)) names config.securities texts))
