-- Each record that CSV reads from between two records takes a byte at least, and leaves the reader between two records.
use Rattle.std.proofs.Common.{◌≡◌, ℕ, ◌<◌, ◌≤◌, suc, Bool, true, false, ◌||◌, ◌==◌, if◌then◌else◌, List, [], ◌∷◌, ◌++◌, length, Option, Some, None, refl, arith}
use Rattle.csv.specs.Machine.{Read, next_record, step, in_field, start_field, start_record, is_end, ends_at_end, fields_after, field_after}
use Rattle.csv.specs.Reading.{default_config, records_from}
use Rattle.csv.specs.declared.parser.Action.{Action}
use Rattle.csv.specs.declared.parser.Action.TheVariants as act
use Rattle.csv.specs.declared.parser.State.{State}
use Rattle.csv.specs.declared.parser.State.TheVariants as st

-- a step that ends a record leaves the machine between two records
abbrev Ends : State × Action → Type 0
Ends next = is_end next.1 ≡ true → ends_at_end next.0 ≡ false

either : (t : Bool) (x y : State × Action) → Ends x → Ends y → Ends (if t then x else y)
either true x y a b = a
either false x y a b = b

goes_on : (s : State) (a : Action) → is_end a ≡ false → Ends (s, a)
goes_on s a e h = cc

after-between : (t : Bool) → ends_at_end (if t then st.AfterCr else st.StartRecord) ≡ false
after-between true = refl
after-between false = refl

in_field-ends : (c : ℕ) → Ends (in_field default_config c)
in_field-ends c =
    either (c == 44) (st.StartField, act.EndField) _ (goes_on st.StartField act.EndField refl)
    (either ((c == 13) || (c == 10)) (if c == 13 then st.AfterCr else st.StartRecord, act.EndRecord) (st.InField, act.Copy) (λ h. after-between (c == 13)) (goes_on st.InField act.Copy refl))

start_field-ends : (c : ℕ) → Ends (start_field default_config c)
start_field-ends c = either (c == 34) (st.InQuoted, act.Skip) (in_field default_config c) (goes_on st.InQuoted act.Skip refl) (in_field-ends c)

start_record-ends : (c : ℕ) → Ends (start_record default_config c)
start_record-ends c = either ((c == 13) || (c == 10)) (st.StartRecord, act.Skip) (start_field default_config c) (goes_on st.StartRecord act.Skip refl) (start_field-ends c)

step-ends : (s : State) (c : ℕ) → Ends (step default_config s c)
step-ends st.StartRecord c = start_record-ends c
step-ends st.StartField c = start_field-ends c
step-ends st.InField c = in_field-ends c
step-ends st.InQuoted c = either (c == 34) (st.AfterQuote, act.Skip) (st.InQuoted, act.Copy) (goes_on st.AfterQuote act.Skip refl) (goes_on st.InQuoted act.Copy refl)
step-ends st.InEscape c = goes_on st.InQuoted act.Copy refl
step-ends st.AfterQuote c = either (c == 34) (st.InQuoted, act.Copy) (in_field default_config c) (goes_on st.InQuoted act.Copy refl) (in_field-ends c)
step-ends st.InComment c = either (c == 10) (st.StartRecord, act.Skip) (st.InComment, act.Skip) (goes_on st.StartRecord act.Skip refl) (goes_on st.InComment act.Skip refl)
step-ends st.AfterCr c = either (c == 10) (st.StartRecord, act.Skip) (start_record default_config c) (goes_on st.StartRecord act.Skip refl) (start_record-ends c)

-- no more than these bytes are left, and the machine is between two records
abbrev Leaves : List ℕ → Read → Type 0
Leaves most read = (length read.2 ≤ length most) × (ends_at_end read.1 ≡ false)

same-read : (most : List ℕ) (made read : Read) → Some made ≡ Some read → Leaves most made → Leaves most read
same-read most made read same h = let e : made ≡ read = cc in rw (← e) h

end-leaves : (t : Bool) (fields : List (List ℕ)) (read : Read) → (if t then Some (fields, st.StartRecord, []) else None) ≡ Some read → Leaves [] read
end-leaves true fields read h = same-read [] (fields, st.StartRecord, []) read h (omega arith, refl)
end-leaves false fields read h = cc

step-leaves : (next : State × Action) (t : Bool) → is_end next.1 ≡ t → Ends next → (fields : List (List ℕ)) (rest : List ℕ) (more : Option Read) (read : Read)
    → (more ≡ Some read → Leaves rest read) → (if t then Some (fields, next.0, rest) else more) ≡ Some read → Leaves rest read
step-leaves next true e ends fields rest more read later h = same-read rest (fields, next.0, rest) read h (omega arith, ends e)
step-leaves next false e ends fields rest more read later h = later h

longer : (c : ℕ) (rest : List ℕ) (read : Read) → Leaves rest read → Leaves (c ∷ rest) read
longer c rest read h = let few = h.0 in (omega arith, h.1)

leaves : (s : State) (fields : List (List ℕ)) (field text : List ℕ) (read : Read) → next_record default_config s fields field text ≡ Some read → Leaves text read
unfolding next_record
leaves s fields field [] read h = end-leaves (ends_at_end s) (fields ++ (field ∷ [])) read h
leaves s fields field (c ∷ rest) read h =
    longer c rest read
    (step-leaves (step default_config s c) (is_end (step default_config s c).1) refl (step-ends s c) (fields_after (step default_config s c).1 fields field) rest _ read
    (leaves (step default_config s c).0 (fields_after (step default_config s c).1 fields field) (field_after (step default_config s c).1 c field) rest read) h)

-- a record takes a byte at least
pub takes : (s : State) (text : List ℕ) (read : Read) → ends_at_end s ≡ false → next_record default_config s [] [] text ≡ Some read → (length read.2 < length text) × (ends_at_end read.1 ≡ false)
unfolding next_record
takes s [] read between h = cc (rw between at h)
takes s (c ∷ rest) read between h =
    let after = step-leaves (step default_config s c) (is_end (step default_config s c).1) refl (step-ends s c) (fields_after (step default_config s c).1 [] []) rest _ read
    (leaves (step default_config s c).0 (fields_after (step default_config s c).1 [] []) (field_after (step default_config s c).1 c []) rest read) h in
    let few = after.0 in
    (omega arith, after.1)

-- the records of a text that begins with one, and of one that has none
pub records-more : (n : ℕ) (s : State) (text : List ℕ) (read : Read) → next_record default_config s [] [] text ≡ Some read → records_from default_config (suc n) s text ≡ read.0 ∷ records_from default_config n read.1 read.2
unfolding records_from
records-more n s text read h = rw h refl

pub records-none : (n : ℕ) (s : State) (text : List ℕ) → next_record default_config s [] [] text ≡ None → records_from default_config (suc n) s text ≡ []
unfolding records_from
records-none n s text h = rw h refl
