-- What is said of the files of a day, as text.
use Rattle.std.specs.Prelude.{◌≡◌, ℕ, ◌+◌, if◌then◌else◌, ◌==◌, List, [], ◌∷◌, ◌++◌, codes, string_bytes, map}
use Rattle.std.specs.Fmt.{decimal}
use Rattle.std.specs.List.{flat_map}
use Rattle.xm_explanations.specs.declared.explaining.Explanation.{Explanation}
use Rattle.xm_explanations.specs.declared.explaining.Explanation.TheVariants.{Mistaken, Faultless}
use Rattle.xm_explanations.specs.declared.mistaken.Found.{Found}
use Rattle.xm_explanations.specs.declared.mistaken.Found.TheVariants as found
use Rattle.xm_explanations.specs.declared.mistaken.MistakenFile.{MistakenFile}
use Rattle.xm_explanations.specs.declared.notes.Note.{Note}
use Rattle.xm_explanations.specs.declared.running.UnsaidDay.{UnsaidDay}
use Rattle.xm_explanations.specs.declared.unsaid.Standing.{Standing}
use Rattle.xm_files.specs.Names.{NameLists}
use Rattle.xm_mistakes.specs.declared.mistake.Mistake.{Mistake}
use Rattle.xm_mistakes.specs.declared.mistake.OpenMistake.{OpenMistake}
use Rattle.xm_replay.specs.declared.report.DayReport.{DayReport}
use Rattle.xm_rules.specs.Refusals.{is_ended}
use Rattle.xm_texts.specs.RowAnswers.{refusal_word}
use Rattle.xm_texts.specs.Statement.{name_at, phase_word}

-- a mistake is told behind the path of its file, in its words
abbrev pub mistake_line : List ℕ → List ℕ → List ℕ
mistake_line path words = path ++ (codes ": " ++ (words ++ codes "\n"))

abbrev pub found_lines : List ℕ → Found → List ℕ
found_lines path (found.Read reading mistakes) = flat_map (λ (m : Mistake). mistake_line path (string_bytes m.words)) mistakes.items
found_lines path (found.Opening mistakes) = flat_map (λ (m : OpenMistake). mistake_line path (string_bytes m.words)) mistakes.items

abbrev pub mistaken_lines : List MistakenFile → List ℕ
mistaken_lines told = flat_map (λ (f : MistakenFile). found_lines f.path.now f.found) told

abbrev pub accepted_text : ℕ → List ℕ
accepted_text rows = codes "no mistake: " ++ (decimal rows ++ codes " rows accepted, ")

abbrev pub refused_text : ℕ → List ℕ
refused_text rows = decimal rows ++ codes " refused\n"

-- the files have no mistake, and so many rows of theirs were accepted and refused
abbrev pub report_line : DayReport → List ℕ
report_line r = accepted_text r.accepted ++ refused_text r.refused

abbrev pub refusal_text : Note → List ℕ
refusal_text note = string_bytes note.place ++ (codes ": refused as " ++ (refusal_word note.rows.refusal ++ codes ": "))

abbrev pub reason_text : Note → List ℕ
reason_text note = string_bytes note.reason ++ (codes "; rows refused so: " ++ (decimal note.rows.rows ++ codes "\n"))

-- rows that were refused for one reason, with words that say where the first of them stands, and what it is refused for
unfoldable pub told_refusal : Note → List ℕ
told_refusal note = refusal_text note ++ reason_text note

abbrev pub refused_lines : List Note → List ℕ
refused_lines [] = []
refused_lines (note ∷ more) = told_refusal note ++ refused_lines more

-- since when a security stands so
abbrev pub record_text : ℕ → List ℕ
record_text number = codes "since record " ++ (decimal number ++ codes "\n")

abbrev pub since_text : ℕ → List ℕ
since_text since = if since == 0 then codes "since the day began\n" else record_text since

-- a security that hasn't ended, by its name
abbrev pub unended_line : List ℕ → Standing → List ℕ
unended_line name s = codes "security " ++ (name ++ (codes " has not ended: " ++ (phase_word s.phase ++ (codes " " ++ since_text s.since))))

abbrev pub standing_line : List ℕ → Standing → List ℕ
standing_line name s = if is_ended s.phase then [] else unended_line name s

-- the securities that haven't ended, of which the first has this index
abbrev pub standing_lines : NameLists → ℕ → List Standing → List ℕ
standing_lines names index [] = []
standing_lines names index (s ∷ more) = standing_line (name_at names.securities index) s ++ standing_lines names (index + 1) more

-- what is unsaid of a day, with these words beside its refused rows
abbrev pub unsaid_lines : List Note → UnsaidDay → List ℕ
unsaid_lines notes u = report_line u.report ++ (refused_lines notes ++ standing_lines u.names 0 u.standing.items)

-- the text of an explanation; of the words beside refused rows nothing is said but that each refusal has some
abbrev pub AreLines : Explanation → List ℕ → Type 0
AreLines (Mistaken told) text = text ≡ mistaken_lines told.items
AreLines (Faultless u) text = (notes : List Note) × (map (λ (note : Note). note.rows) notes ≡ u.refused.items) × (text ≡ unsaid_lines notes u)
