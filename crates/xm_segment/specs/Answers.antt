-- What is answered to a command under a lock, what is shown without one, and what a watch knows then.
use Rattle.std.specs.Prelude.{◌≡◌, ◌≢◌, ℕ, zero, suc, ◌+◌, ◌++◌, List, [], ◌∷◌, Option, None, Some, Result, Ok, Err}
use Rattle.xm_board.specs.Journals.{Begins, IsLawful, entry_of, grown, known_by, quote_of, unnumbered, version_of}
use Rattle.xm_board.specs.declared.journal.NumberedJournal.{NumberedJournal}
use Rattle.xm_board.specs.declared.watch.Known.{Known}
use Rattle.xm_rules.specs.Refusals.{refusal_of}
use Rattle.xm_rules.specs.State.{State}
use Rattle.xm_rules.specs.Step.{replay, reply, step}
use Rattle.xm_rules.specs.declared.commands.Command.{Command}
use Rattle.xm_rules.specs.declared.replies.Quote.{Quote}
use Rattle.xm_rules.specs.declared.replies.Refusal.{Refusal}
use Rattle.xm_rules.specs.declared.replies.Refusal.TheVariants.{OutOfMemory, UnknownSecurity}
use Rattle.xm_rules.specs.declared.replies.Reply.{Reply}
use Rattle.xm_rules.specs.declared.settings.DeskSettings.{DeskSettings}

-- what a state answers to a command: the reply to its step, or why it is refused. Memory is wanting only where nothing is refused
abbrev pub IsAnswer : State → Command → Result Reply Refusal → Type 0
IsAnswer s command (Ok answer) = (refusal_of s command ≡ None) × (answer ≡ reply s (step s command))
IsAnswer s command (Err refusal) =
    (refusal ≢ OutOfMemory tt → refusal_of s command ≡ Some refusal) × (refusal ≡ OutOfMemory tt → refusal_of s command ≡ None)

-- what a watch knows once its command was answered: it has seen the journal that stood behind the lock, to which an accepted
-- command was added with the watch's number, and which is then the last of its own entries
abbrev pub with_answered : Known → NumberedJournal → Command → Result Reply Refusal → Known
with_answered w journal command (Ok reply) =
    known_by w.number (grown journal (entry_of w.number command)) (w.own_entries ++ (version_of journal + 1, entry_of w.number command) ∷ [])
with_answered w journal command (Err refusal) = known_by w.number journal w.own_entries

-- the answer is that of a lawful journal, the one that stood behind the lock of a security with these settings. It begins with
-- all that the watch had seen
pub record WasAnswered (opened : DeskSettings) (command : Command) (answer : Result Reply Refusal) (before after : Known) : Type 0 where
  pub journal : NumberedJournal
  pub settings : journal.settings ≡ opened
  pub lawful : IsLawful journal
  pub later : Begins before.seen journal
  pub answers : IsAnswer (replay (unnumbered journal)) command answer
  pub knows : after ≡ with_answered before journal command answer

-- a security that the segment doesn't have is unknown, and no watch watches it
abbrev pub IsAnswered : Option DeskSettings → Command → Result Reply Refusal → Option Known → Option Known → Type 0
IsAnswered None command answer None None = answer ≡ Err UnknownSecurity
IsAnswered (Some opened) command answer (Some before) (Some after) = WasAnswered opened command answer before after
IsAnswered _ command answer _ _ = ⊥

-- of the watches of a row the one with this index was answered, and the others know what they knew
abbrev pub IsAnsweredOn : ℕ → Option DeskSettings → Command → Result Reply Refusal → List (Option Known) → List (Option Known) → Type 0
IsAnsweredOn security opened command answer [] [] = IsAnswered opened command answer None None
IsAnsweredOn zero opened command answer (w ∷ ws) (v ∷ vs) = IsAnswered opened command answer w v × (vs ≡ ws)
IsAnsweredOn (suc security) opened command answer (w ∷ ws) (v ∷ vs) = (v ≡ w) × IsAnsweredOn security opened command answer ws vs
IsAnsweredOn security opened command answer _ _ = ⊥

-- the quote is that of a lawful journal of a security with these settings, which begins with all that the watch had seen, and
-- which it has seen then
pub record WasShown (opened : DeskSettings) (shown : Quote) (before after : Known) : Type 0 where
  pub settings : after.seen.settings ≡ opened
  pub lawful : IsLawful after.seen
  pub later : Begins before.seen after.seen
  pub shows : shown ≡ quote_of after.seen
  pub knows : after ≡ known_by before.number after.seen before.own_entries

-- there is no quote of a security that the segment doesn't have
abbrev pub IsShown : Option DeskSettings → Option Quote → Option Known → Option Known → Type 0
IsShown None None None None = Unit {0}
IsShown (Some opened) (Some shown) (Some before) (Some after) = WasShown opened shown before after
IsShown _ _ _ _ = ⊥

-- of the watches of a row the one with this index was read, and the others know what they knew
abbrev pub IsShownOn : ℕ → Option DeskSettings → Option Quote → List (Option Known) → List (Option Known) → Type 0
IsShownOn security opened shown [] [] = IsShown opened shown None None
IsShownOn zero opened shown (w ∷ ws) (v ∷ vs) = IsShown opened shown w v × (vs ≡ ws)
IsShownOn (suc security) opened shown (w ∷ ws) (v ∷ vs) = (v ≡ w) × IsShownOn security opened shown ws vs
IsShownOn security opened shown _ _ = ⊥
