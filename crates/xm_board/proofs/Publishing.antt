-- What a caller knows of the journal that it publishes, by those of the market model.
use Rattle.std.proofs.Common.{◌≡◌, ◌+◌, ◌++◌, ◌∷◌, [], true, ℕ, None, refl, ap, ◌∙◌, subst, sym, zero-add}
use Rattle.std.proofs.lemmas.List.{map-append}
use Rattle.xm_board.specs.Journals.{IsLawful, grown, last_number, last_own, quote_of, unnumbered, version_of}
use Rattle.xm_board.specs.declared.journal.Entry.{Entry}
use Rattle.xm_board.specs.declared.journal.NumberedJournal.{NumberedJournal}
use Rattle.xm_board.proofs.Prefixes.{last_number_in-push, last_own_in-push}
use Rattle.xm_rules.proofs.Journals.{is_lawful-push, journal_of}
use Rattle.xm_rules.specs.Quote.{quote}
use Rattle.xm_rules.specs.Refusals.{refusal_of}
use Rattle.xm_rules.specs.Step.{Journal, is_lawful, replay}

pub quote-is : (j : NumberedJournal) → quote_of j ≡ quote (replay (unnumbered j))
unfolding quote_of
quote-is j = refl

pub unnumbered-grown : (j : NumberedJournal) (e : Entry) → unnumbered (grown j e) ≡ journal_of j.settings ((unnumbered j).commands ++ e.command ∷ [])
unnumbered-grown j e = ap (journal_of j.settings) (map-append (λ (x : Entry). x.command) j.entries (e ∷ []))

-- a command that the state doesn't refuse keeps the journal lawful
pub lawful-grown : (j : NumberedJournal) (e : Entry) → IsLawful j → refusal_of (replay (unnumbered j)) e.command ≡ None → IsLawful (grown j e)
lawful-grown j e lawful passes = subst (λ (k : Journal). is_lawful k ≡ true) (sym (unnumbered-grown j e)) (is_lawful-push (unnumbered j) e.command lawful passes)

-- the entry published last stands at the version after that before it
pub last_own-grown : (j : NumberedJournal) (e : Entry) → last_own (grown j e) ≡ (version_of j + 1, e) ∷ []
last_own-grown j e = last_own_in-push j.entries e 0 ∙ ap (λ (n : ℕ). (n + 1, e) ∷ []) (zero-add (version_of j))

pub last_number-grown : (j : NumberedJournal) (e : Entry) → last_number (grown j e) ≡ e.number
last_number-grown j e = last_number_in-push j.entries e
