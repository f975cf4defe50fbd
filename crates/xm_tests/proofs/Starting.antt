-- The first quotes of a day to which earlier days left nothing.
use Rattle.std.proofs.Common.{◌≡◌, ℕ, ◌+◌, refl, subst, sym, ap, None, arith, false, true}
use Rattle.std.specs.Prelude.{nat_le}
use Rattle.std.proofs.lemmas.Bool.Decides.{nat_tests}
use Rattle.xm_board.proofs.Publishing.{lawful-grown}
use Rattle.xm_board.specs.Journals.{IsLawful, entry_of, grown, opening_of, quote_of}
use Rattle.xm_rules.proofs.Journals.{is_lawful-opening}
use Rattle.xm_rules.specs.Entries.{Entries, none_left}
use Rattle.xm_rules.specs.Opening.{are_carriable, can_be_left, opening}
use Rattle.xm_rules.specs.Refusals.{refusal_of}
use Rattle.xm_rules.specs.Step.{replay, step}
use Rattle.xm_rules.specs.declared.commands.Command.TheVariants.{StartOpening}
use Rattle.xm_rules.specs.declared.phases.Auction.TheVariants.{Opening}
use Rattle.xm_rules.specs.declared.phases.CallStage.TheVariants.{Ordinary}
use Rattle.xm_rules.specs.declared.phases.Phase.TheVariants.{PreTrading, Call}
use Rattle.xm_rules.specs.declared.settings.DeskSettings.{DeskSettings}

-- a security takes nothing of earlier days
pub takes-none : (s : DeskSettings) → s.carried ≡ none_left → are_carriable s ≡ true
takes-none s none = ap (can_be_left s.members) none

pub first-quote : (s : DeskSettings) → s.carried ≡ none_left → record { version = 0; phase = PreTrading; best_buy = None; best_sell = None; ref1 = s.reference; ref2 = s.reference; quantity = 0 } ≡ quote_of (opening_of s)
unfolding quote_of replay opening
first-quote s none = ap (λ (carried : Entries). quote_of (opening_of (record s { carried = carried }))) (sym none)

pub second-quote : (s : DeskSettings) → s.carried ≡ none_left → record { version = 1; phase = Call Opening Ordinary; best_buy = None; best_sell = None; ref1 = s.reference; ref2 = s.reference; quantity = 0 } ≡ quote_of (grown (opening_of s) (entry_of 0 StartOpening))
unfolding quote_of replay step opening
second-quote s none = ap (λ (carried : Entries). quote_of (grown (opening_of (record s { carried = carried })) (entry_of 0 StartOpening))) (sym none)

room : (limit : ℕ) → nat_le (limit + 64) 0 ≡ false
room limit = grind (arith, nat_tests)

pub starts : (s : DeskSettings) → s.carried ≡ none_left → IsLawful (grown (opening_of s) (entry_of 0 StartOpening))
unfolding refusal_of replay opening
starts s none =
    let t : DeskSettings = record s { carried = none_left } in
    subst (λ (carried : Entries). IsLawful (grown (opening_of (record s { carried = carried })) (entry_of 0 StartOpening))) (sym none)
    (lawful-grown (opening_of t) (entry_of 0 StartOpening) (is_lawful-opening t refl) (rw (room s.limit) refl))
