-- The quote of a published journal, and its words.
use Rattle.std.proofs.Common.{◌≡◌, ◌+◌, ◌<◌, ◌≤◌, ◌^◌, refl, ap, ◌∙◌, subst, arith, None, map, true}
use Rattle.std.proofs.lemmas.List.{length-map}
use Rattle.xm_board.specs.Journals.{IsLawful, grown, version_of, opening_of, quote_of, unnumbered}
use Rattle.xm_board.specs.Published.{IsPublished}
use Rattle.xm_board.specs.Words.{HasPricesInRange, phase_at, phase_number}
use Rattle.xm_board.specs.declared.journal.Entry.{Entry}
use Rattle.xm_board.specs.declared.journal.NumberedJournal.{NumberedJournal}
use Rattle.xm_rules.proofs.Accepted.{accepted-below}
use Rattle.xm_rules.proofs.Journals.{is_lawful-opening, replay_from-accepted, step-accepted}
use Rattle.xm_rules.proofs.Kept.{step-settings}
use Rattle.xm_rules.proofs.Opening.{opening-is, opening-settings}
use Rattle.xm_rules.proofs.Replays.{lawful-has}
use Rattle.xm_rules.specs.Opening.{are_carriable, opening}
use Rattle.xm_rules.specs.Refusals.{refusal_of}
use Rattle.xm_rules.specs.State.{State}
use Rattle.xm_rules.specs.Step.{replay, step}
use Rattle.xm_rules.specs.declared.commands.Command.{Command}
use Rattle.xm_rules.specs.declared.phases.Auction.TheVariants.{Opening, Intraday, Closing, Interruption}
use Rattle.xm_rules.specs.declared.phases.CallStage.TheVariants.{Ordinary, Interrupted, Extended}
use Rattle.xm_rules.specs.declared.phases.Phase.{Phase}
use Rattle.xm_rules.specs.declared.phases.Phase.TheVariants.{PreTrading, Call, Continuous, PostTrading, Ended}
use Rattle.xm_rules.specs.declared.replies.Quote.{Quote}
use Rattle.xm_rules.specs.declared.settings.DeskSettings.{DeskSettings}
use Rattle.xm_rules.specs.declared.settings.TheConstants.{PHASE_COMMANDS_MORE}
use Rattle.xm_ticks.specs.declared.numbers.TheConstants.{MAX_JOURNAL_LIMIT}

none_accepted : (settings : DeskSettings) → (opening settings).accepted ≡ 0
none_accepted settings = ap (λ (s : State). s.accepted) (opening-is settings)

accepted_is : (j : NumberedJournal) → (replay (unnumbered j)).accepted ≡ version_of j
unfolding replay
accepted_is j =
    omega (
      arith,
      replay_from-accepted (opening j.settings) (map (λ (e : Entry). e.command) j.entries),
      none_accepted j.settings,
      length-map j.entries (λ (e : Entry). e.command),
    )

pub quote-version : (j : NumberedJournal) → (quote_of j).version ≡ version_of j
unfolding quote_of
quote-version j = accepted_is j

-- a lawful journal has no more commands than its limit and those that it takes of the phases
abbrev HasRoom : DeskSettings → State → Type 0
HasRoom settings s = (s.settings ≡ settings) × (s.accepted ≤ s.settings.limit + PHASE_COMMANDS_MORE)

room_kept : (settings : DeskSettings) (s : State) (c : Command) → refusal_of s c ≡ None → HasRoom settings s → HasRoom settings (step s c)
room_kept settings s c h r =
    let limit = ap (λ (d : DeskSettings). d.limit) (step-settings s c) in (step-settings s c ∙ r.0, omega (arith, accepted-below s c h, step-accepted s c, limit))

pub version_small : (j : NumberedJournal) → IsPublished j → version_of j < 2 ^ 32
version_small j p =
    let room = lawful-has (HasRoom j.settings) (room_kept j.settings) (unnumbered j) p.lawful (λ _. (opening-settings j.settings, omega (arith, none_accepted j.settings))) in
    let limit : (replay (unnumbered j)).settings.limit ≡ j.settings.limit = ap (λ (d : DeskSettings). d.limit) room.0 in
    omega (arith, room.1, limit, p.limit, accepted_is j)

pub lawful_opening : (settings : DeskSettings) → are_carriable settings ≡ true → IsLawful (opening_of settings)
lawful_opening settings carriable = is_lawful-opening settings carriable

-- the ranges of the settings and of a quote that was given make a lawful journal one that is published
pub published_opening : (settings : DeskSettings) (q : Quote) → are_carriable settings ≡ true → settings.limit ≤ MAX_JOURNAL_LIMIT → q ≡ quote_of (opening_of settings) → HasPricesInRange q → IsPublished (opening_of settings)
published_opening settings q carriable limit is prices = record { lawful = lawful_opening settings carriable; limit = limit; prices = subst HasPricesInRange is prices }

pub published_grown : (j : NumberedJournal) (e : Entry) (q : Quote) → IsPublished j → IsLawful (grown j e) → q ≡ quote_of (grown j e) → HasPricesInRange q → IsPublished (grown j e)
published_grown j e q p lawful is prices = record { lawful = lawful; limit = p.limit; prices = subst HasPricesInRange is prices }

pub phase_back : (p : Phase) → phase_at (phase_number p) ≡ p
phase_back PreTrading = refl
phase_back (Call Opening Ordinary) = refl
phase_back (Call Opening Interrupted) = refl
phase_back (Call Opening Extended) = refl
phase_back (Call Intraday Ordinary) = refl
phase_back (Call Intraday Interrupted) = refl
phase_back (Call Intraday Extended) = refl
phase_back (Call Closing Ordinary) = refl
phase_back (Call Closing Interrupted) = refl
phase_back (Call Closing Extended) = refl
phase_back (Call Interruption Ordinary) = refl
phase_back (Call Interruption Interrupted) = refl
phase_back (Call Interruption Extended) = refl
phase_back Continuous = refl
phase_back PostTrading = refl
phase_back Ended = refl
