-- What whole journals tell: each of their trades, and all units of a name that no command changes.
use Rattle.std.proofs.Common.{◌≡◌, ℕ, ◌+◌, ◌≤◌, ◌==◌, Bool, true, false, ◌&&◌, if◌then◌else◌, List, [], ◌∷◌, ◌++◌, sum_by, refl, sym, ap, ◌∙◌, arith}
use Rattle.std.specs.List.{filter_map, flat_map, list_any}
use Rattle.std.specs.Prelude.{is_none}
use Rattle.std.proofs.lemmas.Bool.{and_parts, or_parts}
use Rattle.std.proofs.lemmas.List.Sums.{sum_by-append, sum_by-cons}
use Rattle.xm_events.specs.Life.{bare_in, both_sides, entered_units, given, is_change_of, stories, taken, units_named}
use Rattle.xm_events.specs.Story.{story}
use Rattle.xm_rules.specs.Opening.{are_carriable, opening}
use Rattle.xm_rules.specs.Refusals.{refusal_of}
use Rattle.xm_rules.specs.State.{State}
use Rattle.xm_rules.specs.Step.{Journal, is_lawful, is_lawful_from, replay, replay_from, step}
use Rattle.xm_rules.specs.declared.commands.Command.{Command}
use Rattle.xm_rules.specs.declared.commands.Command.TheVariants.{Enter, Change, Cancel, CancelAll, StartOpening, StartIntraday, StartClosing, Uncross, EndDay}
use Rattle.xm_rules.specs.declared.orders.Trade.{Trade}
use Rattle.xm_rules.specs.declared.settings.DeskSettings.{DeskSettings}
use Rattle.xm_rules.proofs.LawfulJournals.{none_from_test}
use Rattle.xm_rules.proofs.OneName.{step-uses, uses}
use Rattle.xm_rules.proofs.Opening.{opening-is, opening-uses}
use Rattle.xm_events.proofs.Conserved.{story_conserves}
use Rattle.xm_events.proofs.Told.{Tells, story_tells, tells_none, tells_on}

-- ---- trades

stories_tell : (s : State) (cs : List Command) → Tells s (replay_from s cs) (stories s cs)
stories_tell s [] = tells_none s s [] refl refl
stories_tell s (c ∷ cs) = tells_on s (step s c) (replay_from (step s c) cs) (story s c) (stories (step s c) cs) (story_tells s c) (stories_tell (step s c) cs)

-- a day opens without a trade
opening_trades : (settings : DeskSettings) → (opening settings).trades ≡ []
opening_trades settings = ap (λ (s : State). s.trades) (opening-is settings)

pub journal_tells : (j : Journal) → filter_map bare_in (stories (opening j.settings) j.commands) ≡ flat_map both_sides (replay j).trades
unfolding replay
journal_tells j =
    let a = stories_tell (opening j.settings) j.commands in
    a.told ∙ ap (flat_map both_sides) (sym (a.trades ∙ ap (λ (ts : List Trade). ts ++ a.more) (opening_trades j.settings)))

-- ---- units

module _ (member reference : ℕ) where
  given_if : (b : Bool) (n m : ℕ) → b ≡ false → (if b then n else m) ≡ 0 + m
  given_if true n m e = absurd (cc)
  given_if false n m e = omega arith

  -- a command that doesn't change the order of a name gives the name what it enters under it
  given_unchanged : (s : State) (c : Command) → is_change_of member reference c ≡ false → given s c member reference ≡ entered_units member reference c + units_named s member reference
  given_unchanged s (Enter m r side kind quantity validity restriction condition) e = refl
  given_unchanged s (Change m r quantity limit) e = given_if ((m == member) && (r == reference)) quantity (units_named s member reference) e
  given_unchanged s (Cancel m r) e = omega arith
  given_unchanged s (CancelAll m) e = omega arith
  given_unchanged s StartOpening e = omega arith
  given_unchanged s StartIntraday e = omega arith
  given_unchanged s StartClosing e = omega arith
  given_unchanged s Uncross e = omega arith
  given_unchanged s EndDay e = omega arith

  stories_conserve : (s : State) (cs : List Command) → is_lawful_from s cs ≡ true → list_any (is_change_of member reference) cs ≡ false → uses member reference s ≤ 1
      → sum_by (entered_units member reference) cs + units_named s member reference ≡ sum_by (taken member reference) (stories s cs) + units_named (replay_from s cs) member reference
  stories_conserve s [] lawful unchanged once = refl
  stories_conserve s (c ∷ cs) lawful unchanged once =
      let t = step s c in
      let parts = and_parts (is_none (refusal_of s c)) (is_lawful_from t cs) lawful in
      let accepted = none_from_test (refusal_of s c) parts.0 in
      let none = or_parts (is_change_of member reference c) (list_any (is_change_of member reference) cs) unchanged in
      omega (
        arith,
        sum_by-cons (entered_units member reference) c cs,
        sum_by-append (taken member reference) (story s c) (stories t cs),
        story_conserves member reference s c accepted once,
        given_unchanged s c none.0,
        stories_conserve t cs parts.1 none.1 (step-uses member reference s c accepted once),
      )

  pub journal_conserves : (j : Journal) → is_lawful j ≡ true → list_any (is_change_of member reference) j.commands ≡ false
      → sum_by (entered_units member reference) j.commands + units_named (opening j.settings) member reference
      ≡ sum_by (taken member reference) (stories (opening j.settings) j.commands) + units_named (replay j) member reference
  unfolding replay is_lawful
  journal_conserves j lawful unchanged =
      let parts = and_parts (are_carriable j.settings) (is_lawful_from (opening j.settings) j.commands) lawful in
      stories_conserve (opening j.settings) j.commands parts.1 unchanged (opening-uses j.settings member reference parts.0)
