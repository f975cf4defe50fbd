-- The trades that a command adds are between members of the desk, and with those before within the limits of a day.
use Rattle.std.proofs.Common.{◌≡◌, ℕ, ◌+◌, ◌≤◌, ◌&&◌, ◌-ℤ◌, pos, Bool, ◌∷◌, [], ◌++◌, true, false, if◌then◌else◌, Some, None, List, All, drop, length, refl, sym, ◌∙◌, subst, arith}
use Rattle.std.specs.Prelude.{nat_lt}
use Rattle.std.proofs.lemmas.Bool.Decides.{nat_tests}
use Rattle.xm_positions.specs.Positions.{Recorded, cash_position, has_position, net_position}
use Rattle.xm_rules.proofs.DayLimits.{within_limits}
use Rattle.xm_rules.proofs.Journals.{is_lawful-push, journal_of, replay-push}
use Rattle.xm_rules.proofs.KnownMembers.{known}
use Rattle.xm_rules.proofs.MemberSums.{none-bought, none-paid, none-received, none-sold}
use Rattle.xm_rules.specs.Refusals.{refusal_of}
use Rattle.xm_rules.specs.State.{State}
use Rattle.xm_rules.specs.Step.{Journal, is_lawful, replay, step}
use Rattle.xm_rules.specs.Sums.{AreWithinLimits, IsBetweenMembers, cash, has_traded, net}
use Rattle.xm_rules.specs.declared.commands.Command.{Command}
use Rattle.xm_rules.specs.declared.orders.Trade.{Trade}
use Rattle.xm_ticks.specs.declared.numbers.TheConstants.{MAX_JOURNAL_LIMIT, MAX_PRICE}

abbrev pub ArePriced : State → Type 0
ArePriced s = All (λ (t : Trade). t.price ≤ MAX_PRICE) s.trades

module _ (j : Journal) (c : Command) (lawful : is_lawful j ≡ true) (passed : refusal_of (replay j) c ≡ None) where
  abbrev after : Journal
  after = journal_of j.settings (j.commands ++ c ∷ [])

  lawful_after : is_lawful after ≡ true
  lawful_after = is_lawful-push j c lawful passed

  pub are_between : All (IsBetweenMembers j.settings.members) (step (replay j) c).trades
  are_between = subst (λ (s : State). All (IsBetweenMembers j.settings.members) s.trades) (replay-push j c) (known after lawful_after).trades

  pub are_within : j.settings.limit ≤ MAX_JOURNAL_LIMIT → ArePriced (step (replay j) c) → AreWithinLimits (step (replay j) c).trades
  are_within few priced =
      subst (λ (s : State). AreWithinLimits s.trades) (replay-push j c) (within_limits after lawful_after few (subst ArePriced (sym (replay-push j c)) priced))

abbrev pub recorded : ℕ → List Trade → Recorded
recorded members trades = record { members = members; trades = trades }

-- those before, and those that were added
pub all-recorded : (old before after : List Trade) → before ≡ old → after ≡ old ++ drop (length old) after → old ++ drop (length before) after ≡ after
all-recorded old before after b appended = (λ i. old ++ drop (length (b i)) after) ∙ sym appended

-- ---- a member that the desk doesn't know

beyond_if : {A : Type 0} (b : Bool) (x : A) → (if b then Some x else None) ≡ None → b ≡ false
beyond_if true x e = absurd (cc)
beyond_if false x e = refl

not_below : (members member : ℕ) → nat_lt member members ≡ false → members ≤ member
not_below members member e = grind (arith, nat_tests)

module _ (j : Journal) (lawful : is_lawful j ≡ true) (member : ℕ) where
  abbrev pub positions : Recorded
  positions = record { members = j.settings.members; trades = (replay j).trades }

  module _ (beyond : j.settings.members ≤ member) where
    no_net : net member positions.trades ≡ pos 0
    no_net =
        (λ i. pos (none-bought j.settings.members positions.trades (known j lawful).trades member beyond i) -ℤ pos (none-sold j.settings.members positions.trades (known j lawful).trades member beyond i))

    no_cash : cash member positions.trades ≡ pos 0
    no_cash =
        (λ i. pos (none-received j.settings.members positions.trades (known j lawful).trades member beyond i) -ℤ pos (none-paid j.settings.members positions.trades (known j lawful).trades member beyond i))

    no_trade : has_traded member positions.trades ≡ false
    no_trade =
        (λ i. nat_lt 0 (none-bought j.settings.members positions.trades (known j lawful).trades member beyond i + none-sold j.settings.members positions.trades (known j lawful).trades member beyond i))

  pub unknown-net : net_position positions member ≡ None → net member positions.trades ≡ pos 0
  unknown-net e = no_net (not_below j.settings.members member (beyond_if (nat_lt member j.settings.members) (net member positions.trades) e))

  pub unknown-cash : cash_position positions member ≡ None → cash member positions.trades ≡ pos 0
  unknown-cash e = no_cash (not_below j.settings.members member (beyond_if (nat_lt member j.settings.members) (cash member positions.trades) e))

  traded_if : (b t : Bool) → (b ≡ false → t ≡ false) → (b && t) ≡ t
  traded_if true t h = refl
  traded_if false t h = sym (h refl)

  pub known-traded : has_position positions member ≡ has_traded member positions.trades
  known-traded =
      traded_if (nat_lt member j.settings.members) (has_traded member positions.trades) (λ e. no_trade (not_below j.settings.members member e))
