-- The desks of a segment that leave their locks one after another.
use Rattle.std.proofs.Common.{◌≡◌, ℕ, zero, suc, ◌+◌, ◌*◌, ◌≤◌, List, [], ◌∷◌, ◌++◌, length, map, take, Option, Some, None, refl, sym, ap, subst, arith}
use Rattle.std.specs.Prelude.{slice_get, sum_by}
use Rattle.std.proofs.Math.Nat.{mul-le-mul}
use Rattle.std.proofs.lemmas.List.Sums.{sum_by-cons}
use Rattle.xm_rules.specs.Step.{Journal}
use Rattle.xm_rules.specs.declared.settings.DeskSettings.{DeskSettings}
use Rattle.xm_rules.specs.declared.totals.TheConstants.{MAX_TRADED_MONEY, MAX_TRADED_QUANTITY}
use Rattle.xm_segment.specs.Gathering.{AreGathered, EachGathered, IsClosed, IsGathered}
use Rattle.xm_segment.specs.Ledgers.{AreNothing, Sums, accepted_in}
use Rattle.xm_config.specs.Opening.{fresh_journal, journal_of, settings_of}
use Rattle.xm_config.specs.declared.config.SecurityConfig.{SecurityConfig}
use Rattle.xm_config.specs.declared.config.SegmentConfig.{SegmentConfig}
use Rattle.xm_ticks.specs.declared.numbers.TheConstants.{MAX_TICK_SIZE}

next : (k : ℕ) → suc k ≡ k + 1
next k = omega arith

-- one security more
gathered-more : (settings : List DeskSettings) (counted : List Sums) (journals : List Journal) (k : ℕ) (opened : DeskSettings) (sums : Sums) (j : Journal)
    → EachGathered (take k settings) counted journals → slice_get settings k ≡ Some opened → slice_get counted k ≡ Some sums → IsGathered opened sums j → EachGathered (take (suc k) settings) counted (journals ++ j ∷ [])
gathered-more [] counted journals k opened sums j all at counts is = absurd (cc)
gathered-more (o ∷ more) [] journals k opened sums j all at counts is = absurd (cc)
gathered-more (o ∷ more) (s ∷ ss) [] zero opened sums j all at counts is =
    let same : o ≡ opened = cc in
    let counted : s ≡ sums = cc in
    (subst (λ (x : DeskSettings). IsGathered x s j) (sym same) (subst (λ (x : Sums). IsGathered opened x j) (sym counted) is), tt)
gathered-more (o ∷ more) (s ∷ ss) (i ∷ js) zero opened sums j all at counts is = absurd all
gathered-more (o ∷ more) (s ∷ ss) [] (suc k) opened sums j all at counts is = absurd all
gathered-more (o ∷ more) (s ∷ ss) (i ∷ js) (suc k) opened sums j all at counts is = (all.0, gathered-more more ss js k opened sums j all.1 at counts is)

-- there are no more securities
pub none-more : (settings : List DeskSettings) (k : ℕ) → slice_get settings k ≡ None → take (suc k) settings ≡ take k settings
none-more [] zero none = refl
none-more [] (suc k) none = refl
none-more (o ∷ more) zero none = absurd (cc)
none-more (o ∷ more) (suc k) none = ap (λ (os : List DeskSettings). o ∷ os) (none-more more k none)

-- a lane that is closed adds its journal, if there is one
abbrev pub with_journal : List Journal → Option Journal → List Journal
with_journal journals None = journals
with_journal journals (Some j) = journals ++ j ∷ []

closed_at : (settings : List DeskSettings) (counted : List Sums) (journals : List Journal) (k : ℕ) (here : Option DeskSettings) (sums : Sums) (j : Option Journal)
    → slice_get settings k ≡ here → IsClosed here sums j → slice_get counted k ≡ Some sums → EachGathered (take k settings) counted journals → EachGathered (take (suc k) settings) counted (with_journal journals j)
closed_at settings counted journals k None sums None at is counts all = subst (λ (os : List DeskSettings). EachGathered os counted journals) (sym (none-more settings k at)) all
closed_at settings counted journals k None sums (Some j) at is counts all = absurd is
closed_at settings counted journals k (Some o) sums None at is counts all = absurd is
closed_at settings counted journals k (Some o) sums (Some j) at is counts all = gathered-more settings counted journals k o sums j all at counts is

pub closed : (settings : List DeskSettings) (counted : List Sums) (journals : List Journal) (k : ℕ) (sums : Sums) (j : Option Journal)
    → IsClosed (slice_get settings k) sums j → slice_get counted k ≡ Some sums → EachGathered (take k settings) counted journals → EachGathered (take (k + 1) settings) counted (with_journal journals j)
closed settings counted journals k sums j is counts all =
    subst (λ (n : ℕ). EachGathered (take n settings) counted (with_journal journals j)) (next k) (closed_at settings counted journals k (slice_get settings k) sums j refl is counts all)

-- ---- how many commands were accepted

nothing-accepted : (ss : List Sums) → AreNothing ss → accepted_in ss ≡ 0
nothing-accepted [] none = refl
nothing-accepted (s ∷ ss) none = omega (arith, sum_by-cons (λ (t : Sums). t.accepted) s ss, ap (λ (t : Sums). t.accepted) none.0, nothing-accepted ss none.1)

-- the commands that were counted are those of the journals
pub accepted-gathered : (settings : List DeskSettings) (counted : List Sums) (journals : List Journal) → AreGathered settings counted journals → accepted_in counted ≡ sum_by (λ (j : Journal). length j.commands) journals
accepted-gathered [] counted [] g = nothing-accepted counted g.1
accepted-gathered [] counted (j ∷ js) g = absurd g.0
accepted-gathered (o ∷ os) [] journals g = absurd g.1
accepted-gathered (o ∷ os) (s ∷ ss) [] g = absurd g.0
accepted-gathered (o ∷ os) (s ∷ ss) (j ∷ js) g =
    omega (
      arith,
      sum_by-cons (λ (t : Sums). t.accepted) s ss,
      sum_by-cons (λ (i : Journal). length i.commands) j js,
      ap (λ (t : Sums). t.accepted) g.0.0.sums,
      accepted-gathered os ss js (g.0.1, g.1),
    )

-- ---- what so many securities trade at most

pub quantity-more : (lanes quantity more : ℕ) → quantity ≤ lanes * MAX_TRADED_QUANTITY → more ≤ MAX_TRADED_QUANTITY → quantity + more ≤ (lanes + 1) * MAX_TRADED_QUANTITY
quantity-more lanes quantity more within one = omega (arith, within, one)

-- in ten-thousandths of a euro
pub money-within : (lanes money more tick : ℕ) → money ≤ lanes * MAX_TRADED_MONEY * MAX_TICK_SIZE → more ≤ MAX_TRADED_MONEY → tick ≤ MAX_TICK_SIZE → money + more * tick ≤ (lanes + 1) * MAX_TRADED_MONEY * MAX_TICK_SIZE
money-within lanes money more tick within one high =
    let product : more * tick ≤ MAX_TRADED_MONEY * MAX_TICK_SIZE = mul-le-mul one high in
    omega (arith, within, product)

-- ---- the journals of desks that are opened

pub fresh-journals : (config : SegmentConfig) (ss : List SecurityConfig) → map (journal_of config) ss ≡ map fresh_journal (map (settings_of config) ss)
fresh-journals config [] = refl
fresh-journals config (s ∷ ss) = ap (λ (js : List Journal). journal_of config s ∷ js) (fresh-journals config ss)
