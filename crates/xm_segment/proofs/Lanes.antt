-- The sums of the lanes of a segment, after an answer and added up.
use Rattle.std.proofs.Common.{◌≡◌, ℕ, zero, suc, ◌+◌, ◌*◌, ◌≤◌, List, [], ◌∷◌, length, Option, None, Some, Result, Ok, Err, refl, sym, ap, subst, arith}
use Rattle.std.specs.Prelude.{slice_get, sum_by}
use Rattle.std.proofs.lemmas.List.Sums.{sum_by-cons}
use Rattle.xm_rules.specs.declared.commands.Command.{Command}
use Rattle.xm_rules.specs.declared.replies.Refusal.{Refusal}
use Rattle.xm_rules.specs.declared.replies.Reply.{Reply}
use Rattle.xm_rules.specs.declared.settings.DeskSettings.{DeskSettings}
use Rattle.xm_rules.specs.declared.totals.TheConstants.{MAX_TRADED_QUANTITY}
use Rattle.xm_board.specs.declared.watch.Known.{Known}
use Rattle.xm_rules.specs.declared.replies.Refusal.TheVariants.{UnknownSecurity}
use Rattle.xm_segment.specs.Answers.{IsAnsweredOn}
use Rattle.xm_segment.specs.Ledgers.{AreNothing, AreWithinDay, FitLanes, Sums, accepted_in, added, both_sums, nothing_counted, quantity_in, with_answer, with_answer_on}

-- a refusal counts nothing
pub refused-counts : (k : ℕ) (ss : List Sums) (e : Refusal) → with_answer_on k ss (Err e) ≡ ss
refused-counts k [] e = refl
refused-counts zero (s ∷ ss) e = refl
refused-counts (suc k) (s ∷ ss) e = ap (λ (ts : List Sums). s ∷ ts) (refused-counts k ss e)

-- an answer on a security that the segment doesn't have is a refusal
abbrev pub IsKnownOr : Option DeskSettings → Result Reply Refusal → Type 0
IsKnownOr None a = a ≡ Err UnknownSecurity
IsKnownOr (Some opened) a = Unit {0}

pub known-or : (k : ℕ) (here : Option DeskSettings) (c : Command) (a : Result Reply Refusal) (ws vs : List (Option Known)) → IsAnsweredOn k here c a ws vs → IsKnownOr here a
known-or k None c a [] [] is = is
known-or k (Some opened) c a [] [] is = absurd is
known-or zero here c a [] (v ∷ vs) is = absurd is
known-or (suc k) here c a [] (v ∷ vs) is = absurd is
known-or zero here c a (w ∷ ws) [] is = absurd is
known-or (suc k) here c a (w ∷ ws) [] is = absurd is
known-or zero None c a (None ∷ ws) (None ∷ vs) is = is.0
known-or zero None c a (None ∷ ws) (Some v ∷ vs) is = absurd is.0
known-or zero None c a (Some w ∷ ws) (v ∷ vs) is = absurd is.0
known-or zero (Some opened) c a (w ∷ ws) (v ∷ vs) is = tt
known-or (suc k) here c a (w ∷ ws) (v ∷ vs) is = known-or k here c a ws vs is.1

unknown-counts : (k : ℕ) (ss : List Sums) (a : Result Reply Refusal) → IsKnownOr None a → with_answer_on k ss a ≡ ss
unknown-counts k ss (Ok r) is = absurd (cc)
unknown-counts k ss (Err e) is = refused-counts k ss e

-- and so counts in the lanes of the segment alone
pub answer-fits : (settings : List DeskSettings) (k : ℕ) (ss : List Sums) (a : Result Reply Refusal) → IsKnownOr (slice_get settings k) a → FitLanes settings ss → FitLanes settings (with_answer_on k ss a)
answer-fits [] k ss a is fit = subst AreNothing (sym (unknown-counts k ss a is)) fit
answer-fits (opened ∷ more) k [] a is fit = absurd fit
answer-fits (opened ∷ more) zero (s ∷ ss) a is fit = fit
answer-fits (opened ∷ more) (suc k) (s ∷ ss) a is fit = answer-fits more k ss a is fit

-- by how much an answer raises a sum over all lanes
module _ (f : Sums → ℕ) (r : Reply) (by : ℕ) (raises : (s : Sums) → f (with_answer s (Ok r)) ≡ f s + by) where
  pub answer-raises : (settings : List DeskSettings) (k : ℕ) (ss : List Sums) → IsKnownOr (slice_get settings k) (Ok r) → FitLanes settings ss → sum_by f (with_answer_on k ss (Ok r)) ≡ sum_by f ss + by
  answer-raises [] k ss is fit = absurd (cc)
  answer-raises (opened ∷ more) k [] is fit = absurd fit
  answer-raises (opened ∷ more) zero (s ∷ ss) is fit = omega (arith, sum_by-cons f (with_answer s (Ok r)) ss, sum_by-cons f s ss, raises s)
  answer-raises (opened ∷ more) (suc k) (s ∷ ss) is fit = omega (arith, sum_by-cons f s (with_answer_on k ss (Ok r)), sum_by-cons f s ss, answer-raises more k ss is fit)

pub accepted-raises : (settings : List DeskSettings) (k : ℕ) (ss : List Sums) (r : Reply) → IsKnownOr (slice_get settings k) (Ok r) → FitLanes settings ss → accepted_in (with_answer_on k ss (Ok r)) ≡ accepted_in ss + 1
accepted-raises settings k ss r is fit = answer-raises (λ (s : Sums). s.accepted) r 1 (λ s. refl) settings k ss is fit

pub quantity-raises : (settings : List DeskSettings) (k : ℕ) (ss : List Sums) (r : Reply) → IsKnownOr (slice_get settings k) (Ok r) → FitLanes settings ss
    → quantity_in (with_answer_on k ss (Ok r)) ≡ quantity_in ss + r.quantity
quantity-raises settings k ss r is fit = answer-raises (λ (s : Sums). s.quantity) r r.quantity (λ s. refl) settings k ss is fit

-- what eight securities trade
pub quantity-within : (ss : List Sums) → AreWithinDay ss → quantity_in ss ≤ length ss * MAX_TRADED_QUANTITY
quantity-within [] within = omega arith
quantity-within (s ∷ ss) within = omega (arith, sum_by-cons (λ (t : Sums). t.quantity) s ss, within.0, quantity-within ss within.1)

-- ---- sums added up

nothing-added : (ss ts : List Sums) → AreNothing ss → AreNothing ts → AreNothing (added ss ts)
nothing-added [] ts none nothing = nothing
nothing-added (s ∷ ss) [] none nothing = none
nothing-added (s ∷ ss) (t ∷ ts) none nothing = (λ i. both_sums (none.0 i) (nothing.0 i), nothing-added ss ts none.1 nothing.1)

pub added-fit : (settings : List DeskSettings) (ss ts : List Sums) → FitLanes settings ss → FitLanes settings ts → FitLanes settings (added ss ts)
added-fit [] ss ts fit also = nothing-added ss ts fit also
added-fit (opened ∷ more) [] ts fit also = absurd fit
added-fit (opened ∷ more) (s ∷ ss) [] fit also = absurd also
added-fit (opened ∷ more) (s ∷ ss) (t ∷ ts) fit also = added-fit more ss ts fit also

-- lanes in which nothing is counted
pub nothing-fits : (settings : List DeskSettings) (ss : List Sums) → AreNothing ss → length settings ≤ length ss → FitLanes settings ss
nothing-fits [] ss none few = none
nothing-fits (opened ∷ more) [] none few = absurd (omega (arith, few))
nothing-fits (opened ∷ more) (s ∷ ss) none few = nothing-fits more ss none.1 (omega (arith, few))

-- ---- a seat in which nothing is counted

pub nothing-within : AreWithinDay nothing_counted
nothing-within = let least : 0 ≤ MAX_TRADED_QUANTITY = omega arith in (least, (least, (least, (least, (least, (least, (least, (least, tt))))))))

pub nothing-there : AreNothing nothing_counted
nothing-there = (refl, (refl, (refl, (refl, (refl, (refl, (refl, (refl, tt))))))))

-- an answer adds no lane
pub answer-lanes : (k : ℕ) (ss : List Sums) (a : Result Reply Refusal) → length (with_answer_on k ss a) ≡ length ss
answer-lanes k [] a = refl
answer-lanes zero (s ∷ ss) a = refl
answer-lanes (suc k) (s ∷ ss) a = omega (arith, answer-lanes k ss a)
