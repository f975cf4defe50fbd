-- What a segment's ledgers count in all, beside its journals.
use Rattle.std.proofs.Common.{◌≡◌, ◌+◌, List, [], ◌∷◌, length, refl, ap, ◌∙◌, arith}
use Rattle.std.proofs.lemmas.List.Sums.{sum_by-cons}
use Rattle.xm_workers.specs.Workers.{AreJournals, accepted_by}
use Rattle.xm_replay.specs.Taken.{commands_in}
use Rattle.xm_rules.specs.Step.{Journal}
use Rattle.xm_rules.specs.declared.settings.DeskSettings.{DeskSettings}
use Rattle.xm_segment.specs.Gathering.{EachGathered, all_sums, sums_from}
use Rattle.xm_segment.specs.Ledgers.{AreNothing, FitLanes, Sums, accepted_in, added, both_sums, nothing_counted}
use Rattle.xm_segment.specs.Seats.{SeatView}

accepted_in-cons : (s : Sums) (ss : List Sums) → accepted_in (s ∷ ss) ≡ s.accepted + accepted_in ss
accepted_in-cons s ss = sum_by-cons (λ (s : Sums). s.accepted) s ss

pub accepted_in-added : (ss ts : List Sums) → accepted_in (added ss ts) ≡ accepted_in ss + accepted_in ts
accepted_in-added [] ts = let same : accepted_in ts ≡ 0 + accepted_in ts = omega arith in same
accepted_in-added (s ∷ ss) [] = omega arith
accepted_in-added (s ∷ ss) (t ∷ ts) =
    let both = accepted_in-cons (both_sums s t) (added ss ts) in
    let one = accepted_in-cons s ss in
    let other = accepted_in-cons t ts in
    omega (arith, both, one, other, accepted_in-added ss ts)

sums_from-accepted : (sums : List Sums) (seats : List SeatView) → accepted_in (sums_from sums seats) ≡ accepted_in sums + accepted_by seats
sums_from-accepted sums [] = omega arith
sums_from-accepted sums (seat ∷ seats) =
    let rest = sums_from-accepted (added sums seat.sums) seats in
    let first = accepted_in-added sums seat.sums in
    let cons = sum_by-cons (λ (s : SeatView). accepted_in s.sums) seat seats in
    omega (arith, rest, first, cons)

pub all_sums-accepted : (seats : List SeatView) → accepted_in (all_sums seats) ≡ accepted_by seats
all_sums-accepted seats =
    let same : 0 + accepted_by seats ≡ accepted_by seats = omega arith in
    sums_from-accepted nothing_counted seats ∙ same

nothing-accepted : (sums : List Sums) → AreNothing sums → accepted_in sums ≡ 0
nothing-accepted [] nothing = refl
nothing-accepted (s ∷ ss) nothing =
    let none = ap (λ (s : Sums). s.accepted) nothing.0 in
    omega (arith, accepted_in-cons s ss, none, nothing-accepted ss nothing.1)

-- the journals that were gathered have the commands that were counted
pub gathered-journals : (settings : List DeskSettings) (counted : List Sums) (journals : List Journal) → EachGathered settings counted journals → AreJournals settings journals
gathered-journals [] counted [] each = tt
gathered-journals (opened ∷ more) (c ∷ counted) (journal ∷ journals) each = (each.0.settings, each.0.lawful, gathered-journals more counted journals each.1)
gathered-journals [] counted (journal ∷ journals) each = absurd each
gathered-journals (opened ∷ more) [] journals each = absurd each
gathered-journals (opened ∷ more) (c ∷ counted) [] each = absurd each

pub gathered-accepted : (settings : List DeskSettings) (counted : List Sums) (journals : List Journal) → EachGathered settings counted journals → FitLanes settings counted → accepted_in counted ≡ commands_in journals
gathered-accepted [] counted [] each fit = nothing-accepted counted fit
gathered-accepted (opened ∷ more) (c ∷ counted) (journal ∷ journals) each fit =
    let one = ap (λ (s : Sums). s.accepted) each.0.sums in
    let cons = sum_by-cons (λ (j : Journal). length j.commands) journal journals in
    omega (arith, accepted_in-cons c counted, cons, one, gathered-accepted more counted journals each.1 fit)
gathered-accepted [] counted (journal ∷ journals) each fit = absurd each
gathered-accepted (opened ∷ more) [] journals each fit = absurd each
gathered-accepted (opened ∷ more) (c ∷ counted) [] each fit = absurd each
