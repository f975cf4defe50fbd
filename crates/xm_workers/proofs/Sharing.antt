-- What a day that workers share keeps from its opening to its end.
use Rattle.std.proofs.Common.{◌≡◌, ℕ, zero, suc, ◌+◌, ◌≤◌, false, List, [], ◌∷◌, length, nat_lt, None, Some, Result, Ok, Err, refl, sym, ap, ◌∙◌, subst, arith}
use Rattle.std.specs.Prelude.{◌≢◌, IfErr, IfOk, OnOk, map, slice_get, sum_by}
use Rattle.std.proofs.lemmas.Bool.Decides.{nat_tests}
use Rattle.std.proofs.lemmas.List.{length-map}
use Rattle.std.proofs.lemmas.List.Sums.{sum_by-cons}
use Rattle.std.specs.Result.{IsErrAnd}
use Rattle.xm_replay.specs.Taken.{DesksEnd, commands_in}
use Rattle.xm_workers.proofs.Stands.{worker-stands}
use Rattle.xm_workers.specs.Workers.{AreJournals, HasOpened, HasShared, HaveStood, HaveTaken, IsShared, WorkerView, rows_of, taken_by, taken_in}
use Rattle.xm_replay.specs.declared.desks.OpenDay.{OpenDay}
use Rattle.xm_replay.specs.declared.faults.DayFault.{DayFault}
use Rattle.xm_replay.specs.declared.faults.DayFault.TheVariants.{OutOfMemory}
use Rattle.xm_replay.specs.declared.report.DayReport.{DayReport}
use Rattle.xm_config.specs.declared.opening.OpenFault.{OpenFault}
use Rattle.xm_config.specs.declared.opening.OpenFault.TheVariants.{BadCarried, BadWidths, NoSecurity, TooMany, OutOfMemory as NoMemory}
use Rattle.xm_board.specs.Journals.{unnumbered}
use Rattle.xm_rules.specs.Step.{Journal, replay}
use Rattle.xm_rules.specs.declared.settings.DeskSettings.{DeskSettings}
use Rattle.xm_segment.specs.Gathering.{IsOneHistory}
use Rattle.xm_segment.specs.Names.{UnnamedSegment}
use Rattle.xm_config.specs.Opening.{max_workers, opening_fault, segment_fault, settings_of}
use Rattle.xm_config.specs.declared.config.SegmentConfig.{SegmentConfig}
use Rattle.xm_config.specs.declared.rows.Row.{Row}

-- a segment for no more workers than it takes opens where its desks do
pub opening-is : (config : SegmentConfig) (workers : ℕ) → workers ≤ max_workers → opening_fault config workers 0 ≡ segment_fault config
opening-is config workers few =
    let within : nat_lt max_workers workers ≡ false = grind (arith, nat_tests) in
    rw within refl

-- a segment that was opened, or why it wasn't
pub opened-is : (config : SegmentConfig) (workers : ℕ) (opened : Result UnnamedSegment OpenFault) → workers ≤ max_workers → IfOk opened (λ o. o.settings ≡ map (settings_of config) config.securities) → IfOk opened (λ o. o.workers ≡ workers)
    → OnOk opened (opening_fault config workers 0 ≡ None) → IfErr opened (λ fault. fault ≢ NoMemory tt → opening_fault config workers 0 ≡ Some fault) → (opened ≡ Err (NoMemory tt) → opening_fault config workers 0 ≡ None)
    → HasOpened config workers opened
opened-is config workers (Ok o) few settings seats sound refused memory = (sym (opening-is config workers few) ∙ sound, settings, seats)
opened-is config workers (Err (NoMemory _)) few settings seats sound refused memory = sym (opening-is config workers few) ∙ memory refl
opened-is config workers (Err NoSecurity) few settings seats sound refused memory = sym (opening-is config workers few) ∙ refused (λ same. cc)
opened-is config workers (Err TooMany) few settings seats sound refused memory = sym (opening-is config workers few) ∙ refused (λ same. cc)
opened-is config workers (Err BadWidths) few settings seats sound refused memory = sym (opening-is config workers few) ∙ refused (λ same. cc)
opened-is config workers (Err BadCarried) few settings seats sound refused memory = sym (opening-is config workers few) ∙ refused (λ same. cc)

-- it is want of memory
pub shared-if_memory : (settings : List DeskSettings) (workers : ℕ) (config : SegmentConfig) (rows : List Row) (result : Result (List WorkerView) DayFault) → IsErrAnd result (λ fault. fault ≡ OutOfMemory tt) → segment_fault config ≡ None
    → HasShared settings workers config rows result
shared-if_memory settings workers config rows (Ok taken) is sound = absurd is
shared-if_memory settings workers config rows (Err fault) is sound = subst (λ (f : DayFault). HasShared settings workers config rows (Err f)) (sym is) sound

journals-length : (settings : List DeskSettings) (journals : List Journal) → AreJournals settings journals → length journals ≡ length settings
journals-length [] [] are = refl
journals-length (opened ∷ more) (journal ∷ journals) are = ap suc (journals-length more journals are.2)
journals-length [] (journal ∷ journals) are = absurd are
journals-length (opened ∷ more) [] are = absurd are

sum-map : {A B : Type 0} (f : A → B) (g : B → ℕ) (xs : List A) → sum_by g (map f xs) ≡ sum_by (λ x. g (f x)) xs
sum-map f g [] = refl
sum-map f g (x ∷ xs) = omega (arith, sum_by-cons g (f x) (map f xs), sum_by-cons (λ y. g (f y)) x xs, sum-map f g xs)

pub sum-both : (ws : List WorkerView) → sum_by (λ (w : WorkerView). w.report.accepted) ws + sum_by (λ (w : WorkerView). w.report.refused) ws ≡ taken_by ws
sum-both [] = refl
sum-both (w ∷ ws) =
    omega (arith, sum_by-cons (λ (v : WorkerView). v.report.accepted) w ws, sum_by-cons (λ (v : WorkerView). v.report.refused) w ws, sum_by-cons (λ (v : WorkerView). taken_in v.report) w ws, sum-both ws)

map-at : {A B : Type 0} (f : A → B) (xs : List A) (i : ℕ) (x : A) → slice_get xs i ≡ Some x → slice_get (map f xs) i ≡ Some (f x)
map-at f [] i x at = absurd (cc)
map-at f (y ∷ ys) zero x at = let same : y ≡ x = cc in ap (λ z. Some (f z)) same
map-at f (y ∷ ys) (suc i) x at = map-at f ys i x at

at-map : {A B : Type 0} (f : A → B) (xs : List A) (i : ℕ) (y : B) → slice_get (map f xs) i ≡ Some y → (x : A) × (slice_get xs i ≡ Some x) × (f x ≡ y)
at-map f [] i y at = absurd (cc)
at-map f (x ∷ xs) zero y at = (x, refl, cc)
at-map f (x ∷ xs) (suc i) y at = at-map f xs i y at

-- the desks that were gathered are those of a day of all rows
pub gathered-ends : (settings : List DeskSettings) (workers : ℕ) (config : SegmentConfig) (rows : List Row) (taken : List WorkerView) (day : OpenDay) → HaveTaken settings workers config rows taken
    → AreJournals settings day.desks.items → IsOneHistory day.desks.items (map (λ (w : WorkerView). w.seat) taken) [] → day.report.accepted ≡ commands_in day.desks.items
    → day.report.accepted ≡ sum_by (λ (w : WorkerView). w.report.accepted) taken → day.report.refused ≡ sum_by (λ (w : WorkerView). w.report.refused) taken
    → DesksEnd (IsShared workers) config rows (Ok day)
gathered-ends settings workers config rows taken day have are history commands accepted refused =
    let named = have.opened in
    let desks = day.desks.items in
    let published = history.published in
    let ours = subst (λ (js : List Journal). AreJournals settings js) (sym published) are in (
      have.sound,
      journals-length settings desks are ∙ ap (λ (s : List DeskSettings). length s) named ∙ length-map config.securities (settings_of config),
      record {
        journals = history.journals;
        opened = subst (λ (s : List DeskSettings). AreJournals s (map unnumbered history.journals)) named ours;
        states = ap (λ (js : List Journal). map replay js) (sym published);
        accepted = commands ∙ ap commands_in (sym published);
        all = omega (arith, accepted, refused, sum-both taken, have.all);
        reports = map (λ (w : WorkerView). w.report) taken;
        each = length-map taken (λ (w : WorkerView). w.report) ∙ have.each;
        stand = λ number report at.
            let w = at-map (λ (v : WorkerView). v.report) taken number report at in
            let parts = history.of_seats number w.0.seat (map-at (λ (v : WorkerView). v.seat) taken number w.0 w.1) in
            subst (HaveStood history.journals number (rows_of number workers rows)) w.2
            (worker-stands settings history.journals number (rows_of number workers rows) w.0 ours parts (have.worked number w.0 w.1));
        sum_accepted = accepted ∙ sym (sum-map (λ (w : WorkerView). w.report) (λ (r : DayReport). r.accepted) taken);
        sum_refused = refused ∙ sym (sum-map (λ (w : WorkerView). w.report) (λ (r : DayReport). r.refused) taken);
      },
    )
