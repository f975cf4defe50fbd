-- Workers while their round is worked.
use Rattle.std.specs.Prelude.{◌≡◌, ℕ, ◌+◌, List, [], length, slice_get, sum_by, Some}
use Rattle.xm_workers.specs.Workers.{HasWorked, WorkerView, taken_in}
use Rattle.xm_workers.specs.declared.standing.Standing.{Standing}
use Rattle.xm_workers.specs.declared.standing.Standing.TheVariants.{Idle, Working}
use Rattle.xm_rules.specs.declared.settings.DeskSettings.{DeskSettings}
use Rattle.xm_config.specs.declared.rows.Row.{Row}

-- a worker takes these rows: it has none, or promises it
abbrev pub WillTake : {S : Type 0} → List Row → WorkerView → Standing S → Type 0
WillTake rows worker (Idle idle) = (rows ≡ []) × (idle ≡ worker)
WillTake rows worker (Working handle) = (handle.promise.share.value.items ≡ rows) × (handle.promise.worker.value ≡ worker)

-- each worker takes its rows. The last worker comes first
abbrev pub WillTakeAll : {S : Type 0} → (ℕ → List Row) → List WorkerView → List (Standing S) → Type 0
WillTakeAll rows workers standing =
    (number place : ℕ) (worker : WorkerView) (one : Standing _) → number + place + 1 ≡ length workers → slice_get workers number ≡ Some worker → slice_get standing place ≡ Some one
    → WillTake (rows number) worker one

-- a worker has done what it was to do
abbrev pub Took : {S : Type 0} → List DeskSettings → Standing S → WorkerView → Type 0
Took settings standing after = (rows : List Row) (before : WorkerView) → WillTake rows before standing → HasWorked settings rows before after

-- each worker has. Where they stood the last worker came first
abbrev pub TookAll : {S : Type 0} → List DeskSettings → List (Standing S) → List WorkerView → Type 0
TookAll settings standing workers =
    (number place : ℕ) (one : Standing _) (after : WorkerView) → number + place + 1 ≡ length standing → slice_get standing place ≡ Some one → slice_get workers number ≡ Some after
    → Took settings one after

-- how many rows a worker will have taken
abbrev pub will_take : {S : Type 0} → Standing S → ℕ
will_take (Idle worker) = taken_in worker.report
will_take (Working handle) = taken_in handle.promise.worker.value.report + length handle.promise.share.value.items

-- how many rows all will have taken
abbrev pub will_be_taken : {S : Type 0} → List (Standing S) → ℕ
will_be_taken standing = sum_by will_take standing
