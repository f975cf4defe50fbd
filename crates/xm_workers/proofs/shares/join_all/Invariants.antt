use Rattle.std.proofs.Common.{◌≡◌, ℕ, ◌+◌, length, Some}
use Rattle.std.specs.Prelude.{slice_get}
use Rattle.xm_workers.specs.Standing.{TookAll, will_be_taken}
use Rattle.xm_workers.specs.Workers.{taken_by}
use Rattle.xm_workers.specs.declared.standing.Standing.{Standing}
use Rattle.xm_workers.proofs.shares.join_all.Given as goal

abbrev pub invariant-loop-one : goal.invariant-loop-one
invariant-loop-one g l = record {
  all : length l.left.items + length l.workers.items ≡ length l.fn.standing.items;
  first : (place : ℕ) (one : Standing _) → slice_get l.left.items place ≡ Some one → slice_get l.fn.standing.items place ≡ Some one;
  each : TookAll g.S.Naming.settings l.fn.standing.items l.workers.items;
  taken : will_be_taken l.left.items + taken_by l.workers.items ≡ will_be_taken l.fn.standing.items;
}

abbrev pub decreases-loop-one : goal.decreases-loop-one
decreases-loop-one g l = length l.left.items
