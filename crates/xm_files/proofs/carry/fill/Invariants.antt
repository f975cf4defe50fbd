use Rattle.std.proofs.Common.{◌≡◌, ◌≤◌, ℕ, get_or}
use Rattle.xm_files.proofs.Filling.{filled_to}
use Rattle.xm_rules.specs.Entries.{none_left}
use Rattle.xm_files.proofs.carry.fill.Given as goal

abbrev pub invariant-loop-index : goal.invariant-loop-index
invariant-loop-index l = record {
  filled : l.settings ≡ filled_to l.index l.initial.settings l.initial.lists;
  left : (k : ℕ) → l.index ≤ k → get_or l.lists k none_left ≡ get_or l.initial.lists k none_left;
}
