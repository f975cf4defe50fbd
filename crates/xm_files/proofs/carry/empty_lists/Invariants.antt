use Rattle.std.proofs.Common.{◌≡◌, take}
use Rattle.xm_files.specs.Carry.{empty_lists}
use Rattle.xm_files.proofs.carry.empty_lists.Given as goal

abbrev pub invariant-loop-security : goal.invariant-loop-security
invariant-loop-security l = l.lists.items ≡ empty_lists (take l._security-index l.securities)
