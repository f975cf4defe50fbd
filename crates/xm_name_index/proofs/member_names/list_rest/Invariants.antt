use Rattle.std.proofs.Common.{◌≡◌, ◌++◌, take}
use Rattle.xm_name_index.proofs.member_names.list_rest.Given as goal

abbrev pub invariant-loop-index : goal.invariant-loop-index
invariant-loop-index g l = l.names.items ≡ l.initial.names.items ++ take l.index l.rest.entries
