use Rattle.std.proofs.Common.{◌≡◌, ◌++◌, true, drop, map}
use Rattle.xm_files.specs.Segment.{are_distinct_texts}
use Rattle.xm_files.proofs.segment.list_members.Given as goal

abbrev pub invariant-loop-name : goal.invariant-loop-name
invariant-loop-name l = record { listed : map (λ name. name.now) l.names ≡ l.list ++ map (λ name. name.now) (drop l.name-index l.names); distinct : are_distinct_texts l.list ≡ true }
