use Rattle.std.proofs.Common.{◌≡◌, ◌≤◌, [], replicate}
use Rattle.std.specs.Vec.{vec_capacity}
use Rattle.xm_price_maps.proofs.page.absent_pages.Given as goal

abbrev pub invariant-loop-i : goal.invariant-loop-i
invariant-loop-i g l = record { items : l.pages.items ≡ replicate l._i []; room : l.count ≤ vec_capacity l.pages }
