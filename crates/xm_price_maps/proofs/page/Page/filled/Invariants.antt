use Rattle.std.proofs.Common.{◌≡◌, ◌≤◌, replicate}
use Rattle.std.specs.Vec.{vec_capacity}
use Rattle.xm_price_maps.proofs.page.Page.filled.Given as goal

abbrev pub invariant-loop-i : goal.invariant-loop-i
invariant-loop-i g l = record { items : l.slots.items ≡ replicate l._i l.value; room : l.len ≤ vec_capacity l.slots }
