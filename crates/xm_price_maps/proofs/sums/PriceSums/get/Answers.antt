use Rattle.std.proofs.Common.{◌≡◌}
use Rattle.xm_price_maps.specs.declared.sums.GroupWidth.TheVariants.{Narrow, Middle, Wide}
use Rattle.xm_price_maps.proofs.Summing.{sum_is}
use Rattle.xm_price_maps.proofs.sums.PriceSums.get.Goals as goal

pub returns-in-Narrow : goal.returns-in-Narrow
returns-in-Narrow g c =
    let pages : c.deref.result.now ≡ c.args.self.now = cc in
    rw (c.in-Narrow.is, sum_is c.args.self.now Narrow c.args.group, ← pages) c.slot_at.ensures

pub returns-in-Middle : goal.returns-in-Middle
returns-in-Middle g c =
    let pages : c.deref-in-Middle.result.now ≡ c.args.self.now = cc in
    rw (c.in-Middle.is, sum_is c.args.self.now Middle c.args.group, ← pages) c.slot_at-in-Middle.ensures

pub returns-in-Wide : goal.returns-in-Wide
returns-in-Wide g c =
    let pages : c.deref-in-Wide.result.now ≡ c.args.self.now = cc in
    rw (c.in-Wide.is, sum_is c.args.self.now Wide c.args.group, ← pages) c.slot_at-in-Wide.ensures
