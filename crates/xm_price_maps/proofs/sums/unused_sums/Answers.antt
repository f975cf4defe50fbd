use Rattle.xm_price_maps.proofs.Summing.{unused_absent, unused_clear, unused_shaped}
use Rattle.xm_price_maps.proofs.sums.unused_sums.Goals as goal

pub returns-clause-shaped : goal.returns-clause-shaped
returns-clause-shaped g c = unused_shaped c.in_ok-pages.pages.items c.in_ok-pages-2.field-0 c.in_ok-pages.ensures c.in_ok-pages-2.ensures

pub returns-clause-clear : goal.returns-clause-clear
returns-clause-clear g c = unused_clear c.in_ok-pages.pages.items c.in_ok-pages-2.field-0 c.in_ok-pages.ensures c.in_ok-pages-2.ensures

pub returns-clause-absent : goal.returns-clause-absent
returns-clause-absent g c = unused_absent c.in_ok-pages.pages.items c.in_ok-pages-2.field-0 c.in_ok-pages.ensures c.in_ok-pages-2.ensures
