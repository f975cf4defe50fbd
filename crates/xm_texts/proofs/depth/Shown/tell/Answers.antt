use Rattle.std.proofs.Common.{◌≡◌, map, slice_get, ap, sym, subst, refl, arith}
use Rattle.xm_texts.proofs.Feeding.{next-shown, next-unknown, next-unshown}
use Rattle.xm_texts.specs.Feeds.{Feed, next_feed}
use Rattle.xm_rules.specs.Step.{replay}
use Rattle.xm_rules.specs.declared.settings.DeskSettings.{DeskSettings}
use Rattle.xm_texts.proofs.depth.Shown.tell.Goals as goal

pub returns-then-index-desks : goal.returns-then-index-desks
returns-then-index-desks g c = sym (next-unknown c.args.names.now c.args.row.now c.args.desks.now c.args.self.now (omega arith))

pub returns-then-index-len : goal.returns-then-index-len
returns-then-index-len g c =
    let names = c.args.names.now in
    let row = c.args.row.now in
    let states = map replay c.args.desks.now in
    let old = c.self.inside in
    subst (λ (f : Feed). f ≡ next_feed names row (slice_get states row.security) f) c.self.view_is
    (sym (next-unshown names row states (record { text = old.text.items; shown = old.depths.items }) (omega (arith, old.depths.ok.0, c.len.ensures))))

pub returns : goal.returns
returns g c =
    let names = c.args.names.now in
    let row = c.args.row.now in
    let desks = c.args.desks.now in
    let old = c.self.inside in
    let new : Feed = record { text = c.push_change.new.text.items; shown = _ } in
    subst (λ (f : Feed). new ≡ next_feed names row (slice_get (map replay desks) row.security) f) c.self.view_is
    (next-shown names row desks c.index-desks-index.result c.index.result.now c.of-after.result c.settings.result.now.tick (record { text = old.text.items; shown = old.depths.items }) c.push_change.new.text.items _
    (omega arith) c.index-desks-index.is (omega (arith, old.depths.ok.0, c.len.ensures)) c.index.ensures c.of-after.ensures (ap (λ (s : DeskSettings). s.tick) c.settings.ensures.kept) c.in_ok-push_change.ensures refl)
