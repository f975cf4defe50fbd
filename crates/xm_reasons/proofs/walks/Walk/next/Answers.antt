use Rattle.std.proofs.Common.{◌≡◌, ◌≤◌, [], ◌∷◌, refl, Option, None, Some, ap, sym, subst, ◌∙◌, arith, ℕ}
use Rattle.std.specs.Prelude.{option_map}
use Rattle.xm_book.specs.Fronts.{better_of_two}
use Rattle.xm_reasons.specs.Walks.{IsWalk, Walked, candidates_below}
use Rattle.xm_reasons.specs.declared.walks.CurvePoint.{CurvePoint}
use Rattle.xm_reasons.proofs.Walking.{demand-is, ends, level-fits, next-candidate, supply-is, walks-on}
use Rattle.xm_rules.specs.Step.{replay}
use Rattle.xm_rules.specs.declared.orders.Side.TheVariants.{Buy}
use Rattle.xm_rules.specs.declared.settings.DeskSettings.{DeskSettings}
use Rattle.xm_ticks.specs.declared.numbers.TheConstants.{MAX_JOURNAL_LIMIT}
use Rattle.xm_reasons.proofs.walks.Walk.next.Goals as goal

pub returns-in_err-price-clause-next : goal.returns-in_err-price-clause-next
returns-in_err-price-clause-next g c =
    let s = replay c.args.desk.now in
    let i = c.self.inside in
    let w : Walked = record { last = i.last; demand = i.demand; market_supply = i.market_supply; sell = i.sell; sells = i.sells.items } in
    let view : c.args.self.now ≡ w = sym c.self.view_is in
    let none : better_of_two Buy (option_map (λ (l : ℕ × ℕ). l.0) c.level_after-buy.result) (option_map (λ (p : CurvePoint). p.limit) w.sell) ≡ None =
    sym (c.better_of.ensures ∙ ap (λ (o : Option ℕ). better_of_two Buy o c.limit_of_point.result) c.limit_of_level.ensures
    ∙ ap (better_of_two Buy (option_map (λ (l : ℕ × ℕ). l.0) c.level_after-buy.result)) c.limit_of_point.ensures) ∙ c.in_err-price.was in
    let e = ends s w (subst (IsWalk s) view c.requires) c.level_after-buy.result c.level_after-buy.ensures none in
    rw c.from_residual.ensures (subst (λ (v : Walked). candidates_below s v.last ≡ []) (sym view) e)

pub units_with-demand-requires : goal.units_with-demand-requires
units_with-demand-requires g c =
    let s = replay c.args.desk.now in
    let i = c.self.inside in
    let w : Walked = record { last = i.last; demand = i.demand; market_supply = i.market_supply; sell = i.sell; sells = i.sells.items } in
    let view : c.args.self.now ≡ w = sym c.self.view_is in
    let k = subst (IsWalk s) view c.requires in
    let same = ap (λ (d : DeskSettings). d.limit) c.settings.ensures.opened in
    let few : c.args.desk.now.settings.limit ≤ MAX_JOURNAL_LIMIT = omega (arith, same, c.get.ensures.value, c.get.ensures.high) in
    level-fits c.args.desk.now Buy w.last c.level_after-buy.result w.demand c.accepted.ensures.lawful few c.level_after-buy.ensures k.demand

pub returns-clause-next : goal.returns-clause-next
returns-clause-next g c =
    let s = replay c.args.desk.now in
    let i = c.self.inside in
    let w : Walked = record { last = i.last; demand = i.demand; market_supply = i.market_supply; sell = i.sell; sells = i.sells.items } in
    let view : c.args.self.now ≡ w = sym c.self.view_is in
    let k = subst (IsWalk s) view c.requires in
    let x = c.in_ok-price.price in
    let next : better_of_two Buy (option_map (λ (l : ℕ × ℕ). l.0) c.level_after-buy.result) (option_map (λ (p : CurvePoint). p.limit) w.sell) ≡ Some x =
    sym (c.better_of.ensures ∙ ap (λ (o : Option ℕ). better_of_two Buy o c.limit_of_point.result) c.limit_of_level.ensures
    ∙ ap (better_of_two Buy (option_map (λ (l : ℕ × ℕ). l.0) c.level_after-buy.result)) c.limit_of_point.ensures) ∙ c.in_ok-price.was in
    let demand = c.units_with-demand.ensures ∙ demand-is s w k c.level_after-buy.result c.level_after-buy.ensures x next in
    let supply = c.supply_from-supply.ensures ∙ supply-is s w k c.level_after-buy.result c.level_after-buy.ensures x next in
    let below = next-candidate s w k c.level_after-buy.result c.level_after-buy.ensures x next in
    let last : c.pass.new.self.last ≡ Some x = c.pass.ensures.last in (
      rw (demand, supply) refl,
      last,
      subst (λ (v : Walked). candidates_below s v.last ≡ x ∷ candidates_below s c.pass.new.self.last) (sym view) (below ∙ ap (λ (o : Option ℕ). x ∷ candidates_below s o) (sym last)),
    )

pub returns-clause-walk : goal.returns-clause-walk
returns-clause-walk g c =
    let s = replay c.args.desk.now in
    let i = c.self.inside in
    let w : Walked = record { last = i.last; demand = i.demand; market_supply = i.market_supply; sell = i.sell; sells = i.sells.items } in
    let view : c.args.self.now ≡ w = sym c.self.view_is in
    let k = subst (IsWalk s) view c.requires in
    let next : better_of_two Buy (option_map (λ (l : ℕ × ℕ). l.0) c.level_after-buy.result) (option_map (λ (p : CurvePoint). p.limit) w.sell) ≡ Some c.in_ok-price.price =
    sym (c.better_of.ensures ∙ ap (λ (o : Option ℕ). better_of_two Buy o c.limit_of_point.result) c.limit_of_level.ensures
    ∙ ap (better_of_two Buy (option_map (λ (l : ℕ × ℕ). l.0) c.level_after-buy.result)) c.limit_of_point.ensures) ∙ c.in_ok-price.was in
    let p = c.pass.ensures in
    walks-on s w k c.level_after-buy.result c.level_after-buy.ensures c.in_ok-price.price next c.pass.new.self
    (record { last = p.last; demand = p.demand ∙ c.units_with-demand.ensures; market_supply = p.market_supply; at = p.at; none = p.none; sell = p.sell; sells = p.sells })
