use Rattle.std.proofs.Common.{◌∙◌, ℕ, ap}
use Rattle.xm_desk.specs.Settled.{Unsettled}
use Rattle.xm_match.specs.Meeting.{sweep_over}
use Rattle.xm_rules.specs.Settling as settling
use Rattle.xm_rules.specs.State.{last_auction_price, last_price}
use Rattle.xm_rules.specs.Sweep.{is_fillable}
use Rattle.xm_desk.proofs.unsettled.Unsettled.is_fillable.Goals as goal

pub returns : goal.returns
returns g c =
    let u = c.self.inside in
    let o = c.args.order.now in
    let same = c.self.invariant.opening in
    let last = c.last_price-last.ensures ∙ ap (λ (p : ℕ). last_price p u.tape.trades) same in
    let auction = c.last_auction_price-last_auction.ensures ∙ ap (λ (p : ℕ). last_auction_price p u.tape.trades) same in
    c.fillable.ensures
    ∙ ap (λ (p : ℕ). is_fillable (sweep_over u.book.orders o p c.last_auction_price-last_auction.result u.settings.widths)) last
    ∙ ap (λ (p : ℕ). is_fillable (sweep_over u.book.orders o (last_price u.settings.reference u.tape.trades) p u.settings.widths)) auction
    ∙ ap (λ (v : Unsettled). is_fillable (settling.sweep_of v.state o)) c.self.view_is
