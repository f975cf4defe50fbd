use Rattle.std.proofs.Common.{◌≡◌, ◌∙◌, ◌≤◌, [], None, ap, subst, sym, arith}
use Rattle.xm_desk.proofs.Making.{makes-both, makes-none}
use Rattle.xm_desk.proofs.Stepping.{can-settle, counted-after, few-possible, stepped}
use Rattle.xm_desk.specs.Settled.{Unsettled, possible_trades, came}
use Rattle.xm_desk.specs.Made.{IsCounted}
use Rattle.xm_desk.specs.declared.unsettled.Ready.TheVariants.{Nothing}
use Rattle.xm_events.proofs.Seeing.{seen-of}
use Rattle.xm_events.specs.Seen.{Seen, nothing_seen, seen_after}
use Rattle.xm_events.specs.Story.{story}
use Rattle.xm_rules.proofs.Kept.{act-keeps, settle-keeps}
use Rattle.xm_rules.specs.Refusals.{refusal_of}
use Rattle.xm_rules.specs.Step.{step}
use Rattle.xm_rules.specs.declared.commands.Command.{Command}
use Rattle.xm_desk.proofs.unsettled.Unsettled.step.Given.{Over}
use Rattle.xm_desk.proofs.unsettled.Unsettled.step.Goals as goal
use Rattle.xm_book.specs.declared.places.TheConstants.{MAX_PLACES}

-- what was seen of the last command is forgotten
abbrev forgets : Unsettled → Unsettled
forgets u = record u { seen = nothing_seen }

lawful-still : (u v : Unsettled) (command : Command) → v ≡ forgets u → refusal_of u.state command ≡ None → refusal_of v.state command ≡ None
lawful-still u v command is lawful = ap (λ (w : Unsettled). refusal_of w.state command) is ∙ lawful

counted-still : (u v : Unsettled) → v ≡ forgets u → IsCounted u.state → IsCounted v.state
counted-still u v is counted = subst (λ (w : Unsettled). IsCounted w.state) (sym is) counted

settled-still : (u v : Unsettled) → v ≡ forgets u → u.pending ≡ [] → v.pending ≡ []
settled-still u v is settled = ap (λ (w : Unsettled). w.pending) is ∙ settled

pub settle-requires : goal.settle-requires
settle-requires g c =
    let u = c.args.self.now in
    let v = c.forget.new.self in
    let is = c.forget.ensures in
    let command = c.args.accepted.now.command.value in
    can-settle v command (settled-still u v is c.requires.settled) (lawful-still u v command is c.requires.accepted.lawful) (counted-still u v is c.requires.counted) c.act.new.self c.act.ensures.acted

pub count-requires-clause-ready : goal.count-requires-clause-ready
count-requires-clause-ready g c = c.settle.ensures.standing.ready

pub count-requires-clause-room : goal.count-requires-clause-room
count-requires-clause-room g c = c.settle.ensures.standing.accepted

pub returns-clause-stepped : goal.returns-clause-stepped
returns-clause-stepped g c =
    let u = c.args.self.now in
    let v = c.forget.new.self in
    let is = c.forget.ensures in
    let command = c.args.accepted.now.command.value in
    let takes : Unsettled → Unsettled = λ w. record w { state = step w.state command; ready = Nothing; seen = seen_after w.seen (story w.state command) } in
    stepped v command (settled-still u v is c.requires.settled) (lawful-still u v command is c.requires.accepted.lawful) (counted-still u v is c.requires.counted) c.act.new.self c.settle.new.self c.count.new.self
    c.act.ensures.acted c.settle.ensures.settled c.count.ensures
    ∙ ap takes is
    ∙ ap (λ (seen : Seen). let w : Unsettled = record u { state = step u.state command; ready = Nothing; seen = seen } in w) (seen-of u.state command)

pub returns-clause-made : goal.returns-clause-made
returns-clause-made g c =
    let u = c.args.self.now in
    let v = c.forget.new.self in
    let t = c.settle.new.self in
    let n = c.count.new.self in
    makes-both u t n (makes-both u v t (makes-none u v (ap (λ (w : Unsettled). w.state.trades) c.forget.ensures) (omega (arith, ap possible_trades c.forget.ensures)))
    (makes-both v c.act.new.self t c.act.ensures.made c.settle.ensures.made)) (makes-none t n (ap (λ (w : Unsettled). w.state.trades) c.count.ensures) (omega (arith, ap possible_trades c.count.ensures)))

-- no more trades are possible than a book has orders
few : (g : Over) (c : goal.After-count g) → possible_trades c.args.self.now ≤ MAX_PLACES
few g c =
    let u = c.self.inside in
    let v = c.args.self.now in
    let is = c.self.view_is in
    few-possible v (came u.settings u.accepted) v.state.settings.limit u.tape.room u.book u.stops u.pending u.ready.value c.self.invariant.frame (sym (ap (λ (w : Unsettled). w.state.orders) is))
    (sym (ap (λ (w : Unsettled). w.state.stops) is)) (sym (ap (λ (w : Unsettled). w.pending) is)) (sym (ap (λ (w : Unsettled). w.ready) is))
    (omega (arith, c.requires.counted.accepted, c.self.invariant.few, ap (λ (w : Unsettled). w.state.accepted) is, ap (λ (w : Unsettled). w.state.settings.limit) is)) (omega (arith, c.get.ensures.value, c.get.ensures.high, ap (λ (w : Unsettled). w.state.settings.limit) is))

pub returns-clause-counted : goal.returns-clause-counted
returns-clause-counted g c =
    let u = c.args.self.now in
    let v = c.forget.new.self in
    let a = c.act.new.self in
    let t = c.settle.new.self in
    let accepted =
    ap (λ (w : Unsettled). w.state.accepted) c.settle.ensures.settled ∙ (settle-keeps a.state a.pending).accepted ∙ ap (λ (w : Unsettled). w.state.accepted) c.act.ensures.acted
    ∙ (act-keeps v.state c.args.accepted.now.command.value).accepted ∙ ap (λ (w : Unsettled). w.state.accepted) c.forget.ensures in
    counted-after u c.count.new.self (returns-clause-made g c) (few g c) t c.count.ensures (ap (λ (w : Unsettled). w.pending) c.settle.ensures.settled) c.settle.ensures.standing c.requires.counted accepted
