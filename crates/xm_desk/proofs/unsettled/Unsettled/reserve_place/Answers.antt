use Rattle.std.proofs.Common.{◌≡◌, ◌∙◌, ◌+◌, ◌≤◌, List, length, rules, refl, sym, ap, subst, arith}
use Rattle.xm_book.specs.TimeList.{Reserves, TimeList}
use Rattle.xm_desk.proofs.Frames.{grown, keeps-place}
use Rattle.xm_desk.specs.Frame.{IsFramed}
use Rattle.xm_desk.specs.Settled.{Unsettled, came}
use Rattle.xm_desk.specs.Tape.{TapeView}
use Rattle.xm_desk.specs.declared.unsettled.Ready.TheVariants.{Nothing}
use Rattle.xm_rules.specs.declared.orders.Stop.{Stop}
use Rattle.xm_desk.proofs.unsettled.Unsettled.reserve_place.Goals as goal

pub invariant_of-self-in_err-reserve_for : goal.invariant_of-self-in_err-reserve_for
invariant_of-self-in_err-reserve_for g c =
    let u = c.self.inside in
    let ready : u.ready.value ≡ Nothing = ap (λ (v : Unsettled). v.ready) c.self.view_is ∙ c.requires.ready in
    let none = ap (λ (v : Unsettled). length v.pending) c.self.view_is ∙ ap (λ (ss : List Stop). length ss) c.requires.settled in
    let taped : c.reserve.new.self ≡ record u.tape { room = c.len.result + c.len-2.result + 1 } = search rules in
    let room = ap (λ (t : TapeView). t.room) taped in
    let enough : length u.book.orders + length u.stops.stops + length u.pending.stops + 1 ≤ c.reserve.new.self.room = omega (arith, room, none, c.len.ensures.len, c.len-2.ensures.len) in
    let opening = ap (λ (t : TapeView). t.opening) taped ∙ c.self.invariant.opening in
    let same : c.reserve_for.new.self ≡ u.book = search rules in
    record {
      opening = opening;
      opens = c.self.invariant.opens;
      few = c.self.invariant.few;
      frame =
          subst (λ (b : TimeList). IsFramed (came u.settings u.accepted) b u.stops u.pending c.reserve.new.self.room u.ready.value) (sym same)
          (grown (came u.settings u.accepted) u.stops u.pending u.ready.value ready u.book u.stops u.pending u.tape.room c.reserve.new.self.room c.self.invariant.frame refl refl (omega arith) (omega (arith, enough)));
    }

pub invariant_of-self-2 : goal.invariant_of-self-2
invariant_of-self-2 g c =
    let u = c.self.inside in
    let ready : u.ready.value ≡ Nothing = ap (λ (v : Unsettled). v.ready) c.self.view_is ∙ c.requires.ready in
    let none = ap (λ (v : Unsettled). length v.pending) c.self.view_is ∙ ap (λ (ss : List Stop). length ss) c.requires.settled in
    let taped : c.reserve.new.self ≡ record u.tape { room = c.len.result + c.len-2.result + 1 } = search rules in
    let room = ap (λ (t : TapeView). t.room) taped in
    let enough : length u.book.orders + length u.stops.stops + length u.pending.stops + 1 ≤ c.reserve.new.self.room = omega (arith, room, none, c.len.ensures.len, c.len-2.ensures.len) in
    let opening = ap (λ (t : TapeView). t.opening) taped ∙ c.self.invariant.opening in
    let more : Reserves c.args.place.now u.book c.reserve_for.new.self = search rules in
    rw c.of.ensures (record {
      opening = opening;
      opens = c.self.invariant.opens;
      few = c.self.invariant.few;
      frame =
          keeps-place (came u.settings u.accepted) u.stops u.pending u.ready.value ready u.book c.reserve_for.new.self c.reserve.new.self.room
          (grown (came u.settings u.accepted) u.stops u.pending u.ready.value ready u.book u.stops u.pending u.tape.room c.reserve.new.self.room c.self.invariant.frame refl refl (omega arith) (omega (arith, enough))) enough c.args.place.now more;
    })
