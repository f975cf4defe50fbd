use Rattle.std.proofs.Common.{inl, refl, sym}
use Rattle.xm_program.proofs.Sent.{ends-said, so-many}
use Rattle.xm_program.proofs.program.write_texts.Goals as goal

pub returns-in-None-clause-ends : goal.returns-in-None-clause-ends
returns-in-None-clause-ends g c =
    let request = c.args.request.now in
    rw (sym c.asked-asked.ensures, c.in-None.is)
    (inl (_, refl, so-many _ _ _ _ _ c.in_ok-orders-in-None.ensures.opened c.as_mut_slice.ensures.value, _, _, _, _, _, ends-said request.concurrency _ c.chosen-concurrency.ensures c.run.ensures.ends))

pub returns-clause-ends : goal.returns-clause-ends
returns-clause-ends g c =
    let request = c.args.request.now in
    rw (sym c.asked-asked.ensures, c.in-Some.is)
    (inl (_, refl, so-many _ _ _ _ _ c.in_ok-orders-in-Some.ensures.opened c.as_mut_slice-in-Some.ensures.value, _, _, _, _, _, ends-said request.concurrency _ c.chosen-concurrency.ensures c.carry_over.ensures.ends))
