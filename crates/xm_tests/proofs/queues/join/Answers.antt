use Rattle.xm_tests.proofs.queues.join.Goals as goal

pub returns-in_err-reserve : goal.returns-in_err-reserve
returns-in_err-reserve g c = rw c.reserve.ensures.items (c.reserve_key.ensures.same _ _ c.requires)

pub returns : goal.returns
returns g c =
    rw (c.push_reserved.ensures.items, c.reserve.ensures.items) (c.push_back.ensures.last _ (c.reserve_key.ensures.same _ _ c.requires))
