use Rattle.std.proofs.Common.{◌∙◌, inl, sym}
use Rattle.xm_program.proofs.Sent.{mapped-some, so-many}
use Rattle.xm_program.proofs.auctions.write_auction.Goals as goal

pub returns-clause-ends : goal.returns-clause-ends
returns-clause-ends g c =
    inl (_, mapped-some _ _ ∙ c.open_where_given-carried.ensures ∙ sym (mapped-some _ _), so-many _ _ _ _ _ c.in_ok-orders.ensures.opened c.as_mut_slice.ensures.value, c.auction.ensures.ends)
