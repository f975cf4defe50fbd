use Rattle.xm_auction.proofs.Gaps.{takes-own}
use Rattle.xm_auction.proofs.narrowing.Gap.advance_own.Goals as goal

pub returns-in-Some-clause-kept : goal.returns-in-Some-clause-kept
returns-in-Some-clause-kept g c =
    takes-own c.args.phase c.args.book.now.orders c.args.self.now c.requires.gap c.requires.short c.in-Some.next c.in-Some.ensures
