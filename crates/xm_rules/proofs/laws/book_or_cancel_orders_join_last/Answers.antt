use Rattle.xm_rules.specs.Step.{replay}
use Rattle.xm_rules.proofs.BookOrCancel.{joins_last}
use Rattle.xm_rules.proofs.ReachedStops.{none_reached}
use Rattle.xm_rules.proofs.Uncrossed.{uncrossed_replay}
use Rattle.xm_rules.proofs.laws.book_or_cancel_orders_join_last.Goals as goal

pub returns : goal.returns
returns c = λ j member reference quantity side kind validity restriction lawful passed.
    joins_last (replay j) member reference quantity side kind validity restriction passed (uncrossed_replay j lawful).rests (none_reached j)
