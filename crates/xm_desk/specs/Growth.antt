-- What an accepted command may need, beside its entry in the journal.
use Rattle.xm_book.specs.Places.{place_of}
use Rattle.xm_desk.specs.declared.accepted.Action.{Action}
use Rattle.xm_desk.specs.declared.accepted.Action.TheVariants.{Enter, Hold, Replace, EndCall}
use Rattle.xm_desk.specs.declared.unsettled.Ready.{Ready}
use Rattle.xm_desk.specs.declared.unsettled.Ready.TheVariants.{Nothing, OneTrade, ForOrder, ForStop}

-- an order that comes in needs a place in the book; a stop, room among the held ones as well; the end of a call may make one
-- trade more than it uses up orders
abbrev pub ready_for : Action → Ready
ready_for (Enter o condition) = ForOrder (place_of o)
ready_for (Hold stop) = ForStop stop
ready_for (Replace o) = ForOrder (place_of o)
ready_for (EndCall auction stage) = OneTrade
ready_for _ = Nothing
