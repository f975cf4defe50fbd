mod Arrivals
mod CallRests
mod CallUnits
mod Changes
mod Conserved
mod EachFill
pub mod FewUnits
mod FillsOfCommands
mod InEvents
mod JournalUnits
mod NamedUnits
mod Names
pub mod Numbers
mod OneOfAName
mod OwnStops
mod Rests
pub mod Retold
pub mod Seeing
mod SeenCalls
mod SeenOrders
mod SeenParts
mod SeenStops
mod Settled
pub mod Settlings
mod SweptRests
mod SweptUnits
mod TestedSums
mod Told
