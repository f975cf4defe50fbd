mod BackToFront
pub mod CanBeTold
mod GivenPrices
mod JustTaken
mod NamedSums
mod OneNamed
mod Retelling
