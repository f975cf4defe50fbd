pub mod Around
pub mod OfDesks
pub mod TakenUnits
pub mod Telling
