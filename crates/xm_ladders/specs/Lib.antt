pub mod Ladder
pub mod Ladders
pub mod Lends
