mod Draining
mod Growing
mod Indexing
mod Joining
mod Leaving
mod Reaching
mod Tails
pub mod Crosses
