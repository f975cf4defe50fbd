pub mod Crosses
pub mod OwnEntries
pub mod Prefixes
pub mod Publishing
mod Quotes
mod Reading
mod Steps
