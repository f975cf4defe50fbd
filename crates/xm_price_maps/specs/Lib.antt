pub mod Ends
pub mod Levels
pub mod Map
pub mod Marks
pub mod Set
pub mod Slots
pub mod Sums
pub mod Words
