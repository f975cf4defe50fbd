pub mod Digits
pub mod Ranges
pub mod Reading
pub mod Writing
