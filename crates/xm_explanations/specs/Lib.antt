pub mod Explained
pub mod Lines
pub mod Unsaid
