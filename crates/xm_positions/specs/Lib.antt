pub mod History
pub mod Positions
