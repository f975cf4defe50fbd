pub mod KeptRows
pub mod Lanes
pub mod Sections
