pub mod Allotment
pub mod Covered
pub mod Crossings
pub mod Depths
pub mod Narrowing
pub mod Prices
