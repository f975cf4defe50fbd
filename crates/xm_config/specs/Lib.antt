pub mod Day
pub mod Opening
