pub mod Answers
pub mod CarriedDays
pub mod Checks
pub mod Days
pub mod Examples
