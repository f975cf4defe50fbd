pub mod Days
pub mod Endings
pub mod Written
