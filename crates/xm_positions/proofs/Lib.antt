mod Histories
mod Members
pub mod Crosses
