pub mod Callers
mod Changes
mod Leveled
mod Lookups
mod Members
mod NextBits
mod Paging
mod Places
mod Rooms
mod Stored
mod Summing
pub mod Crosses
