mod Buckets
mod Entries
mod Joined
mod Listed
mod Noted
mod Placed
mod Retained
mod Seeded
mod Splitting
mod Tables
pub mod Crosses
