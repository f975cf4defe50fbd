mod Collecting
pub mod Distinct
pub mod Expiring
pub mod InTime
pub mod Keeping
pub mod Leaving
pub mod Members
pub mod Naming
pub mod OfOwner
pub mod Rising
pub mod SlotKeys
pub mod Tests
mod Timeline
