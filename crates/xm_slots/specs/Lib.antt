pub mod Listing
pub mod Naming
pub mod Slot
pub mod Slots
pub mod Timeline
pub mod Vacancies
