pub mod Keys
pub mod Scripted
pub mod Starting
