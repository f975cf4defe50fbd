pub mod Powers
pub mod Prefixes
mod Texts
mod Words
