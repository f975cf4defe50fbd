pub mod Journals
pub mod Opened
pub mod Published
pub mod Rule
pub mod Words
