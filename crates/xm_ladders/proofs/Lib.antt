pub mod Crosses
mod Summing
