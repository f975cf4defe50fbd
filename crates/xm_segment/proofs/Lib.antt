mod Answering
mod Boards
pub mod Closing
mod Counting
pub mod Crosses
pub mod Lanes
mod Publishing
mod Seating
mod Telling
mod Watches
