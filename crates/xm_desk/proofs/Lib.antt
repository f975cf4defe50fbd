mod AcceptedSoFar
mod Actions
mod CallsEnd
mod Changing
mod Entering
mod Frames
mod Leaving
mod Making
mod Named
mod Opens
mod Recording
mod Shorter
mod Stepping
mod Sweeping
mod Tapes
mod Turning
pub mod Crosses
