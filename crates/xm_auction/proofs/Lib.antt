mod Crossings
pub mod Curves
mod Growing
pub mod Gaps
mod NextTrade
mod Owners
mod Pricing
mod Progress
mod Winners
pub mod Within
