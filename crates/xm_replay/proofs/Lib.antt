mod OneRow
pub mod Places
mod Taking
