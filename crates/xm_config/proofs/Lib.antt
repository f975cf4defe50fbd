pub mod Days
pub mod Sound
