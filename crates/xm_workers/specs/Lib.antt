pub mod Standing
pub mod Workers
