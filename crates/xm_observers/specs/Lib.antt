pub mod Observed
