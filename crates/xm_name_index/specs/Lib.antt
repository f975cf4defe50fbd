pub mod Buckets
pub mod Names
pub mod Tables
