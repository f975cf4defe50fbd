pub mod AskedRanges
pub mod Candidates
pub mod Examples
pub mod Reasons
pub mod RowRules
pub mod Rules
pub mod Walks
