mod FewDigits
mod StatementLines
mod CashSums
mod Leaving
mod LeftInRange
mod CarryTexts
mod CarriedBack
pub mod Feeding
pub mod FileTexts
pub mod Tells
pub mod Then
