pub mod Asked
pub mod Carry
pub mod Feeds
pub mod MarketDepth
pub mod RowAnswers
pub mod RowEvents
pub mod RowTrades
pub mod Statement
