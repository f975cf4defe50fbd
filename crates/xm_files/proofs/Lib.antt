mod Batches
mod Filling
mod Formats
mod Hinted
mod InParts
mod Known
mod NameFacts
mod UsedNames
mod Values
mod Distinct
mod Documents
mod Takes
mod Unread
mod Places
mod PlainFields
mod Marked
mod CsvFields
mod LineRecords
mod Listing
mod Headed
mod Progress
pub mod PassedErrors
pub mod WholeFiles
pub mod Shares
mod Timetables
mod OneRound
mod RowKinds
mod PartsRead
mod CsvParts
mod Advances
mod TextsOf
pub mod FewRecords
pub mod LaterFiles
pub mod FilesRead
pub mod CutFiles
pub mod RowLines
pub mod TextsInFiles
mod WideRecords
pub mod WrittenNumbers
pub mod WrittenLines
pub mod WrittenFields
pub mod ReadBack
