pub mod OverlapLength
mod Triples
pub mod RowFaults
pub mod GoodRows
pub mod FoundOverlap
pub mod ReadOverlaps
mod RowsAgain
pub mod OverlapAgain
mod Taken
mod ColumnCounts
