pub mod OverlapDocument
pub mod OverlapNames
pub mod OverlapRows
pub mod OverlapIn
pub mod Rows
pub mod InColumns
