pub mod Kinds
pub mod Widths
pub mod Extents
pub mod File
pub mod Form
pub mod Made
