pub mod Planes
pub mod Usable
pub mod Narrow
pub mod Overlaps
pub mod Columns
pub mod Apart
pub mod Outlines
pub mod Forms
