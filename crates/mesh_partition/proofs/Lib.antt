pub mod Filtered
pub mod PairCounts
pub mod Found
pub mod Panels
pub mod Squares
pub mod Spheres
pub mod Lengths
pub mod OneReport
