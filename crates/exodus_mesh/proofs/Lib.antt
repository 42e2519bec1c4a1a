mod Blocks
mod FirstPlaces
mod Repeats
mod Rows
pub mod AcceptedFaces
pub mod DocLengths
pub mod FoundVars
pub mod NodesAgain
pub mod NumberVars
mod NumberFaults
pub mod ReadAgain
pub mod ReadValues
pub mod Unrepeated
pub mod VarValues
mod Widths
pub mod MeshLength
pub mod Lists
pub mod FoundColumns
pub mod FirstNot
pub mod GoodPairs
pub mod DocSums
pub mod Components
