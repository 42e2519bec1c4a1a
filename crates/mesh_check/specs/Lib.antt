pub mod Mesh
pub mod Kept
pub mod FirstFault
