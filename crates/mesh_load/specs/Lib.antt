pub mod MeshFile
pub mod Refusals
