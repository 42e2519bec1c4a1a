pub mod CubedSphere
pub mod Before
