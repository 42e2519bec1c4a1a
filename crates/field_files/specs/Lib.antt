pub mod FileHeader
pub mod FieldNames
pub mod FieldShapes
pub mod FillValues
pub mod FieldIn
pub mod FieldDocument
pub mod NewPlaces
pub mod Frames
