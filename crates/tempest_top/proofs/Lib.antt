mod AcceptedMesh
mod Coming
mod CommandSteps
mod Endings
mod FieldEnds
mod FieldSteps
mod Keeping
mod LaidOver
mod MapAndData
mod MapEnds
mod MapMaking
pub mod Outcomes
mod OwnOverlaps
mod SelfRunEnds
mod ThreeFiles
mod TwoMeshes
mod Written
