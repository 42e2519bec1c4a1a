pub mod Box
pub mod Candidate
pub mod CandidateList
pub mod Extents
pub mod Fineness
pub mod IndexOf
pub mod Kept
pub mod Panels
