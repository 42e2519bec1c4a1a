pub mod OneMesh
pub mod Raw
pub mod RawCounts
