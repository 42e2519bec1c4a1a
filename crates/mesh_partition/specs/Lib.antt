pub mod Edges
pub mod Sphere
pub mod MeshReport
pub mod LaterPairs
pub mod SortedEdges
