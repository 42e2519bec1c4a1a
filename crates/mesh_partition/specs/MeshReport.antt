-- The report on a mesh. Source: our own.
use Rattle.std.specs.Prelude.{◌≡◌, ◌↔◌, ℕ, ◌+◌, ◌<◌, length, IsTrue}
use Rattle.vec_exact.specs.declared.RawMesh.{RawMesh}
use Rattle.overlap_run.specs.Pairs.{FacePair, DoMeet, IsCountOf}
use Rattle.mesh_partition.specs.declared.reporting.MeshReport.{MeshReport}
use Rattle.mesh_partition.specs.Edges.{edges_of, IsEdge, IsUnpaired, IsEdgeCount}
use Rattle.mesh_partition.specs.Sphere.{CoversSphere}

-- two faces of the mesh that meet, the first of which comes before the second
pub record DoOverlap (mesh : RawMesh) (p : FacePair) : Type 0 where
  pub meet : DoMeet mesh mesh p
  pub before : p.source < p.target

-- this is the report on the mesh
pub record IsMeshReportOf (mesh : RawMesh) (report : MeshReport) : Type 0 where
  -- so many pairs of faces overlap
  pub overlaps : IsCountOf (DoOverlap mesh) report.overlaps
  -- so many different directed edges have their reverse in no face
  pub unpaired : IsEdgeCount (IsUnpaired mesh) report.unpaired
  -- all directed edges, each counted in every face that has it, are so many more than the different ones
  pub doubled : (different : ℕ) × IsEdgeCount (IsEdge mesh) different × (length (edges_of mesh) ≡ different + report.doubled)
  pub covered : IsTrue report.covered ↔ CoversSphere mesh

-- a mesh has at most one report
abbrev pub OneMeshReport : Type 0
OneMeshReport = (mesh : RawMesh) (report other : MeshReport) → IsMeshReportOf mesh report → IsMeshReportOf mesh other → report ≡ other
