use Rattle.std.specs.List.{Contains}
use Rattle.mesh_check.specs.Mesh.{corners_of}
use Rattle.cover_cells.specs.Cells.{IsSource, IsAway}
use Rattle.cover_cells.proofs.KeptFaces.{IsKept}
use Rattle.cover_cells.proofs.near.near_faces.Given as goal

abbrev pub invariant-loop-t : goal.invariant-loop-t
invariant-loop-t l = IsKept (λ i. IsSource l.a i × Contains l.faces i) (IsAway l.a (corners_of l.b l.j) l.cell) l.faces l.skip l.t l.near.items
