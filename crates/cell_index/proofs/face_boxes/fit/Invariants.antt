use Rattle.mesh_check.specs.Mesh.{corners_of}
use Rattle.cell_index.proofs.FaceNodes.{FloorsSoFar}
use Rattle.cell_index.proofs.face_boxes.fit.Given as goal

abbrev pub invariant-loop-t : goal.invariant-loop-t
invariant-loop-t l = FloorsSoFar (corners_of l.mesh l.face) l.panel l.k l.t l.range
