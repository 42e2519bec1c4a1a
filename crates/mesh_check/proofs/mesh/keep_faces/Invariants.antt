use Rattle.std.proofs.Common.{◌≡◌, take}
use Rattle.mesh_check.specs.Kept.{face_lists}
use Rattle.mesh_check.proofs.mesh.keep_faces.Given as goal

abbrev pub invariant-loop-face : goal.invariant-loop-face
invariant-loop-face l = face_lists l.kept.items ≡ take l.face-index l.faces
