use Rattle.std.proofs.Common.{◌≡◌, take}
use Rattle.mesh_check.specs.Kept.{face_lists}
use Rattle.mesh_check.proofs.mesh.raw.Given as goal

abbrev pub invariant-loop-face : goal.invariant-loop-face
invariant-loop-face l = l.faces.items ≡ face_lists (take l.face-index l.face-items)
