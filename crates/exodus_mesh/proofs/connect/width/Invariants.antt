use Rattle.std.proofs.Common.{◌≡◌, take}
use Rattle.exodus_mesh.specs.MeshDocument.{width_of}
use Rattle.exodus_mesh.proofs.connect.width.Given as goal

abbrev pub invariant-loop-face : goal.invariant-loop-face
invariant-loop-face l = l.most ≡ width_of (take l.face-index l.faces)
