use Rattle.std.proofs.Common.{◌≡◌, ◌++◌, take}
use Rattle.std.specs.List.{flat_map}
use Rattle.exodus_mesh.specs.MeshDocument.{filled}
use Rattle.exodus_mesh.proofs.connect.put_faces.Given as goal

abbrev pub invariant-loop-face : goal.invariant-loop-face
invariant-loop-face l = l.out.items ≡ l.fn.out.items ++ flat_map (filled l.width) (take l.face-index l.faces)
