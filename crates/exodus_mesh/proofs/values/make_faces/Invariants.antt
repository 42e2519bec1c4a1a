use Rattle.std.proofs.Common.{◌≡◌, ◌++◌, drop}
use Rattle.exodus_mesh.specs.MeshValues.{faces_of}
use Rattle.exodus_mesh.proofs.values.make_faces.Given as goal

abbrev pub invariant-loop-k : goal.invariant-loop-k
invariant-loop-k l = l.out.items ++ faces_of (drop l.k l.blocks) (drop l.k l.rows) ≡ faces_of l.blocks l.rows
