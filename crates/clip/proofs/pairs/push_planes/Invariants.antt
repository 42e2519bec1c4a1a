use Rattle.std.proofs.Common.{◌≡◌, ◌++◌}
use Rattle.mesh_check.specs.Mesh.{corners_of}
use Rattle.clip.proofs.Pair.{first_edges}
use Rattle.clip.proofs.pairs.push_planes.Given as goal

abbrev pub invariant-loop-t : goal.invariant-loop-t
invariant-loop-t l = l.planes.items ≡ l.initial.planes.items ++ first_edges (corners_of l.mesh l.face) l.t
