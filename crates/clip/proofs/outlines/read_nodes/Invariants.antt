use Rattle.std.proofs.Common.{◌≡◌, take}
use Rattle.mesh_check.specs.Mesh.{corners_of}
use Rattle.clip.specs.Outlines.{wide_list}
use Rattle.clip.proofs.outlines.read_nodes.Given as goal

abbrev pub invariant-loop-t : goal.invariant-loop-t
invariant-loop-t l = wide_list l.nodes.items ≡ take l.t (corners_of l.mesh l.face)
