use Rattle.std.proofs.Common.{take, All}
use Rattle.mesh_check.specs.Mesh.{IsGoodNode}
use Rattle.mesh_check.proofs.nodes.check_nodes.Given as goal

abbrev pub invariant-loop-i : goal.invariant-loop-i
invariant-loop-i l = All IsGoodNode (take l.i l.nodes)
