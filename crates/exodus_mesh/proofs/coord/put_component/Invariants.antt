use Rattle.std.proofs.Common.{◌≡◌, ◌++◌, take}
use Rattle.exodus_mesh.specs.MeshDocument.{component}
use Rattle.exodus_mesh.proofs.coord.put_component.Given as goal

abbrev pub invariant-loop-node : goal.invariant-loop-node
invariant-loop-node l = l.out.items ≡ l.fn.out.items ++ component l.k (take l.node-index l.nodes)
