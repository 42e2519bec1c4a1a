use Rattle.std.proofs.Common.{◌≡◌, map, take}
use Rattle.gen_ico.specs.Dual.{dual_node}
use Rattle.gen_ico.proofs.dual.dual_nodes.Given as goal

abbrev pub invariant-loop-t : goal.invariant-loop-t
invariant-loop-t l = l.out.items ≡ map (dual_node l.nodes) (take l.t l.faces)
