use Rattle.std.proofs.Common.{ℤ, [], pos, get_or, slice_index_or, to_z, of_z, FitsSigned, rules}
use Rattle.std.proofs.lemmas.Int.{to_z-of_z}
use mir.Syntax.{w32}
use Rattle.exodus_mesh.proofs.Components.{component_more}
use Rattle.exodus_mesh.proofs.coord.put_component.Goals as goal

pub loop-node-preserved : goal.loop-node-preserved
loop-node-preserved c =
    let one : ℤ = slice_index_or (get_or c.args.nodes.now c.loop-node.node-index []) c.args.k (pos 0) in
    let fits : FitsSigned w32 one = search rules in
    component_more c.args.k c.args.nodes.now c.loop-node.node-index (to_z w32 (of_z w32 one)) c.args.out.now.items c.loop-node.out.items c.push.new.self.items
    c.loop-node-test.true (to_z-of_z w32 one fits) c.loop-node.invariant c.in_ok-push.ensures.items
