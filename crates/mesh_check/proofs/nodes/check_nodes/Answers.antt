use Rattle.std.proofs.Common.{◌≡◌, take, All, [], arith, subst}
use Rattle.std.proofs.lemmas.Grind.{common_steps}
use Rattle.std.proofs.lemmas.List.Elements.{All-more}
use Rattle.mesh_check.specs.Mesh.{IsGoodNode}
use Rattle.mesh_check.proofs.nodes.check_nodes.Goals as goal

pub loop-i-preserved : goal.loop-i-preserved
loop-i-preserved c = All-more IsGoodNode c.args.nodes.now c.loop-i.i [] (omega arith) c.loop-i.invariant c.in_ok-check_node.ensures.good

pub returns-clause-good : goal.returns-clause-good
returns-clause-good c =
    let all : take c.loop-i.i c.args.nodes.now ≡ c.args.nodes.now = grind (arith, common_steps) in
    subst (λ nodes. All IsGoodNode nodes) all c.loop-i.invariant
