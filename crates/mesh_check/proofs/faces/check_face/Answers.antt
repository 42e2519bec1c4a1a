use Rattle.std.proofs.Common.{All, arith, rules}
use Rattle.vec_exact.specs.Face.{IsNodeNumber}
use Rattle.vec_exact.proofs.Accepted.{length-face_nodes}
use Rattle.mesh_check.proofs.Edges.{accepted_nodes}
use Rattle.mesh_check.proofs.faces.check_face.Goals as goal

pub returns-clause-accepted : goal.returns-clause-accepted
returns-clause-accepted c =
    let nodes = c.args.nodes.now in
    let face = c.args.face.now in
    let numbers : All (IsNodeNumber nodes) face = c.if-not-has_node_numbers.ensures.0 (search rules) in
    let convex = c.if-not-is_strictly_convex.ensures.yes (search rules) in
    record {
      in_range = numbers;
      accepted = record {
        least_size = omega (arith, length-face_nodes nodes face);
        greatest_size = omega (arith, length-face_nodes nodes face);
        nodes = accepted_nodes nodes face c.requires.good numbers;
        turns = λ t s l m a b. convex t l s m a b;
      };
    }
