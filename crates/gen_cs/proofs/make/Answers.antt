use Rattle.std.proofs.Common.{All, subst, sym}
use Rattle.vec_exact.specs.Face.{vector_of, IsAcceptedNode, IsAccepted}
use Rattle.gen_cs.specs.CubedSphere.{nodes_of}
use Rattle.gen_cs.proofs.AcceptedFaces.{faces_accepted}
use Rattle.gen_cs.proofs.AcceptedNodes.{nodes_accepted}
use Rattle.gen_cs.proofs.make.Goals as goal

pub returns-clause-accepted : goal.returns-clause-accepted
returns-clause-accepted c =
    let nodes = nodes_of c.args.n in
    let faces = c.in-Ok-all_faces.faces.items in
    let accepted = subst (λ these. All (IsAccepted nodes) these) (sym c.in-Ok-all_faces.ensures) (faces_accepted c.args.n c.requires.least c.requires.greatest) in
    subst (λ these. All (IsAccepted these) faces) (sym c.in-Ok.ensures) accepted

pub returns-clause-accepted_nodes : goal.returns-clause-accepted_nodes
returns-clause-accepted_nodes c =
    subst (λ these. All (λ node. IsAcceptedNode (vector_of node)) these) (sym c.in-Ok.ensures) (nodes_accepted c.args.n c.requires.least c.requires.greatest)
