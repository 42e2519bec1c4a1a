use Rattle.std.proofs.Common.{◌≡◌, ◌≤◌, take, length, All, arith, sym, subst}
use Rattle.std.proofs.lemmas.Grind.{common_steps}
use Rattle.exodus_mesh.specs.MeshDocument.{width_of}
use Rattle.exodus_mesh.proofs.Widths.{all_within}
use Rattle.exodus_mesh.proofs.connect.width.Goals as goal

pub returns-clause-all : goal.returns-clause-all
returns-clause-all c =
    let all : take c.loop-face.face-index c.args.faces.now ≡ c.args.faces.now = grind (arith, common_steps) in
    let is : c.loop-face.most ≡ width_of c.args.faces.now = subst (λ fs. c.loop-face.most ≡ width_of fs) all c.loop-face.invariant in
    subst (λ w. All (λ face. length face ≤ w) c.args.faces.now) (sym is) (all_within c.args.faces.now)
