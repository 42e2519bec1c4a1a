use Rattle.std.proofs.Common.{◌≡◌, take, All, [], arith, rules, subst, get_or}
use Rattle.std.proofs.lemmas.Grind.{common_steps}
use Rattle.std.proofs.lemmas.List.Elements.{All-more, at_read}
use Rattle.vec_exact.specs.Face.{IsAccepted}
use Rattle.mesh_check.specs.FirstFault.{IsFirstFaceFault}
use Rattle.mesh_check.proofs.FirstFaults.{first_face}
use Rattle.mesh_check.proofs.faces.check_faces.Goals as goal

pub loop-i-preserved : goal.loop-i-preserved
loop-i-preserved c =
    let nodes = c.args.nodes.now in
    let same : c.deref.result.now ≡ c.index-faces-i.result = search rules in
    let accepted = subst (λ face. IsAccepted nodes face) same c.in_ok-check_face.ensures.accepted in
    All-more (IsAccepted nodes) c.args.faces.now c.loop-i.i [] (omega arith) c.loop-i.invariant
    (at_read c.args.faces.now (IsAccepted nodes) c.loop-i.i c.index-faces-i.result (omega arith) c.index-faces-i.is accepted [])

pub returns-clause-accepted : goal.returns-clause-accepted
returns-clause-accepted c =
    let all : take c.loop-i.i c.args.faces.now ≡ c.args.faces.now = grind (arith, common_steps) in
    subst (λ faces. All (IsAccepted c.args.nodes.now) faces) all c.loop-i.invariant

pub returns-in_err-check_face-clause-fault : goal.returns-in_err-check_face-clause-fault
returns-in_err-check_face-clause-fault c =
    let nodes = c.args.nodes.now in
    let faces = c.args.faces.now in
    let same : c.deref.result.now ≡ get_or faces c.loop-i.i [] = grind (arith, common_steps) in
    let first : IsFirstFaceFault nodes faces c.in_err-check_face.field-0.0 =
    first_face nodes faces c.loop-i.i c.deref.result.now c.in_err-check_face.field-0.0 (omega arith) same c.loop-i.invariant c.in_err-check_face.ensures.fault
    in
    search rules
