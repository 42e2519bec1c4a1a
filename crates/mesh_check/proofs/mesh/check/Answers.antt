use Rattle.std.proofs.Common.{◌≡◌, ◌∙◌, inl, Err, rules, ap, subst}
use Rattle.mesh_check.specs.FirstFault.{IsFirstNodeFault, IsFirstMeshFault}
use Rattle.mesh_check.proofs.FirstFaults.{same_first_fault}
use Rattle.mesh_check.proofs.mesh.check.Goals as goal

pub returns-in_err-check_nodes-clause-refused : goal.returns-in_err-check_nodes-clause-refused
returns-in_err-check_nodes-clause-refused c = λ fault h.
    let raw = c.args.raw in
    let found = c.in_err-check_nodes.field-0.0 in
    let nodes : c.deref.result.now ≡ raw.nodes = search rules in
    let first : IsFirstMeshFault raw found = inl (subst (λ l. IsFirstNodeFault l found) nodes c.in_err-check_nodes.ensures.fault) in
    let same : found ≡ fault = same_first_fault raw found fault first h in
    let gives : c.from_residual.result ≡ Err found = search rules in
    inl (gives ∙ ap Err same)

pub returns-in_err-check_faces-clause-refused : goal.returns-in_err-check_faces-clause-refused
returns-in_err-check_faces-clause-refused c = λ fault h.
    let raw = c.args.raw in
    let found = c.in_err-check_faces.field-0.0 in
    let first : IsFirstMeshFault raw found = search rules in
    let same : found ≡ fault = same_first_fault raw found fault first h in
    let gives : c.from_residual-in_err-check_faces.result ≡ Err found = search rules in
    inl (gives ∙ ap Err same)
