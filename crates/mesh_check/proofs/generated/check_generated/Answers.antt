use Rattle.std.proofs.Common.{◌≡◌, Err, rules}
use Rattle.mesh_check.specs.declared.faults.MeshFault.TheVariants.{NoMemory}
use Rattle.mesh_check.specs.FirstFault.{gen_fault_of}
use Rattle.mesh_check.proofs.HandedOn.{names_first, no_error, refuses}
use Rattle.mesh_check.proofs.generated.check_generated.Goals as goal

pub returns-in_err-mesh-clause-fault : goal.returns-in_err-mesh-clause-fault
returns-in_err-mesh-clause-fault c = λ fault e.
    let found = c.in_err-mesh.field-0.0 in
    let gives : c.from_residual.result ≡ Err (gen_fault_of found) = search rules in
    names_first c.args.raw c.from_residual.result found fault gives c.in_err-mesh.ensures.fault e

pub returns-in_err-mesh-clause-refused : goal.returns-in_err-mesh-clause-refused
returns-in_err-mesh-clause-refused c = λ fault h.
    let found = c.in_err-mesh.field-0.0 in
    let gives : c.from_residual.result ≡ Err (gen_fault_of found) = search rules in
    refuses c.args.raw c.from_residual.result found fault gives c.in_err-mesh.ensures.refused h

pub returns-clause-refused : goal.returns-clause-refused
returns-clause-refused c = λ fault h.
    absurd (no_error c.in_ok-mesh.mesh fault NoMemory (c.in_ok-mesh.ensures.refused fault h))
