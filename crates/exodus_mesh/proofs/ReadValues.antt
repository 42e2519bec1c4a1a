-- A mesh that is read is the mesh in the file.
use Rattle.std.proofs.Common.{◌≡◌, ◌≤◌, ℕ, false, min, List, None, Result, Ok, Err, refl, ap, sym, ◌∙◌, arith, nat_lt}
use Rattle.std.specs.Prelude.{IfOk}
use Rattle.std.proofs.lemmas.Bool.Decides.{nat_tests}
use Rattle.vec_exact.specs.declared.RawMesh.{RawMesh}
use Rattle.vec_exact.specs.declared.NoMemory.{NoMemory}
use Rattle.vec_exact.specs.Counts.{AreAllowedCounts}
use Rattle.nc_format.specs.declared.NcFile.{NcFile}
use Rattle.exodus_mesh.specs.declared.vars.MeshVars.{MeshVars}
use Rattle.exodus_mesh.specs.MeshNames.{mesh_vars_in}
use Rattle.exodus_mesh.specs.MeshIn.{mesh_at, mesh_count_fault, mesh_in}

-- counts within their limits are no fault
pub no_count_fault : (vars : MeshVars) → AreAllowedCounts vars.nodes vars.faces → mesh_count_fault vars ≡ None
no_count_fault vars counts =
    let few : min vars.faces 4294967295 ≤ 1048576 = omega (arith, counts.face_limit) in
    let nodes : nat_lt 4194304 vars.nodes ≡ false = grind (arith, nat_tests, counts.node_limit) in
    let faces : nat_lt 1048576 (min vars.faces 4294967295) ≡ false = grind (arith, nat_tests, few) in
    rw (nodes, faces) refl

pub mesh_in_is : (file : NcFile) (bytes : List ℕ) (vars : MeshVars) → mesh_vars_in file ≡ Ok vars → AreAllowedCounts vars.nodes vars.faces → mesh_in file bytes ≡ Ok (mesh_at file bytes vars)
unfolding mesh_in
mesh_in_is file bytes vars found counts = rw (found, no_count_fault vars counts) refl

pub is_mesh_in : (file : NcFile) (bytes : List ℕ) (vars : MeshVars) (r : Result RawMesh NoMemory) → mesh_vars_in file ≡ Ok vars → AreAllowedCounts vars.nodes vars.faces → IfOk r (λ raw. raw ≡ mesh_at file bytes vars) → IfOk r (λ raw. mesh_in file bytes ≡ Ok raw)
is_mesh_in file bytes vars (Ok raw) found counts h = mesh_in_is file bytes vars found counts ∙ ap (λ (m : RawMesh). Ok m) (sym h)
is_mesh_in file bytes vars (Err e) found counts h = tt
