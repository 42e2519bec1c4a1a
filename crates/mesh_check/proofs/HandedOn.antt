-- What becomes of the first fault of a generated mesh.
use Rattle.std.proofs.Common.{◌≡◌, ◌≢◌, ◌⊎◌, inl, inr, ap, sym, subst, refl, ◌∙◌, arith}
use Rattle.std.specs.Prelude.{Result, Ok, Err}
use Rattle.vec_exact.specs.declared.RawMesh.{RawMesh}
use Rattle.mesh_check.specs.declared.faults.MeshFault.{MeshFault}
use Rattle.mesh_check.specs.declared.faults.MeshFault.TheVariants.{NoMemory}
use Rattle.mesh_check.specs.declared.faults.GenFault.{GenFault}
use Rattle.mesh_check.specs.declared.faults.GenFault.TheVariants.{Mesh, NoMemory as GenNoMemory}
use Rattle.mesh_check.specs.FirstFault.{IsFirstMeshFault, gen_fault_of}

-- want of memory is no fault of a mesh
pub never_memory : (raw : RawMesh) → IsFirstMeshFault raw NoMemory → ⊥
never_memory raw (inl h) = h.here
never_memory raw (inr h) = h.1.here

-- a fault of a mesh is handed on
handed_on : (raw : RawMesh) (fault : MeshFault) → IsFirstMeshFault raw fault → gen_fault_of fault ≡ Mesh fault
handed_on raw NoMemory h = absurd (never_memory raw h)
handed_on raw fault h = refl

only_first : (raw : RawMesh) (found fault : MeshFault) → (found ≢ NoMemory → IsFirstMeshFault raw found) → gen_fault_of found ≡ Mesh fault → IsFirstMeshFault raw fault
only_first raw NoMemory fault h e = grind arith
only_first raw found fault h e =
    let same : found ≡ fault = grind arith in
    let real : found ≢ NoMemory = grind arith in
    subst (IsFirstMeshFault raw) same (h real)

same_error : {A E : Type 0} (e f : E) → ◌≡◌ {A = Result A E} (Err e) (Err f) → e ≡ f
same_error e f h = grind arith

-- a result that is a value is neither of two errors
pub no_error : {A E : Type 0} (a : A) (e f : E) → (◌≡◌ {A = Result A E} (Ok a) (Err e)) ⊎ (◌≡◌ {A = Result A E} (Ok a) (Err f)) → ⊥
no_error a e f (inl h) = grind arith
no_error a e f (inr h) = grind arith

-- a generator that ends with what became of a found fault names the first fault alone
pub names_first : {A : Type 0} (raw : RawMesh) (r : Result A GenFault) (found fault : MeshFault) → r ≡ Err (gen_fault_of found) → (found ≢ NoMemory → IsFirstMeshFault raw found) → r ≡ Err (Mesh fault) → IsFirstMeshFault raw fault
names_first raw r found fault gives h e = only_first raw found fault h (same_error (gen_fault_of found) (Mesh fault) (sym gives ∙ e))

-- and where there is a first fault it names that, or memory ran out
pub refuses : {A B : Type 0} (raw : RawMesh) (r : Result A GenFault) (found fault : MeshFault)
    → r ≡ Err (gen_fault_of found)
    → ((f : MeshFault) → IsFirstMeshFault raw f → (◌≡◌ {A = Result B MeshFault} (Err found) (Err f)) ⊎ (◌≡◌ {A = Result B MeshFault} (Err found) (Err NoMemory)))
    → IsFirstMeshFault raw fault → (r ≡ Err (Mesh fault)) ⊎ (r ≡ Err GenNoMemory)
refuses raw r found fault gives refused h = elim (refused fault h) [
  | inl e ↦ inl (gives ∙ ap Err (ap gen_fault_of (same_error found fault e) ∙ handed_on raw fault h))
  | inr e ↦ inr (gives ∙ ap (λ f. Err (gen_fault_of f)) (same_error found NoMemory e))
]
