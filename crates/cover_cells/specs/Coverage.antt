-- Coverage of a target face, given by its nodes, by the faces of a mesh. Source: our own.
use Rattle.std.specs.Prelude.{ℕ, ◌≤◌, List, length}
use Rattle.vec_exact.specs.declared.RawMesh.{RawMesh}
use Rattle.vec_exact.specs.declared.Vec3.{Vec3}
use Rattle.cone_laws.specs.Inside.{IsInside, IsInClosure}
use Rattle.mesh_check.specs.Mesh.{corners_of}

-- d is in the closure of some face of the mesh
abbrev pub IsInSomeClosure : RawMesh → Vec3 → Type 0
IsInSomeClosure sources d = (i : ℕ) × 1 ≤ i × i ≤ length sources.faces × IsInClosure (corners_of sources i) d

-- every direction inside the target is in the closure of some face of the mesh
abbrev pub IsCovered : RawMesh → List Vec3 → Type 0
IsCovered sources target = (d : Vec3) → IsInside target d → IsInSomeClosure sources d

-- d is inside the target, and in the closure of no face of the mesh
abbrev pub IsUncoveredDirection : RawMesh → List Vec3 → Vec3 → Type 0
IsUncoveredDirection sources target d = IsInside target d × ¬ IsInSomeClosure sources d
