-- The fault of two counts, and the first fault of a raw mesh. Source: the limits, the rules and their order are our own.
use Rattle.std.specs.Prelude.{◌≡◌, ◌≢◌, ℕ, ◌-◌, ◌<◌, ◌≤◌, ◌⊎◌, ℤ, pos, ◌<ℤ◌, nat_lt, if◌then◌else◌, List, [], length, take, All, slice_index_or, Option, Some, None}
use Rattle.vec_exact.specs.declared.RawMesh.{RawMesh}
use Rattle.vec_exact.specs.declared.Vec3.{Vec3}
use Rattle.vec_exact.specs.Vector.{zero_triple, det}
use Rattle.vec_exact.specs.Size.{Is18}
use Rattle.vec_exact.specs.Cycle.{after, vector_at}
use Rattle.vec_exact.specs.Face.{vector_of, face_nodes, IsNodeNumber, IsAccepted}
use Rattle.mesh_check.specs.declared.faults.MeshFault.{MeshFault}
use Rattle.mesh_check.specs.declared.faults.MeshFault.TheVariants.{TooManyNodes, TooManyFaces, CoordRange, ZeroNode, NodeNumber, FaceSize, NotConvex, NoMemory}
use Rattle.mesh_check.specs.declared.faults.GenFault.{GenFault}
use Rattle.mesh_check.specs.declared.faults.GenFault.TheVariants.{Mesh, NoMemory as GenNoMemory}
use Rattle.mesh_check.specs.Mesh.{IsGoodNode, IsAcceptedMesh}

-- the fault of a node count and a face count, or none
abbrev pub count_fault : ℕ → ℕ → Option MeshFault
count_fault nodes faces = if nat_lt 4194304 nodes then Some (TooManyNodes nodes) else (if nat_lt 1048576 faces then Some (TooManyFaces faces) else None)

-- the node with this number has this fault: out of range comes before zero
abbrev pub IsNodeFault : ℕ → Vec3 → MeshFault → Type 0
IsNodeFault number v (CoordRange k) = (k ≡ number) × (Is18 v → ⊥)
IsNodeFault number v (ZeroNode k) = (k ≡ number) × Is18 v × (v ≡ zero_triple)
IsNodeFault number v fault = ⊥

-- a face has 3 to 16 nodes
abbrev pub HasFaceSize : List ℤ → Type 0
HasFaceSize face = (3 ≤ length face) × (length face ≤ 16)

-- every node of a face but the own two of its edge t is on the positive side of that edge
abbrev pub IsPositiveEdge : List Vec3 → ℕ → Type 0
IsPositiveEdge f t = (s : ℕ) → s < length f → s ≢ t → s ≢ after (length f) t → pos 0 <ℤ det (vector_at f t) (vector_at f (after (length f) t)) (vector_at f s)

-- the third rule of `IsAccepted`, which is said of each edge
abbrev pub IsStrictlyConvex : List Vec3 → Type 0
IsStrictlyConvex f = (t : ℕ) → t < length f → IsPositiveEdge f t

-- the face with this number has this fault: of its numbers first, then of its size, then of its shape
abbrev pub IsFaceFault : List (List ℤ) → ℕ → List ℤ → MeshFault → Type 0
IsFaceFault nodes number face (NodeNumber k) = (k ≡ number) × (All (IsNodeNumber nodes) face → ⊥)
IsFaceFault nodes number face (FaceSize k) = (k ≡ number) × All (IsNodeNumber nodes) face × (HasFaceSize face → ⊥)
IsFaceFault nodes number face (NotConvex k) = (k ≡ number) × All (IsNodeNumber nodes) face × HasFaceSize face × (IsStrictlyConvex (face_nodes nodes face) → ⊥)
IsFaceFault nodes number face fault = ⊥

-- the first node that is at fault has this fault
pub record IsFirstNodeFault (nodes : List (List ℤ)) (fault : MeshFault) : Type 0 where
  pub number : ℕ
  pub least : 1 ≤ number
  pub greatest : number ≤ length nodes
  pub before : All IsGoodNode (take (number - 1) nodes)
  pub here : IsNodeFault number (vector_of (slice_index_or nodes (number - 1) [])) fault

-- the first face that is at fault has this fault
pub record IsFirstFaceFault (nodes faces : List (List ℤ)) (fault : MeshFault) : Type 0 where
  pub number : ℕ
  pub least : 1 ≤ number
  pub greatest : number ≤ length faces
  pub before : All (IsAccepted nodes) (take (number - 1) faces)
  pub here : IsFaceFault nodes number (slice_index_or faces (number - 1) []) fault

-- this is the first fault of a raw mesh: the nodes ascending, and where they are all good, the faces ascending
abbrev pub IsFirstMeshFault : RawMesh → MeshFault → Type 0
IsFirstMeshFault raw fault = IsFirstNodeFault raw.nodes fault ⊎ (All IsGoodNode raw.nodes × IsFirstFaceFault raw.nodes raw.faces fault)

-- a raw mesh has at most one first fault, and none where it is accepted
pub record OneMeshFault (raw : RawMesh) : Type 0 where
  pub same : (f g : MeshFault) → IsFirstMeshFault raw f → IsFirstMeshFault raw g → f ≡ g
  pub none : (f : MeshFault) → IsAcceptedMesh raw → IsFirstMeshFault raw f → ⊥

-- the fault of a generator whose mesh has this fault: want of memory stays want of memory
abbrev pub gen_fault_of : MeshFault → GenFault
gen_fault_of NoMemory = GenNoMemory
gen_fault_of fault = Mesh fault
