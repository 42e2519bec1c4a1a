-- Meshes as contracts see them: the nodes, and the faces by the numbers of their nodes, as in a raw mesh. Source: our own.
use Rattle.std.specs.Prelude.{ℕ, ◌-◌, ◌≤◌, ℤ, pos, unsigned_abs, List, [], length, All, slice_index_or}
use Rattle.vec_exact.specs.declared.RawMesh.{RawMesh}
use Rattle.vec_exact.specs.declared.Vec3.{Vec3}
use Rattle.vec_exact.specs.Counts.{AreAllowedCounts}
use Rattle.vec_exact.specs.Face.{vector_of, face_nodes, IsAcceptedNode, IsAccepted}

-- a node is in range and not the zero triple
abbrev pub IsGoodNode : List ℤ → Type 0
IsGoodNode node = IsAcceptedNode (vector_of node)

-- the mesh has a face, its counts are within their limits, each node is in range and not zero, also one of no face, and each face is accepted
pub record IsAcceptedMesh (mesh : RawMesh) : Type 0 where
  pub some_face : 1 ≤ length mesh.faces
  pub counts : AreAllowedCounts (length mesh.nodes) (length mesh.faces)
  pub nodes : All IsGoodNode mesh.nodes
  pub faces : All (IsAccepted mesh.nodes) mesh.faces

-- the node numbers of the face with this number, which counts from 1
abbrev pub face_of : RawMesh → ℕ → List ℤ
face_of mesh face = slice_index_or mesh.faces (face - 1) []

-- its nodes in order
abbrev pub corners_of : RawMesh → ℕ → List Vec3
corners_of mesh face = face_nodes mesh.nodes (face_of mesh face)

-- the number of its node t, where t counts from 1
abbrev pub node_number : RawMesh → ℕ → ℕ → ℤ
node_number mesh face t = slice_index_or (face_of mesh face) (t - 1) (pos 0)

-- its node t
abbrev pub node_at : RawMesh → ℕ → ℕ → List ℤ
node_at mesh face t = slice_index_or mesh.nodes (unsigned_abs (node_number mesh face t) - 1) []
