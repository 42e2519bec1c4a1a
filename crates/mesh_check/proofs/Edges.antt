-- What an accepted mesh says of each of its faces, and the sides of the edges of a face.
use Rattle.std.proofs.Common.{◌≡◌, ◌≢◌, ◌∙◌, ℕ, ◌-◌, ◌<◌, ◌≤◌, ℤ, pos, ◌<ℤ◌, unsigned_abs, slice_index_or, All, List, [], length, arith, sym, subst, ap}
use Rattle.std.proofs.lemmas.Int.{ints}
use Rattle.std.proofs.lemmas.List.Elements.{All-get_or, All-map}
use Rattle.vec_exact.specs.declared.RawMesh.{RawMesh}
use Rattle.vec_exact.specs.declared.Vec3.{Vec3}
use Rattle.vec_exact.specs.Vector.{zero_triple, inner, det}
use Rattle.vec_exact.specs.Cycle.{after, vector_at, face_plane}
use Rattle.vec_exact.specs.Face.{node_of, face_nodes, IsNodeNumber, IsAcceptedNode, IsAcceptedFace, IsAccepted}
use Rattle.vec_exact.proofs.Identities.{det_turned, inner_turned}
use Rattle.vec_exact.proofs.Accepted.{accepted_convex, edge_nonzero, length-face_nodes}
use Rattle.mesh_check.specs.Mesh.{IsGoodNode, IsAcceptedMesh, face_of}
use Rattle.mesh_check.specs.FirstFault.{IsPositiveEdge}

pub accepted_face : (mesh : RawMesh) → IsAcceptedMesh mesh → (face : ℕ) → 1 ≤ face → face ≤ length mesh.faces → IsAccepted mesh.nodes (face_of mesh face)
accepted_face mesh m face least greatest = All-get_or (IsAccepted mesh.nodes) mesh.faces (face - 1) [] (omega arith) m.faces

pub least_edges : (mesh : RawMesh) → IsAcceptedMesh mesh → (face : ℕ) → 1 ≤ face → face ≤ length mesh.faces → 3 ≤ length (face_of mesh face)
least_edges mesh m face least greatest = omega (arith, length-face_nodes mesh.nodes (face_of mesh face), (accepted_face mesh m face least greatest).accepted.least_size)

pub greatest_edges : (mesh : RawMesh) → IsAcceptedMesh mesh → (face : ℕ) → 1 ≤ face → face ≤ length mesh.faces → length (face_of mesh face) ≤ 16
greatest_edges mesh m face least greatest = omega (arith, length-face_nodes mesh.nodes (face_of mesh face), (accepted_face mesh m face least greatest).accepted.greatest_size)

zero_self : (a : Vec3) → a ≡ zero_triple → inner a a ≡ pos 0
zero_self a e = ap (λ (b : Vec3). inner b b) e

pub face_plane_nonzero : (f : List Vec3) → IsAcceptedFace f → (t : ℕ) → t < length f → face_plane f t ≢ zero_triple
face_plane_nonzero f a t l e = omega (arith, ints, zero_self (face_plane f t) e, edge_nonzero (length f) (vector_at f) (accepted_convex f a) t l)

-- ---- the side of a node on an edge
edge_side : (f : List Vec3) (t s : ℕ) → det (vector_at f t) (vector_at f (after (length f) t)) (vector_at f s) ≡ inner (face_plane f t) (vector_at f s)
edge_side f t s = det_turned (vector_at f t) (vector_at f (after (length f) t)) (vector_at f s) ∙ sym (inner_turned (face_plane f t) (vector_at f s))

pub positive_by_plane : (f : List Vec3) (t : ℕ) → ((s : ℕ) → s < length f → s ≢ t → s ≢ after (length f) t → pos 0 <ℤ inner (face_plane f t) (vector_at f s)) → IsPositiveEdge f t
positive_by_plane f t h = λ s l a b. subst (λ z. pos 0 <ℤ z) (sym (edge_side f t s)) (h s l a b)

pub plane_positive : (f : List Vec3) (t : ℕ) → IsPositiveEdge f t → (s : ℕ) → s < length f → s ≢ t → s ≢ after (length f) t → pos 0 <ℤ inner (face_plane f t) (vector_at f s)
plane_positive f t h s l a b = subst (λ z. pos 0 <ℤ z) (edge_side f t s) (h s l a b)

-- ---- the nodes of a face whose numbers are in range
pub accepted_nodes : (nodes : List (List ℤ)) (face : List ℤ) → All IsGoodNode nodes → All (IsNodeNumber nodes) face → All IsAcceptedNode (face_nodes nodes face)
accepted_nodes nodes face good numbers =
    All-map IsAcceptedNode (node_of nodes) face (λ k d l.
    let number = numbers k d l in
    All-get_or IsGoodNode nodes (unsigned_abs (slice_index_or face k d) - 1) [] (omega (arith, ints, number.0, number.1)) good)
