-- Accepted faces: their nodes by place, that they are convex, and the sizes of their edge planes.
use Rattle.std.proofs.Common.{◌≡◌, ◌≢◌, ℕ, ◌<◌, pos, ◌<ℤ◌, sym, subst, List, length, ℤ, slice_index_or}
use Rattle.std.proofs.lemmas.List.{get_or-map, length-map}
use Rattle.std.proofs.lemmas.List.Elements.{All-get_or}
use Rattle.vec_exact.specs.declared.Vec3.{Vec3}
use Rattle.vec_exact.specs.Vector.{zero_triple, inner}
use Rattle.vec_exact.specs.Size.{Is37}
use Rattle.vec_exact.specs.Cycle.{after, edge_plane, Convex, vector_at, face_plane}
use Rattle.vec_exact.specs.Face.{node_of, face_nodes, IsAcceptedNode, IsAcceptedFace}
use Rattle.vec_exact.proofs.Bounds.{cross_is37}
use Rattle.vec_exact.proofs.Planes.{self_pos}
use Rattle.vec_exact.proofs.Cycles.{after_below, side_on_edge, turn, convex_by_det}

pub accepted_convex : (f : List Vec3) → IsAcceptedFace f → Convex (length f) (vector_at f)
accepted_convex f a = convex_by_det (length f) (vector_at f) a.least_size a.turns

pub accepted_node : (f : List Vec3) → IsAcceptedFace f → (t : ℕ) → t < length f → IsAcceptedNode (vector_at f t)
accepted_node f a t l = All-get_or IsAcceptedNode f t zero_triple l a.nodes

-- the plane of an edge of an accepted face
pub face_plane_is37 : (f : List Vec3) → IsAcceptedFace f → (t : ℕ) → t < length f → Is37 (face_plane f t)
face_plane_is37 f a t l =
    cross_is37 (vector_at f t) (vector_at f (after (length f) t)) (accepted_node f a t l).small (accepted_node f a (after (length f) t) (after_below (length f) t l)).small

-- an edge of a convex cycle is positive on the members that are not its own, and so it is not zero
pub edge_positive : (k : ℕ) (v : ℕ → Vec3) → Convex k v → (t s : ℕ) → t < k → s < k → s ≢ t → s ≢ after k t → pos 0 <ℤ inner (edge_plane k v t) (v s)
edge_positive k v c t s lt ls a b = subst (λ z. pos 0 <ℤ z) (sym (side_on_edge k v t s)) (c.strict t s lt ls a b)

pub edge_nonzero : (k : ℕ) (v : ℕ → Vec3) → Convex k v → (t : ℕ) → t < k → pos 0 <ℤ inner (edge_plane k v t) (edge_plane k v t)
edge_nonzero k v c t l =
    self_pos (edge_plane k v t) (v (after k (after k t))) (subst (λ z. pos 0 <ℤ z) (sym (side_on_edge k v t (after k (after k t)))) (turn k v t c l))

-- ---- the nodes of a face that is given by numbers
pub length-face_nodes : (nodes : List (List ℤ)) (face : List ℤ) → length (face_nodes nodes face) ≡ length face
length-face_nodes nodes face = length-map face (node_of nodes)

pub face_nodes_at : (nodes : List (List ℤ)) (face : List ℤ) (t : ℕ) → t < length face → vector_at (face_nodes nodes face) t ≡ node_of nodes (slice_index_or face t (pos 0))
face_nodes_at nodes face t l = get_or-map (node_of nodes) face t (pos 0) zero_triple l
