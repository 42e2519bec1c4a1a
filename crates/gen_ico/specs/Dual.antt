-- The dual of the icosahedral mesh: its faces go round the nodes of that mesh. Source: our own, in its numbers and orders.
use Rattle.std.specs.Prelude.{ℕ, zero, suc, ◌+◌, ◌-◌, ◌%◌, ◌==◌, nat_lt, Bool, ◌&&◌, not, ℤ, pos, ◌+ℤ◌, unsigned_abs, if◌then◌else◌, List, [], ◌∷◌, length, map, slice_index_or}
use Rattle.std.specs.List.{range_with_len, position_or_len, list_any}
use Rattle.std.specs.Ordering.{int_eq}
use Rattle.vec_exact.specs.declared.RawMesh.{RawMesh}
use Rattle.vec_exact.specs.Rounding.{rounded}

-- component k, from 0, of node s, from 0, of a face
abbrev pub face_component : List (List ℤ) → List ℤ → ℕ → ℕ → ℤ
face_component nodes face s k = slice_index_or (slice_index_or nodes (unsigned_abs (slice_index_or face s (pos 0)) - 1) []) k (pos 0)

abbrev pub half_sum : List (List ℤ) → List ℤ → ℕ → ℤ
half_sum nodes face k = rounded (face_component nodes face 0 k +ℤ face_component nodes face 1 k +ℤ face_component nodes face 2 k) 2

-- the dual node of a face: half the sum of its three nodes
unfoldable pub dual_node : List (List ℤ) → List ℤ → List ℤ
dual_node nodes face = half_sum nodes face 0 ∷ half_sum nodes face 1 ∷ half_sum nodes face 2 ∷ []

-- the node k places behind place s of a face, cyclically
abbrev pub behind : List ℤ → ℕ → ℕ → ℤ
behind face s k = slice_index_or face ((s + k) % length face) (pos 0)

-- whether a face has p at place s, followed by h
abbrev pub has_at : ℤ → ℤ → List ℤ → ℕ → Bool
has_at p h face s = int_eq (behind face s 0) p && int_eq (behind face s 1) h

-- the first place of a face at which p is followed by h, or its length where there is none
unfoldable pub place_followed : ℤ → ℤ → List ℤ → ℕ
place_followed p h face = position_or_len (has_at p h face) (range_with_len 0 (length face))

abbrev pub is_followed : ℤ → ℤ → List ℤ → Bool
is_followed p h face = nat_lt (place_followed p h face) (length face)

-- the first place of a face at which p stands, or its length where there is none
abbrev pub place_of : ℤ → List ℤ → ℕ
place_of p face = position_or_len (λ number. int_eq number p) face

-- whether a face holds p
abbrev pub holds : ℤ → List ℤ → Bool
holds p face = list_any (λ number. int_eq number p) face

-- the faces round node p, after those so far of which the last one has p followed by a node and that by h: each is the least with p followed by h; the list ends before its first number, or after so many more
unfoldable pub faces_from : List (List ℤ) → ℤ → ℕ → ℤ → ℕ → List ℤ
faces_from faces p first h zero = []
faces_from faces p first h (suc more) =
    let t = position_or_len (is_followed p h) faces in
    let face = slice_index_or faces t [] in
    if nat_lt t (length faces) && not (t == first)
    then pos (t + 1) ∷ faces_from faces p first (behind face (place_followed p h face) 2) more
    else []

-- the dual face of node p: the faces round it from the least on, at most 17
unfoldable pub dual_face : List (List ℤ) → ℤ → List ℤ
dual_face faces p =
    let first = position_or_len (holds p) faces in
    let face = slice_index_or faces first [] in
    if nat_lt first (length faces)
    then pos (first + 1) ∷ faces_from faces p first (behind face (place_of p face) 2) 16
    else []

-- the dual of a raw mesh of triangles: a node for each face, a face for each node
unfoldable pub dual_of : RawMesh → RawMesh
dual_of raw = record {
  nodes = map (dual_node raw.nodes) raw.faces;
  faces = map (λ k. dual_face raw.faces (pos (k + 1))) (range_with_len 0 (length raw.nodes));
}
