-- What the writer of mesh files needs of an accepted mesh.
use Rattle.std.proofs.Common.{◌≢◌, ◌+◌, ◌*◌, ◌≤◌, ℤ, pos, List, [], length, All, ap, arith, slice_index_or, mul-le-mul}
use Rattle.std.proofs.lemmas.Int.{ints}
use Rattle.vec_exact.specs.declared.RawMesh.{RawMesh}
use Rattle.vec_exact.specs.Face.{IsAccepted}
use Rattle.vec_exact.specs.Counts.{AreAllowedCounts}
use Rattle.vec_exact.proofs.Accepted.{length-face_nodes}
use Rattle.mesh_check.specs.Mesh.{IsAcceptedMesh}
use Rattle.mesh_check.specs.FirstFault.{HasFaceSize}
use Rattle.exodus_mesh.specs.MeshDocument.{width_of}
use Rattle.exodus_mesh.proofs.MeshLength.{width_greatest}

face_size : (nodes : List (List ℤ)) (face : List ℤ) → IsAccepted nodes face → HasFaceSize face
face_size nodes face a = (omega (arith, a.accepted.least_size, length-face_nodes nodes face), omega (arith, a.accepted.greatest_size, length-face_nodes nodes face))

pub face_sizes : (raw : RawMesh) → IsAcceptedMesh raw → All HasFaceSize raw.faces
face_sizes raw a k d below = face_size raw.nodes (slice_index_or raw.faces k d) (a.faces k d below)

pub some_node : (raw : RawMesh) → IsAcceptedMesh raw → 1 ≤ length raw.nodes
some_node raw a =
    let face = slice_index_or raw.faces 0 [] in
    let accepted : IsAccepted raw.nodes face = a.faces 0 [] (omega (arith, a.some_face)) in
    let sizes = face_size raw.nodes face accepted in
    let in_range = accepted.in_range 0 (pos 0) (omega (arith, sizes.0)) in
    omega (arith, ints, in_range.0, in_range.1)

not_empty : (face : List ℤ) → 3 ≤ length face → face ≢ []
not_empty face some e = absurd (omega (arith, some, ap length e))

pub none_empty : (faces : List (List ℤ)) → All HasFaceSize faces → All (λ face. face ≢ []) faces
none_empty faces sizes k d below = not_empty (slice_index_or faces k d) (sizes k d below).0

pub narrow : (faces : List (List ℤ)) → All HasFaceSize faces → All (λ face. length face ≤ 4294967295) faces
narrow faces sizes k d below = omega (arith, (sizes k d below).1)

-- the file of a mesh within the limits is short
pub short_mesh_file : (raw : RawMesh) → AreAllowedCounts (length raw.nodes) (length raw.faces) → All HasFaceSize raw.faces → 248 + 12 * length raw.nodes + 4 * (length raw.faces * width_of raw.faces) ≤ 2147483647
short_mesh_file raw counts sizes =
    let wide : width_of raw.faces ≤ 16 = width_greatest raw.faces 16 (λ k d below. (sizes k d below).1) in
    let faces : length raw.faces * width_of raw.faces ≤ 1048576 * 16 = mul-le-mul counts.face_limit wide in
    omega (arith, counts.node_limit, faces)
