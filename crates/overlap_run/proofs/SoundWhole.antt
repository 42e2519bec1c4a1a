-- The overlap of two meshes keeps what every overlap keeps, and its corners are on the grid.
use Rattle.std.proofs.Common.{◌≡◌, ◌≢◌, ℕ, ◌-◌, ◌<◌, ◌≤◌, ℤ, List, [], length, map, slice_index_or, refl, sym, subst, arith}
use Rattle.std.specs.List.{All}
use Rattle.std.proofs.lemmas.List.{length-map}
use Rattle.std.proofs.lemmas.List.FromFn.{get_or-map-range_with_len}
use Rattle.std.proofs.Math.ListN.{get_or-map}
use Rattle.vec_exact.specs.declared.RawMesh.{RawMesh}
use Rattle.vec_exact.specs.declared.Vec3.{Vec3}
use Rattle.vec_exact.specs.Vector.{zero_triple}
use Rattle.vec_exact.specs.Cycle.{corner}
use Rattle.vec_exact.specs.Face.{IsAcceptedFace}
use Rattle.cone_laws.specs.Ring.{planes_of_pair, listed}
use Rattle.mesh_check.specs.Mesh.{IsAcceptedMesh, corners_of}
use Rattle.clip.specs.declared.pieces.Piece.{Piece}
use Rattle.clip.specs.Planes.{IsFaceNumber}
use Rattle.clip.specs.Overlaps.{OverlapParts, IsSoundPiece, IsSoundOverlap}
use Rattle.piece_measure.specs.Grid.{IsOnGrid, grid_corner_of, grid_corners_of}
use Rattle.piece_measure.proofs.Rounding.{on_grid_at_most, size_positive}
use Rattle.overlap_run.specs.Pairs.{DoMeet}
use Rattle.overlap_run.specs.Whole.{pair_of, IsPieceOf, IsOverlapOf}
use Rattle.overlap_run.proofs.RingCorners.{piece_at, corner_nonzero, length-grid_corners}
use Rattle.overlap_run.proofs.WholeSteps.{whole_is_sound}

accepted_face : (mesh : RawMesh) (face : ℕ) → IsAcceptedMesh mesh → IsFaceNumber mesh face → IsAcceptedFace (corners_of mesh face)
accepted_face mesh face accepted number = (accepted.faces (face - 1) [] (omega (arith, number.0, number.1))).accepted

-- the faces of a piece meet
meeting : (a b : RawMesh) (o : OverlapParts) (k : ℕ) (d : Piece) → IsOverlapOf a b o → k < length o.pieces → DoMeet a b (pair_of (slice_index_or o.pieces k d))
meeting a b o k d is below =
    subst (DoMeet a b) (get_or-map pair_of o.pieces k d) (is.pairs.each k (pair_of d) (omega (arith, below, length-map o.pieces pair_of)))

sound_pieces : (a b : RawMesh) (o : OverlapParts) → IsAcceptedMesh a → IsAcceptedMesh b → IsOverlapOf a b o → All (IsSoundPiece (length a.faces) (length b.faces)) o.pieces
sound_pieces a b o x y is k d below =
    let p = slice_index_or o.pieces k d in
    let meets = meeting a b o k d is below in
    let right : IsPieceOf a b p = is.pieces k d below in
    (piece_at a b p (planes_of_pair (corners_of a p.a) (corners_of b p.b)) refl meets.source meets.target (accepted_face a p.a x meets.source) (accepted_face b p.b y meets.target) right.ring right.corners).sound

-- the overlap of two meshes keeps what every overlap keeps, where no more pairs of faces meet than it may have
pub overlap_is_sound : (a b : RawMesh) (o : OverlapParts) → IsAcceptedMesh a → IsAcceptedMesh b → IsOverlapOf a b o → length o.pieces ≤ 8388608 → IsSoundOverlap o
overlap_is_sound a b o x y is few =
    whole_is_sound a b o (length o.pieces) is.source_faces is.target_faces x y (map pair_of o.pieces, is.pairs, length-map o.pieces pair_of) few
    (record { pairs = is.pairs; each = is.pieces; sound = sound_pieces a b o x y is })

on_grid : (c : Vec3) → c ≢ zero_triple → IsOnGrid (grid_corner_of c)
unfolding grid_corner_of
on_grid c nonzero =
    let some = size_positive c nonzero in
    record { x = on_grid_at_most c.x _ some (omega arith); y = on_grid_at_most c.y _ some (omega arith); z = on_grid_at_most c.z _ some (omega arith) }

three_numbers : (c : Vec3) → length (grid_corner_of c) ≡ 3
unfolding grid_corner_of
three_numbers c = refl

-- three numbers, on the grid
pub record IsGridCorner (c : List ℤ) : Type 0 where
  pub three : length c ≡ 3
  pub within : IsOnGrid c

grid_corner : (k : ℕ) (n : ℕ → Vec3) (t : ℕ) (d : List ℤ) → t < k → corner k n t ≢ zero_triple → IsGridCorner (slice_index_or (grid_corners_of k n) t d)
unfolding grid_corners_of
grid_corner k n t d below nonzero =
    let here = get_or-map-range_with_len (λ (u : ℕ). grid_corner_of (corner k n u)) 0 k t t d below (omega arith) in
    subst IsGridCorner (sym here) (record { three = three_numbers (corner k n t); within = on_grid (corner k n t) nonzero })

-- and so are the corners of each of its pieces
pub corners_on_grid : (a b : RawMesh) (o : OverlapParts) → IsOverlapOf a b o → All (λ (p : Piece). All IsGridCorner p.corners) o.pieces
corners_on_grid a b o is k d below =
    let p = slice_index_or o.pieces k d in
    let right : IsPieceOf a b p = is.pieces k d below in
    let f = corners_of a p.a in
    let g = corners_of b p.b in
    let l = p.ring.items in
    let n = listed (planes_of_pair f g) l in
    let all : All IsGridCorner (grid_corners_of (length l) n) =
    λ t e lt.
    let within : t < length l = omega (arith, lt, length-grid_corners (length l) n) in
    grid_corner (length l) n t e within (corner_nonzero f g (planes_of_pair f g) l refl right.ring t within)
    in
    subst (λ (cs : List (List ℤ)). All IsGridCorner cs) (sym right.corners) all
