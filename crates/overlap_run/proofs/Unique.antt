-- That meetings and overlaps are determined by the two meshes.
use Rattle.std.proofs.Common.{◌≡◌, ℕ, inl, inr, List, [], ◌∷◌, length, map, refl, ap, ap₂, sym, ◌∙◌, subst, arith}
use Rattle.std.specs.List.{All}
use Rattle.std.proofs.lemmas.List.Elements.{All-contains, All-head, All-tail}
use Rattle.vec_exact.specs.declared.RawMesh.{RawMesh}
use Rattle.cone_laws.specs.Ring.{planes_of_pair, listed, IsRing}
use Rattle.cone_laws.proofs.Unique.{unique}
use Rattle.mesh_check.specs.Mesh.{corners_of}
use Rattle.clip.specs.declared.pieces.Piece.{Piece}
use Rattle.piece_measure.specs.Grid.{grid_corners_of}
use Rattle.overlap_run.specs.Pairs.{FacePair, IsEarlier, AreExactly, OneListOfPairs}
use Rattle.overlap_run.specs.Whole.{pair_of, IsPieceOf, OneOverlap}
use Rattle.cell_index.proofs.Ascending.{same_members}

pub earlier_one_way : (p q : FacePair) → IsEarlier p q → IsEarlier q p → ⊥
earlier_one_way p q (inl x) (inl y) = omega (arith, x, y)
earlier_one_way p q (inl x) (inr y) = omega (arith, x, y.0)
earlier_one_way p q (inr x) (inl y) = omega (arith, x.0, y)
earlier_one_way p q (inr x) (inr y) = omega (arith, x.1, y.1)

-- the pairs with P are one list
pub exactly_one : (P : FacePair → Type 0) (ps qs : List FacePair) → AreExactly P ps → AreExactly P qs → ps ≡ qs
exactly_one P ps qs a b =
    same_members IsEarlier earlier_one_way ps qs a.ascending b.ascending
    (λ z c. b.complete z (All-contains P ps z a.each c)) (λ z c. a.complete z (All-contains P qs z b.each c))

pub one_list_of_pairs : OneListOfPairs
one_list_of_pairs a b pairs others p q = exactly_one _ pairs others p q

piece_eq : (p q : Piece) → p.a ≡ q.a → p.b ≡ q.b → p.ring.items ≡ q.ring.items → p.corners ≡ q.corners → p ≡ q
piece_eq p q e f g h = λ i. record { a = e i; b = f i; ring = record { items = g i }; corners = h i }

-- two faces share at most one piece
same_piece : (a b : RawMesh) (p q : Piece) → pair_of p ≡ pair_of q → IsPieceOf a b p → IsPieceOf a b q → p ≡ q
same_piece a b p q e x y =
    let source : p.a ≡ q.a = ap (λ (r : FacePair). r.source) e in
    let target : p.b ≡ q.b = ap (λ (r : FacePair). r.target) e in
    let ps = planes_of_pair (corners_of a q.a) (corners_of b q.b) in
    let planes : planes_of_pair (corners_of a p.a) (corners_of b p.b) ≡ ps = ap₂ (λ (i j : ℕ). planes_of_pair (corners_of a i) (corners_of b j)) source target in
    let ring : IsRing (corners_of a q.a) (corners_of b q.b) p.ring.items =
    subst (λ (i : ℕ). IsRing (corners_of a i) (corners_of b q.b) p.ring.items) source (subst (λ (j : ℕ). IsRing (corners_of a p.a) (corners_of b j) p.ring.items) target x.ring) in
    let same = unique ps (length ps) p.ring.items q.ring.items ring y.ring in
    piece_eq p q source target same
    (x.corners ∙ ap (λ (planes : List _). grid_corners_of (length p.ring.items) (listed planes p.ring.items)) planes
    ∙ ap (λ (l : List ℕ). grid_corners_of (length l) (listed ps l)) same ∙ sym y.corners)

same_pieces : (a b : RawMesh) (ps qs : List Piece) → map pair_of ps ≡ map pair_of qs → All (IsPieceOf a b) ps → All (IsPieceOf a b) qs → ps ≡ qs
same_pieces a b [] [] e x y = refl
same_pieces a b [] (q ∷ qs) e x y = absurd (omega (arith, ap (length {A = FacePair}) e))
same_pieces a b (p ∷ ps) [] e x y = absurd (omega (arith, ap (length {A = FacePair}) e))
same_pieces a b (p ∷ ps) (q ∷ qs) e x y =
    let first : pair_of p ≡ pair_of q = cc in
    let rest : map pair_of ps ≡ map pair_of qs = cc in
    ap₂ (λ (r : Piece) (l : List Piece). r ∷ l)
    (same_piece a b p q first (All-head (IsPieceOf a b) p ps x) (All-head (IsPieceOf a b) q qs y))
    (same_pieces a b ps qs rest (All-tail (IsPieceOf a b) p ps x) (All-tail (IsPieceOf a b) q qs y))

pub one_overlap : OneOverlap
one_overlap a b o p x y =
    let pairs = one_list_of_pairs a b (map pair_of o.pieces) (map pair_of p.pieces) x.pairs y.pairs in
    let pieces = same_pieces a b o.pieces p.pieces pairs x.pieces y.pieces in
    let from = x.source_faces ∙ sym y.source_faces in
    let to = x.target_faces ∙ sym y.target_faces in
    λ i. record { faces_a = from i; faces_b = to i; pieces = pieces i }
