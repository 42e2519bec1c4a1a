-- From all pieces to the overlap.
use Rattle.std.proofs.Common.{◌≡◌, ℕ, ◌≤◌, refl, List, length, map, slice_index_or, ap, sym, ◌∙◌, subst, arith}
use Rattle.std.specs.Prelude.{Result, Err}
use Rattle.std.specs.List.{All, AllPairs}
use Rattle.std.proofs.lemmas.List.{length-map}
use Rattle.std.proofs.Math.ListN.{get_or-map}
use Rattle.vec_exact.specs.declared.RawMesh.{RawMesh}
use Rattle.mesh_check.specs.Mesh.{IsAcceptedMesh}
use Rattle.clip.specs.declared.pieces.Piece.{Piece}
use Rattle.clip.specs.Overlaps.{OverlapParts, IsBefore, IsSoundPiece, IsSoundOverlap}
use Rattle.overlap_run.specs.Pairs.{FacePair, IsEarlier, DoMeet, IsCountOf, IsPairCount}
use Rattle.overlap_run.specs.Whole.{pair_of, IsOverlapOf, HoldsOverlap}
use Rattle.overlap_run.specs.Parts.{ArePiecesOf}
use Rattle.overlap_run.proofs.Unique.{exactly_one}

pub same_error : {A E : Type 0} (e f : E) → ◌≡◌ {A = Result A E} (Err e) (Err f) → e ≡ f
same_error e f h = grind arith

-- there is one number of pairs with P
pub one_count : (P : FacePair → Type 0) (m n : ℕ) → IsCountOf P m → IsCountOf P n → m ≡ n
one_count P m n c d = omega (arith, ap (length {A = FacePair}) (exactly_one P c.0 d.0 c.1 d.1), c.2, d.2)

pieces_count : (a b : RawMesh) (P : FacePair → Type 0) (n : ℕ) (pieces : List Piece) → IsCountOf P n → ArePiecesOf a b P pieces → length pieces ≡ n
pieces_count a b P n pieces c d =
    omega (arith, ap (length {A = FacePair}) (exactly_one P c.0 (map pair_of pieces) c.1 d.pairs), c.2, length-map pieces pair_of)

pieces_ascend : (pieces : List Piece) → AllPairs IsEarlier (map pair_of pieces) → AllPairs IsBefore pieces
pieces_ascend pieces h i j d l r =
    let here : IsEarlier (slice_index_or (map pair_of pieces) i (pair_of d)) (slice_index_or (map pair_of pieces) j (pair_of d)) =
    h i j (pair_of d) l (omega (arith, r, length-map pieces pair_of)) in
    let first = subst (λ (p : FacePair). IsEarlier p (slice_index_or (map pair_of pieces) j (pair_of d))) (get_or-map pair_of pieces i d) here in
    subst (IsEarlier (pair_of (slice_index_or pieces i d))) (get_or-map pair_of pieces j d) first

module _ (a b : RawMesh) where
  pub whole_is_sound : (o : OverlapParts) (n : ℕ) → o.faces_a ≡ length a.faces → o.faces_b ≡ length b.faces → IsAcceptedMesh a → IsAcceptedMesh b
      → IsPairCount a b n → n ≤ 8388608 → ArePiecesOf a b (DoMeet a b) o.pieces → IsSoundOverlap o
  whole_is_sound o n e f x y c few h = record {
    source_faces = (omega (arith, e, x.some_face), omega (arith, e, x.counts.face_limit));
    target_faces = (omega (arith, f, y.some_face), omega (arith, f, y.counts.face_limit));
    count = omega (arith, pieces_count a b (DoMeet a b) n o.pieces c h, few);
    ascending = pieces_ascend o.pieces h.pairs.ascending;
    pieces = subst (λ (k : ℕ). All (IsSoundPiece k o.faces_b) o.pieces) (sym e) (subst (λ (k : ℕ). All (IsSoundPiece (length a.faces) k) o.pieces) (sym f) h.sound);
  }

  pub whole_overlap : (o : OverlapParts) → o.faces_a ≡ length a.faces → o.faces_b ≡ length b.faces → ArePiecesOf a b (DoMeet a b) o.pieces → IsOverlapOf a b o
  whole_overlap o e f h = record { source_faces = e; target_faces = f; pairs = h.pairs; pieces = h.each }

  -- a list of all pieces holds those of the overlap
  pub list_of_whole : {C : Type 0} (Holds : C → List Piece → Type 0) (list : C) (n : ℕ) → IsAcceptedMesh a → IsAcceptedMesh b → IsPairCount a b n → n ≤ 8388608
      → (pieces : List Piece) × ArePiecesOf a b (DoMeet a b) pieces × Holds list pieces → HoldsOverlap Holds a b list
  list_of_whole Holds list n x y c few all =
      let o : OverlapParts = record { faces_a = length a.faces; faces_b = length b.faces; pieces = all.0 } in
      (o, whole_overlap o refl refl all.1, whole_is_sound o n refl refl x y c few all.1, all.2)

  -- the pieces of the overlap with the counts of its faces
  pub as_parts : (faces_a faces_b : ℕ) (list : List Piece) → faces_a ≡ length a.faces → faces_b ≡ length b.faces → HoldsOverlap (λ (l ps : List Piece). l ≡ ps) a b list
      → IsOverlapOf a b (record { faces_a = faces_a; faces_b = faces_b; pieces = list }) × IsSoundOverlap (record { faces_a = faces_a; faces_b = faces_b; pieces = list })
  as_parts faces_a faces_b list e f (o, right, sound, held) =
      let parts : OverlapParts = record { faces_a = faces_a; faces_b = faces_b; pieces = list } in
      let first : o.faces_a ≡ faces_a = right.source_faces ∙ sym e in
      let second : o.faces_b ≡ faces_b = right.target_faces ∙ sym f in
      let third : o.pieces ≡ list = sym held in
      let same : o ≡ parts = λ k. record { faces_a = first k; faces_b = second k; pieces = third k } in
      (subst (IsOverlapOf a b) same right, subst IsSoundOverlap same sound)
