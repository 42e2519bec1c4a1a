-- The pairs of faces that overlap, among those that meet.
use Rattle.std.proofs.Common.{◌≡◌, ℕ, Bool, List, [], ◌∷◌, cond, refl, arith, sym, ◌∙◌, map}
use Rattle.std.specs.Prelude.{nat_lt, count_by}
use Rattle.std.specs.List.{filter}
use Rattle.std.proofs.lemmas.Bool.{lt-ltb, ltb-true}
use Rattle.std.proofs.lemmas.List.Elements.{All-filter, filter_passes}
use Rattle.std.proofs.lemmas.List.Kept.{AllPairs-filter}
use Rattle.std.proofs.lemmas.List.Sums.{length-filter, sum_by-cons}
use Rattle.vec_exact.specs.declared.RawMesh.{RawMesh}
use Rattle.clip.specs.declared.pieces.Piece.{Piece}
use Rattle.overlap_run.specs.Pairs.{FacePair, IsEarlier, DoMeet, AreExactly, IsMeetingPairs, IsCountOf}
use Rattle.overlap_run.specs.Whole.{pair_of}
use Rattle.mesh_partition.specs.MeshReport.{DoOverlap}
use Rattle.mesh_partition.specs.LaterPairs.{later_count}
use Rattle.mesh_partition.proofs.Filtered.{filter_has}

abbrev is_before : FacePair → Bool
is_before p = nat_lt p.source p.target

pub overlapping : (mesh : RawMesh) (pairs : List FacePair) → IsMeetingPairs mesh mesh pairs → AreExactly (DoOverlap mesh) (filter is_before pairs)
overlapping mesh pairs m = record {
  ascending = AllPairs-filter IsEarlier is_before pairs m.ascending;
  each = λ k d l. record {
    meet = All-filter is_before (DoMeet mesh mesh) pairs m.each k d l;
    before = ltb-true _ _ (filter_passes is_before pairs k d l);
  };
  complete = λ p o. filter_has is_before pairs p (lt-ltb p.source p.target o.before) (m.complete p o.meet);
}

count_map : (f : Piece → FacePair) (q : FacePair → Bool) (xs : List Piece) → count_by q (map f xs) ≡ count_by (λ x. q (f x)) xs
count_map f q [] = refl
count_map f q (x ∷ xs) =
    omega (
      arith,
      sum_by-cons (λ y. cond (q y) 1 0) (f x) (map f xs),
      sum_by-cons (λ y. cond (q (f y)) 1 0) x xs,
      count_map f q xs,
    )

pub overlap_count_is : (mesh : RawMesh) (pieces : List Piece) (n : ℕ) → IsMeetingPairs mesh mesh (map pair_of pieces) → n ≡ later_count pieces → IsCountOf (DoOverlap mesh) n
overlap_count_is mesh pieces n m e =
    (filter is_before (map pair_of pieces), overlapping mesh (map pair_of pieces) m, length-filter is_before (map pair_of pieces) ∙ count_map pair_of is_before pieces ∙ sym e)
