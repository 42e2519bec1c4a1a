-- Two meshes have one number of pairs that meet, and one overlap.
use Rattle.std.proofs.Common.{◌≡◌, ◌∙◌, ℕ, length, map, sym, ap}
use Rattle.std.proofs.lemmas.List.{length-map}
use Rattle.vec_exact.specs.declared.RawMesh.{RawMesh}
use Rattle.clip.specs.Overlaps.{OverlapParts}
use Rattle.overlap_run.specs.Pairs.{FacePair, IsPairCount}
use Rattle.overlap_run.specs.Whole.{pair_of, IsOverlapOf}
use Rattle.overlap_run.proofs.Unique.{one_list_of_pairs, one_overlap as the_one_overlap}

pub one_count : (source target : RawMesh) (n k : ℕ) → IsPairCount source target n → IsPairCount source target k → n ≡ k
one_count source target n k a b = sym a.2 ∙ ap (length {A = FacePair}) (one_list_of_pairs source target a.0 b.0 a.1 b.1) ∙ b.2

pub one_overlap : (source target : RawMesh) (o p : OverlapParts) → IsOverlapOf source target o → IsOverlapOf source target p → o ≡ p
one_overlap source target o p a b = the_one_overlap source target o p a b

-- it is the number of pieces of the overlap
pub count_of_overlap : (source target : RawMesh) (o : OverlapParts) (n : ℕ) → IsOverlapOf source target o → IsPairCount source target n → n ≡ length o.pieces
count_of_overlap source target o n is count = sym count.2 ∙ ap (length {A = FacePair}) (one_list_of_pairs source target count.0 (map pair_of o.pieces) count.1 is.pairs) ∙ length-map o.pieces pair_of
