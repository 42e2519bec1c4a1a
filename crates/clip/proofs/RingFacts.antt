-- What every ring of two accepted faces keeps, as a piece of an overlap has to.
use Rattle.std.proofs.Common.{◌≡◌, ℕ, ◌≤◌, List, length, slice_index, ap, arith}
use Rattle.std.specs.List.{All}
use Rattle.std.proofs.lemmas.List.Elements.{All-from_get_or}
use Rattle.vec_exact.specs.declared.Vec3.{Vec3}
use Rattle.vec_exact.specs.Face.{IsAcceptedFace}
use Rattle.cone_laws.specs.Ring.{planes_of_pair, plane, IsRing}
use Rattle.cone_laws.proofs.Pairs.{length-planes_of_pair}
use Rattle.clip.specs.declared.pieces.Piece.{Piece}
use Rattle.clip.specs.Planes.{AreNumbers}
use Rattle.clip.specs.Overlaps.{IsRingNumber, IsSoundPiece}
use Rattle.clip.proofs.Size.{cycle_size}

-- its numbers name planes
pub ring_names_planes : (f g ps : List Vec3) (l : List ℕ) → ps ≡ planes_of_pair f g → IsRing f g l → AreNumbers ps l
ring_names_planes f g ps l e r = record {
  least = r.cycle.least_number;
  greatest = λ t lt. omega (arith, r.cycle.greatest_number t lt, ap (length {A = Vec3}) e);
}

-- there are at most 32 planes
pub length-pair_at_most : (f g : List Vec3) → IsAcceptedFace f → IsAcceptedFace g → length (planes_of_pair f g) ≤ 32
length-pair_at_most f g a b = omega (arith, length-planes_of_pair f g, a.greatest_size, b.greatest_size)

pub ring_greatest_size : (f g : List Vec3) (l : List ℕ) → IsAcceptedFace f → IsAcceptedFace g → IsRing f g l → length l ≤ 32
ring_greatest_size f g l a b r =
    let ps = planes_of_pair f g in omega (arith, cycle_size (plane ps) (length ps) (length l) (slice_index l) r.cycle, length-pair_at_most f g a b)

pub ring_numbers : (f g : List Vec3) (l : List ℕ) → IsAcceptedFace f → IsAcceptedFace g → IsRing f g l → All IsRingNumber l
ring_numbers f g l a b r =
    All-from_get_or IsRingNumber l 0 (λ t lt. (r.cycle.least_number t lt, omega (arith, r.cycle.greatest_number t lt, length-pair_at_most f g a b)))

-- a piece whose ring is that of two faces, with as many corners
pub sound_piece : (faces_a faces_b : ℕ) (p : Piece) (f g : List Vec3) → IsAcceptedFace f → IsAcceptedFace g → (1 ≤ p.a) × (p.a ≤ faces_a) → (1 ≤ p.b) × (p.b ≤ faces_b)
    → IsRing f g p.ring.items → length p.corners ≡ length p.ring.items → IsSoundPiece faces_a faces_b p
sound_piece faces_a faces_b p f g a b i j r c = record {
  source = i;
  target = j;
  least_size = r.cycle.convex.three;
  greatest_size = ring_greatest_size f g p.ring.items a b r;
  numbers = ring_numbers f g p.ring.items a b r;
  corners = c;
}
