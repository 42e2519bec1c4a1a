-- The four laws of cones. Source: our own.
use Rattle.std.specs.Prelude.{◌≡◌, ℕ, ◌<◌, pos, neg_ℤ, ◌≤ℤ◌, ◌<ℤ◌, List, length, map, ◌↔◌, ◌⊎◌}
use Rattle.vec_exact.specs.declared.Vec3.{Vec3}
use Rattle.vec_exact.specs.Vector.{zero_triple, inner, det, scaled, added}
use Rattle.vec_exact.specs.Cycle.{after, Convex, vector_at, face_plane}
use Rattle.vec_exact.specs.Face.{IsAcceptedFace}
use Rattle.cone_laws.specs.Cone.{NoneNegative, AllPositive, IsGenerated, IsBetween}
use Rattle.cone_laws.specs.Inside.{IsInside}
use Rattle.cone_laws.specs.Ring.{planes_of_pair, plane, listed, IsRingOfFirst, IsRing}

-- each node of an accepted face is on the non-negative side of each edge plane, and it is zero on exactly the two whose edges meet in it
abbrev pub LocalToGlobal : Type 0
LocalToGlobal = (f : List Vec3) → IsAcceptedFace f → (t s : ℕ) → t < length f → s < length f
    → (pos 0 ≤ℤ inner (face_plane f t) (vector_at f s))
    × ((inner (face_plane f t) (vector_at f s) ≡ pos 0) ↔ ((s ≡ t) ⊎ (s ≡ after (length f) t)))

-- no plane of a convex list is negative on d exactly where the corners of the list generate d
abbrev pub Generated : Type 0
Generated = (n : List Vec3) (d : Vec3) → Convex (length n) (vector_at n)
    → (NoneNegative (length n) (vector_at n) d) ↔ (IsGenerated (length n) (vector_at n) d)

-- the planes that a ring lists are a convex list
abbrev pub RingPlanesAreConvex : Type 0
RingPlanesAreConvex = (f g : List Vec3) (l : List ℕ) → IsRing f g l
    → let n = map (plane (planes_of_pair f g)) l in Convex (length n) (vector_at n)

-- det(q,r,s) p - det(p,r,s) q + det(p,q,s) r - det(p,q,r) s = 0
abbrev pub DiagonalsIdentity : Type 0
DiagonalsIdentity = (p q r s : Vec3)
    → added (added (scaled (det q r s) p) (scaled (neg_ℤ (det p r s)) q)) (added (scaled (det p q s) r) (scaled (neg_ℤ (det p q r)) s)) ≡ zero_triple

-- where the four determinants are positive, some triple is between p and r, and between q and s
abbrev pub DiagonalsCross : Type 0
DiagonalsCross = (p q r s : Vec3) → pos 0 <ℤ det q r s → pos 0 <ℤ det p r s → pos 0 <ℤ det p q s → pos 0 <ℤ det p q r
    → (x : Vec3) × IsBetween x p r × IsBetween x q s

-- any list of planes, and so any two faces, has at most one ring
abbrev pub RingUnique : Type 0
RingUnique = (ps : List Vec3) (m : ℕ) (l k : List ℕ) → IsRingOfFirst ps m l → IsRingOfFirst ps m k → l ≡ k

-- every plane of the ring of two accepted faces is positive on a direction exactly where both faces have it inside
abbrev pub RingBounds : Type 0
RingBounds = (f g : List Vec3) (l : List ℕ) → IsAcceptedFace f → IsAcceptedFace g → IsRing f g l
    → (d : Vec3) → (AllPositive (length l) (listed (planes_of_pair f g) l) d) ↔ (IsInside f d × IsInside g d)
