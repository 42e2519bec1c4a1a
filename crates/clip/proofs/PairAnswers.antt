-- What the ring of two faces, or that there is none, says of them.
use Rattle.std.proofs.Common.{◌≡◌, ◌↔◌, List, ℕ, Option, length, subst, MatchOption, IsSome, IfSome}
use Rattle.arrayvec.specs.ArrayVec.{ArrayVec}
use Rattle.vec_exact.specs.declared.Vec3.{Vec3}
use Rattle.vec_exact.specs.Face.{IsAcceptedFace}
use Rattle.vec_exact.proofs.Accepted.{accepted_convex}
use Rattle.cone_laws.specs.Cone.{AllPositive}
use Rattle.cone_laws.specs.Inside.{IsInside, Meets}
use Rattle.cone_laws.specs.Ring.{planes_of_pair, listed, IsRing}
use Rattle.cone_laws.proofs.Pairs.{ring_bounds, ring_meets}
use Rattle.clip.proofs.Answered.{some_iff, if_some}

-- the answer for two faces
abbrev pub IsAnswer : Option (ArrayVec ℕ) → List Vec3 → List Vec3 → Type 0
IsAnswer o f g = MatchOption o (¬ Meets f g) (λ r. IsRing f g r.items)

-- it is the same for the faces that they were read from
pub answer_of : (o : Option (ArrayVec ℕ)) (f g k h : List Vec3) → k ≡ f → h ≡ g → IsAnswer o k h → IsAnswer o f g
answer_of o f g k h p q m = subst (λ (x : List Vec3). IsAnswer o x g) p (subst (λ (x : List Vec3). IsAnswer o k x) q m)

pub says_meets : (o : Option (ArrayVec ℕ)) (f g : List Vec3) → IsAcceptedFace f → IsAcceptedFace g → IsAnswer o f g → IsSome o ↔ Meets f g
says_meets o f g a b m = some_iff o (Meets f g) (λ r. IsRing f g r.items) m (λ r h. ring_meets f g r.items (accepted_convex f a) (accepted_convex g b) h)

pub says_ring : (o : Option (ArrayVec ℕ)) (f g : List Vec3) → IsAnswer o f g → IfSome o (λ r. IsRing f g r.items)
says_ring o f g m = if_some o (¬ Meets f g) (λ r. IsRing f g r.items) (λ r. IsRing f g r.items) m (λ r h. h)

pub says_bounds : (o : Option (ArrayVec ℕ)) (f g : List Vec3) → IsAcceptedFace f → IsAcceptedFace g → IsAnswer o f g
    → IfSome o (λ r. (e : Vec3) → (AllPositive (length r.items) (listed (planes_of_pair f g) r.items) e) ↔ (IsInside f e × IsInside g e))
says_bounds o f g a b m =
    if_some o (¬ Meets f g) (λ r. IsRing f g r.items)
    (λ r. (e : Vec3) → (AllPositive (length r.items) (listed (planes_of_pair f g) r.items) e) ↔ (IsInside f e × IsInside g e)) m
    (λ r h. ring_bounds f g r.items (accepted_convex f a) (accepted_convex g b) h)
