-- Faces that the plane of an edge keeps apart.
use Rattle.std.proofs.Common.{◌≡◌, ℤ, pos, negsuc, ◌*ℤ◌, ◌≤ℤ◌, ◌<ℤ◌, List, length, ◌∙◌, ap, arith}
use Rattle.std.proofs.lemmas.Int.{ints}
use Rattle.vec_exact.specs.declared.Vec3.{Vec3}
use Rattle.vec_exact.specs.Vector.{inner, scaled}
use Rattle.vec_exact.specs.Cycle.{vector_at, face_plane}
use Rattle.vec_exact.specs.Face.{IsAcceptedFace}
use Rattle.vec_exact.proofs.Whole.{neg_times, one_times}
use Rattle.vec_exact.proofs.Identities.{inner_turned, inner_scaled}
use Rattle.vec_exact.proofs.Accepted.{accepted_convex}
use Rattle.cone_laws.specs.Inside.{Meets}
use Rattle.clip.specs.Apart.{KeepsOff}
use Rattle.cone_laws.proofs.LinearForms.{nonneg_in_closure}

-- the side on the turned plane
turned_side : (p v : Vec3) → inner (scaled (negsuc 0) p) v ≡ negsuc 0 *ℤ inner p v
turned_side p v = inner_turned (scaled (negsuc 0) p) v ∙ inner_scaled (negsuc 0) v p ∙ ap (λ (z : ℤ). negsuc 0 *ℤ z) (inner_turned v p)

turned_nonneg : (p v : Vec3) → inner p v ≤ℤ pos 0 → pos 0 ≤ℤ inner (scaled (negsuc 0) p) v
turned_nonneg p v h = omega (arith, ints, h, turned_side p v, neg_times (pos 1) (inner p v), one_times (inner p v))

not_both : (p d : Vec3) → pos 0 <ℤ inner p d → pos 0 ≤ℤ inner (scaled (negsuc 0) p) d → ⊥
not_both p d h n = omega (arith, ints, h, n, turned_side p d, neg_times (pos 1) (inner p d), one_times (inner p d))

weaker : {z : ℤ} → pos 0 <ℤ z → pos 0 ≤ℤ z
weaker {z} h = omega (arith, ints)

-- where no node of g is positive on an edge of f, no direction is inside both
pub apart : (f g : List Vec3) → IsAcceptedFace g → KeepsOff f g → ¬ Meets f g
apart f g b (t, l, h) m =
    let p = face_plane f t in
    not_both p m.0 (m.1 t l)
    (nonneg_in_closure (length g) (vector_at g) (scaled (negsuc 0) p) m.0 (accepted_convex g b) (λ s ls. turned_nonneg p (vector_at g s) (h s ls)) (λ s ls. weaker (m.2 s ls)))

pub meets_turned : (f g : List Vec3) → Meets f g → Meets g f
meets_turned f g m = (m.0, m.2, m.1)
