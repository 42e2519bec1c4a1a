-- The diagonals law.
use Rattle.std.proofs.Common.{◌≡◌, pos, refl, [], ◌∷◌}
use Rattle.vec_exact.specs.declared.Vec3.{Vec3}
use Rattle.vec_exact.specs.Vector.{det, scaled, added}
use Rattle.vec_exact.proofs.Ring.{num, minus, ring}
use Rattle.vec_exact.proofs.Terms.{vec_eq, det_t, scaled_t, added_t, v, look}
use Rattle.cone_laws.specs.Laws.{DiagonalsIdentity, DiagonalsCross}

pub diagonals_identity : DiagonalsIdentity
diagonals_identity p q r s =
    let P = v 0 in let Q = v 1 in let R = v 2 in let S = v 3 in
    let l = added_t (added_t (scaled_t (det_t Q R S) P) (scaled_t (minus (det_t P R S)) Q)) (added_t (scaled_t (det_t P Q S) R) (scaled_t (minus (det_t P Q R)) S)) in
    let e = look (p ∷ q ∷ r ∷ s ∷ []) in
    vec_eq _ _ (ring l.x (num (pos 0)) e refl) (ring l.y (num (pos 0)) e refl) (ring l.z (num (pos 0)) e refl)

-- the same equation with two terms moved to the other side
crossing : (p q r s : Vec3) → added (scaled (det q r s) p) (scaled (det p q s) r) ≡ added (scaled (det p r s) q) (scaled (det p q r) s)
crossing p q r s =
    let P = v 0 in let Q = v 1 in let R = v 2 in let S = v 3 in
    let l = added_t (scaled_t (det_t Q R S) P) (scaled_t (det_t P Q S) R) in
    let w = added_t (scaled_t (det_t P R S) Q) (scaled_t (det_t P Q R) S) in
    let e = look (p ∷ q ∷ r ∷ s ∷ []) in
    vec_eq _ _ (ring l.x w.x e refl) (ring l.y w.y e refl) (ring l.z w.z e refl)

pub diagonals_cross : DiagonalsCross
diagonals_cross p q r s qrs prs pqs pqr = (
  added (scaled (det q r s) p) (scaled (det p q s) r),
  (det q r s, det p q s, qrs, pqs, refl),
  (det p r s, det p q r, prs, pqr, crossing p q r s),
)
