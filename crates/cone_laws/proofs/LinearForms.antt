-- What a plane that is negative on no node of a face is on the directions of the face.
use Rattle.std.proofs.Common.{ℕ, ◌<◌, ℤ, pos, ◌≤ℤ◌, ◌<ℤ◌, arith, sym, subst}
use Rattle.std.proofs.lemmas.Int.{ints}
use Rattle.vec_exact.specs.declared.Vec3.{Vec3}
use Rattle.vec_exact.specs.Vector.{inner, det}
use Rattle.vec_exact.specs.Cycle.{after, edge_plane, corner, Convex}
use Rattle.vec_exact.proofs.Signs.{nonneg_times}
use Rattle.vec_exact.proofs.Cycles.{after_below}
use Rattle.cone_laws.specs.Cone.{NoneNegative, AllPositive}
use Rattle.cone_laws.proofs.Inside.{cone_nonneg, cone_pos}
use Rattle.cone_laws.proofs.FaceEdges.{face_side, face_turn, face_convex}

nonneg_on_corners : (k : ℕ) (v : ℕ → Vec3) (y : Vec3) → Convex k v → ((t : ℕ) → t < k → pos 0 ≤ℤ inner y (v t)) → (t : ℕ) → t < k → pos 0 ≤ℤ inner y (corner k (edge_plane k v) t)
nonneg_on_corners k v y c h t l =
    subst (λ (z : ℤ). pos 0 ≤ℤ z) (sym (face_side k v y t))
    (nonneg_times (det (v t) (v (after k t)) (v (after k (after k t)))) (inner y (v (after k t))) (omega (arith, ints, face_turn k v c t l)) (h (after k t) (after_below k t l)))

-- it is not negative in the closure of the face
pub nonneg_in_closure : (k : ℕ) (v : ℕ → Vec3) (y d : Vec3) → Convex k v → ((t : ℕ) → t < k → pos 0 ≤ℤ inner y (v t)) → NoneNegative k (edge_plane k v) d → pos 0 ≤ℤ inner y d
nonneg_in_closure k v y d c h = cone_nonneg k (edge_plane k v) y d (face_convex k v c) (nonneg_on_corners k v y c h)

-- and where it is not zero, it is positive inside the face
pub positive_inside : (k : ℕ) (v : ℕ → Vec3) (y d : Vec3) → Convex k v → ((t : ℕ) → t < k → pos 0 ≤ℤ inner y (v t)) → pos 0 <ℤ inner y y → AllPositive k (edge_plane k v) d → pos 0 <ℤ inner y d
positive_inside k v y d c h = cone_pos k (edge_plane k v) y d (face_convex k v c) (nonneg_on_corners k v y c h)
