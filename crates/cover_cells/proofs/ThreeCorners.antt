-- The sum of the first three corners of a ring is inside it.
use Rattle.std.proofs.Common.{◌≡◌, ◌≢◌, ℕ, ◌≤◌, List, length, true, arith, ap, sym, ◌∙◌, inl, inr, subst}
use Rattle.std.proofs.lemmas.Int.{ints}
use Rattle.vec_exact.specs.declared.RawMesh.{RawMesh}
use Rattle.vec_exact.specs.declared.Vec3.{Vec3}
use Rattle.vec_exact.specs.Vector.{added}
use Rattle.vec_exact.specs.Cycle.{after, corner, Convex, vector_at}
use Rattle.vec_exact.proofs.Identities.{inner_added}
use Rattle.vec_exact.proofs.Cycles.{same_or_not, after_inner, after_last, corner_nonneg}
use Rattle.cone_laws.specs.Cone.{AllPositive}
use Rattle.cover_cells.specs.declared.cells.CellPlane.{CellPlane}
use Rattle.cover_cells.specs.Cells.{planes_of, IsCell, is_in_cell}
use Rattle.cover_cells.proofs.Positive.{positive_to}

after_two : (k s : ℕ) → 3 ≤ k → s ≡ 1 → s ≢ after k 2
after_two k s h o =
    elim (same_or_not k 3) [
      | inl e ↦ omega (arith, after_last k 2 (omega arith))
      | inr ne ↦ omega (arith, after_inner k 2 (omega arith))
    ]

pub three_inside : (k : ℕ) (n : ℕ → Vec3) → Convex k n → AllPositive k n (added (added (corner k n 0) (corner k n 1)) (corner k n 2))
three_inside k n c s l =
    let three : 3 ≤ k = c.three in
    let e = inner_added (n s) (added (corner k n 0) (corner k n 1)) (corner k n 2) in
    let f = inner_added (n s) (corner k n 0) (corner k n 1) in
    let a0 = corner_nonneg k n c s 0 l (omega arith) in
    let a1 = corner_nonneg k n c s 1 l (omega arith) in
    let a2 = corner_nonneg k n c s 2 l (omega arith) in
    elim (same_or_not s 0) [
      | inl z ↦ omega (arith, ints, e, f, a0, a2, c.strict 1 s (omega arith) l (omega arith) (omega (arith, after_inner k 1 (omega arith))))
      | inr nz ↦ elim (same_or_not s 1) [
        | inl o ↦ omega (arith, ints, e, f, a0, a1, c.strict 2 s (omega arith) l (omega arith) (after_two k s three o))
        | inr n1 ↦ omega (arith, ints, e, f, a1, a2, c.strict 0 s (omega arith) l nz (omega (arith, after_inner k 0 (omega arith))))
      ]
    ]

-- the direction that the code computes
pub sum_in_cell : (sources : RawMesh) (target : List Vec3) (o l : List CellPlane) (u v w d : Vec3) → IsCell sources target o → l ≡ o → d ≡ added (added u v) w
    → u ≡ corner (length (planes_of sources target l)) (vector_at (planes_of sources target l)) 0
    → v ≡ corner (length (planes_of sources target l)) (vector_at (planes_of sources target l)) 1
    → w ≡ corner (length (planes_of sources target l)) (vector_at (planes_of sources target l)) 2
    → is_in_cell sources target d o ≡ true
sum_in_cell sources target o l u v w d i e s p q r =
    let ns = planes_of sources target l in
    let k = length ns in let n = vector_at ns in
    let same : d ≡ added (added (corner k n 0) (corner k n 1)) (corner k n 2) =
    s ∙ ap (λ (x : Vec3). added (added x v) w) p ∙ ap (λ (x : Vec3). added (added (corner k n 0) x) w) q ∙ ap (added (added (corner k n 0) (corner k n 1))) r in
    let ring : Convex k n = (subst (IsCell sources target) (sym e) i).ring in
    subst (λ (c : List CellPlane). is_in_cell sources target d c ≡ true) e
    (positive_to d ns (subst (AllPositive k n) (sym same) (three_inside k n ring)))
