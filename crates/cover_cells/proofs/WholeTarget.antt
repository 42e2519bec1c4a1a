-- The cell of a target's own edges.
use Rattle.std.proofs.Common.{◌≡◌, ℕ, zero, suc, ◌+◌, ◌<◌, pos, ◌<ℤ◌, Bool, true, false, List, [], ◌∷◌, length, arith, ap, sym, ◌∙◌, subst, ◌↔◌, slice_index_or, cond}
use Rattle.std.specs.Prelude.{All}
use Rattle.std.proofs.lemmas.Bool.{false_from_ne_true}
use Rattle.std.proofs.lemmas.List.{get_or-map, length-map}
use Rattle.std.proofs.lemmas.List.Sums.{sum_by-cons}
use Rattle.vec_exact.specs.declared.RawMesh.{RawMesh}
use Rattle.vec_exact.specs.declared.Vec3.{Vec3}
use Rattle.vec_exact.specs.Vector.{zero_triple, inner}
use Rattle.vec_exact.specs.Cycle.{Convex, vector_at, face_plane}
use Rattle.vec_exact.specs.Face.{IsAcceptedFace}
use Rattle.vec_exact.proofs.Accepted.{accepted_convex}
use Rattle.cone_laws.specs.Inside.{IsInside}
use Rattle.cone_laws.proofs.Turned.{same_convex}
use Rattle.cone_laws.proofs.FaceEdges.{face_convex}
use Rattle.cover_cells.specs.declared.cells.CellPlane.{CellPlane}
use Rattle.cover_cells.specs.Cells.{plane_of, planes_of, IsNamed, IsCell, is_in_cell, cells_with}
use Rattle.cover_cells.specs.Splitting.{AreTargetEdges}
use Rattle.cover_cells.proofs.Positive.{positive_from, positive_to}

module _ (sources : RawMesh) (target : List Vec3) (cell : List CellPlane) (edges : AreTargetEdges (length target) cell) where
  length-planes : length (planes_of sources target cell) ≡ length target
  length-planes = length-map cell (plane_of sources target) ∙ edges.len

  plane_at : (t : ℕ) → t < length target → vector_at (planes_of sources target cell) t ≡ face_plane target t
  plane_at t l =
      let e : CellPlane = record { source = 0; edge = t + 1; neg = false } in
      get_or-map (plane_of sources target) cell t e zero_triple (omega (arith, edges.len)) ∙ ap (plane_of sources target) (edges.each t e l) ∙ ap (face_plane target) (omega arith)

  is_named : (k : ℕ) (e : CellPlane) → k < length cell → IsNamed sources target (slice_index_or cell k e)
  is_named k e l =
      subst (IsNamed sources target) (sym (edges.each k e (omega (arith, edges.len))))
      (record { source = omega arith; least_edge = omega arith; greatest_edge = omega (arith, edges.len) })

  pub is_cell : IsAcceptedFace target → IsCell sources target cell
  is_cell a = record {
    ring = subst (λ (k : ℕ). Convex k (vector_at (planes_of sources target cell))) (sym length-planes)
        (same_convex (length target) (face_plane target) (vector_at (planes_of sources target cell)) plane_at (face_convex (length target) (vector_at target) (accepted_convex target a)));
    named = λ k e l. is_named k e l;
  }

  in_cell : (d : Vec3) → (is_in_cell sources target d cell ≡ true) ↔ IsInside target d
  in_cell d = (
    λ h s l. subst (λ (n : Vec3). pos 0 <ℤ inner n d) (plane_at s l) (positive_from d (planes_of sources target cell) h s (omega (arith, length-planes))),
    λ i. positive_to d (planes_of sources target cell) (λ s l.
        let m : s < length target = omega (arith, l, length-planes) in
        subst (λ (n : Vec3). pos 0 <ℤ inner n d) (sym (plane_at s m)) (i s m)),
  )

  one_cell : (d : Vec3) → cells_with sources target d (cell ∷ []) ≡ cond (is_in_cell sources target d cell) 1 0
  one_cell d = omega (arith, sum_by-cons (λ c. cond (is_in_cell sources target d c) 1 0) cell [])

  pub one_inside : (d : Vec3) → IsInside target d → cells_with sources target d (cell ∷ []) ≡ 1
  one_inside d i = one_cell d ∙ ap {B = ℕ} (λ (b : Bool). cond b 1 0) ((in_cell d).1 i)

  pub none_outside : (d : Vec3) → ¬ IsInside target d → cells_with sources target d (cell ∷ []) ≡ 0
  none_outside d o = one_cell d ∙ ap {B = ℕ} (λ (b : Bool). cond b 1 0) (false_from_ne_true (is_in_cell sources target d cell) (λ h. o ((in_cell d).0 h)))

  pub all_cells : IsAcceptedFace target → All (IsCell sources target) (cell ∷ [])
  all_cells a = λ k e l. only k e l
    where
      only : (k : ℕ) (e : List CellPlane) → k < 1 → IsCell sources target (slice_index_or (cell ∷ []) k e)
      only zero e l = is_cell a
      only (suc k) e l = absurd (omega arith)
