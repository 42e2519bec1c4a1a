-- What the count of `cut_cells` says of single directions.
use Rattle.std.proofs.Common.{◌≡◌, ◌≢◌, ℕ, zero, suc, ◌<◌, ℤ, pos, negsuc, ◌≤ℤ◌, ◌<ℤ◌, Bool, true, false, List, length, arith, ap, refl, sym, ◌∙◌, ◌⊎◌, inl, inr, subst, slice_index_or}
use Rattle.std.specs.Prelude.{All, Any}
use Rattle.std.proofs.lemmas.Int.{ints}
use Rattle.vec_exact.specs.declared.RawMesh.{RawMesh}
use Rattle.vec_exact.specs.declared.Vec3.{Vec3}
use Rattle.vec_exact.specs.Vector.{inner}
use Rattle.vec_exact.specs.Cycle.{face_plane}
use Rattle.vec_exact.proofs.Signs.{by_sign}
use Rattle.vec_exact.proofs.Cycles.{same_or_not}
use Rattle.cone_laws.specs.Inside.{IsInside, IsInClosure}
use Rattle.cone_laws.specs.Ring.{face_planes}
use Rattle.cone_laws.proofs.Pairs.{length-face_planes, face_planes_at}
use Rattle.cover_cells.specs.declared.cells.CellPlane.{CellPlane}
use Rattle.cover_cells.specs.Cells.{is_in_cell, cells_with, IsBeyondAnEdge, IsOffEdges}
use Rattle.cover_cells.specs.Splitting.{leaves, number_if}
use Rattle.cover_cells.proofs.Positive.{positive_to}
use Rattle.cover_cells.proofs.Counts.{counts_held, held_counts}
use Rattle.cover_cells.proofs.Leaving.{inside_stays, leaves_negative, negative_leaves}

-- ---- one face
pub leaves_beyond : (face : List Vec3) (d : Vec3) → leaves d (face_planes face) ≡ true → IsBeyondAnEdge face d
leaves_beyond face d h =
    let r = leaves_negative d (face_planes face) h in
    let l : r.0 < length face = omega (arith, r.1, length-face_planes face) in
    (r.0, l, subst (λ (n : Vec3). inner n d <ℤ pos 0) (face_planes_at face r.0 l) r.2)

pub inside_leaves_not : (face : List Vec3) (d : Vec3) → IsInside face d → leaves d (face_planes face) ≡ false
inside_leaves_not face d i =
    inside_stays d (face_planes face) (positive_to d (face_planes face) (λ s l.
    let ls : s < length face = omega (arith, l, length-face_planes face) in
    subst (λ (n : Vec3). pos 0 <ℤ inner n d) (sym (face_planes_at face s ls)) (i s ls)))

-- of the first k edge planes none is negative on d, or one is
first_edges : (face : List Vec3) (d : Vec3) (k : ℕ) → ((t : ℕ) → t < k → pos 0 ≤ℤ inner (face_plane face t) d) ⊎ ((t : ℕ) × (t < k) × (inner (face_plane face t) d <ℤ pos 0))
first_edges face d zero = inl (λ t l. absurd (omega arith))
first_edges face d (suc k) =
    elim (by_sign (inner (face_plane face k) d)) [
      | inr n ↦ inr (k, omega arith, n)
      | inl p ↦ elim (first_edges face d k) [
        | inr o ↦ inr (o.0, omega (arith, o.1), o.2)
        | inl all ↦ inl (λ t l. elim (same_or_not t k) [
          | inl e ↦ subst (λ (s : ℕ). pos 0 ≤ℤ inner (face_plane face s) d) (sym e) p
          | inr ne ↦ all t (omega arith)
        ])
      ]
    ]

-- a direction is in the closure of a face, or beyond one of its edges
pub closure_or_beyond : (face : List Vec3) (d : Vec3) → (IsInClosure face d) ⊎ (IsBeyondAnEdge face d)
closure_or_beyond face d = first_edges face d (length face)

pub beyond_leaves : (face : List Vec3) (d : Vec3) → IsOffEdges face d → IsBeyondAnEdge face d → leaves d (face_planes face) ≡ true
beyond_leaves face d o (t, l, h) =
    let size = length-face_planes face in
    negative_leaves d (face_planes face)
    (λ s ls e. let m : s < length face = omega (arith, ls, size) in o s m (sym (ap (λ (n : Vec3). inner n d) (face_planes_at face s m)) ∙ e))
    t (omega (arith, l, size)) (subst (λ (n : Vec3). inner n d <ℤ pos 0) (sym (face_planes_at face t l)) h)

strictly : (z : ℤ) → pos 0 ≤ℤ z → z ≢ pos 0 → pos 0 <ℤ z
strictly (pos zero) h n = absurd (n refl)
strictly (pos (suc k)) h n = omega (arith, ints)
strictly (negsuc k) h n = absurd (omega (arith, ints))

pub outside_leaves : (face : List Vec3) (d : Vec3) → IsOffEdges face d → ¬ IsInside face d → leaves d (face_planes face) ≡ true
outside_leaves face d o n =
    elim (closure_or_beyond face d) [
      | inl c ↦ absurd (n (λ s l. strictly (inner (face_plane face s) d) (c s l) (o s l)))
      | inr b ↦ beyond_leaves face d o b
    ]

-- ---- the rules
number_some : (b : Bool) (n m : ℕ) → n ≡ number_if b m → 0 < n → (b ≡ true) × (0 < m)
number_some true n m e h = (refl, omega (arith, e))
number_some false n m e h = absurd (omega (arith, e))

module _ (sources : RawMesh) (target face : List Vec3) (cells left : List (List CellPlane)) (count : (d : Vec3) → cells_with sources target d left ≡ number_if (leaves d (face_planes face)) (cells_with sources target d cells)) where
  some_left : (d : Vec3) (k : ℕ) (e : List CellPlane) → k < length left → is_in_cell sources target d (slice_index_or left k e) ≡ true → (leaves d (face_planes face) ≡ true) × (0 < cells_with sources target d cells)
  some_left d k e l h =
      number_some (leaves d (face_planes face)) (cells_with sources target d left) (cells_with sources target d cells) (count d) (counts_held sources target d left k e l h)

  pub left_given : All (λ cell. (d : Vec3) → is_in_cell sources target d cell ≡ true → Any (λ given. is_in_cell sources target d given ≡ true) cells) left
  left_given = λ k e l d h. held_counts sources target d cells (some_left d k e l h).1

  pub left_beyond : All (λ cell. (d : Vec3) → is_in_cell sources target d cell ≡ true → IsBeyondAnEdge face d) left
  left_beyond = λ k e l d h. leaves_beyond face d (some_left d k e l h).0

  pub left_inside : (d : Vec3) → IsInside face d → cells_with sources target d left ≡ 0
  left_inside d i = count d ∙ ap (λ (b : Bool). number_if b (cells_with sources target d cells)) (inside_leaves_not face d i)

  pub left_outside : (d : Vec3) → IsOffEdges face d → ¬ IsInside face d → cells_with sources target d left ≡ cells_with sources target d cells
  left_outside d o n = count d ∙ ap (λ (b : Bool). number_if b (cells_with sources target d cells)) (outside_leaves face d o n)
