-- What all candidates leave of a target is what all faces of the mesh leave of it.
use Rattle.std.proofs.Common.{◌≡◌, ℕ, zero, suc, ◌-◌, ◌<◌, ◌≤◌, ℤ, pos, ◌≤ℤ◌, ◌<ℤ◌, List, [], ◌∷◌, length, arith, ap, refl, sym, ◌∙◌, ◌⊎◌, inl, inr, subst, slice_index, slice_index_or}
use Rattle.std.specs.Prelude.{All}
use Rattle.std.specs.List.{Contains}
use Rattle.std.proofs.lemmas.Int.{ints}
use Rattle.std.proofs.lemmas.List.{get_or_default}
use Rattle.vec_exact.specs.declared.RawMesh.{RawMesh}
use Rattle.vec_exact.specs.declared.Vec3.{Vec3}
use Rattle.vec_exact.specs.Cycle.{vector_at}
use Rattle.vec_exact.specs.Face.{IsAcceptedFace, IsAccepted}
use Rattle.vec_exact.proofs.Cycles.{same_or_not}
use Rattle.cone_laws.specs.Inside.{IsInside, IsInClosure, Meets}
use Rattle.cone_laws.proofs.Inside.{center, center_inside}
use Rattle.mesh_check.specs.Mesh.{corners_of}
use Rattle.cover_cells.specs.declared.cells.CellPlane.{CellPlane}
use Rattle.cover_cells.specs.Cells.{IsCell, planes_of, cells_with, IsBeyondAnEdge}
use Rattle.cover_cells.specs.Coverage.{IsInSomeClosure, IsCovered, IsUncoveredDirection}
use Rattle.cover_cells.proofs.Counts.{counts_held}
use Rattle.cover_cells.proofs.Positive.{positive_to}
use Rattle.cover_cells.proofs.Rules.{closure_or_beyond}
use Rattle.cover_check.specs.Rest.{IsFilled, IsOffAllEdges, IsLess, IsRest}
use Rattle.cover_check.proofs.Moved.{off_all, closure_meets}

against : {z : ℤ} → pos 0 ≤ℤ z → z <ℤ pos 0 → ⊥
against {z} a b = omega (arith, ints)

-- beyond an edge is not in the closure, and not inside
pub beyond_not_closure : (face : List Vec3) (d : Vec3) → IsBeyondAnEdge face d → ¬ IsInClosure face d
beyond_not_closure face d (t, l, h) c = against (c t l) h

weaker : {z : ℤ} → pos 0 <ℤ z → pos 0 ≤ℤ z
weaker {z} h = omega (arith, ints)

beyond_not_inside : (face : List Vec3) (d : Vec3) → IsBeyondAnEdge face d → ¬ IsInside face d
beyond_not_inside face d b i = beyond_not_closure face d b (λ t l. weaker (i t l))

-- some of the first n faces has d in its closure, or d is beyond an edge of each
first_faces : (sources : RawMesh) (d : Vec3) (n : ℕ) → ((i : ℕ) × (1 ≤ i) × (i ≤ n) × IsInClosure (corners_of sources i) d) ⊎ ((i : ℕ) → 1 ≤ i → i ≤ n → IsBeyondAnEdge (corners_of sources i) d)
first_faces sources d zero = inr (λ i a b. absurd (omega arith))
first_faces sources d (suc n) =
    elim (closure_or_beyond (corners_of sources (suc n)) d) [
      | inl c ↦ inl (suc n, omega arith, omega arith, c)
      | inr o ↦ elim (first_faces sources d n) [
        | inl s ↦ inl (s.0, s.1, omega (arith, s.2), s.3)
        | inr all ↦ inr (λ i a b. elim (same_or_not i (suc n)) [
          | inl e ↦ subst (λ (k : ℕ). IsBeyondAnEdge (corners_of sources k) d) (sym e) o
          | inr ne ↦ all i a (omega arith)
        ])
      ]
    ]

pub closure_or_beyond_all : (sources : RawMesh) (d : Vec3) → IsInSomeClosure sources d ⊎ ((i : ℕ) → 1 ≤ i → i ≤ length sources.faces → IsBeyondAnEdge (corners_of sources i) d)
closure_or_beyond_all sources d = first_faces sources d (length sources.faces)

-- the list has faces of the mesh, and all that meet the target
pub record AreAllMeeting (sources : RawMesh) (target : List Vec3) (faces : List ℕ) : Type 0 where
  pub named : (k : ℕ) → k < length faces → (1 ≤ slice_index faces k) × (slice_index faces k ≤ length sources.faces)
  pub complete : (i : ℕ) → 1 ≤ i → i ≤ length sources.faces → Meets target (corners_of sources i) → Contains faces i

module _ (sources : RawMesh) (target : List Vec3) (faces : List ℕ) (cells : List (List CellPlane))
    (accepted : All (IsAccepted sources.nodes) sources.faces) (accepted_target : IsAcceptedFace target)
    (meeting : AreAllMeeting sources target faces) (less : IsLess sources target faces cells) where
  accepted_at : (i : ℕ) → 1 ≤ i → i ≤ length sources.faces → IsAcceptedFace (corners_of sources i)
  accepted_at i a b = (accepted (i - 1) [] (omega arith)).accepted

  uncovered_held : (d : Vec3) → 0 < cells_with sources target d cells → IsUncoveredDirection sources target d
  uncovered_held d l =
      let b = less.beyond d l in (
        b.0,
        λ (i, least, greatest, closure).
            let (k, lk, at) = meeting.complete i least greatest (closure_meets target (corners_of sources i) d (accepted_at i least greatest) b.0 closure) in
            beyond_not_closure (corners_of sources i) d (subst (λ (j : ℕ). IsBeyondAnEdge (corners_of sources j) d) (get_or_default faces k 0 i lk ∙ at) (b.1 k lk)) closure,
      )

  -- a direction inside the target that is beyond an edge of each face, and off all edge planes, is in one cell
  one_beyond : (d : Vec3) → IsInside target d → IsOffAllEdges sources target d → ((i : ℕ) → 1 ≤ i → i ≤ length sources.faces → IsBeyondAnEdge (corners_of sources i) d)
      → cells_with sources target d cells ≡ 1
  one_beyond d inside off beyond =
      less.one d inside (λ k l.
      let named = meeting.named k l in
      let i = slice_index faces k in
      (off.off_sources i named.0 named.1, beyond_not_inside (corners_of sources i) d (beyond i named.0 named.1)))

  one_uncovered : (d : Vec3) → IsOffAllEdges sources target d → IsUncoveredDirection sources target d → cells_with sources target d cells ≡ 1
  one_uncovered d off u =
      elim (closure_or_beyond_all sources d) [
        | inl c ↦ absurd (u.1 c)
        | inr beyond ↦ one_beyond d u.0 off beyond
      ]

  -- a ring has a direction inside it
  in_each : (cell : List CellPlane) → IsCell sources target cell → IsFilled sources target cell
  in_each cell c =
      let ps = planes_of sources target cell in
      let d = center (length ps) (vector_at ps) in
      (d, positive_to d ps (center_inside (length ps) (vector_at ps) c.ring))

  filled : All (IsFilled sources target) cells
  filled = λ k e l. in_each (slice_index_or cells k e) (less.each k e l)

  empty_covered : cells ≡ [] → IsCovered sources target
  empty_covered e d inside =
      elim (closure_or_beyond_all sources d) [
        | inl c ↦ c
        | inr beyond ↦
            let g = off_all sources target d accepted_target accepted in
            let one = one_beyond g.direction (g.inside inside) g.off (λ i a b. g.beyond i a b (beyond i a b)) in
            let none : cells_with sources target g.direction cells ≡ 0 = ap (cells_with sources target g.direction) e in
            absurd (omega (arith, one, none))
      ]

  no_cells : IsCovered sources target → (n : ℕ) → length cells ≡ n → n ≡ 0
  no_cells c zero e = refl
  no_cells c (suc n) e =
      let f = filled 0 [] (omega arith) in
      let u = uncovered_held f.0 (counts_held sources target f.0 cells 0 [] (omega arith) f.1) in
      absurd (u.1 (c f.0 u.0))

  empty_list : (l : List (List CellPlane)) → length l ≡ 0 → l ≡ []
  empty_list [] e = refl
  empty_list (x ∷ xs) e = absurd (omega (arith, e))

  pub is_rest : IsRest sources target cells
  is_rest = record {
    each = less.each;
    filled = filled;
    uncovered = uncovered_held;
    one = one_uncovered;
    empty = (empty_covered, λ c. empty_list cells (no_cells c (length cells) refl));
  }
