-- What covers the six faces covers the sphere.
use Rattle.std.proofs.Common.{◌≡◌, ◌↔◌, ℕ, zero, suc, true, eqb, ◌-◌, ◌<◌, ◌≤◌, ℤ, pos, ◌≤ℤ◌, ◌<ℤ◌, length, arith, ap, refl, sym, ◌∙◌, inl, inr, subst}
use Rattle.std.proofs.lemmas.Int.{ints}
use Rattle.std.proofs.lemmas.Bool.{eq-eqb, eqb-true}
use Rattle.vec_exact.specs.declared.RawMesh.{RawMesh}
use Rattle.vec_exact.specs.declared.Vec3.{Vec3}
use Rattle.vec_exact.specs.Vector.{inner}
use Rattle.vec_exact.specs.Cycle.{face_plane}
use Rattle.vec_exact.proofs.Cycles.{below_same_above}
use Rattle.vec_exact.proofs.Signs.{by_strict_sign}
use Rattle.vec_exact.proofs.Identities.{inner_zero}
use Rattle.cone_laws.specs.Inside.{IsInside, IsInClosure}
use Rattle.mesh_check.specs.Mesh.{corners_of}
use Rattle.cover_cells.specs.Cells.{IsBeyondAnEdge}
use Rattle.cover_cells.specs.Coverage.{IsCovered}
use Rattle.cover_check.proofs.Moved.{moved}
use Rattle.cover_check.proofs.LeftOver.{beyond_not_closure, closure_or_beyond_all}
use Rattle.gen_cs.specs.CubedSphere.{cubed_sphere}
use Rattle.clip.specs.Planes.{IsFaceNumber}
use Rattle.overlap_run.specs.Pairs.{IsCountOf}
use Rattle.cover_check.specs.declared.counting.CoverCount.{CoverCount}
use Rattle.cover_check.specs.CoveredTargets.{IsCoverCount}
use Rattle.mesh_partition.specs.Sphere.{CoversSphere, TilesSphere, SixFacesDecide}
use Rattle.mesh_partition.specs.MeshReport.{DoOverlap}
use Rattle.mesh_partition.proofs.Panels.{middle, middle_inside, panel_of}
use Rattle.mesh_partition.proofs.Squares.{square, inside_square, in_closure_square, face_is_six}

both_zero : {z : ℤ} → z ≤ℤ pos 0 → pos 0 ≤ℤ z → z ≡ pos 0
both_zero {z} a b = omega (arith, ints)

-- a direction in the closure of face p that is in no closure of the mesh would have others inside the face
all_left : (mesh : RawMesh) (d : Vec3) (p : ℕ) → IsInClosure (square p) d → IsCovered mesh (square p) → ((i : ℕ) → 1 ≤ i → i ≤ length mesh.faces → IsBeyondAnEdge (corners_of mesh i) d) → ⊥
all_left mesh d p closure covered beyond =
    let w = moved mesh (square p) d (middle p) in
    let inside : IsInside (square p) w.direction = (λ t l.
    elim (by_strict_sign (inner (face_plane (square p) t) d)) [
      | inl h ↦ w.stays t l h
      | inr h ↦ subst (λ (z : ℤ). pos 0 <ℤ z) (sym (w.on t l (both_zero h (closure t l)))) (inside_square p (middle p) (middle_inside p) t l)
    ]) in
    let r = covered w.direction inside in
    beyond_not_closure (corners_of mesh r.0) w.direction (w.beyond r.0 r.1 r.2 (beyond r.0 r.1 r.2)) r.3

from_six : (mesh : RawMesh) → ((p : ℕ) → p < 6 → IsCovered mesh (square p)) → CoversSphere mesh
from_six mesh h d z =
    elim (closure_or_beyond_all mesh d) [
      | inl c ↦ c
      | inr beyond ↦ let p = panel_of d in absurd (all_left mesh d p.0 (in_closure_square p.0 d p.2) (h p.0 p.1) beyond)
    ]

not_pos : {z : ℤ} → pos 0 <ℤ z → z ≡ pos 0 → ⊥
not_pos {z} a b = omega (arith, ints, a, b)

to_six : (mesh : RawMesh) → CoversSphere mesh → (p : ℕ) → IsCovered mesh (square p)
to_six mesh h p d i = h d (λ e. not_pos (i 0 (omega arith)) (ap (inner (face_plane (square p) 0)) e ∙ inner_zero (face_plane (square p) 0)))

pub six_faces_decide : SixFacesDecide
six_faces_decide mesh = (
  λ h p least greatest. six p least greatest (to_six mesh h (p - 1)),
  λ h. from_six mesh (λ p l. subst (IsCovered mesh) (face_is_six p l) (h (suc p) (omega arith) (omega arith))),
)
  where
    six : (p : ℕ) → 1 ≤ p → p ≤ 6 → IsCovered mesh (square (p - 1)) → IsCovered mesh (corners_of (cubed_sphere 1) p)
    six zero least greatest c = absurd (omega arith)
    six (suc p) least greatest c =
        let back : suc p - 1 ≡ p = omega arith in
        subst (IsCovered mesh) (sym (face_is_six p (omega arith))) (subst (λ (q : ℕ). IsCovered mesh (square q)) back c)

-- ---- by a count of six targets
six_targets : length (cubed_sphere 1).faces ≡ 6
unfolding cubed_sphere
six_targets = refl

-- all six are covered exactly where the count names none that isn't
first_of_six : (mesh : RawMesh) (count : CoverCount) → IsCoverCount mesh (cubed_sphere 1) count → (eqb count.first 0 ≡ true) ↔ CoversSphere mesh
first_of_six mesh count w = (
  λ e. (six_faces_decide mesh).1 (λ p least greatest. elim w.first [
    | inl all ↦ all.1 p least (omega (arith, six_targets))
    | inr u ↦ absurd (omega (arith, u.low, eqb-true count.first 0 e))
  ]),
  λ h. elim w.first [
    | inl all ↦ eq-eqb count.first 0 all.0
    | inr u ↦ absurd (u.uncovered ((six_faces_decide mesh).0 h count.first u.low (omega (arith, six_targets, u.high))))
  ],
)

pub first_decides : (mesh cube : RawMesh) (count : CoverCount) → cube ≡ cubed_sphere 1 → IsCoverCount mesh cube count → (eqb count.first 0 ≡ true) ↔ CoversSphere mesh
first_decides mesh cube count e w = first_of_six mesh count (subst (λ (c : RawMesh). IsCoverCount mesh c count) e w)

-- ---- tiling
-- where no two faces overlap, no direction is inside two
apart : (mesh : RawMesh) → IsCountOf (DoOverlap mesh) 0 → (i j : ℕ) (d : Vec3) → IsFaceNumber mesh i → IsFaceNumber mesh j → i < j
    → IsInside (corners_of mesh i) d → ¬ IsInside (corners_of mesh j) d
apart mesh none i j d a b l inside other =
    let c = none.1.complete (record { source = i; target = j }) (record { meet = record { source = a; target = b; meets = (d, inside, other) }; before = l }) in
    omega (arith, c.1, none.2)

pub tiling : (mesh : RawMesh) (n : ℕ) → IsCountOf (DoOverlap mesh) n → n ≡ 0 → CoversSphere mesh → TilesSphere mesh
tiling mesh n count e closed =
    let none = subst (IsCountOf (DoOverlap mesh)) e count in
    record {
      apart = λ i j d i_least i_greatest j_least j_greatest ne inside other. elim (below_same_above i j) [
        | inl l ↦ apart mesh none i j d (i_least, i_greatest) (j_least, j_greatest) l inside other
        | inr o ↦ elim o [
          | inl same ↦ ne same
          | inr l ↦ apart mesh none j i d (j_least, j_greatest) (i_least, i_greatest) l other inside
        ]
      ];
      closed = closed;
    }
