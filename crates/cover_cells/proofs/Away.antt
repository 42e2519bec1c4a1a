-- Source faces that a plane keeps away from a cell.
use Rattle.std.proofs.Common.{◌≡◌, ℕ, ◌<◌, ℤ, pos, negsuc, neg_ℤ, ◌≤ℤ◌, ◌<ℤ◌, ◌↔◌, inl, inr, Bool, true, false, List, length, arith, subst}
use Rattle.std.proofs.lemmas.Int.{ints}
use Rattle.vec_exact.specs.declared.Vec3.{Vec3}
use Rattle.vec_exact.specs.Vector.{inner, scaled}
use Rattle.vec_exact.specs.Cycle.{Convex, vector_at, face_plane}
use Rattle.vec_exact.specs.Face.{IsAcceptedFace}
use Rattle.vec_exact.proofs.Identities.{inner_turned}
use Rattle.vec_exact.proofs.Signs.{by_strict_sign}
use Rattle.vec_exact.proofs.Accepted.{accepted_convex, edge_nonzero}
use Rattle.cone_laws.specs.Cone.{AllPositive}
use Rattle.cone_laws.proofs.Inside.{cone_pos}
use Rattle.cone_laws.proofs.LinearForms.{nonneg_in_closure}
use Rattle.cover_cells.specs.Cells.{IsBeyondAnEdge}
use Rattle.cover_cells.specs.Sides.{AreCorners, NonePositive}
use Rattle.cover_cells.proofs.Rules.{closure_or_beyond}
use Rattle.cover_cells.proofs.Leaving.{turned_side}

-- the plane x turned round
abbrev turned : Vec3 → Vec3
turned x = scaled (negsuc 0) x

turned_nonneg : (x d : Vec3) → inner x d ≤ℤ pos 0 → pos 0 ≤ℤ inner (turned x) d
turned_nonneg x d h = omega (arith, ints, turned_side x d, h)

turned_self : (x : Vec3) → pos 0 <ℤ inner x x → pos 0 <ℤ inner (turned x) (turned x)
turned_self x h = omega (arith, ints, turned_side x (turned x), inner_turned x (turned x), turned_side x x, h)

not_both : {z : ℤ} → pos 0 <ℤ z → pos 0 ≤ℤ neg_ℤ z → ⊥
not_both {z} a b = omega (arith, ints)

below : {z : ℤ} → pos 0 <ℤ neg_ℤ z → z <ℤ pos 0
below {z} h = omega (arith, ints)

-- a plane of the cell has the face behind it
pub away_by_plane : (face ns : List Vec3) (d : Vec3) (t : ℕ) → IsAcceptedFace face → t < length ns → NonePositive (vector_at ns t) face → AllPositive (length ns) (vector_at ns) d → IsBeyondAnEdge face d
away_by_plane face ns d t a l none inside =
    let x = vector_at ns t in
    elim (closure_or_beyond face d) [
      | inr b ↦ b
      | inl c ↦ absurd (not_both (inside t l) (subst (λ (z : ℤ). pos 0 ≤ℤ z) (turned_side x d)
          (nonneg_in_closure (length face) (vector_at face) (turned x) d (accepted_convex face a) (λ s ls. turned_nonneg x (vector_at face s) (none s ls)) c)))
    ]

-- an edge of the face has the corners of the cell beyond it
pub away_by_edge : (face ns corners : List Vec3) (d : Vec3) (t : ℕ) → IsAcceptedFace face → t < length face → Convex (length ns) (vector_at ns) → AreCorners ns corners
    → NonePositive (face_plane face t) corners → AllPositive (length ns) (vector_at ns) d → IsBeyondAnEdge face d
away_by_edge face ns corners d t a l c w none inside =
    let x = face_plane face t in (
      t,
      l,
      below (subst (λ (z : ℤ). pos 0 <ℤ z) (turned_side x d)
          (cone_pos (length ns) (vector_at ns) (turned x) d c
          (λ s ls. subst (λ (v : Vec3). pos 0 ≤ℤ inner (turned x) v) (w.each s ls) (turned_nonneg x (vector_at corners s) (none s (omega (arith, w.len, ls)))))
          (turned_self x (edge_nonzero (length face) (vector_at face) (accepted_convex face a) t l)) inside)),
    )

-- ---- what the tests say
pub not_before : (b : Bool) (z : ℤ) → (b ≡ true) ↔ (pos 0 <ℤ z) → b ≡ false → z ≤ℤ pos 0
not_before b z is e =
    elim (by_strict_sign z) [
      | inl p ↦ cc (is.1 p, e)
      | inr o ↦ o
    ]
