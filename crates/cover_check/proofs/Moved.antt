-- All edge planes of a target and of the faces of a mesh, and directions that are moved a little beside them.
use Rattle.std.proofs.Common.{◌≡◌, ◌≢◌, ℕ, zero, suc, ◌+◌, ◌-◌, ◌<◌, ◌≤◌, ℤ, pos, ◌≤ℤ◌, ◌<ℤ◌, List, [], ◌∷◌, ◌++◌, length, arith, ap, refl, sym, ◌∙◌, inl, inr, subst, slice_index_or, length-append}
use Rattle.std.specs.Prelude.{All}
use Rattle.std.proofs.lemmas.Int.{ints}
use Rattle.std.proofs.lemmas.List.{get_or_append_left, get_or-append_right}
use Rattle.std.proofs.lemmas.List.Elements.{All-append, All-from_get_or}
use Rattle.vec_exact.specs.declared.RawMesh.{RawMesh}
use Rattle.vec_exact.specs.declared.Vec3.{Vec3}
use Rattle.vec_exact.specs.Vector.{zero_triple, inner}
use Rattle.vec_exact.specs.Cycle.{vector_at, face_plane}
use Rattle.vec_exact.specs.Face.{face_nodes, IsAcceptedFace, IsAccepted}
use Rattle.vec_exact.proofs.Accepted.{accepted_convex, edge_nonzero}
use Rattle.vec_exact.proofs.Signs.{by_strict_sign}
use Rattle.cone_laws.specs.Inside.{IsInside, IsInClosure, Meets}
use Rattle.cone_laws.specs.Ring.{face_planes, planes_of_pair, plane}
use Rattle.cone_laws.proofs.FaceEdges.{face_convex}
use Rattle.cone_laws.proofs.Inside.{center, center_inside}
use Rattle.cone_laws.proofs.Pairs.{length-face_planes, face_planes_at, length-planes_of_pair, first_plane, second_plane}
use Rattle.mesh_check.specs.Mesh.{corners_of}
use Rattle.cover_cells.specs.Cells.{IsBeyondAnEdge}
use Rattle.cover_check.specs.Rest.{IsOffAllEdges}
use Rattle.cover_check.proofs.Nudge.{nudge, generic}

-- ---- the planes of all faces in one list
abbrev planes_of_faces : List (List ℤ) → List (List ℤ) → List Vec3
planes_of_faces nodes [] = []
planes_of_faces nodes (f ∷ fs) = face_planes (face_nodes nodes f) ++ planes_of_faces nodes fs

in_faces : (nodes faces : List (List ℤ)) (i t : ℕ) → i < length faces → t < length (face_nodes nodes (slice_index_or faces i []))
    → (s : ℕ) × (s < length (planes_of_faces nodes faces)) × (vector_at (planes_of_faces nodes faces) s ≡ face_plane (face_nodes nodes (slice_index_or faces i [])) t)
in_faces nodes [] i t l m = absurd (omega arith)
in_faces nodes (f ∷ fs) zero t l m =
    let face = face_nodes nodes f in
    let rest = planes_of_faces nodes fs in
    let size = length-face_planes face in
    (t, omega (arith, length-append (face_planes face) rest, size, m), get_or_append_left (face_planes face) rest zero_triple t (omega (arith, size, m)) ∙ face_planes_at face t m)
in_faces nodes (f ∷ fs) (suc i) t l m =
    let first = face_planes (face_nodes nodes f) in
    let rest = planes_of_faces nodes fs in
    let r = in_faces nodes fs i t (omega arith) m in
    let u : length first + r.0 - length first ≡ r.0 = omega arith in
    (length first + r.0, omega (arith, length-append first rest, r.1), get_or-append_right first rest (length first) (length first + r.0) zero_triple refl (omega arith) ∙ ap (vector_at rest) u ∙ r.2)

abbrev IsNonzero : Vec3 → Type 0
IsNonzero n = pos 0 <ℤ inner n n

face_nonzero : (face : List Vec3) → IsAcceptedFace face → All IsNonzero (face_planes face)
face_nonzero face a =
    All-from_get_or IsNonzero (face_planes face) zero_triple (λ s l.
    let m : s < length face = omega (arith, l, length-face_planes face) in
    subst IsNonzero (sym (face_planes_at face s m)) (edge_nonzero (length face) (vector_at face) (accepted_convex face a) s m))

faces_nonzero : (nodes faces : List (List ℤ)) → All (IsAccepted nodes) faces → All IsNonzero (planes_of_faces nodes faces)
faces_nonzero nodes [] h = λ k e l. absurd (omega arith)
faces_nonzero nodes (f ∷ fs) h =
    All-append IsNonzero (face_planes (face_nodes nodes f)) (planes_of_faces nodes fs)
    (face_nonzero (face_nodes nodes f) (h 0 [] (omega arith)).accepted)
    (faces_nonzero nodes fs (λ k e l. h (suc k) e (omega arith)))

module _ (sources : RawMesh) (target : List Vec3) where
  abbrev others : List Vec3
  others = planes_of_faces sources.nodes sources.faces

  abbrev all_planes : List Vec3
  all_planes = face_planes target ++ others

  length-all_planes : length all_planes ≡ length target + length others
  length-all_planes = omega (arith, length-append (face_planes target) others, length-face_planes target)

  target_plane : (t : ℕ) → t < length target → vector_at all_planes t ≡ face_plane target t
  target_plane t l = get_or_append_left (face_planes target) others zero_triple t (omega (arith, length-face_planes target)) ∙ face_planes_at target t l

  source_plane : (i t : ℕ) → 1 ≤ i → i ≤ length sources.faces → t < length (corners_of sources i)
      → (s : ℕ) × (s < length all_planes) × (vector_at all_planes s ≡ face_plane (corners_of sources i) t)
  source_plane i t a b l =
      let r = in_faces sources.nodes sources.faces (i - 1) t (omega arith) l in
      let size = length-face_planes target in
      let k = length (face_planes target) in
      let u : k + r.0 - k ≡ r.0 = omega arith in
      (k + r.0, omega (arith, length-all_planes, size, r.1), get_or-append_right (face_planes target) others k (k + r.0) zero_triple refl (omega arith) ∙ ap (vector_at others) u ∙ r.2)

  -- ---- moved towards e: what is strict stays, and on a plane of the target e decides
  pub record Moved (d e : Vec3) : Type 0 where
    pub direction : Vec3
    pub stays : (t : ℕ) → t < length target → pos 0 <ℤ inner (face_plane target t) d → pos 0 <ℤ inner (face_plane target t) direction
    pub on : (t : ℕ) → t < length target → inner (face_plane target t) d ≡ pos 0 → inner (face_plane target t) direction ≡ inner (face_plane target t) e
    pub beyond : (i : ℕ) → 1 ≤ i → i ≤ length sources.faces → IsBeyondAnEdge (corners_of sources i) d → IsBeyondAnEdge (corners_of sources i) direction

  pub moved : (d e : Vec3) → Moved d e
  moved d e =
      let w = nudge (length all_planes) (vector_at all_planes) d e in
      record {
        direction = w.direction;
        stays = λ t l h.
            let p = target_plane t l in
            subst (λ (n : Vec3). pos 0 <ℤ inner n w.direction) p (w.stays_pos t (omega (arith, length-all_planes)) (subst (λ (n : Vec3). pos 0 <ℤ inner n d) (sym p) h));
        on = λ t l h.
            let p = target_plane t l in
            subst (λ (n : Vec3). inner n w.direction ≡ inner n e) p (w.on t (omega (arith, length-all_planes)) (subst (λ (n : Vec3). inner n d ≡ pos 0) (sym p) h));
        beyond = λ i a b (t, l, h).
            let r = source_plane i t a b l in
            (t, l, subst (λ (n : Vec3). inner n w.direction <ℤ pos 0) r.2 (w.stays_neg r.0 r.1 (subst (λ (n : Vec3). inner n d <ℤ pos 0) (sym r.2) h)));
      }

  -- ---- moved off all edge planes
  pub record OffAll (d : Vec3) : Type 0 where
    pub direction : Vec3
    pub off : IsOffAllEdges sources target direction
    pub inside : IsInside target d → IsInside target direction
    pub beyond : (i : ℕ) → 1 ≤ i → i ≤ length sources.faces → IsBeyondAnEdge (corners_of sources i) d → IsBeyondAnEdge (corners_of sources i) direction

  pub off_all : (d : Vec3) → IsAcceptedFace target → All (IsAccepted sources.nodes) sources.faces → OffAll d
  off_all d a h =
      let good : All IsNonzero all_planes = All-append IsNonzero (face_planes target) others (face_nonzero target a) (faces_nonzero sources.nodes sources.faces h) in
      let g = generic (length all_planes) (vector_at all_planes) d (λ s l. good s zero_triple l) (length all_planes) (omega arith) in
      record {
        direction = g.direction;
        off = record {
          off_target = λ t l. subst (λ (n : Vec3). inner n g.direction ≢ pos 0) (target_plane t l) (g.off t (omega (arith, length-all_planes)));
          off_sources = λ i b c t l. let r = source_plane i t b c l in subst (λ (n : Vec3). inner n g.direction ≢ pos 0) r.2 (g.off r.0 r.1);
        };
        inside = λ i t l.
            let p = target_plane t l in
            subst (λ (n : Vec3). pos 0 <ℤ inner n g.direction) p (g.stays_pos t (omega (arith, length-all_planes)) (subst (λ (n : Vec3). pos 0 <ℤ inner n d) (sym p) (i t l)));
        beyond = λ i b c (t, l, q).
            let r = source_plane i t b c l in
            (t, l, subst (λ (n : Vec3). inner n g.direction <ℤ pos 0) r.2 (g.stays_neg r.0 r.1 (subst (λ (n : Vec3). inner n d <ℤ pos 0) (sym r.2) q)));
      }

-- ---- a face whose closure has a direction inside the target meets it
both_zero : {z : ℤ} → z ≤ℤ pos 0 → pos 0 ≤ℤ z → z ≡ pos 0
both_zero {z} a b = omega (arith, ints)

pub closure_meets : (target face : List Vec3) (d : Vec3) → IsAcceptedFace face → IsInside target d → IsInClosure face d → Meets target face
closure_meets target face d a i c =
    let n : ℕ → Vec3 = λ t. plane (planes_of_pair target face) (suc t) in
    let len = length-planes_of_pair target face in
    let e = center (length face) (face_plane face) in
    let w = nudge (length (planes_of_pair target face)) n d e in (
      w.direction,
      λ t l.
          let p = first_plane target face t l in
          subst (λ (n : Vec3). pos 0 <ℤ inner n w.direction) p (w.stays_pos t (omega (arith, len)) (subst (λ (n : Vec3). pos 0 <ℤ inner n d) (sym p) (i t l))),
      λ t l.
          let s = length target + t in
          let p = second_plane target face t l in
          let below : s < length (planes_of_pair target face) = omega (arith, len) in
          subst (λ (n : Vec3). pos 0 <ℤ inner n w.direction) p
          (elim (by_strict_sign (inner (n s) d)) [
            | inl h ↦ w.stays_pos s below h
            | inr h ↦ subst (λ (z : ℤ). pos 0 <ℤ z)
                (sym (w.on s below (both_zero h (subst (λ (n : Vec3). pos 0 ≤ℤ inner n d) (sym p) (c t l)))))
                (subst (λ (n : Vec3). pos 0 <ℤ inner n e) (sym p) (center_inside (length face) (face_plane face) (face_convex (length face) (vector_at face) (accepted_convex face a)) t l))
          ]),
    )
