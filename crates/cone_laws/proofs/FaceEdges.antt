-- The edges of a face: on which nodes they are zero, and that they are a ring.
use Rattle.std.proofs.Common.{◌≡◌, ◌≢◌, ℕ, zero, suc, ◌<◌, ◌≤◌, ℤ, pos, ◌*ℤ◌, ◌≤ℤ◌, ◌<ℤ◌, arith, ap, sym, ◌∙◌, ◌⊎◌, inl, inr, subst, length, ◌↔◌}
use Rattle.std.proofs.lemmas.Int.{ints}
use Rattle.std.proofs.Math.IntN.{*ℤ_comm}
use Rattle.vec_exact.specs.declared.Vec3.{Vec3}
use Rattle.vec_exact.specs.Vector.{inner, cross, det}
use Rattle.vec_exact.specs.Side.{SameDirection}
use Rattle.vec_exact.specs.Cycle.{after, edge_plane, corner, Convex, vector_at}
use Rattle.vec_exact.proofs.Whole.{zero_times}
use Rattle.vec_exact.proofs.Signs.{pos_times, zero_cancel}
use Rattle.vec_exact.proofs.Identities.{inner_turned, inner_scaled, own_first, own_second, edges_meet, parallel, inner_cross_zero}
use Rattle.vec_exact.proofs.Cycles.{same_or_not, after_below, after_other, after_after_other, after_same, corner_nonneg, det_by_convex}
use Rattle.vec_exact.proofs.Accepted.{accepted_convex, edge_positive, edge_nonzero}
use Rattle.cone_laws.specs.Ring.{IsCycle}
use Rattle.cone_laws.specs.Laws.{LocalToGlobal}
use Rattle.cone_laws.proofs.Turned.{same_convex, planes_of}

-- ---- the sides of the nodes
pub on_start : (k : ℕ) (v : ℕ → Vec3) (t : ℕ) → inner (edge_plane k v t) (v t) ≡ pos 0
on_start k v t = inner_turned (edge_plane k v t) (v t) ∙ own_first (v t) (v (after k t))

pub on_end : (k : ℕ) (v : ℕ → Vec3) (t : ℕ) → inner (edge_plane k v t) (v (after k t)) ≡ pos 0
on_end k v t = inner_turned (edge_plane k v t) (v (after k t)) ∙ own_second (v t) (v (after k t))

not_zero : {z : ℤ} → pos 0 <ℤ z → z ≡ pos 0 → ⊥
not_zero {z} a e = omega (arith, ints)

pub local_to_global : (k : ℕ) (v : ℕ → Vec3) → Convex k v → (t s : ℕ) → t < k → s < k
    → (pos 0 ≤ℤ inner (edge_plane k v t) (v s)) × ((inner (edge_plane k v t) (v s) ≡ pos 0) ↔ ((s ≡ t) ⊎ (s ≡ after k t)))
local_to_global k v c t s lt ls =
    elim (same_or_not s t) [
      | inl e ↦
          let z : inner (edge_plane k v t) (v s) ≡ pos 0 = ap (λ (i : ℕ). inner (edge_plane k v t) (v i)) e ∙ on_start k v t in
          (at_zero z, (λ _. inl e, λ _. z))
      | inr a ↦ elim (same_or_not s (after k t)) [
        | inl e ↦
            let z : inner (edge_plane k v t) (v s) ≡ pos 0 = ap (λ (i : ℕ). inner (edge_plane k v t) (v i)) e ∙ on_end k v t in
            (at_zero z, (λ _. inr e, λ _. z))
        | inr b ↦
            let h : pos 0 <ℤ inner (edge_plane k v t) (v s) = edge_positive k v c t s lt ls a b in
            (weak h, (λ z. absurd (not_zero h z), λ o. elim o [ inl e ↦ absurd (a e) | inr e ↦ absurd (b e) ]))
      ]
    ]
  where
    at_zero : {z : ℤ} → z ≡ pos 0 → pos 0 ≤ℤ z
    at_zero {z} e = omega (arith, ints)

    weak : {z : ℤ} → pos 0 <ℤ z → pos 0 ≤ℤ z
    weak {z} e = omega (arith, ints)

pub law_local_to_global_holds : LocalToGlobal
law_local_to_global_holds f a t s lt ls = local_to_global (length f) (vector_at f) (accepted_convex f a) t s lt ls

-- ---- the edges as a cycle of planes
-- the side of a corner of the edges, which is a multiple of a node
pub face_side : (k : ℕ) (v : ℕ → Vec3) (q : Vec3) (t : ℕ) → inner q (corner k (edge_plane k v) t) ≡ det (v t) (v (after k t)) (v (after k (after k t))) *ℤ inner q (v (after k t))
unfolding corner
face_side k v q t =
    ap (inner q) (edges_meet (v t) (v (after k t)) (v (after k (after k t)))) ∙ inner_scaled (det (v t) (v (after k t)) (v (after k (after k t)))) q (v (after k t))

-- the determinant of three neighbouring nodes
pub face_turn : (k : ℕ) (v : ℕ → Vec3) → Convex k v → (t : ℕ) → t < k → pos 0 <ℤ det (v t) (v (after k t)) (v (after k (after k t)))
face_turn k v c t l =
    let l1 = after_below k t l in
    det_by_convex k v c t (after k (after k t)) l (after_below k (after k t) l1) (after_after_other k t c.three l) (after_other k (after k t) c.three l1)

pub face_convex : (k : ℕ) (v : ℕ → Vec3) → Convex k v → Convex k (edge_plane k v)
face_convex k v c = record {
  three = c.three;
  strict = λ t s lt ls a b.
      let l1 = after_below k t lt in
      subst (λ (z : ℤ). pos 0 <ℤ z) (sym (face_side k v (edge_plane k v s) t))
      (pos_times _ _ (face_turn k v c t lt)
      (edge_positive k v c s (after k t) ls l1 (λ e. b (sym e)) (λ e. a (sym (after_same k t s lt ls e)))));
}

-- no two edges have the same direction
pub edges_differ : (k : ℕ) (v : ℕ → Vec3) (u t : ℕ) → Convex k v → u < k → t < k → u ≢ t → ¬ SameDirection (edge_plane k v u) (edge_plane k v t)
edges_differ k v u t c lu lt ne s =
    let n = edge_plane k v in
    let l1 = after_below k t lt in
    let own : pos 0 <ℤ inner (n t) (n t) = edge_nonzero k v c t lt in
    let z1 = level (n u) (n t) (v t) s own (on_start k v t) in
    let z2 = level (n u) (n t) (v (after k t)) s own (on_end k v t) in
    elim (same_or_not t (after k u)) [
      | inr b ↦ not_zero (edge_positive k v c u t lu lt (λ e. ne (sym e)) b) z1
      | inl e ↦ elim (same_or_not (after k t) u) [
        | inl e2 ↦ after_after_other k u c.three lu (ap (after k) (sym e) ∙ e2)
        | inr b ↦ not_zero (edge_positive k v c u (after k t) lu l1 b (λ e3. after_other k t c.three lt (e3 ∙ sym e))) z2
      ]
    ]
  where
    level : (q b c : Vec3) → SameDirection q b → pos 0 <ℤ inner b b → inner b c ≡ pos 0 → inner q c ≡ pos 0
    level q b c s own z =
        zero_cancel (inner b b) (inner q c) own
        (omega (
          arith,
          ints,
          *ℤ_comm (inner q c) (inner b b),
          parallel q b c,
          ap (λ (w : Vec3). inner (cross b w) c) s.along,
          inner_cross_zero b c,
          ap (λ (i : ℤ). inner q b *ℤ i) z,
          *ℤ_comm (inner q b) (pos 0),
          zero_times (inner q b),
        ))

-- where the first k planes are the edges of a face, the numbers from 1 to k are their ring
pub face_cycle : (k : ℕ) (v p : ℕ → Vec3) → Convex k v → ((t : ℕ) → t < k → p (suc t) ≡ edge_plane k v t) → IsCycle p k k suc
face_cycle k v p c e = record {
  least_number = λ t l. omega arith;
  greatest_number = λ t l. l;
  different = λ t s lt ls q. omega arith;
  convex = convex;
  covered = covered;
  earliest = earliest;
}
  where
    convex : Convex k (planes_of p suc)
    convex = same_convex k (edge_plane k v) (planes_of p suc) e (face_convex k v c)

    covered : (i t : ℕ) → 1 ≤ i → i ≤ k → t < k → pos 0 ≤ℤ inner (p i) (corner k (planes_of p suc) t)
    covered zero t l r lt = absurd (omega arith)
    covered (suc s) t l r lt = corner_nonneg k (planes_of p suc) convex s t r lt

    earliest : (t i : ℕ) → t < k → 1 ≤ i → i ≤ k → i ≢ suc t → SameDirection (p (suc t)) (p i) → suc t < i
    earliest t zero lt l r ne s = absurd (omega arith)
    earliest t (suc u) lt l r ne s =
        absurd (edges_differ k v t u c lt r (λ z. ne (ap suc (sym z)))
        (subst (λ (w : Vec3). SameDirection w (edge_plane k v u)) (e t lt) (subst (λ (w : Vec3). SameDirection (p (suc t)) w) (e u r) s)))
