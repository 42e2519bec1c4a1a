-- One plane cuts a convex cycle of planes, of any length, into a convex cycle.
use Rattle.std.proofs.Common.{◌≡◌, ◌≢◌, ℕ, suc, ◌<◌, ◌≤◌, ◌-◌, ℤ, pos, neg_ℤ, ◌≤ℤ◌, ◌<ℤ◌, arith, ap, refl, sym, ◌∙◌, inl, inr, subst, ◌↔◌}
use Rattle.std.proofs.lemmas.Int.{ints}
use Rattle.vec_exact.specs.declared.Vec3.{Vec3}
use Rattle.vec_exact.specs.Vector.{inner, cross}
use Rattle.vec_exact.specs.Cycle.{after, corner, Convex}
use Rattle.vec_exact.proofs.Identities.{own_first, own_second}
use Rattle.vec_exact.proofs.Cycles.{same_or_not, below_same_above, after_inner, after_last, corner_nonneg}
use Rattle.cone_laws.specs.Cone.{AllPositive}
use Rattle.cone_laws.proofs.Meetings.{Between, enter, leave, first_pos, second_pos, neither_neg}
use Rattle.cone_laws.proofs.Inside.{cone_pos, plane_nonzero}

-- of the k corners the first q are positive on x, corner q and the last one are not, and one is negative
pub record Crosses (k : ℕ) (n : ℕ → Vec3) (x : Vec3) (q : ℕ) : Type 0 where
  pub convex : Convex k n
  pub some : 0 < q
  pub room : q < k
  pub positive : (t : ℕ) → t < q → pos 0 <ℤ inner x (corner k n t)
  pub stop : inner x (corner k n q) ≤ℤ pos 0
  pub last : inner x (corner k n (k - 1)) ≤ℤ pos 0
  pub place : ℕ
  pub place_below : place < k
  pub negative : inner x (corner k n place) <ℤ pos 0

-- r is n up to place q, and then x
pub record Joins (n : ℕ → Vec3) (x : Vec3) (q : ℕ) (r : ℕ → Vec3) : Type 0 where
  pub same : (t : ℕ) → t ≤ q → r t ≡ n t
  pub new : r (suc q) ≡ x

-- ---- the corners of the new cycle
corner_kept : (k : ℕ) (n r : ℕ → Vec3) (x : Vec3) (q t : ℕ) → Joins n x q r → q < k → t < q → corner (suc (suc q)) r t ≡ corner k n t
unfolding corner
corner_kept k n r x q t j l lt =
    ap (λ (u : ℕ). cross (r t) (r u)) (after_inner (suc (suc q)) t (omega arith))
    ∙ ap (λ (u : Vec3). cross u (r (suc t))) (j.same t (omega arith))
    ∙ ap (cross (n t)) (j.same (suc t) (omega arith))
    ∙ sym (ap (λ (u : ℕ). cross (n t) (n u)) (after_inner k t (omega arith)))

corner_end : (n r : ℕ → Vec3) (x : Vec3) (q : ℕ) → Joins n x q r → corner (suc (suc q)) r q ≡ cross (n q) x
unfolding corner
corner_end n r x q j =
    ap (λ (u : ℕ). cross (r q) (r u)) (after_inner (suc (suc q)) q (omega arith))
    ∙ ap (λ (u : Vec3). cross u (r (suc q))) (j.same q (omega arith))
    ∙ ap (cross (n q)) j.new

corner_begin : (n r : ℕ → Vec3) (x : Vec3) (q : ℕ) → Joins n x q r → corner (suc (suc q)) r (suc q) ≡ cross x (n 0)
unfolding corner
corner_begin n r x q j =
    ap (λ (u : ℕ). cross (r (suc q)) (r u)) (after_last (suc (suc q)) (suc q) refl)
    ∙ ap (λ (u : Vec3). cross u (r 0)) j.new
    ∙ ap (cross x) (j.same 0 (omega arith))

-- a fact of all corners of the new cycle
each_corner : (P : Vec3 → Type 0) (k : ℕ) (n r : ℕ → Vec3) (x : Vec3) (q : ℕ) → q < k → Joins n x q r
    → ((t : ℕ) → t < q → P (corner k n t)) → P (cross (n q) x) → P (cross x (n 0)) → (t : ℕ) → t < suc (suc q) → P (corner (suc (suc q)) r t)
each_corner P k n r x q room j old end begin t lt =
    elim (below_same_above t q) [
      | inl l ↦ subst P (sym (corner_kept k n r x q t j room l)) (old t l)
      | inr o ↦ elim o [
        | inl e ↦ subst (λ (i : ℕ). P (corner (suc (suc q)) r i)) (sym e) (subst P (sym (corner_end n r x q j)) end)
        | inr g ↦ let e : t ≡ suc q = omega arith in subst (λ (i : ℕ). P (corner (suc (suc q)) r i)) (sym e) (subst P (sym (corner_begin n r x q j)) begin)
      ]
    ]

-- ---- the sides on y of the two new corners
end_side : (k : ℕ) (n : ℕ → Vec3) (x y : Vec3) (q : ℕ) → Crosses k n x q
    → Between (inner y (cross (n q) x)) (inner x (corner k n (q - 1))) (inner y (corner k n q)) (neg_ℤ (inner x (corner k n q))) (inner y (corner k n (q - 1)))
end_side k n x y q c =
    let a = c.some in let b = c.room in
    let e : after k (q - 1) ≡ q = after_inner k (q - 1) (omega arith) ∙ omega arith in
    subst (λ (i : ℕ). Between (inner y (cross (n i) x)) (inner x (corner k n (q - 1))) (inner y (corner k n i)) (neg_ℤ (inner x (corner k n i))) (inner y (corner k n (q - 1)))) e
    (leave k n x y (q - 1) c.convex (omega arith))

begin_side : (k : ℕ) (n : ℕ → Vec3) (x y : Vec3) (q : ℕ) → Crosses k n x q
    → Between (inner y (cross x (n 0))) (inner x (corner k n 0)) (inner y (corner k n (k - 1))) (neg_ℤ (inner x (corner k n (k - 1)))) (inner y (corner k n 0))
begin_side k n x y q c =
    let b = c.room in
    let e : after k (k - 1) ≡ 0 = after_last k (k - 1) (omega arith) in
    subst (λ (i : ℕ). Between (inner y (cross x (n i))) (inner x (corner k n i)) (inner y (corner k n (k - 1))) (neg_ℤ (inner x (corner k n (k - 1)))) (inner y (corner k n i))) e
    (enter k n x y (k - 1) c.convex (omega arith))

not_neg : {z : ℤ} → z ≤ℤ pos 0 → pos 0 ≤ℤ neg_ℤ z
not_neg {z} h = omega (arith, ints)

now_pos : {z : ℤ} → z <ℤ pos 0 → pos 0 <ℤ neg_ℤ z
now_pos {z} h = omega (arith, ints)

weaker : {z : ℤ} → pos 0 <ℤ z → pos 0 ≤ℤ z
weaker {z} h = omega (arith, ints)

-- where corner q is the last one, it is the negative one
end_negative : (k : ℕ) (n : ℕ → Vec3) (x : Vec3) (q : ℕ) → Crosses k n x q → suc q ≡ k → inner x (corner k n q) <ℤ pos 0
end_negative k n x q c e =
    elim (same_or_not c.place q) [
      | inl s ↦ subst (λ (i : ℕ). inner x (corner k n i) <ℤ pos 0) s c.negative
      | inr ne ↦ let l = c.place_below in absurd (omega (arith, ints, c.negative, c.positive c.place (omega arith)))
    ]

-- the end corner is positive on the planes before place q
end_pos : (k : ℕ) (n : ℕ → Vec3) (x : Vec3) (q s : ℕ) → Crosses k n x q → s < q → pos 0 <ℤ inner (n s) (cross (n q) x)
end_pos k n x q s c l =
    let some = c.some in let room = c.room in let three : 3 ≤ k = c.convex.three in
    let before : pos 0 <ℤ inner x (corner k n (q - 1)) = c.positive (q - 1) (omega arith) in
    let m = end_side k n x (n s) q c in
    elim (same_or_not (suc q) k) [
      | inr ne ↦
          first_pos m before (c.convex.strict q s room (omega arith) (omega arith) (omega (arith, after_inner k q (omega arith))))
          (not_neg c.stop) (corner_nonneg k n c.convex s (q - 1) (omega arith) (omega arith))
      | inl e ↦
          elim (same_or_not s 0) [
            | inr nz ↦
                first_pos m before (c.convex.strict q s room (omega arith) (omega arith) (omega (arith, after_last k q e)))
                (not_neg c.stop) (corner_nonneg k n c.convex s (q - 1) (omega arith) (omega arith))
            | inl z ↦
                second_pos m (weaker before) (corner_nonneg k n c.convex s q (omega arith) room) (now_pos (end_negative k n x q c e))
                (c.convex.strict (q - 1) s (omega arith) (omega arith) (omega arith) (omega (arith, after_inner k (q - 1) (omega arith))))
          ]
    ]

-- the begin corner is positive on the planes from 1 to q
begin_pos : (k : ℕ) (n : ℕ → Vec3) (x : Vec3) (q s : ℕ) → Crosses k n x q → 1 ≤ s → s ≤ q → pos 0 <ℤ inner (n s) (cross x (n 0))
begin_pos k n x q s c a l =
    let some = c.some in let room = c.room in let three : 3 ≤ k = c.convex.three in
    let first : pos 0 <ℤ inner x (corner k n 0) = c.positive 0 (omega arith) in
    let m = begin_side k n x (n s) q c in
    elim (same_or_not (suc s) k) [
      | inr ne ↦
          first_pos m first (c.convex.strict (k - 1) s (omega arith) (omega arith) (omega arith) (omega (arith, after_last k (k - 1) (omega arith))))
          (not_neg c.last) (corner_nonneg k n c.convex s 0 (omega arith) (omega arith))
      | inl e ↦
          let neg : inner x (corner k n (k - 1)) <ℤ pos 0 = subst (λ (i : ℕ). inner x (corner k n i) <ℤ pos 0) (omega arith) (end_negative k n x q c (omega arith)) in
          second_pos m (weaker first) (corner_nonneg k n c.convex s (k - 1) (omega arith) (omega arith)) (now_pos neg)
          (c.convex.strict 0 s (omega arith) (omega arith) (omega arith) (omega (arith, after_inner k 0 (omega arith))))
    ]

-- ---- the new cycle is convex
joined_strict : (k : ℕ) (n r : ℕ → Vec3) (x : Vec3) (q : ℕ) → Crosses k n x q → Joins n x q r
    → (t s : ℕ) → t < suc (suc q) → s < suc (suc q) → s ≢ t → s ≢ after (suc (suc q)) t → pos 0 <ℤ inner (r s) (corner (suc (suc q)) r t)
joined_strict k n r x q c j t s lt ls f h =
    let some = c.some in let room = c.room in let three : 3 ≤ k = c.convex.three in
    elim (below_same_above t q) [
      | inl l ↦
          subst (λ (w : Vec3). pos 0 <ℤ inner (r s) w) (sym (corner_kept k n r x q t j room l))
          (elim (same_or_not s (suc q)) [
            | inl e ↦ subst (λ (w : Vec3). pos 0 <ℤ inner w (corner k n t)) (sym (ap r e ∙ j.new)) (c.positive t l)
            | inr ne ↦ subst (λ (w : Vec3). pos 0 <ℤ inner w (corner k n t)) (sym (j.same s (omega arith)))
                (c.convex.strict t s (omega arith) (omega arith) f
                (λ e. h (omega (arith, e, after_inner k t (omega arith), after_inner (suc (suc q)) t (omega arith)))))
          ])
      | inr o ↦ elim o [
        | inl e ↦
            let lq : s < q = omega (arith, after_inner (suc (suc q)) t (omega arith)) in
            subst (λ (i : ℕ). pos 0 <ℤ inner (r s) (corner (suc (suc q)) r i)) (sym e)
            (subst (λ (w : Vec3). pos 0 <ℤ inner (r s) w) (sym (corner_end n r x q j))
            (subst (λ (w : Vec3). pos 0 <ℤ inner w (cross (n q) x)) (sym (j.same s (omega arith))) (end_pos k n x q s c lq)))
        | inr g ↦
            let e : t ≡ suc q = omega arith in
            let a : 1 ≤ s = omega (arith, after_last (suc (suc q)) t (omega arith)) in
            subst (λ (i : ℕ). pos 0 <ℤ inner (r s) (corner (suc (suc q)) r i)) (sym e)
            (subst (λ (w : Vec3). pos 0 <ℤ inner (r s) w) (sym (corner_begin n r x q j))
            (subst (λ (w : Vec3). pos 0 <ℤ inner w (cross x (n 0))) (sym (j.same s (omega arith))) (begin_pos k n x q s c a (omega arith))))
      ]
    ]

pub joined_convex : (k : ℕ) (n r : ℕ → Vec3) (x : Vec3) (q : ℕ) → Crosses k n x q → Joins n x q r → Convex (suc (suc q)) r
joined_convex k n r x q c j = record { three = omega (arith, c.some); strict = joined_strict k n r x q c j }

-- ---- what the new cycle bounds
-- what is negative on no corner, stays so
pub joined_keeps : (k : ℕ) (n r : ℕ → Vec3) (x y : Vec3) (q : ℕ) → Crosses k n x q → Joins n x q r → ((t : ℕ) → t < k → pos 0 ≤ℤ inner y (corner k n t))
    → (t : ℕ) → t < suc (suc q) → pos 0 ≤ℤ inner y (corner (suc (suc q)) r t)
joined_keeps k n r x y q c j h =
    let some = c.some in let room = c.room in
    each_corner (λ (w : Vec3). pos 0 ≤ℤ inner y w) k n r x q room j (λ t l. h t (omega arith))
    (neither_neg (end_side k n x y q c) (weaker (c.positive (q - 1) (omega arith))) (h q room) (not_neg c.stop) (h (q - 1) (omega arith)))
    (neither_neg (begin_side k n x y q c) (weaker (c.positive 0 some)) (h (k - 1) (omega arith)) (not_neg c.last) (h 0 (omega arith)))

-- the new plane is negative on no new corner
pub joined_new : (k : ℕ) (n r : ℕ → Vec3) (x : Vec3) (q : ℕ) → Crosses k n x q → Joins n x q r → (t : ℕ) → t < suc (suc q) → pos 0 ≤ℤ inner x (corner (suc (suc q)) r t)
joined_new k n r x q c j =
    each_corner (λ (w : Vec3). pos 0 ≤ℤ inner x w) k n r x q c.room j (λ t l. weaker (c.positive t l))
    (omega (arith, ints, own_second (n q) x)) (omega (arith, ints, own_first x (n 0)))

-- the new cycle holds what the old one holds on the positive side of x
pub joined_inside : (k : ℕ) (n r : ℕ → Vec3) (x : Vec3) (q : ℕ) → Crosses k n x q → Joins n x q r → (d : Vec3) → (AllPositive (suc (suc q)) r d) ↔ (AllPositive k n d × (pos 0 <ℤ inner x d))
joined_inside k n r x q c j d = (
  λ i. (
    λ s ls. cone_pos (suc (suc q)) r (n s) d (joined_convex k n r x q c j)
        (joined_keeps k n r x (n s) q c j (λ t lt. corner_nonneg k n c.convex s t ls lt)) (plane_nonzero k n c.convex s ls) i,
    subst (λ (w : Vec3). pos 0 <ℤ inner w d) j.new (i (suc q) (omega arith)),
  ),
  λ i s ls. elim (same_or_not s (suc q)) [
    | inl e ↦ subst (λ (w : Vec3). pos 0 <ℤ inner w d) (sym (ap r e ∙ j.new)) i.1
    | inr ne ↦ subst (λ (w : Vec3). pos 0 <ℤ inner w d) (sym (j.same s (omega arith))) (i.0 s (omega (arith, c.room)))
  ],
)
