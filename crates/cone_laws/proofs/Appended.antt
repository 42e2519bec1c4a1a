-- One more plane at the end of the ring of the planes before it.
use Rattle.std.proofs.Common.{◌≡◌, ◌≢◌, ℕ, suc, ◌<◌, ◌≤◌, ◌-◌, pos, ◌≤ℤ◌, ◌<ℤ◌, arith, ap, sym, ◌∙◌, inl, inr, subst}
use Rattle.std.proofs.lemmas.Int.{ints}
use Rattle.vec_exact.specs.declared.Vec3.{Vec3}
use Rattle.vec_exact.specs.Vector.{inner, cross}
use Rattle.vec_exact.specs.Side.{SameDirection}
use Rattle.vec_exact.specs.Cycle.{corner}
use Rattle.vec_exact.proofs.Signs.{nonneg_times, pos_times_neg}
use Rattle.vec_exact.proofs.Planes.{self_nonneg, same_direction_turned}
use Rattle.vec_exact.proofs.Identities.{parallel, inner_cross_zero}
use Rattle.vec_exact.proofs.Cycles.{same_or_not}
use Rattle.cone_laws.specs.Ring.{IsCycle}
use Rattle.cone_laws.proofs.Turned.{planes_of}
use Rattle.cone_laws.proofs.OnePlane.{Crosses, Joins, joined_convex, joined_keeps, joined_new}

-- a plane that is negative on no corner has not the direction of one that is negative on some corner
opposed : (q b c : Vec3) → SameDirection q b → pos 0 ≤ℤ inner q c → inner b c <ℤ pos 0 → ⊥
opposed q b c s h l =
    omega (arith, ints, parallel q b c, ap (λ (w : Vec3). inner (cross b w) c) s.along, inner_cross_zero b c, pos_times_neg (inner q b) (inner b c) s.forward l, nonneg_times (inner q c) (inner b b) h (self_nonneg b))

-- on plane m + 1 the first q corners of a cycle of the first m planes are positive, corner q and the last one are not, and one is negative
pub record Splits (p : ℕ → Vec3) (m k : ℕ) (e : ℕ → ℕ) (q : ℕ) : Type 0 where
  pub cycle : IsCycle p m k e
  pub some : 0 < q
  pub room : q < k
  pub positive : (t : ℕ) → t < q → pos 0 <ℤ inner (p (suc m)) (corner k (planes_of p e) t)
  pub stop : inner (p (suc m)) (corner k (planes_of p e) q) ≤ℤ pos 0
  pub last : inner (p (suc m)) (corner k (planes_of p e) (k - 1)) ≤ℤ pos 0
  pub place : ℕ
  pub place_below : place < k
  pub negative : inner (p (suc m)) (corner k (planes_of p e) place) <ℤ pos 0

crosses : (p : ℕ → Vec3) (m k : ℕ) (e : ℕ → ℕ) (q : ℕ) → Splits p m k e q → Crosses k (planes_of p e) (p (suc m)) q
crosses p m k e q s = record {
  convex = s.cycle.convex;
  some = s.some;
  room = s.room;
  positive = s.positive;
  stop = s.stop;
  last = s.last;
  place = s.place;
  place_below = s.place_below;
  negative = s.negative;
}

-- a plane of the first m that has the direction of plane m + 1 does not stand beside it
no_same : (p : ℕ → Vec3) (m k : ℕ) (e : ℕ → ℕ) (q i : ℕ) → Splits p m k e q → 1 ≤ i → i ≤ m → ¬ SameDirection (p (suc m)) (p i)
no_same p m k e q i s l r d =
    opposed (p i) (p (suc m)) (corner k (planes_of p e) s.place) (same_direction_turned (p (suc m)) (p i) d) (s.cycle.covered i s.place l r s.place_below) s.negative

-- the planes at the places 0 to q stay, and plane m + 1 comes after them
pub appended : (p : ℕ → Vec3) (m k : ℕ) (e h : ℕ → ℕ) (q : ℕ) → Splits p m k e q → ((t : ℕ) → t ≤ q → h t ≡ e t) → h (suc q) ≡ suc m → IsCycle p (suc m) (suc (suc q)) h
appended p m k e h q s same new = record {
  least_number = λ t l. elim (same_or_not t (suc q)) [
    | inl z ↦ omega (arith, ap h z, new)
    | inr ne ↦ omega (arith, same t (omega arith), s.cycle.least_number t (omega arith))
  ];
  greatest_number = λ t l. elim (same_or_not t (suc q)) [
    | inl z ↦ omega (arith, ap h z, new)
    | inr ne ↦ omega (arith, same t (omega arith), s.cycle.greatest_number t (omega arith))
  ];
  different = different;
  convex = joined_convex k (planes_of p e) (planes_of p h) (p (suc m)) q c j;
  covered = λ i t l r lt. elim (same_or_not i (suc m)) [
    | inl z ↦ subst (λ (u : ℕ). pos 0 ≤ℤ inner (p u) (corner (suc (suc q)) (planes_of p h) t)) (sym z) (joined_new k (planes_of p e) (planes_of p h) (p (suc m)) q c j t lt)
    | inr ne ↦ joined_keeps k (planes_of p e) (planes_of p h) (p (suc m)) (p i) q c j (λ u lu. s.cycle.covered i u l (omega arith) lu) t lt
  ];
  earliest = earliest;
}
  where
    room : q < k
    room = s.room

    c : Crosses k (planes_of p e) (p (suc m)) q
    c = crosses p m k e q s

    j : Joins (planes_of p e) (p (suc m)) q (planes_of p h)
    j = record { same = λ t l. ap p (same t l); new = ap p new }

    different : (t u : ℕ) → t < suc (suc q) → u < suc (suc q) → h t ≡ h u → t ≡ u
    different t u lt lu z = elim (same_or_not t (suc q)) [
      | inl a ↦ elim (same_or_not u (suc q)) [
        | inl b ↦ omega arith
        | inr b ↦ absurd (omega (arith, z, ap h a, new, same u (omega arith), s.cycle.greatest_number u (omega arith)))
      ]
      | inr a ↦ elim (same_or_not u (suc q)) [
        | inl b ↦ absurd (omega (arith, z, ap h b, new, same t (omega arith), s.cycle.greatest_number t (omega arith)))
        | inr b ↦ s.cycle.different t u (omega arith) (omega arith) (sym (same t (omega arith)) ∙ z ∙ same u (omega arith))
      ]
    ]

    earliest : (t i : ℕ) → t < suc (suc q) → 1 ≤ i → i ≤ suc m → i ≢ h t → SameDirection (p (h t)) (p i) → h t < i
    earliest t i lt l r ne d = elim (same_or_not t (suc q)) [
      | inl z ↦
          let w : h t ≡ suc m = ap h z ∙ new in
          absurd (no_same p m k e q i s l (omega arith) (subst (λ (u : ℕ). SameDirection (p u) (p i)) w d))
      | inr o ↦
          let w : h t ≡ e t = same t (omega arith) in
          let g : e t ≤ m = s.cycle.greatest_number t (omega arith) in
          elim (same_or_not i (suc m)) [
            | inl z ↦ omega arith
            | inr f ↦ omega (arith, w, s.cycle.earliest t i (omega arith) l (omega arith) (λ z. ne (z ∙ sym w)) (subst (λ (u : ℕ). SameDirection (p u) (p i)) w d))
          ]
    ]
