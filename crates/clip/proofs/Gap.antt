-- The list that `fill_gap` leaves.
use Rattle.std.proofs.Common.{◌≡◌, ℕ, suc, ◌+◌, ◌<◌, ◌≤◌, ◌-◌, ℤ, pos, ◌≤ℤ◌, ◌<ℤ◌, List, [], ◌∷◌, ◌++◌, take, length, slice_index, slice_index_or, arith, ap, sym, ◌∙◌, inl, inr, subst, length-append, length-take}
use Rattle.std.proofs.lemmas.Int.{ints}
use Rattle.std.proofs.lemmas.List.{get_or-take, get_or_append_left, get_or_push}
use Rattle.std.specs.List.{RotatedLeft}
use Rattle.vec_exact.specs.declared.Vec3.{Vec3}
use Rattle.vec_exact.specs.Vector.{inner}
use Rattle.vec_exact.specs.Side.{sign_of}
use Rattle.vec_exact.specs.Cycle.{after, shifted, corner}
use Rattle.vec_exact.proofs.Cycles.{same_or_not, below_same_above, after_inner, after_last, after_below, shifted_early, shifted_late, shifted_below, shifted_corner}
use Rattle.cone_laws.specs.Ring.{plane, listed, IsCycle}
use Rattle.cone_laws.proofs.Turned.{planes_of, turned, same_cycle, same_corner}
use Rattle.cone_laws.proofs.Appended.{appended, Splits}
use Rattle.clip.proofs.SameSigns.{same_pos, same_neg, same_nonpos}
use Rattle.clip.specs.Usable.{side_at, HaveSigns}

-- r is l, turned to begin with place j
pub record IsTurned (l r : List ℕ) (j : ℕ) : Type 0 where
  pub within : j ≤ length l
  pub len : length r ≡ length l
  pub by_index : RotatedLeft l r (length l) j

turned_at : (l r : List ℕ) (j u : ℕ) → IsTurned l r j → u < length l → slice_index r u ≡ slice_index l (shifted (length l) j u)
turned_at l r j u h lu =
    elim (below_same_above (u + j) (length l)) [
      | inl lt ↦ h.by_index.0 u 0 lt ∙ ap (slice_index l) (sym (shifted_early (length l) j u lt))
      | inr o ↦ h.by_index.1 u 0 (omega (arith, o)) lu ∙ ap (slice_index l) (sym (shifted_late (length l) j u (omega (arith, o))))
    ]

pub turned_cycle : (p : ℕ → Vec3) (m : ℕ) (l r : List ℕ) (j : ℕ) → IsTurned l r j → IsCycle p m (length l) (slice_index l) → IsCycle p m (length r) (slice_index r)
turned_cycle p m l r j h c =
    subst (λ (k : ℕ). IsCycle p m k (slice_index r)) (sym h.len)
    (same_cycle p m (length l) (λ t. slice_index l (shifted (length l) j t)) (slice_index r) (λ t lt. turned_at l r j t h lt) (turned p m (length l) (slice_index l) j h.within c))

turned_side : (ps : List Vec3) (n : Vec3) (l r : List ℕ) (j u : ℕ) → IsTurned l r j → u < length l → side_at ps r n u ≡ side_at ps l n (shifted (length l) j u)
turned_side ps n l r j u h lu =
    ap (λ (k : ℕ). inner n (corner k (planes_of (plane ps) (slice_index r)) u)) h.len
    ∙ ap (inner n) (same_corner (plane ps) (length l) (λ t. slice_index l (shifted (length l) j t)) (slice_index r) (λ t lt. turned_at l r j t h lt) u lu)
    ∙ ap (inner n) (shifted_corner (listed ps l) (length l) j u h.within lu)

place_back : (k j s : ℕ) → j ≤ k → s < k → (t : ℕ) × (t < k) × (shifted k j t ≡ s)
place_back k j s l ls =
    elim (below_same_above s j) [
      | inl lt ↦ (s + (k - j), omega arith, shifted_late k j (s + (k - j)) (omega arith) ∙ omega arith)
      | inr o ↦ (s - j, omega (arith, o), shifted_early k j (s - j) (omega (arith, o)) ∙ omega (arith, o))
    ]

last_is : (k t : ℕ) → t < k → shifted k (after k t) (k - 1) ≡ t
last_is k t l =
    elim (same_or_not (suc t) k) [
      | inl e ↦ ap (λ (j : ℕ). shifted k j (k - 1)) (after_last k t e) ∙ shifted_early k 0 (k - 1) (omega arith) ∙ omega arith
      | inr ne ↦ ap (λ (j : ℕ). shifted k j (k - 1)) (after_inner k t (omega arith)) ∙ shifted_late k (suc t) (k - 1) (omega arith) ∙ omega arith
    ]

-- all that `fill_gap` knows before it cuts the list short: s are the sides of the corners of l on plane m, place t is not positive and the
-- next one is, q places from there on are, and r is l turned to begin there
pub record Filled (ps : List Vec3) (m : ℕ) (l r : List ℕ) (s : List ℤ) (t q : ℕ) : Type 0 where
  pub some : 1 ≤ m
  pub cycle : IsCycle (plane ps) (m - 1) (length l) (slice_index l)
  pub sides : HaveSigns ps l (plane ps m) s
  pub place : t < length s
  pub not_positive : slice_index_or s t (pos 0) ≤ℤ pos 0
  pub positive : pos 0 <ℤ slice_index_or s (after (length s) t) (pos 0)
  pub negative : (u : ℕ) × u < length s × slice_index_or s u (pos 0) <ℤ pos 0
  pub is_turned : IsTurned l r (after (length s) t)
  pub within : q ≤ length s
  pub run : (u : ℕ) → u < q → pos 0 <ℤ slice_index_or s (shifted (length s) (after (length s) t) u) (pos 0)
  pub stop : q < length s → slice_index_or s (shifted (length s) (after (length s) t) q) (pos 0) ≤ℤ pos 0

-- the side of a corner of the turned list
turned_number : (ps : List Vec3) (n : Vec3) (l r : List ℕ) (s : List ℤ) (j u : ℕ) → HaveSigns ps l n s → IsTurned l r j → u < length l
    → sign_of (slice_index_or s (shifted (length s) j u) (pos 0)) ≡ sign_of (side_at ps r n u)
turned_number ps n l r s j u a h lu =
    ap (λ (k : ℕ). sign_of (slice_index_or s (shifted k j u) (pos 0))) a.len
    ∙ a.each (shifted (length l) j u) (shifted_below (length l) j u h.within lu)
    ∙ ap sign_of (sym (turned_side ps n l r j u h lu))

both_signs : {z : ℤ} → pos 0 <ℤ z → z ≤ℤ pos 0 → ⊥
both_signs {z} a b = omega (arith, ints)

-- the place where the positive ones begin
at_first : (s : List ℤ) (t : ℕ) → t < length s → shifted (length s) (after (length s) t) 0 ≡ after (length s) t
at_first s t l = shifted_early (length s) (after (length s) t) 0 (omega (arith, after_below (length s) t l)) ∙ omega arith

filled_some : (ps : List Vec3) (m : ℕ) (l r : List ℕ) (s : List ℤ) (t q : ℕ) → Filled ps m l r s t q → 0 < q
filled_some ps m l r s t q f =
    elim (same_or_not q 0) [
      | inr ne ↦ omega arith
      | inl e ↦
          let z : shifted (length s) (after (length s) t) q ≡ after (length s) t = ap (shifted (length s) (after (length s) t)) e ∙ at_first s t f.place in
          absurd (both_signs f.positive (subst (λ (i : ℕ). slice_index_or s i (pos 0) ≤ℤ pos 0) z (f.stop (omega (arith, e, f.place)))))
    ]

filled_room : (ps : List Vec3) (m : ℕ) (l r : List ℕ) (s : List ℤ) (t q : ℕ) → Filled ps m l r s t q → q < length s
filled_room ps m l r s t q f =
    elim (same_or_not q (length s)) [
      | inr ne ↦ omega (arith, f.within)
      | inl e ↦
          let h : pos 0 <ℤ slice_index_or s t (pos 0) =
          subst (λ (i : ℕ). pos 0 <ℤ slice_index_or s i (pos 0)) (last_is (length s) t f.place) (f.run (length s - 1) (omega (arith, e, f.place))) in
          absurd (both_signs h f.not_positive)
    ]

filled_splits : (ps : List Vec3) (m : ℕ) (l r : List ℕ) (s : List ℤ) (t q : ℕ) → Filled ps m l r s t q → suc (m - 1) ≡ m → Splits (plane ps) (m - 1) (length r) (slice_index r) q
filled_splits ps m l r s t q f e =
    let room : q < length s = filled_room ps m l r s t q f in
    let size : length s ≡ length r = f.sides.len ∙ sym f.is_turned.len in
    let first : after (length s) t ≤ length s = omega (arith, after_below (length s) t f.place) in
    let back = place_back (length s) (after (length s) t) f.negative.0 first f.negative.1 in
    let side : (u : ℕ) → u < length s → sign_of (slice_index_or s (shifted (length s) (after (length s) t) u) (pos 0)) ≡ sign_of (side_at ps r (plane ps (suc (m - 1))) u) =
    λ u lu. turned_number ps (plane ps m) l r s (after (length s) t) u f.sides f.is_turned (omega (arith, f.sides.len)) ∙ ap (λ (i : ℕ). sign_of (side_at ps r (plane ps i) u)) (sym e) in
    record {
      cycle = turned_cycle (plane ps) (m - 1) l r (after (length s) t) f.is_turned f.cycle;
      some = filled_some ps m l r s t q f;
      room = omega (arith, room, size);
      positive = λ u lu. same_pos _ _ (side u (omega (arith, room))) (f.run u lu);
      stop = same_nonpos _ _ (side q room) (f.stop room);
      last = subst (λ (i : ℕ). side_at ps r (plane ps (suc (m - 1))) (i - 1) ≤ℤ pos 0) size
          (same_nonpos (slice_index_or s t (pos 0)) _
          (ap (λ (i : ℕ). sign_of (slice_index_or s i (pos 0))) (sym (last_is (length s) t f.place)) ∙ side (length s - 1) (omega (arith, f.place))) f.not_positive);
      place = back.0;
      place_below = omega (arith, back.1, size);
      negative = same_neg (slice_index_or s f.negative.0 (pos 0)) _ (ap (λ (i : ℕ). sign_of (slice_index_or s i (pos 0))) (sym back.2) ∙ side back.0 back.1) f.negative.2;
    }

pub filled_cycle : (ps : List Vec3) (m : ℕ) (l r : List ℕ) (s : List ℤ) (t q : ℕ) → Filled ps m l r s t q
    → IsCycle (plane ps) m (length (take (q + 1) r ++ m ∷ [])) (slice_index (take (q + 1) r ++ m ∷ []))
filled_cycle ps m l r s t q f =
    let e : suc (m - 1) ≡ m = omega (arith, f.some) in
    let room : q < length r = omega (arith, filled_room ps m l r s t q f, f.sides.len, f.is_turned.len) in
    let n = take (q + 1) r ++ m ∷ [] in
    let front : length (take (q + 1) r) ≡ q + 1 = omega (arith, length-take (q + 1) r) in
    let len : suc (suc q) ≡ length n = omega (arith, length-append (take (q + 1) r) (m ∷ []), front) in
    let a = appended (plane ps) (m - 1) (length r) (slice_index r) (slice_index n) q (filled_splits ps m l r s t q f e)
    (λ u lu. get_or_append_left (take (q + 1) r) (m ∷ []) 0 u (omega (arith, front)) ∙ get_or-take (q + 1) r u 0 (omega arith))
    (get_or_push (take (q + 1) r) m 0 (suc q) (omega (arith, front)) ∙ sym e) in
    subst (λ (k : ℕ). IsCycle (plane ps) m k (slice_index n)) len (subst (λ (i : ℕ). IsCycle (plane ps) i (suc (suc q)) (slice_index n)) e a)
