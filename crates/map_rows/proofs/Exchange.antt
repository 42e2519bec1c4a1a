-- Two sums exchanged: over the faces of one side, and in each over its rows, is over all rows.
use Rattle.std.proofs.Common.{◌≡◌, ℕ, zero, suc, ◌+◌, ◌*◌, ◌<◌, ◌≤◌, inl, inr, ℤ, pos, ◌+ℤ◌, ◌≤ℤ◌, Bool, cond, eqb, List, [], ◌∷◌, length, map, ap, sym, ◌∙◌, refl, arith, eq-eqb}
use Rattle.std.specs.List.{All}
use Rattle.std.proofs.lemmas.Int.{ints}
use Rattle.std.proofs.lemmas.List.Elements.{All-head, All-tail, All-weaker}
use Rattle.vec_exact.proofs.Cycles.{below_same_above}
use Rattle.map_rows.specs.declared.rows.MapRow.{MapRow}
use Rattle.map_rows.specs.Maps.{MapParts, total, measure_of, sum_at, sums_of, areas_of, source_of, target_of, IsSoundRow, IsSoundMap, AreasFit, HasMeasure}
use Rattle.map_rows.specs.Application.{sum_over}
use Rattle.map_rows.proofs.FaceSums.{differ, sum_at-none, sum_at-cons}

pub sum_over_zero : (first count : ℕ) (f : ℕ → ℤ) → ((i : ℕ) → f i ≡ pos 0) → sum_over first count f ≡ pos 0
unfolding total
sum_over_zero first zero f h = refl
sum_over_zero first (suc n) f h = omega (arith, ints, h first, sum_over_zero (first + 1) n f h)

pub sum_over_add : (first count : ℕ) (f g h : ℕ → ℤ) → ((i : ℕ) → h i ≡ f i +ℤ g i) → sum_over first count h ≡ sum_over first count f +ℤ sum_over first count g
unfolding total
sum_over_add first zero f g h e = omega (arith, ints)
sum_over_add first (suc n) f g h e = omega (arith, ints, e first, sum_over_add (first + 1) n f g h e)

-- a value at one number alone, which lies before all that are summed
none_here : (first count c : ℕ) (v : ℤ) → c < first → sum_over first count (λ (i : ℕ). cond (eqb c i) v (pos 0)) ≡ pos 0
unfolding total
none_here first zero c v l = refl
none_here first (suc n) c v l =
    let here : cond (eqb c first) v (pos 0) ≡ pos 0 = ap (λ (b : Bool). cond b v (pos 0)) (differ c first (omega (arith, l))) in
    omega (arith, ints, here, none_here (first + 1) n c v (omega (arith, l)))

-- and one that is among them
pub one_value : (first count c : ℕ) (v : ℤ) → first ≤ c → c < first + count → sum_over first count (λ (i : ℕ). cond (eqb c i) v (pos 0)) ≡ v
unfolding total
one_value first zero c v l m = absurd (omega (arith, l, m))
one_value first (suc n) c v l m =
    elim (below_same_above c first) [
      | inl b ↦ absurd (omega (arith, b, l))
      | inr (inl e) ↦
          let here : cond (eqb c first) v (pos 0) ≡ v = ap (λ (b : Bool). cond b v (pos 0)) (eq-eqb c first e) in
          omega (arith, ints, here, none_here (first + 1) n c v (omega (arith, e)))
      | inr (inr b) ↦
          let here : cond (eqb c first) v (pos 0) ≡ pos 0 = ap (λ (b : Bool). cond b v (pos 0)) (differ c first (omega (arith, b))) in
          omega (arith, ints, here, one_value (first + 1) n c v (omega (arith, b)) (omega (arith, m)))
    ]

-- a face is one of n faces, which count from 1
abbrev pub IsAmong : (MapRow → ℕ) → ℕ → MapRow → Type 0
IsAmong face_of n r = (1 ≤ face_of r) × (face_of r ≤ n)

pub exchange : (face_of : MapRow → ℕ) (f : MapRow → ℤ) (n : ℕ) (rows : List MapRow) → All (IsAmong face_of n) rows → sum_over 1 n (sum_at face_of f rows) ≡ total (map f rows)
unfolding total
exchange face_of f n [] h = sum_over_zero 1 n _ (λ i. sum_at-none face_of f i)
exchange face_of f n (r ∷ rows) h =
    let among = All-head (IsAmong face_of n) r rows h in
    let parts = sum_over_add 1 n (λ (i : ℕ). cond (eqb (face_of r) i) (f r) (pos 0)) (sum_at face_of f rows) _ (λ i. sum_at-cons face_of f r rows i) in
    let first = one_value 1 n (face_of r) (f r) among.0 (omega (arith, among.1)) in
    let rest = exchange face_of f n rows (All-tail (IsAmong face_of n) r rows h) in
    parts ∙ ap (λ (x : ℤ). x +ℤ sum_over 1 n (sum_at face_of f rows)) first ∙ ap (λ (x : ℤ). f r +ℤ x) rest

-- the areas of one side add up to the measures of all rows
pub total_areas : (face_of : MapRow → ℕ) (n : ℕ) (rows : List MapRow) → All (IsAmong face_of n) rows → total (areas_of face_of n rows) ≡ total (map measure_of rows)
unfolding sums_of
total_areas face_of n rows h = exchange face_of measure_of n rows h

-- which are below 2^40 each
measures_at_most : (rows : List MapRow) → All HasMeasure rows → total (map measure_of rows) ≤ℤ pos (1099511627775 * length rows)
unfolding total
measures_at_most [] h = omega (arith, ints)
measures_at_most (r ∷ rows) h =
    let here = All-head HasMeasure r rows h in
    omega (arith, ints, here.1, measures_at_most rows (All-tail HasMeasure r rows h))

pub measures : (m : MapParts) → IsSoundMap m → All HasMeasure m.rows
measures m s = All-weaker (IsSoundRow m.n_a m.n_b) HasMeasure (λ r k. (k.least, k.greatest)) m.rows s.rows

pub sources_among : (m : MapParts) → IsSoundMap m → All (IsAmong source_of m.n_a) m.rows
sources_among m s = All-weaker (IsSoundRow m.n_a m.n_b) (IsAmong source_of m.n_a) (λ r k. k.source) m.rows s.rows

pub targets_among : (m : MapParts) → IsSoundMap m → All (IsAmong target_of m.n_b) m.rows
targets_among m s = All-weaker (IsSoundRow m.n_a m.n_b) (IsAmong target_of m.n_b) (λ r k. k.target) m.rows s.rows

pub areas_fit : AreasFit
areas_fit m s =
    let bounds = measures_at_most m.rows (measures m s) in
    let first : total m.area_a ≡ total (map measure_of m.rows) = ap total s.source_areas ∙ total_areas source_of m.n_a m.rows (sources_among m s) in
    let second : total m.area_b ≡ total (map measure_of m.rows) = ap total s.target_areas ∙ total_areas target_of m.n_b m.rows (targets_among m s) in
    record { same = first ∙ sym second; fit = omega (arith, ints, first, bounds, s.count) }
