-- What holds of rows and areas that are at no fault, and of the map that they make.
use Rattle.std.proofs.Common.{◌≡◌, ◌<◌, ◌≤◌, ◌+◌, inl, inr, ℕ, zero, suc, ℤ, pos, negsuc, Bool, true, not, ◌≤ℤ◌, List, length, All, AllPairs, get_or, Option, Some, None, Ok, Err, refl, ap, ap₂, sym, subst, ◌∙◌, arith, slice_index_or}
use Rattle.std.specs.Ordering.{int_eq}
use Rattle.std.proofs.lemmas.Int.{ints}
use Rattle.std.proofs.lemmas.Bool.Decides.{Decides-int_eq}
use Rattle.std.proofs.lemmas.List.{ext_get_or}
use Rattle.std.proofs.lemmas.List.FromFn.{length-map-range_with_len, get_or-map-range_with_len}
use Rattle.map_rows.specs.declared.rows.MapRow.{MapRow}
use Rattle.map_rows.specs.Maps.{ComesBefore, IsSoundRow, IsSoundMap, IsFaceCount, source_of, target_of, measure_of, areas_of, sum_at}
use Rattle.map_rows.proofs.FaceSums.{area_bounds, length-sums_of, get_or-sums_of}
use Rattle.map_rows.proofs.AreaSums.{measures}
use Rattle.map_files.specs.declared.vars.MapVars.{MapVars}
use Rattle.exodus_mesh.specs.declared.faults.FileFault.TheVariants.{Row, AreaA, AreaB}
use Rattle.exodus_mesh.specs.FirstNot.{first_not}
use Rattle.exodus_mesh.specs.Pairs.{is_within, at_row, exceeds, has_good_faces}
use Rattle.map_files.specs.MapValues.{RowColumns, is_good_map_row, map_row_at, map_rows_of, is_sum, is_sum_of_some, first_of, map_fault, map_at, unless_fault, map_of}
use Rattle.exodus_mesh.proofs.FirstNot.{AllGood}
use Rattle.exodus_mesh.proofs.GoodPairs.{both_true, within, before_by, IsGoodPair, good_pair, some_row, before_last, same_or_less}

-- The first fault.

pub row_is : (v : MapVars) (c : RowColumns) (a b : List ℤ) (r : ℕ) → first_not (is_good_map_row v.n_a v.n_b c) v.n_s ≡ Some r → map_of v c a b ≡ Err (Row (r + 1))
unfolding map_of map_fault
row_is v c a b r h = ap (λ o. unless_fault (first_of o (first_not (is_sum a (areas_of source_of v.n_a (map_rows_of v.n_s c))) v.n_a) (first_not (is_sum_of_some b (areas_of target_of v.n_b (map_rows_of v.n_s c))) v.n_b)) (map_at v c a b)) h

pub source_is : (v : MapVars) (c : RowColumns) (a b : List ℤ) (i : ℕ) → first_not (is_good_map_row v.n_a v.n_b c) v.n_s ≡ None → first_not (is_sum a (areas_of source_of v.n_a (map_rows_of v.n_s c))) v.n_a ≡ Some i → map_of v c a b ≡ Err (AreaA (i + 1))
unfolding map_of map_fault
source_is v c a b i h k = rw (h, k) refl

pub target_is : (v : MapVars) (c : RowColumns) (a b : List ℤ) (j : ℕ) → first_not (is_good_map_row v.n_a v.n_b c) v.n_s ≡ None → first_not (is_sum a (areas_of source_of v.n_a (map_rows_of v.n_s c))) v.n_a ≡ None
    → first_not (is_sum_of_some b (areas_of target_of v.n_b (map_rows_of v.n_s c))) v.n_b ≡ Some j → map_of v c a b ≡ Err (AreaB (j + 1))
unfolding map_of map_fault
target_is v c a b j h k l = rw (h, k, l) refl

pub map_is : (v : MapVars) (c : RowColumns) (a b : List ℤ) → first_not (is_good_map_row v.n_a v.n_b c) v.n_s ≡ None → first_not (is_sum a (areas_of source_of v.n_a (map_rows_of v.n_s c))) v.n_a ≡ None
    → first_not (is_sum_of_some b (areas_of target_of v.n_b (map_rows_of v.n_s c))) v.n_b ≡ None → map_of v c a b ≡ Ok (map_at v c a b)
unfolding map_of map_fault
map_is v c a b h k l = rw (h, k, l) refl

-- the same, where the sums and the count are given by other names
pub first_same : (test : List ℤ → List ℤ → ℕ → Bool) (areas sums others : List ℤ) (m n : ℕ) (found : Option ℕ) → sums ≡ others → m ≡ n → first_not (test areas sums) m ≡ found → first_not (test areas others) n ≡ found
first_same test areas sums others m n found same count h = ap₂ (λ (l : List ℤ) (k : ℕ). first_not (test areas l) k) (sym same) (sym count) ∙ h

-- Rows.

before_trans : (p q r : MapRow) → ComesBefore p q → ComesBefore q r → ComesBefore p r
before_trans p q r h k = grind (arith, h, k)

pair_of : (n_a n_b : ℕ) (c : RowColumns) (r : ℕ) → is_good_map_row n_a n_b c r ≡ true → IsGoodPair n_a n_b c.col c.row r
unfolding is_good_map_row
pair_of n_a n_b c r h = good_pair n_a n_b c.col c.row r (both_true (has_good_faces n_a n_b c.col c.row r) (is_within 1 1099511627775 (at_row c.s r)) h).0

measure_within : (z : ℤ) → is_within 1 1099511627775 z ≡ true → (pos 1 ≤ℤ z) × (z ≤ℤ pos 1099511627775)
measure_within z h =
    let w = within 1 1099511627775 z h in
    (omega (arith, ints, w.0, w.2), omega (arith, ints, w.1, w.2))

sound_row : (n_a n_b : ℕ) (c : RowColumns) (r : ℕ) → is_good_map_row n_a n_b c r ≡ true → IsSoundRow n_a n_b (map_row_at c r)
unfolding is_good_map_row
sound_row n_a n_b c r h =
    let b = both_true (has_good_faces n_a n_b c.col c.row r) (is_within 1 1099511627775 (at_row c.s r)) h in
    let p = good_pair n_a n_b c.col c.row r b.0 in
    let s = measure_within (at_row c.s r) b.1 in
    record { source = (p.least_source, p.greatest_source); target = (p.least_target, p.greatest_target); least = s.0; greatest = s.1 }

next_before : (n_a n_b : ℕ) (c : RowColumns) (j : ℕ) → is_good_map_row n_a n_b c j ≡ true → is_good_map_row n_a n_b c (suc j) ≡ true → ComesBefore (map_row_at c j) (map_row_at c (suc j))
next_before n_a n_b c j h k =
    let p = pair_of n_a n_b c j h in
    let q = pair_of n_a n_b c (suc j) k in
    elim q.order [
      | inl none ↦ absurd (some_row j none)
      | inr after ↦
          before_by (at_row c.col j) (at_row c.row j) (at_row c.col (suc j)) (at_row c.row (suc j)) p.source_is p.target_is q.source_is q.target_is
          (subst (λ i. exceeds (at_row c.col i) (at_row c.row i) (at_row c.col (suc j)) (at_row c.row (suc j)) ≡ true) (before_last j) after)
    ]

rows_before : (n_a n_b : ℕ) (c : RowColumns) (n : ℕ) → AllGood (is_good_map_row n_a n_b c) n → (i j : ℕ) → i < j → j < n → ComesBefore (map_row_at c i) (map_row_at c j)
rows_before n_a n_b c n all i zero below last = absurd (omega (arith, below))
rows_before n_a n_b c n all i (suc j) below last =
    let next = next_before n_a n_b c j (all j (omega (arith, last))) (all (suc j) last) in
    elim (same_or_less i j below) [
      | inl less ↦ before_trans (map_row_at c i) (map_row_at c j) (map_row_at c (suc j)) (rows_before n_a n_b c n all i j less (omega (arith, last))) next
      | inr same ↦ subst (λ k. ComesBefore (map_row_at c k) (map_row_at c (suc j))) (sym same) next
    ]

from_none : (i : ℕ) → 0 + i ≡ i
from_none i = omega arith

row_there : (c : RowColumns) (n i : ℕ) (d : MapRow) → i < n → slice_index_or (map_rows_of n c) i d ≡ map_row_at c i
row_there c n i d below = get_or-map-range_with_len (map_row_at c) 0 n i i d below (from_none i)

pub rows_len : (c : RowColumns) (n : ℕ) → length (map_rows_of n c) ≡ n
rows_len c n = length-map-range_with_len (map_row_at c) 0 n

-- rows at no fault are sound, and ascend
pub sound_rows : (n_a n_b n : ℕ) (c : RowColumns) → AllGood (is_good_map_row n_a n_b c) n → All (IsSoundRow n_a n_b) (map_rows_of n c)
sound_rows n_a n_b n c all i d below =
    let inside : i < n = omega (arith, below, rows_len c n) in
    subst (IsSoundRow n_a n_b) (sym (row_there c n i d inside)) (sound_row n_a n_b c i (all i inside))

pub ascending_rows : (n_a n_b n : ℕ) (c : RowColumns) → AllGood (is_good_map_row n_a n_b c) n → AllPairs ComesBefore (map_rows_of n c)
ascending_rows n_a n_b n c all i j d below last =
    let inside : j < n = omega (arith, last, rows_len c n) in
    let before : i < n = omega (arith, below, inside) in
    subst (λ (p : MapRow). ComesBefore p (slice_index_or (map_rows_of n c) j d)) (sym (row_there c n i d before))
    (subst (λ (q : MapRow). ComesBefore (map_row_at c i) q) (sym (row_there c n j d inside)) (rows_before n_a n_b c n all i j below inside))

-- Areas.

same_sum : (areas sums : List ℤ) (k : ℕ) → is_sum areas sums k ≡ true → at_row areas k ≡ at_row sums k
same_sum areas sums k h = (Decides-int_eq (at_row areas k) (at_row sums k)).0 h

-- where no area is at fault, the areas are the sums
pub areas_are : (areas sums : List ℤ) (n : ℕ) → length areas ≡ n → length sums ≡ n → AllGood (is_sum areas sums) n → areas ≡ sums
areas_are areas sums n la ls all = ext_get_or (pos 0) areas sums (la ∙ sym ls) (λ k below. same_sum areas sums k (all k (omega (arith, below, la))))

pub sums_good : (areas sums : List ℤ) (n : ℕ) → AllGood (is_sum_of_some areas sums) n → AllGood (is_sum areas sums) n
sums_good areas sums n all k below = (both_true (is_sum areas sums k) (not (int_eq (at_row areas k) (pos 0))) (all k below)).0

is_some : (z : ℤ) → not (int_eq z (pos 0)) ≡ true → pos 0 ≤ℤ z → pos 1 ≤ℤ z
is_some (pos zero) h k = absurd cc
is_some (pos (suc n)) h k = omega (arith, ints)
is_some (negsuc n) h k = absurd (omega (arith, ints, k))

-- and each of them is at least 1
pub covered_by : (n_a n_b : ℕ) (rows : List MapRow) (areas : List ℤ) → All (IsSoundRow n_a n_b) rows → length areas ≡ n_b → AllGood (is_sum_of_some areas (areas_of target_of n_b rows)) n_b → All (λ (area : ℤ). pos 1 ≤ℤ area) (areas_of target_of n_b rows)
covered_by n_a n_b rows areas sound len all k d below =
    let inside : k < n_b = omega (arith, below, length-sums_of target_of measure_of n_b rows) in
    let b = both_true (is_sum areas (areas_of target_of n_b rows) k) (not (int_eq (at_row areas k) (pos 0))) (all k inside) in
    let sum : get_or (areas_of target_of n_b rows) k (pos 0) ≡ sum_at target_of measure_of rows (1 + k) = get_or-sums_of target_of measure_of n_b rows k (1 + k) (pos 0) inside refl in
    let there : get_or (areas_of target_of n_b rows) k d ≡ sum_at target_of measure_of rows (1 + k) = get_or-sums_of target_of measure_of n_b rows k (1 + k) d inside refl in
    let same : at_row areas k ≡ sum_at target_of measure_of rows (1 + k) = same_sum areas (areas_of target_of n_b rows) k b.0 ∙ sum in
    let bounds = area_bounds target_of rows (1 + k) (measures n_a n_b rows sound) in
    let least : pos 1 ≤ℤ at_row areas k = is_some (at_row areas k) b.1 (subst (λ (z : ℤ). pos 0 ≤ℤ z) (sym same) bounds.0) in
    subst (λ (z : ℤ). pos 1 ≤ℤ z) (same ∙ sym there) least

-- rows and areas at no fault make a map
pub sound_map : (v : MapVars) (c : RowColumns) (a b : List ℤ) → IsFaceCount v.n_a → IsFaceCount v.n_b → v.n_s ≤ 8388608 → length b ≡ v.n_b
    → AllGood (is_good_map_row v.n_a v.n_b c) v.n_s → AllGood (is_sum_of_some b (areas_of target_of v.n_b (map_rows_of v.n_s c))) v.n_b
    → IsSoundMap (record { n_a = v.n_a; n_b = v.n_b; rows = map_rows_of v.n_s c; area_a = areas_of source_of v.n_a (map_rows_of v.n_s c); area_b = areas_of target_of v.n_b (map_rows_of v.n_s c) })
sound_map v c a b few_a few_b few len rows targets = record {
  source_faces = few_a;
  target_faces = few_b;
  count = omega (arith, few, rows_len c v.n_s);
  ascending = ascending_rows v.n_a v.n_b v.n_s c rows;
  rows = sound_rows v.n_a v.n_b v.n_s c rows;
  source_areas = refl;
  target_areas = refl;
  covered = covered_by v.n_a v.n_b (map_rows_of v.n_s c) b (sound_rows v.n_a v.n_b v.n_s c rows) len targets;
}
