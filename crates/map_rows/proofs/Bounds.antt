-- What a target gets lies between the values of its sources.
use Rattle.std.proofs.Common.{◌≡◌, ℕ, ◌-◌, ◌≤◌, ℤ, pos, ◌+ℤ◌, ◌-ℤ◌, ◌*ℤ◌, ◌≤ℤ◌, ◌<ℤ◌, eqb, List, [], ◌∷◌, length, map, get_or, ap, ap₂, subst, sym, ◌∙◌, arith}
use Rattle.std.specs.List.{All}
use Rattle.std.specs.Int.{int_div_euclid}
use Rattle.std.proofs.lemmas.Int.{ints}
use Rattle.std.proofs.lemmas.List.{length-map, get_or-map}
use Rattle.std.proofs.lemmas.List.Elements.{All-head, All-tail, All-weaker, All-get_or, All-filter}
use Rattle.map_rows.specs.declared.rows.MapRow.{MapRow}
use Rattle.map_rows.specs.Maps.{MapParts, IsSoundMap, total, measure_of, source_of, target_of, rows_of, sources_of, sum_at, HasMeasure}
use Rattle.map_rows.specs.Application.{value_at, area_at, weighted_sum_of, divided, application_of, whole_of, rest_of}
use Rattle.map_rows.specs.Laws.{EachSource, RestsBelow, ConstantsKept, BoundsKept}
use Rattle.map_rows.proofs.FaceSums.{get_or-sums_of, length-sums_of}
use Rattle.map_rows.proofs.Exchange.{measures}
use Rattle.map_rows.proofs.Masses.{part_in, length-application_of}
use Rattle.map_rows.proofs.Products.{sum_times, zero_times, times_order, floor_parts, floor_least, floor_greatest}

-- the area of a target is the sum over its rows, and it is at least 1
pub target_area : (m : MapParts) (j : ℕ) → IsSoundMap m → 1 ≤ j → j ≤ m.n_b → area_at m.area_b j ≡ sum_at target_of measure_of m.rows j
target_area m j s p q =
    ap (λ (areas : List ℤ). get_or areas (j - 1) (pos 0)) s.target_areas ∙ get_or-sums_of target_of measure_of m.n_b m.rows (j - 1) j (pos 0) (omega (arith, p, q)) (omega (arith, p))

pub target_covered : (m : MapParts) (j : ℕ) → IsSoundMap m → 1 ≤ j → j ≤ m.n_b → pos 1 ≤ℤ area_at m.area_b j
target_covered m j s p q =
    let size : length m.area_b ≡ m.n_b = ap (length {A = ℤ}) s.target_areas ∙ length-sums_of target_of measure_of m.n_b m.rows in
    All-get_or (λ (area : ℤ). pos 1 ≤ℤ area) m.area_b (j - 1) (pos 0) (omega (arith, p, q, size)) s.covered

-- rows whose values are at least, or at most, a number
pub sum_at_least : (x : MapRow → ℤ) (least : ℤ) (rows : List MapRow) → All HasMeasure rows → All (λ (r : MapRow). least ≤ℤ x r) rows
    → (total (map measure_of rows) *ℤ least) ≤ℤ total (map (λ (r : MapRow). r.s *ℤ x r) rows)
unfolding total
sum_at_least x least [] h k = omega (arith, ints, zero_times least)
sum_at_least x least (r ∷ rows) h k =
    let here = All-head HasMeasure r rows h in
    let part = times_order r.s least (x r) (omega (arith, ints, here.0)) (All-head (λ (q : MapRow). least ≤ℤ x q) r rows k) in
    let rest = sum_at_least x least rows (All-tail HasMeasure r rows h) (All-tail (λ (q : MapRow). least ≤ℤ x q) r rows k) in
    omega (arith, ints, sum_times r.s (total (map measure_of rows)) least, part, rest)

pub sum_at_most : (x : MapRow → ℤ) (greatest : ℤ) (rows : List MapRow) → All HasMeasure rows → All (λ (r : MapRow). x r ≤ℤ greatest) rows
    → total (map (λ (r : MapRow). r.s *ℤ x r) rows) ≤ℤ (total (map measure_of rows) *ℤ greatest)
unfolding total
sum_at_most x greatest [] h k = omega (arith, ints, zero_times greatest)
sum_at_most x greatest (r ∷ rows) h k =
    let here = All-head HasMeasure r rows h in
    let part = times_order r.s (x r) greatest (omega (arith, ints, here.0)) (All-head (λ (q : MapRow). x q ≤ℤ greatest) r rows k) in
    let rest = sum_at_most x greatest rows (All-tail HasMeasure r rows h) (All-tail (λ (q : MapRow). x q ≤ℤ greatest) r rows k) in
    omega (arith, ints, sum_times r.s (total (map measure_of rows)) greatest, part, rest)

-- a test of the faces of rows, as one of the rows
pub of_rows : (P : ℕ → Type 0) (face_of : MapRow → ℕ) (rows : List MapRow) → All P (map face_of rows) → All (λ (r : MapRow). P (face_of r)) rows
of_rows P face_of rows h = λ k d l. subst P (get_or-map face_of rows k d (face_of d) l) (h k (face_of d) (omega (arith, l, length-map rows face_of)))

-- the sum of target j in a slice, between its area times the least and its area times the greatest
pub weighted_at_least : (m : MapParts) (values : List ℤ) (slice j : ℕ) (least : ℤ) → IsSoundMap m → 1 ≤ j → j ≤ m.n_b → EachSource m values slice j (λ (x : ℤ). least ≤ℤ x)
    → (area_at m.area_b j *ℤ least) ≤ℤ weighted_sum_of m values slice j
weighted_at_least m values slice j least s p q k =
    let x : ℕ → ℤ = value_at values m.n_a slice in
    let rows = rows_of target_of m.rows j in
    let sum = sum_at_least (λ (r : MapRow). x r.col) least rows (All-filter (λ (r : MapRow). eqb r.row j) HasMeasure m.rows (measures m s)) (of_rows (λ (i : ℕ). least ≤ℤ x i) source_of rows k) in
    subst (λ (a : ℤ). (a *ℤ least) ≤ℤ weighted_sum_of m values slice j) (sym (target_area m j s p q)) sum

pub weighted_at_most : (m : MapParts) (values : List ℤ) (slice j : ℕ) (greatest : ℤ) → IsSoundMap m → 1 ≤ j → j ≤ m.n_b → EachSource m values slice j (λ (x : ℤ). x ≤ℤ greatest)
    → weighted_sum_of m values slice j ≤ℤ (area_at m.area_b j *ℤ greatest)
weighted_at_most m values slice j greatest s p q k =
    let x : ℕ → ℤ = value_at values m.n_a slice in
    let rows = rows_of target_of m.rows j in
    let sum = sum_at_most (λ (r : MapRow). x r.col) greatest rows (All-filter (λ (r : MapRow). eqb r.row j) HasMeasure m.rows (measures m s)) (of_rows (λ (i : ℕ). x i ≤ℤ greatest) source_of rows k) in
    subst (λ (a : ℤ). weighted_sum_of m values slice j ≤ℤ (a *ℤ greatest)) (sym (target_area m j s p q)) sum

-- ---- the parts of one target in one slice
pub rest_within : (n a : ℤ) → pos 1 ≤ℤ a → (pos 0 ≤ℤ (divided n a).rest) × ((divided n a).rest <ℤ a)
rest_within n a p = let f = floor_parts n a p in (omega (arith, ints, f.0), omega (arith, ints, f.1))

pub whole_at_least : (n a least : ℤ) → pos 1 ≤ℤ a → (a *ℤ least) ≤ℤ n → least ≤ℤ (divided n a).whole
whole_at_least n a least p h = floor_least a (int_div_euclid n a) n least p (floor_parts n a p).1 h

pub whole_at_most : (n a greatest : ℤ) → pos 1 ≤ℤ a → n ≤ℤ (a *ℤ greatest) → (divided n a).whole ≤ℤ greatest
whole_at_most n a greatest p h = floor_greatest a (int_div_euclid n a) n greatest p (floor_parts n a p).0 h

parts_sum : (n a : ℤ) → (a *ℤ (divided n a).whole) +ℤ (divided n a).rest ≡ n
parts_sum n a = omega (arith, ints)

same_order : (x y : ℤ) → x ≤ℤ y → y ≤ℤ x → x ≡ y
same_order x y p q = omega (arith, ints, p, q)

pub rests_below : RestsBelow
rests_below m slices values s =
    let size = length-application_of m slices values in
    record {
      whole_count = length-map (application_of m slices values) whole_of ∙ size;
      rest_count = length-map (application_of m slices values) rest_of ∙ size;
      rests = λ slice j p.
          let e = part_in m slices values slice j rest_of p.0 p.1 p.2 in
          let r = rest_within (weighted_sum_of m values slice j) (area_at m.area_b j) (target_covered m j s p.1 p.2) in
          (subst (λ (x : ℤ). pos 0 ≤ℤ x) (sym e) r.0, subst (λ (x : ℤ). x <ℤ area_at m.area_b j) (sym e) r.1);
    }

pub bounds_kept : BoundsKept
bounds_kept m slices values s slice j least greatest p low high =
    let whole = part_in m slices values slice j whole_of p.0 p.1 p.2 in
    let rest = part_in m slices values slice j rest_of p.0 p.1 p.2 in
    let n = weighted_sum_of m values slice j in
    let a = area_at m.area_b j in
    let one = target_covered m j s p.1 p.2 in (
      subst (λ (x : ℤ). least ≤ℤ x) (sym whole) (whole_at_least n a least one (weighted_at_least m values slice j least s p.1 p.2 low)),
      subst (λ (x : ℤ). x ≤ℤ (a *ℤ greatest)) (sym (ap₂ (λ (w r : ℤ). (a *ℤ w) +ℤ r) whole rest ∙ parts_sum n a)) (weighted_at_most m values slice j greatest s p.1 p.2 high),
    )

constant_rest : (n a c q : ℤ) → n ≡ a *ℤ c → q ≡ c → n -ℤ (a *ℤ q) ≡ pos 0
constant_rest n a c q e f = ap (λ (x : ℤ). n -ℤ (a *ℤ x)) f ∙ omega (arith, ints, e)

each_weaker : (m : MapParts) (values : List ℤ) (slice j : ℕ) (P Q : ℤ → Type 0) → ((x : ℤ) → P x → Q x) → EachSource m values slice j P → EachSource m values slice j Q
each_weaker m values slice j P Q f h =
    All-weaker (λ (i : ℕ). P (value_at values m.n_a slice i)) (λ (i : ℕ). Q (value_at values m.n_a slice i)) (λ i k. f (value_at values m.n_a slice i) k) (sources_of m.rows j) h

pub constants_kept : ConstantsKept
constants_kept m slices values s slice j c p k =
    let n = weighted_sum_of m values slice j in
    let a = area_at m.area_b j in
    let one = target_covered m j s p.1 p.2 in
    let low = weighted_at_least m values slice j c s p.1 p.2 (each_weaker m values slice j (λ (x : ℤ). x ≡ c) (λ (x : ℤ). c ≤ℤ x) (λ x e. omega (arith, ints, e)) k) in
    let high = weighted_at_most m values slice j c s p.1 p.2 (each_weaker m values slice j (λ (x : ℤ). x ≡ c) (λ (x : ℤ). x ≤ℤ c) (λ x e. omega (arith, ints, e)) k) in
    let same : (divided n a).whole ≡ c = same_order (divided n a).whole c (whole_at_most n a c one high) (whole_at_least n a c one low) in (
      part_in m slices values slice j whole_of p.0 p.1 p.2 ∙ same,
      part_in m slices values slice j rest_of p.0 p.1 p.2 ∙ constant_rest n a c (divided n a).whole (same_order n (a *ℤ c) high low) same,
    )
