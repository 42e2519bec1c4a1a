-- The masses of a field on either side are the measures times the values of their rows, summed over all rows.
use Rattle.std.proofs.Common.{◌≡◌, ℕ, zero, suc, ◌+◌, ◌-◌, ◌*◌, ◌<◌, ◌≤◌, inl, inr, ℤ, pos, ◌+ℤ◌, ◌-ℤ◌, ◌*ℤ◌, Bool, cond, eqb, List, [], ◌∷◌, ◌++◌, length, map, get_or, ap, sym, ◌∙◌, refl, arith, eq-eqb}
use Rattle.std.specs.List.{range_with_len, flat_map}
use Rattle.std.proofs.lemmas.Int.{ints}
use Rattle.std.proofs.lemmas.List.{get_or_append_left, get_or-append_right, get_or-map}
use Rattle.std.proofs.lemmas.List.FromFn.{length-map-range_with_len, get_or-map-range_with_len}
use Rattle.vec_exact.proofs.Cycles.{below_same_above}
use Rattle.vec_exact.proofs.Ranges.{length_even}
use Rattle.map_rows.specs.declared.rows.MapRow.{MapRow}
use Rattle.map_rows.specs.Maps.{MapParts, IsSoundMap, total, measure_of, sum_at, source_of, target_of}
use Rattle.map_rows.specs.Application.{WholeAndRest, sum_over, value_at, area_at, product_of, weighted_sum_of, share_at, slice_of, application_of, whole_of, rest_of, rests_of, source_mass_of, target_mass_of}
use Rattle.map_rows.specs.Laws.{EqualMasses}
use Rattle.map_rows.proofs.FaceSums.{differ, sum_at-none, sum_at-cons, get_or-sums_of}
use Rattle.map_rows.proofs.Exchange.{exchange, sources_among, targets_among}
use Rattle.map_rows.proofs.Products.{sum_times, zero_times}

pub sum_over_same : (first count : ℕ) (f g : ℕ → ℤ) → ((i : ℕ) → first ≤ i → i < first + count → f i ≡ g i) → sum_over first count f ≡ sum_over first count g
unfolding total
sum_over_same first zero f g h = refl
sum_over_same first (suc n) f g h =
    omega (arith, ints, h first (omega arith) (omega arith), sum_over_same (first + 1) n f g (λ i l m. h i (omega (arith, l)) (omega (arith, m))))

-- one row's part of an area, times the value of its face
part_times : (x : ℕ → ℤ) (p i : ℕ) (s : ℤ) → cond (eqb p i) s (pos 0) *ℤ x i ≡ cond (eqb p i) (s *ℤ x p) (pos 0)
part_times x p i s =
    elim (below_same_above p i) [
      | inl b ↦
          let e = differ p i (omega (arith, b)) in
          ap (λ (t : Bool). cond t s (pos 0) *ℤ x i) e ∙ zero_times (x i) ∙ sym (ap (λ (t : Bool). cond t (s *ℤ x p) (pos 0)) e)
      | inr (inl q) ↦
          let e = eq-eqb p i q in
          ap (λ (t : Bool). cond t s (pos 0) *ℤ x i) e ∙ ap (λ (k : ℕ). s *ℤ x k) (sym q) ∙ sym (ap (λ (t : Bool). cond t (s *ℤ x p) (pos 0)) e)
      | inr (inr b) ↦
          let e = differ p i (omega (arith, b)) in
          ap (λ (t : Bool). cond t s (pos 0) *ℤ x i) e ∙ zero_times (x i) ∙ sym (ap (λ (t : Bool). cond t (s *ℤ x p) (pos 0)) e)
    ]

-- an area times the value of its face is the sum over its rows
pub area_times : (face_of : MapRow → ℕ) (x : ℕ → ℤ) (rows : List MapRow) (i : ℕ)
    → sum_at face_of measure_of rows i *ℤ x i ≡ sum_at face_of (λ (r : MapRow). r.s *ℤ x (face_of r)) rows i
area_times face_of x [] i = ap (λ (y : ℤ). y *ℤ x i) (sum_at-none face_of measure_of i) ∙ zero_times (x i) ∙ sym (sum_at-none face_of (λ (r : MapRow). r.s *ℤ x (face_of r)) i)
area_times face_of x (r ∷ rows) i =
    let part : MapRow → ℤ = λ (q : MapRow). q.s *ℤ x (face_of q) in
    ap (λ (y : ℤ). y *ℤ x i) (sum_at-cons face_of measure_of r rows i)
    ∙ sum_times (cond (eqb (face_of r) i) r.s (pos 0)) (sum_at face_of measure_of rows i) (x i)
    ∙ ap (λ (y : ℤ). y +ℤ sum_at face_of measure_of rows i *ℤ x i) (part_times x (face_of r) i r.s)
    ∙ ap (λ (y : ℤ). cond (eqb (face_of r) i) (part r) (pos 0) +ℤ y) (area_times face_of x rows i)
    ∙ sym (sum_at-cons face_of part r rows i)

-- the sum over all rows of measure times value
abbrev pub rows_mass : MapParts → List ℤ → ℕ → ℤ
rows_mass m values slice = total (map (product_of values m.n_a slice) m.rows)

pub source_slice : (m : MapParts) (values : List ℤ) (slice : ℕ) → IsSoundMap m
    → sum_over 1 m.n_a (λ (i : ℕ). area_at m.area_a i *ℤ value_at values m.n_a slice i) ≡ rows_mass m values slice
source_slice m values slice s =
    let x : ℕ → ℤ = value_at values m.n_a slice in
    sum_over_same 1 m.n_a _ (sum_at source_of (product_of values m.n_a slice) m.rows)
    (λ i l h.
    ap (λ (areas : List ℤ). get_or areas (i - 1) (pos 0) *ℤ x i) s.source_areas
    ∙ ap (λ (y : ℤ). y *ℤ x i) (get_or-sums_of source_of measure_of m.n_a m.rows (i - 1) i (pos 0) (omega (arith, l, h)) (omega (arith, l)))
    ∙ area_times source_of x m.rows i)
    ∙ exchange source_of (product_of values m.n_a slice) m.n_a m.rows (sources_among m s)

pub target_slice : (m : MapParts) (values : List ℤ) (slice : ℕ) → IsSoundMap m → sum_over 1 m.n_b (λ (j : ℕ). weighted_sum_of m values slice j) ≡ rows_mass m values slice
target_slice m values slice s = exchange target_of (product_of values m.n_a slice) m.n_b m.rows (targets_among m s)

-- ---- lists of blocks of one length
pub get_or-blocks : {A : Type 0} (f : ℕ → List A) (n first count i k : ℕ) (d : A) → ((s : ℕ) → length (f s) ≡ n) → i < count → k < n
    → get_or (flat_map f (range_with_len first count)) (i * n + k) d ≡ get_or (f (first + i)) k d
get_or-blocks f n first zero i k d h l m = absurd (omega (arith, l))
get_or-blocks f n first (suc count) zero k d h l m =
    let xs = f first ++ flat_map f (range_with_len (first + 1) count) in
    let place : zero * n + k ≡ k = omega arith in
    let same : first ≡ first + zero = omega arith in
    ap (λ (p : ℕ). get_or xs p d) place ∙ get_or_append_left (f first) (flat_map f (range_with_len (first + 1) count)) d k (omega (arith, m, h first)) ∙ ap (λ (s : ℕ). get_or (f s) k d) same
get_or-blocks f n first (suc count) (suc i) k d h l m =
    let place : suc i * n + k - n ≡ i * n + k = omega arith in
    let next : first + 1 + i ≡ first + suc i = omega arith in
    get_or-append_right (f first) (flat_map f (range_with_len (first + 1) count)) n (suc i * n + k) d (h first) (omega arith)
    ∙ ap (λ (p : ℕ). get_or (flat_map f (range_with_len (first + 1) count)) p d) place ∙ get_or-blocks f n (first + 1) count i k d h (omega (arith, l)) m
    ∙ ap (λ (s : ℕ). get_or (f s) k d) next

pub length-slice_of : (m : MapParts) (values : List ℤ) (slice : ℕ) → length (slice_of m values slice) ≡ m.n_b
length-slice_of m values slice = length-map-range_with_len (share_at m values slice) 1 m.n_b

pub length-application_of : (m : MapParts) (slices : ℕ) (values : List ℤ) → length (application_of m slices values) ≡ slices * m.n_b
unfolding application_of
length-application_of m slices values = length_even (slice_of m values) m.n_b 0 slices (λ i l h. length-slice_of m values i)

-- no part, past the end
abbrev pub no_share : WholeAndRest
no_share = record { whole = pos 0; rest = pos 0 }

-- the number of slice and target in the application
pub application_at : (m : MapParts) (slices : ℕ) (values : List ℤ) (slice j : ℕ) → slice < slices → 1 ≤ j → j ≤ m.n_b
    → get_or (application_of m slices values) (slice * m.n_b + (j - 1)) no_share ≡ share_at m values slice j
unfolding application_of
application_at m slices values slice j l p q =
    get_or-blocks (slice_of m values) m.n_b 0 slices slice (j - 1) no_share (length-slice_of m values) l (omega (arith, p, q))
    ∙ ap (λ (s : ℕ). get_or (slice_of m values s) (j - 1) no_share) (let e : 0 + slice ≡ slice = omega arith in e)
    ∙ get_or-map-range_with_len (share_at m values slice) 1 m.n_b (j - 1) j no_share (omega (arith, p, q)) (omega (arith, p))

pub place_within : (slices n slice k : ℕ) → slice < slices → k < n → slice * n + k < slices * n
place_within slices n slice k l m = grind arith

pub part_in : (m : MapParts) (slices : ℕ) (values : List ℤ) (slice j : ℕ) (f : WholeAndRest → ℤ) → slice < slices → 1 ≤ j → j ≤ m.n_b
    → value_at (map f (application_of m slices values)) m.n_b slice j ≡ f (share_at m values slice j)
part_in m slices values slice j f l p q =
    get_or-map f (application_of m slices values) (slice * m.n_b + (j - 1)) no_share (pos 0)
    (omega (arith, length-application_of m slices values, place_within slices m.n_b slice (j - 1) l (omega (arith, p, q))))
    ∙ ap f (application_at m slices values slice j l p q)

-- ---- equal masses
whole_and_rest : (a q n : ℤ) → (a *ℤ q) +ℤ (n -ℤ (a *ℤ q)) ≡ n
whole_and_rest a q n = omega (arith, ints)

pub equal_masses : EqualMasses
unfolding source_mass_of target_mass_of
equal_masses m slices values s =
    sum_over_same 0 slices _ _
    (λ slice l h.
    sum_over_same 1 m.n_b _ (λ (j : ℕ). weighted_sum_of m values slice j)
    (λ j p q.
    let here : slice < slices = omega (arith, h) in
    let last : j ≤ m.n_b = omega (arith, q) in
    ap (λ (w : ℤ). (area_at m.area_b j *ℤ w) +ℤ value_at (rests_of (application_of m slices values)) m.n_b slice j) (part_in m slices values slice j whole_of here p last)
    ∙ ap (λ (r : ℤ). (area_at m.area_b j *ℤ (share_at m values slice j).whole) +ℤ r) (part_in m slices values slice j rest_of here p last)
    ∙ whole_and_rest (area_at m.area_b j) (share_at m values slice j).whole (weighted_sum_of m values slice j))
    ∙ target_slice m values slice s ∙ sym (source_slice m values slice s))
