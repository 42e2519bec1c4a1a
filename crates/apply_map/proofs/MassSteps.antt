-- A step of the sum over the faces of a slice, and of that over the slices.
use Rattle.std.proofs.Common.{◌≡◌, ℕ, zero, suc, ◌+◌, ◌-◌, ◌*◌, ◌<◌, ◌≤◌, ℤ, pos, negsuc, ◌+ℤ◌, ◌*ℤ◌, ◌≤ℤ◌, ◌<ℤ◌, List, [], ◌∷◌, ◌++◌, length, map, get_or, take, unsigned_abs, FitsSigned, ◌^◌, ap, ap₂, subst, sym, ◌∙◌, refl, arith}
use Rattle.std.specs.List.{All, range_with_len}
use Rattle.std.proofs.lemmas.Int.{ints, to_z-of_z, fits_signed_from_abs}
use Rattle.std.proofs.lemmas.List.{take_more}
use Rattle.std.proofs.lemmas.List.Elements.{All-head, All-tail}
use Rattle.std.proofs.lemmas.List.FromFn.{map-range_with_len_more}
use Rattle.map_rows.specs.Maps.{MapParts, IsSoundMap, total, measure_of, sum_at, source_of, target_of}
use Rattle.map_rows.specs.Application.{sum_over, area_at, value_at, source_mass_of, target_mass_of}
use Rattle.map_rows.specs.Laws.{IsFieldOf}
use Rattle.map_rows.proofs.FaceSums.{length-sums_of, get_or-sums_of, area_bounds}
use Rattle.map_rows.proofs.Exchange.{areas_fit, measures}
use Rattle.map_rows.proofs.Products.{sum_times, times_order, zero_times}
use borrow.Author.Differences.{product_is}
use mir.Syntax.{w32, w64, w128}
use mir.Val.{SFits, to_z, of_z}
use Rattle.apply_map.specs.Values.{IsInt32, HasRestsWithin}

pub total-push : (xs : List ℤ) (y : ℤ) → total (xs ++ y ∷ []) ≡ total xs +ℤ y
unfolding total
total-push [] y = omega (arith, ints)
total-push (x ∷ xs) y = omega (arith, ints, total-push xs y)

pub sum_over_more : (first n : ℕ) (f : ℕ → ℤ) → sum_over first (n + 1) f ≡ sum_over first n f +ℤ f (first + n)
sum_over_more first n f = ap total (map-range_with_len_more f first n (first + n) refl) ∙ total-push (map f (range_with_len first n)) (f (first + n))

-- the mass of the faces so far, and how large it may be
pub record MassSoFar (f : ℕ → ℤ) (areas : List ℤ) (i : ℕ) (mass : ℤ) : Type 0 where
  pub value : mass ≡ sum_over 1 i f
  pub least : (total (take i areas) *ℤ negsuc 2147483647) ≤ℤ mass
  pub greatest : mass ≤ℤ (total (take i areas) *ℤ pos 2147483648)

pub no_mass : (f : ℕ → ℤ) (areas : List ℤ) → MassSoFar f areas 0 (pos 0)
unfolding total
no_mass f areas = record { value = refl; least = omega (arith, ints, zero_times (negsuc 2147483647)); greatest = omega (arith, ints, zero_times (pos 2147483648)) }

pub mass_more : (f : ℕ → ℤ) (areas : List ℤ) (i : ℕ) (mass part new : ℤ) → i < length areas → MassSoFar f areas i mass → new ≡ mass +ℤ part → part ≡ f (1 + i)
    → (get_or areas i (pos 0) *ℤ negsuc 2147483647) ≤ℤ part → part ≤ℤ (get_or areas i (pos 0) *ℤ pos 2147483648) → MassSoFar f areas (i + 1) new
mass_more f areas i mass part new l h step is low high =
    let a = get_or areas i (pos 0) in
    let all : total (take (i + 1) areas) ≡ total (take i areas) +ℤ a = ap total (take_more areas i (pos 0) l) ∙ total-push (take i areas) a in
    record {
      value = step ∙ ap₂ ◌+ℤ◌ h.value is ∙ sym (sum_over_more 1 i f);
      least = subst (λ (t : ℤ). (t *ℤ negsuc 2147483647) ≤ℤ new) (sym all) (omega (arith, ints, step, h.least, low, sum_times (total (take i areas)) a (negsuc 2147483647)));
      greatest = subst (λ (t : ℤ). new ≤ℤ (t *ℤ pos 2147483648)) (sym all) (omega (arith, ints, step, h.greatest, high, sum_times (total (take i areas)) a (pos 2147483648)));
    }

-- part of the areas is no more than all
total_nonneg : (areas : List ℤ) → All (λ (area : ℤ). pos 0 ≤ℤ area) areas → pos 0 ≤ℤ total areas
unfolding total
total_nonneg [] h = omega (arith, ints)
total_nonneg (a ∷ areas) h =
    let here = All-head (λ (area : ℤ). pos 0 ≤ℤ area) a areas h in
    omega (arith, ints, here, total_nonneg areas (All-tail (λ (area : ℤ). pos 0 ≤ℤ area) a areas h))

total_take : (i : ℕ) (areas : List ℤ) → All (λ (area : ℤ). pos 0 ≤ℤ area) areas → (pos 0 ≤ℤ total (take i areas)) × (total (take i areas) ≤ℤ total areas)
unfolding total
total_take zero areas h = (omega (arith, ints), omega (arith, ints, total_nonneg areas h))
total_take (suc i) [] h = (omega (arith, ints), omega (arith, ints))
total_take (suc i) (a ∷ areas) h =
    let here = All-head (λ (area : ℤ). pos 0 ≤ℤ area) a areas h in
    let rest = total_take i areas (All-tail (λ (area : ℤ). pos 0 ≤ℤ area) a areas h) in
    (omega (arith, ints, here, rest.0), omega (arith, ints, rest.1))

size_by : (t mass : ℤ) → pos 0 ≤ℤ t → t <ℤ pos 9223372036854775808 → (t *ℤ negsuc 2147483647) ≤ℤ mass → mass ≤ℤ (t *ℤ pos 2147483648) → unsigned_abs mass ≤ 19807040628566084398385987584
size_by t (pos n) p q low high = omega (arith, ints, q, high, product_is t (pos 2147483648))
size_by t (negsuc n) p q low high = omega (arith, ints, p, q, low, product_is t (negsuc 2147483647))

pub mass_size : (f : ℕ → ℤ) (areas : List ℤ) (i : ℕ) (mass : ℤ) → All (λ (area : ℤ). pos 0 ≤ℤ area) areas → total areas <ℤ pos 9223372036854775808 → MassSoFar f areas i mass
    → unsigned_abs mass ≤ 19807040628566084398385987584
mass_size f areas i mass h fit m =
    let t = total_take i areas h in
    size_by (total (take i areas)) mass t.0 (omega (arith, ints, t.1, fit)) m.least m.greatest

-- area times value, of a value that fits 32 bits
pub part_bounds : (a x : ℤ) → pos 0 ≤ℤ a → IsInt32 x → ((a *ℤ negsuc 2147483647) ≤ℤ (a *ℤ x)) × ((a *ℤ x) ≤ℤ (a *ℤ pos 2147483648))
part_bounds a x p h = (times_order a (negsuc 2147483647) x p h.0, times_order a x (pos 2147483648) p (omega (arith, ints, h.1)))

-- the areas of a sound map
pub source_areas : (m : MapParts) → IsSoundMap m → (length m.area_a ≡ m.n_a) × (total m.area_a <ℤ pos 9223372036854775808)
source_areas m s = (ap (length {A = ℤ}) s.source_areas ∙ length-sums_of source_of measure_of m.n_a m.rows, (areas_fit m s).fit)

-- a mass and one part more, within 128 bits
sum_fits : (a b : ℤ) → unsigned_abs a ≤ 85070591730234615865843651857942052864 → unsigned_abs b ≤ 19807040628566084398385987584 → unsigned_abs (a +ℤ b) < 2 ^ 127
sum_fits a b p q = omega (arith, ints, p, q)

small_kept : (b : ℤ) → unsigned_abs b ≤ 19807040628566084398385987584 → to_z w128 (of_z w128 b) ≡ b
small_kept b q = omega (arith, ints, q)

pub added : (bits : ℕ) (mass b : ℤ) → to_z w128 bits ≡ mass → unsigned_abs mass ≤ 85070591730234615865843651857942052864 → unsigned_abs b ≤ 19807040628566084398385987584
    → FitsSigned w128 (to_z w128 bits +ℤ to_z w128 (of_z w128 b)) × (to_z w128 (of_z w128 (to_z w128 bits +ℤ to_z w128 (of_z w128 b))) ≡ mass +ℤ b)
added bits mass b e p q =
    let same : to_z w128 bits +ℤ to_z w128 (of_z w128 b) ≡ mass +ℤ b = ap₂ ◌+ℤ◌ e (small_kept b q) in
    let fits : FitsSigned w128 (mass +ℤ b) = fits_signed_from_abs w128 (mass +ℤ b) (sum_fits mass b p q) in
    (subst (λ (x : ℤ). FitsSigned w128 x) (sym same) fits, ap (λ (x : ℤ). to_z w128 (of_z w128 x)) same ∙ to_z-of_z w128 (mass +ℤ b) fits)

kept64 : (a : ℤ) → pos 0 ≤ℤ a → a <ℤ pos 9223372036854775808 → to_z w64 (of_z w64 a) ≡ a
kept64 a p q = omega (arith, ints, p, q)

kept32 : (x : ℤ) → IsInt32 x → to_z w32 (of_z w32 x) ≡ x
kept32 x h = omega (arith, ints, h.0, h.1)

pub fits32 : (x : ℤ) → SFits w32 x → IsInt32 x
fits32 x f = (omega (arith, ints, f.sfits), omega (arith, ints, f.sfits))

-- area times value at place i, as it was read
pub read_part : (areas values : List ℤ) (slice i : ℕ) (part : ℤ) → pos 0 ≤ℤ get_or areas i (pos 0) → SFits w64 (get_or areas i (pos 0)) → IsInt32 (get_or values (slice * length areas + i) (pos 0))
    → part ≡ to_z w64 (of_z w64 (get_or areas i (pos 0))) *ℤ to_z w32 (of_z w32 (get_or values (slice * length areas + i) (pos 0)))
    → (part ≡ area_at areas (1 + i) *ℤ value_at values (length areas) slice (1 + i)) × ((get_or areas i (pos 0) *ℤ negsuc 2147483647) ≤ℤ part) × (part ≤ℤ (get_or areas i (pos 0) *ℤ pos 2147483648))
read_part areas values slice i part p f h e =
    let x = get_or values (slice * length areas + i) (pos 0) in
    let a = get_or areas i (pos 0) in
    let is : part ≡ a *ℤ x = e ∙ ap₂ ◌*ℤ◌ (to_z-of_z w64 a f) (kept32 x h) in
    let place : i ≡ 1 + i - 1 = omega arith in
    let bounds = part_bounds a x p h in (
      is ∙ ap (λ (k : ℕ). get_or areas k (pos 0) *ℤ get_or values (slice * length areas + k) (pos 0)) place,
      subst (λ (y : ℤ). (a *ℤ negsuc 2147483647) ≤ℤ y) (sym is) bounds.0,
      subst (λ (y : ℤ). y ≤ℤ (a *ℤ pos 2147483648)) (sym is) bounds.1,
    )

-- ---- slices
pub no_source : (m : MapParts) (values : List ℤ) → pos 0 ≡ source_mass_of m 0 values
unfolding source_mass_of total
no_source m values = refl

pub source_more : (m : MapParts) (values : List ℤ) (slice : ℕ)
    → source_mass_of m (slice + 1) values ≡ source_mass_of m slice values +ℤ sum_over 1 m.n_a (λ (i : ℕ). area_at m.area_a i *ℤ value_at values m.n_a slice i)
unfolding source_mass_of
source_more m values slice =
    let g : ℕ → ℤ = λ s. sum_over 1 m.n_a (λ (i : ℕ). area_at m.area_a i *ℤ value_at values m.n_a s i) in
    let next : 0 + slice ≡ slice = omega arith in
    sum_over_more 0 slice g ∙ ap (λ (s : ℕ). sum_over 0 slice g +ℤ g s) next

pub counts_fit : (a s n : ℕ) → a < s → (a + 1) * n ≤ s * n
counts_fit a s n l = grind arith

pub nonneg_sources : (m : MapParts) → IsSoundMap m → All (λ (area : ℤ). pos 0 ≤ℤ area) m.area_a
nonneg_sources m s k d l =
    let size = (source_areas m s).0 in
    let within : k < m.n_a = omega (arith, l, size) in
    let value : get_or m.area_a k d ≡ sum_at source_of measure_of m.rows (1 + k) =
    ap (λ (xs : List ℤ). get_or xs k d) s.source_areas ∙ get_or-sums_of source_of measure_of m.n_a m.rows k (1 + k) d within refl
    in
    let bounds = area_bounds source_of m.rows (1 + k) (measures m s) in
    subst (λ (x : ℤ). pos 0 ≤ℤ x) (sym value) bounds.0

pub more_size : (a b : ℤ) (n : ℕ) → unsigned_abs a ≤ 19807040628566084398385987584 * n → unsigned_abs b ≤ 19807040628566084398385987584 → unsigned_abs (a +ℤ b) ≤ 19807040628566084398385987584 * (n + 1)
more_size a b n p q = omega (arith, ints, p, q)

pub at_most_limit : (n : ℕ) → n ≤ 19807040628566084398385987584 → n ≤ 85070591730234615865843651857942052864
at_most_limit n p = omega (arith, p)

pub below_limit : (n slice slices : ℕ) → n ≤ 19807040628566084398385987584 * slice → slice < slices → slices < 4294967296 → n ≤ 85070591730234615865843651857942052864
below_limit n slice slices p q r = omega (arith, p, q, r)

-- ---- the targets
-- area times whole part plus rest at place j, as it was read
pub read_target : (areas whole rest : List ℤ) (slice j : ℕ) (part : ℤ) → pos 0 ≤ℤ get_or areas j (pos 0) → SFits w64 (get_or areas j (pos 0)) → IsInt32 (get_or whole (slice * length areas + j) (pos 0))
    → SFits w64 (get_or rest (slice * length areas + j) (pos 0)) → pos 0 ≤ℤ get_or rest (slice * length areas + j) (pos 0) → get_or rest (slice * length areas + j) (pos 0) ≤ℤ get_or areas j (pos 0)
    → part ≡ to_z w64 (of_z w64 (get_or areas j (pos 0))) *ℤ to_z w32 (of_z w32 (get_or whole (slice * length areas + j) (pos 0))) +ℤ to_z w64 (of_z w64 (get_or rest (slice * length areas + j) (pos 0)))
    → (part ≡ (area_at areas (1 + j) *ℤ value_at whole (length areas) slice (1 + j)) +ℤ value_at rest (length areas) slice (1 + j))
    × ((get_or areas j (pos 0) *ℤ negsuc 2147483647) ≤ℤ part) × (part ≤ℤ (get_or areas j (pos 0) *ℤ pos 2147483648))
read_target areas whole rest slice j part p f h g low high e =
    let x = get_or whole (slice * length areas + j) (pos 0) in
    let y = get_or rest (slice * length areas + j) (pos 0) in
    let a = get_or areas j (pos 0) in
    let is : part ≡ (a *ℤ x) +ℤ y = e ∙ ap₂ ◌+ℤ◌ (ap₂ ◌*ℤ◌ (to_z-of_z w64 a f) (kept32 x h)) (to_z-of_z w64 y g) in
    let place : j ≡ 1 + j - 1 = omega arith in
    let least = times_order a (negsuc 2147483647) x p h.0 in
    let greatest = times_order a x (pos 2147483647) p h.1 in (
      is ∙ ap (λ (k : ℕ). (get_or areas k (pos 0) *ℤ get_or whole (slice * length areas + k) (pos 0)) +ℤ get_or rest (slice * length areas + k) (pos 0)) place,
      subst (λ (z : ℤ). (a *ℤ negsuc 2147483647) ≤ℤ z) (sym is) (omega (arith, ints, least, low)),
      subst (λ (z : ℤ). z ≤ℤ (a *ℤ pos 2147483648)) (sym is) (omega (arith, ints, greatest, high, product_is a (pos 2147483647), product_is a (pos 2147483648))),
    )

pub no_target : (m : MapParts) (whole rest : List ℤ) → pos 0 ≡ target_mass_of m 0 whole rest
unfolding target_mass_of total
no_target m whole rest = refl

pub target_more : (m : MapParts) (whole rest : List ℤ) (slice : ℕ)
    → target_mass_of m (slice + 1) whole rest
    ≡ target_mass_of m slice whole rest +ℤ sum_over 1 m.n_b (λ (j : ℕ). (area_at m.area_b j *ℤ value_at whole m.n_b slice j) +ℤ value_at rest m.n_b slice j)
unfolding target_mass_of
target_more m whole rest slice =
    let g : ℕ → ℤ = λ s. sum_over 1 m.n_b (λ (j : ℕ). (area_at m.area_b j *ℤ value_at whole m.n_b s j) +ℤ value_at rest m.n_b s j) in
    let next : 0 + slice ≡ slice = omega arith in
    sum_over_more 0 slice g ∙ ap (λ (s : ℕ). sum_over 0 slice g +ℤ g s) next

pub target_areas : (m : MapParts) → IsSoundMap m → (length m.area_b ≡ m.n_b) × (total m.area_b <ℤ pos 9223372036854775808)
target_areas m s =
    let fit = areas_fit m s in
    (ap (length {A = ℤ}) s.target_areas ∙ length-sums_of target_of measure_of m.n_b m.rows, subst (λ (t : ℤ). t <ℤ pos 9223372036854775808) fit.same fit.fit)

-- the rests of one slice
pub slice_rests : (m : MapParts) (slices slice : ℕ) (whole rest : List ℤ) → IsSoundMap m → IsFieldOf m slices whole rest → slice < slices → HasRestsWithin m.area_b slice rest
slice_rests m slices slice whole rest s h l k q =
    let size = (target_areas m s).0 in
    let place : k ≡ 1 + k - 1 = omega arith in
    let r = h.rests slice (1 + k) (l, omega arith, omega (arith, q, size)) in
    subst (λ (n : ℕ). (pos 0 ≤ℤ get_or rest (slice * n + k) (pos 0)) × (get_or rest (slice * n + k) (pos 0) ≤ℤ get_or m.area_b k (pos 0))) (sym size)
    (subst (λ (i : ℕ). (pos 0 ≤ℤ get_or rest (slice * m.n_b + i) (pos 0)) × (get_or rest (slice * m.n_b + i) (pos 0) ≤ℤ get_or m.area_b i (pos 0))) (sym place) (r.0, omega (arith, ints, r.1)))
