-- What is put target by target, and slice by slice.
use Rattle.std.proofs.Common.{◌≡◌, ℕ, ◌+◌, ◌-◌, ◌<◌, ◌≤◌, ◌*◌, ◌++◌, ◌∷◌, ℤ, pos, ◌≤ℤ◌, eqb, List, [], length, take, map, get_or, ap, ap₂, subst, sym, ◌∙◌, refl, arith}
use Rattle.std.specs.List.{All}
use Rattle.std.proofs.lemmas.List.{length-map, map-append, get_or-map, take_more}
use Rattle.std.proofs.lemmas.List.Elements.{All-weaker, All-filter}
use Rattle.std.proofs.lemmas.List.FromFn.{get_or-map-range_with_len}
use Rattle.map_rows.specs.declared.rows.MapRow.{MapRow}
use Rattle.map_rows.specs.declared.shares.Divisor.{Divisor}
use Rattle.map_rows.specs.Maps.{MapParts, IsSoundMap, IsSoundRow, total, measure_of, target_of, rows_of, HasMeasure}
use Rattle.map_rows.specs.Targets.{groups_of}
use Rattle.map_rows.proofs.Groups.{count_next, count_most, length-groups_of}
use Rattle.map_rows.proofs.Bounds.{target_area, target_covered}
use Rattle.apply_map.specs.Values.{HasValue, carried}
use Rattle.map_rows.specs.Application.{area_at, divided, share_at}
use Rattle.apply_map.specs.Ready.{area_of, areas_of, AreTargetsOf}
use Rattle.map_rows.proofs.FaceSums.{length-sums_of}

pub size_of_areas : (m : MapParts) → IsSoundMap m → length m.area_b ≡ m.n_b
size_of_areas m s = ap (length {A = ℤ}) s.target_areas ∙ length-sums_of target_of measure_of m.n_b m.rows

area_read : (m : MapParts) (j : ℕ) → get_or m.area_b j (pos 0) ≡ area_at m.area_b (1 + j)
area_read m j = let e : j ≡ 1 + j - 1 = omega arith in ap (λ (k : ℕ). get_or m.area_b k (pos 0)) e

-- the rows of the target at place j, and its area
pub record AreRowsOf (m : MapParts) (values : List ℤ) (slice first j : ℕ) (rows : List MapRow) (area : ℤ) : Type 0 where
  pub are : rows ≡ rows_of target_of m.rows (1 + j)
  pub count : length rows ≤ 8388608
  pub measures : All HasMeasure rows
  pub read : All (HasValue values first) rows
  pub sum : area ≡ total (map measure_of rows)
  pub covered : pos 1 ≤ℤ area
  pub share : divided (total (map (carried values first) rows)) area ≡ share_at m values slice (1 + j)

one_slice_more : (slice n : ℕ) → (slice + 1) * n ≡ slice * n + n
one_slice_more slice n = grind arith

has_value : (m : MapParts) (values : List ℤ) (slice first : ℕ) (r : MapRow) → (slice + 1) * m.n_a ≤ length values → first ≡ slice * m.n_a → IsSoundRow m.n_a m.n_b r → HasValue values first r
has_value m values slice first r c e s = (s.source.0, omega (arith, s.source.0, s.source.1, c, e, one_slice_more slice m.n_a))

pub rows_at : (m : MapParts) (values : List ℤ) (slice first j : ℕ) (rows : List MapRow) (area : ℤ) → IsSoundMap m → (slice + 1) * m.n_a ≤ length values → first ≡ slice * m.n_a → j < m.n_b
    → rows ≡ get_or (groups_of m.n_b m.rows) j [] → area ≡ get_or m.area_b j (pos 0) → AreRowsOf m values slice first j rows area
unfolding groups_of
rows_at m values slice first j rows got s c e l is a =
    let mine = rows_of target_of m.rows (1 + j) in
    let same : mine ≡ rows = sym (is ∙ get_or-map-range_with_len (rows_of target_of m.rows) 1 m.n_b j (1 + j) [] l refl) in
    let area : area_at m.area_b (1 + j) ≡ got = sym (a ∙ area_read m j) in
    let sound = All-filter (λ (r : MapRow). eqb r.row (1 + j)) (IsSoundRow m.n_a m.n_b) m.rows s.rows in
    let first_j : 1 ≤ 1 + j = omega arith in
    let last_j : 1 + j ≤ m.n_b = omega (arith, l) in
    let total_is : area_at m.area_b (1 + j) ≡ total (map measure_of mine) = target_area m (1 + j) s first_j last_j in
    subst (λ (xs : List MapRow). AreRowsOf m values slice first j xs got) same
    (subst (λ (x : ℤ). AreRowsOf m values slice first j mine x) area
    (record {
      are = refl;
      count = omega (arith, s.count, count_next m.rows (1 + j), count_most m.rows (1 + j + 1));
      measures = All-weaker (IsSoundRow m.n_a m.n_b) HasMeasure (λ r q. (q.least, q.greatest)) mine sound;
      read = All-weaker (IsSoundRow m.n_a m.n_b) (HasValue values first) (λ r q. has_value m values slice first r c e q) mine sound;
      sum = total_is;
      covered = target_covered m (1 + j) s first_j last_j;
      share = ap (λ (f : ℕ). divided (total (map (carried values f) mine)) (area_at m.area_b (1 + j))) e;
    }))

-- A map made ready.

-- one divisor more
pub divisor_more : (areas : List ℤ) (k : ℕ) (divisors : List Divisor) (d : Divisor) → k < length areas → areas_of divisors ≡ take k areas → d.area ≡ get_or areas k (pos 0) → areas_of (divisors ++ d ∷ []) ≡ take (k + 1) areas
divisor_more areas k divisors d l before is =
    map-append area_of divisors (d ∷ []) ∙ ap₂ (λ (xs : List ℤ) (x : ℤ). xs ++ x ∷ []) before is ∙ sym (take_more areas k (pos 0) l)

-- how many targets there are
pub groups_size : (m : MapParts) (groups : List (List MapRow)) (divisors : List Divisor) → AreTargetsOf m groups divisors → length groups ≡ m.n_b
groups_size m groups divisors t = ap (length {A = List MapRow}) t.groups_are ∙ length-groups_of m.n_b m.rows

pub divisors_size : (m : MapParts) (groups : List (List MapRow)) (divisors : List Divisor) → AreTargetsOf m groups divisors → length divisors ≡ m.n_b
divisors_size m groups divisors t = sym (length-map divisors area_of) ∙ ap (length {A = ℤ}) t.areas_are ∙ size_of_areas m t.sound

-- what the target at place j has
pub target_ready : (m : MapParts) (values : List ℤ) (slice first j : ℕ) (groups : List (List MapRow)) (divisors : List Divisor) (rows : List MapRow) (d e : Divisor) → AreTargetsOf m groups divisors → (slice + 1) * m.n_a ≤ length values
    → first ≡ slice * m.n_a → j < m.n_b → rows ≡ get_or groups (j + 1 - 1) [] → d ≡ get_or divisors j e → AreRowsOf m values slice first j rows d.area
target_ready m values slice first j groups divisors rows d e t c f l is at =
    let place : j + 1 - 1 ≡ j = omega arith in
    let mine = is ∙ ap (λ (k : ℕ). get_or groups k []) place ∙ ap (λ (all : List (List MapRow)). get_or all j []) t.groups_are in
    let below : j < length divisors = omega (arith, l, divisors_size m groups divisors t) in
    let area = ap area_of at ∙ sym (get_or-map area_of divisors j e (pos 0) below) ∙ ap (λ (xs : List ℤ). get_or xs j (pos 0)) t.areas_are in
    rows_at m values slice first j rows d.area t.sound c f l mine area

-- what holds of two lists holds of their equals
pub of_equals : (P : List ℤ → List ℤ → Type 0) (a b c d : List ℤ) → a ≡ b → c ≡ d → P b d → P a c
of_equals P a b c d e f h = subst (λ (xs : List ℤ). P xs c) (sym e) (subst (λ (ys : List ℤ). P b ys) (sym f) h)
