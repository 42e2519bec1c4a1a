-- A step of the sum over the rows of a target.
use Rattle.std.proofs.Common.{◌++◌, ◌≡◌, ℕ, ◌+◌, ◌-◌, ◌*◌, ◌<◌, ◌≤◌, ℤ, pos, negsuc, ◌+ℤ◌, ◌*ℤ◌, ◌≤ℤ◌, ◌<ℤ◌, List, [], ◌∷◌, length, map, get_or, take, unsigned_abs, ap, ap₂, subst, sym, ◌∙◌, refl, arith}
use Rattle.std.specs.List.{All}
use Rattle.std.proofs.lemmas.Int.{ints}
use Rattle.std.proofs.lemmas.List.{take_more, map-append, length-take}
use Rattle.std.proofs.lemmas.List.Elements.{All-head, All-tail}
use borrow.Author.Differences.{product_is}
use mir.Syntax.{w32, w64}
use mir.Val.{to_z, of_z}
use Rattle.map_rows.specs.declared.rows.MapRow.{MapRow}
use Rattle.map_rows.specs.Maps.{total, measure_of, HasMeasure}
use Rattle.map_rows.proofs.Products.{sum_times, times_order, zero_times}
use Rattle.apply_map.specs.Values.{IsInt32, carried}
use Rattle.apply_map.proofs.MassSteps.{total-push}

-- what rows come to, and how large it may be
pub record SumOf (x : MapRow → ℤ) (rows : List MapRow) (sum : ℤ) : Type 0 where
  pub value : sum ≡ total (map x rows)
  pub least : (total (map measure_of rows) *ℤ negsuc 2147483647) ≤ℤ sum
  pub greatest : sum ≤ℤ (total (map measure_of rows) *ℤ pos 2147483647)

pub no_sum : (x : MapRow → ℤ) → SumOf x [] (pos 0)
unfolding total
no_sum x = record { value = refl; least = omega (arith, ints, zero_times (negsuc 2147483647)); greatest = omega (arith, ints, zero_times (pos 2147483647)) }

pub total_push : (f : MapRow → ℤ) (rows : List MapRow) (r : MapRow) → total (map f (rows ++ r ∷ [])) ≡ total (map f rows) +ℤ f r
total_push f rows r = ap total (map-append f rows (r ∷ [])) ∙ total-push (map f rows) (f r)

pub sum_push : (x : MapRow → ℤ) (rows : List MapRow) (r : MapRow) (sum part new v : ℤ) → HasMeasure r → SumOf x rows sum → new ≡ sum +ℤ part → part ≡ x r → part ≡ r.s *ℤ v → IsInt32 v
    → SumOf x (rows ++ r ∷ []) new
sum_push x rows r sum part new v h s step is product fits =
    let all = total_push measure_of rows r in
    let low = times_order r.s (negsuc 2147483647) v (omega (arith, ints, h.0)) fits.0 in
    let high = times_order r.s v (pos 2147483647) (omega (arith, ints, h.0)) fits.1 in
    record {
      value = step ∙ ap₂ ◌+ℤ◌ s.value is ∙ sym (total_push x rows r);
      least = subst (λ (t : ℤ). (t *ℤ negsuc 2147483647) ≤ℤ new) (sym all) (omega (arith, ints, step, s.least, product, low, sum_times (total (map measure_of rows)) r.s (negsuc 2147483647)));
      greatest = subst (λ (t : ℤ). new ≤ℤ (t *ℤ pos 2147483647)) (sym all) (omega (arith, ints, step, s.greatest, product, high, sum_times (total (map measure_of rows)) r.s (pos 2147483647)));
    }

pub sum_more : (x : MapRow → ℤ) (rows : List MapRow) (k : ℕ) (d : MapRow) (sum part new v : ℤ) → k < length rows → HasMeasure (get_or rows k d) → SumOf x (take k rows) sum → new ≡ sum +ℤ part
    → part ≡ x (get_or rows k d) → part ≡ (get_or rows k d).s *ℤ v → IsInt32 v → SumOf x (take (k + 1) rows) new
sum_more x rows k d sum part new v l h s step is product fits =
    subst (λ (xs : List MapRow). SumOf x xs new) (sym (take_more rows k d l)) (sum_push x (take k rows) (get_or rows k d) sum part new v h s step is product fits)

-- the measures of rows
pub measures_most : (rows : List MapRow) → All HasMeasure rows → (pos 0 ≤ℤ total (map measure_of rows)) × (total (map measure_of rows) ≤ℤ pos (1099511627775 * length rows))
unfolding total
measures_most [] h = (omega (arith, ints), omega (arith, ints))
measures_most (r ∷ rows) h =
    let here = All-head HasMeasure r rows h in
    let rest = measures_most rows (All-tail HasMeasure r rows h) in
    (omega (arith, ints, here.0, rest.0), omega (arith, ints, here.1, rest.1))

size_by : (t sum : ℤ) → pos 0 ≤ℤ t → t <ℤ pos 9223372036854775808 → (t *ℤ negsuc 2147483647) ≤ℤ sum → sum ≤ℤ (t *ℤ pos 2147483647) → unsigned_abs sum ≤ 19807040628566084398385987584
size_by t sum p q low high = omega (arith, ints, p, q, low, high, product_is t (negsuc 2147483647), product_is t (pos 2147483647))

pub few_taken : (k : ℕ) (rows : List MapRow) → length rows ≤ 8388608 → length (take k rows) ≤ 8388608
few_taken k rows few = omega (arith, few, length-take k rows)

pub sum_size : (x : MapRow → ℤ) (rows : List MapRow) (sum : ℤ) → length rows ≤ 8388608 → All HasMeasure rows → SumOf x rows sum → unsigned_abs sum ≤ 19807040628566084398385987584
sum_size x rows sum few h s =
    let t = measures_most rows h in
    size_by (total (map measure_of rows)) sum t.0 (omega (arith, ints, t.1, few)) s.least s.greatest

-- measure times value, as it was read
pub carried_read : (values : List ℤ) (first p : ℕ) (r : MapRow) (part : ℤ) → HasMeasure r → IsInt32 (get_or values p (pos 0)) → p ≡ first + (r.col - 1)
    → part ≡ to_z w64 (of_z w64 r.s) *ℤ to_z w32 (of_z w32 (get_or values p (pos 0))) → (part ≡ carried values first r) × (part ≡ r.s *ℤ get_or values p (pos 0))
carried_read values first p r part h fits place is =
    let measure : to_z w64 (of_z w64 r.s) ≡ r.s = omega (arith, ints, h.0, h.1) in
    let value : to_z w32 (of_z w32 (get_or values p (pos 0))) ≡ get_or values p (pos 0) = omega (arith, ints, fits.0, fits.1) in
    let e : part ≡ r.s *ℤ get_or values p (pos 0) = is ∙ ap₂ ◌*ℤ◌ measure value in
    (e ∙ ap (λ (q : ℕ). r.s *ℤ get_or values q (pos 0)) place, e)
