-- A step of the sums over the present rows of a target.
use Rattle.std.proofs.Common.{◌≡◌, ℕ, ◌+◌, ◌-◌, ◌*◌, ◌<◌, ◌≤◌, ℤ, pos, ◌+ℤ◌, ◌*ℤ◌, ◌≤ℤ◌, Bool, true, false, not, cond, List, [], ◌∷◌, ◌++◌, length, map, get_or, take, unsigned_abs, ap, subst, sym, ◌∙◌, refl, arith, Option, inl, inr, ◌⊎◌}
use Rattle.std.specs.List.{All, filter}
use Rattle.std.proofs.lemmas.Int.{ints}
use Rattle.std.proofs.lemmas.List.{take_more, append-nil, length-take}
use Rattle.std.proofs.lemmas.List.Elements.{filter-append, All-filter, All-take}
use mir.Syntax.{w32, w64}
use mir.Val.{to_z, of_z}
use Rattle.map_rows.specs.declared.rows.MapRow.{MapRow}
use Rattle.map_rows.specs.Maps.{total, measure_of, HasMeasure}
use Rattle.apply_map.specs.Values.{IsInt32, carried}
use Rattle.apply_map.proofs.SumSteps.{SumOf, no_sum, sum_push, total_push, measures_most, sum_size}
use Rattle.field_mask.specs.Masked.{is_absent}
use Rattle.field_mask.specs.Present.{is_present_at}

pub kept64 : (s : ℤ) → (pos 1 ≤ℤ s) × (s ≤ℤ pos 1099511627775) → to_z w64 (of_z w64 s) ≡ s
kept64 s h = omega (arith, ints, h.0, h.1)

pub kept32 : (x : ℤ) → IsInt32 x → to_z w32 (of_z w32 x) ≡ x
kept32 x h = omega (arith, ints, h.0, h.1)

-- what present rows come to
pub record PresentOf (x : MapRow → ℤ) (rows : List MapRow) (part sum : ℤ) : Type 0 where
  pub measure : part ≡ total (map measure_of rows)
  pub products : SumOf x rows sum

pub no_present : (x : MapRow → ℤ) → PresentOf x [] (pos 0) (pos 0)
unfolding total
no_present x = record { measure = refl; products = no_sum x }

-- the present ones of the first k rows, and of one more
abbrev pub present_among : Option ℤ → List ℤ → ℕ → List MapRow → List MapRow
present_among fill values first rows = filter (is_present_at fill values first) rows

one_more : (fill : Option ℤ) (values : List ℤ) (first : ℕ) (rows : List MapRow) (k : ℕ) (d : MapRow) (b : Bool) → k < length rows → is_present_at fill values first (get_or rows k d) ≡ b
    → present_among fill values first (take (k + 1) rows) ≡ present_among fill values first (take k rows) ++ cond b (get_or rows k d ∷ []) []
one_more fill values first rows k d b l e =
    ap (present_among fill values first) (take_more rows k d l) ∙ filter-append (is_present_at fill values first) (take k rows) (get_or rows k d ∷ [])
    ∙ ap (λ (t : Bool). present_among fill values first (take k rows) ++ cond t (get_or rows k d ∷ []) []) e

pub row_absent : (fill : Option ℤ) (values : List ℤ) (first : ℕ) (rows : List MapRow) (k : ℕ) (d : MapRow) (part sum : ℤ) → k < length rows
    → is_absent fill (get_or values (first + ((get_or rows k d).col - 1)) (pos 0)) ≡ true → PresentOf (carried values first) (present_among fill values first (take k rows)) part sum
    → PresentOf (carried values first) (present_among fill values first (take (k + 1) rows)) part sum
row_absent fill values first rows k d part sum l absent h =
    let same = one_more fill values first rows k d false l (ap not absent) ∙ append-nil (present_among fill values first (take k rows)) in
    subst (λ (xs : List MapRow). PresentOf (carried values first) xs part sum) (sym same) h

pub row_present : (fill : Option ℤ) (values : List ℤ) (first : ℕ) (rows : List MapRow) (k : ℕ) (d : MapRow) (part sum new_part new_sum : ℤ) → k < length rows → HasMeasure (get_or rows k d)
    → IsInt32 (get_or values (first + ((get_or rows k d).col - 1)) (pos 0)) → is_absent fill (get_or values (first + ((get_or rows k d).col - 1)) (pos 0)) ≡ false
    → PresentOf (carried values first) (present_among fill values first (take k rows)) part sum → new_part ≡ part +ℤ (get_or rows k d).s
    → new_sum ≡ sum +ℤ ((get_or rows k d).s *ℤ get_or values (first + ((get_or rows k d).col - 1)) (pos 0))
    → PresentOf (carried values first) (present_among fill values first (take (k + 1) rows)) new_part new_sum
row_present fill values first rows k d part sum new_part new_sum l measure fits present h step step_sum =
    let r = get_or rows k d in
    let xs = present_among fill values first (take k rows) in
    let v = get_or values (first + (r.col - 1)) (pos 0) in
    subst (λ (ys : List MapRow). PresentOf (carried values first) ys new_part new_sum) (sym (one_more fill values first rows k d true l (ap not present)))
    (record {
      measure = step ∙ ap (λ (y : ℤ). y +ℤ r.s) h.measure ∙ sym (total_push measure_of xs r);
      products = sum_push (carried values first) xs r sum (r.s *ℤ v) new_sum v measure h.products step_sum refl refl fits;
    })

true_or_false : (b : Bool) → (b ≡ true) ⊎ (b ≡ false)
true_or_false true = inl refl
true_or_false false = inr refl

-- one row more, by what a step ensures
pub present_next : (fill : Option ℤ) (values : List ℤ) (first : ℕ) (rows : List MapRow) (k : ℕ) (d : MapRow) (part sum new_part new_sum : ℤ) → k < length rows → HasMeasure (get_or rows k d)
    → IsInt32 (get_or values (first + ((get_or rows k d).col - 1)) (pos 0)) → PresentOf (carried values first) (present_among fill values first (take k rows)) part sum
    → (is_absent fill (get_or values (first + ((get_or rows k d).col - 1)) (pos 0)) ≡ true → (new_part ≡ part) × (new_sum ≡ sum))
    → (is_absent fill (get_or values (first + ((get_or rows k d).col - 1)) (pos 0)) ≡ false
    → (new_part ≡ part +ℤ (get_or rows k d).s) × (new_sum ≡ sum +ℤ ((get_or rows k d).s *ℤ get_or values (first + ((get_or rows k d).col - 1)) (pos 0))))
    → PresentOf (carried values first) (present_among fill values first (take (k + 1) rows)) new_part new_sum
present_next fill values first rows k d part sum new_part new_sum l measure fits h absent present =
    elim (true_or_false (is_absent fill (get_or values (first + ((get_or rows k d).col - 1)) (pos 0)))) [
      | inl e ↦
          let a = row_absent fill values first rows k d part sum l e h in
          let s = absent e in
          subst (λ (x : ℤ). PresentOf (carried values first) (present_among fill values first (take (k + 1) rows)) x new_sum) (sym s.0)
          (subst (λ (x : ℤ). PresentOf (carried values first) (present_among fill values first (take (k + 1) rows)) part x) (sym s.1) a)
      | inr e ↦ let s = present e in row_present fill values first rows k d part sum new_part new_sum l measure fits e h s.0 s.1
    ]

shorter : (p : MapRow → Bool) (rows : List MapRow) → length (filter p rows) ≤ length rows
shorter p [] = omega arith
shorter p (r ∷ rows) = elim (p r) as (λ b. length (cond b (r ∷ filter p rows) (filter p rows)) ≤ length (r ∷ rows)) [
  | true ↦ omega (arith, shorter p rows)
  | false ↦ omega (arith, shorter p rows)
]

-- how large both are
pub present_size : (fill : Option ℤ) (values : List ℤ) (first : ℕ) (rows : List MapRow) (k : ℕ) (part sum : ℤ) → length rows ≤ 8388608 → All HasMeasure rows
    → PresentOf (carried values first) (present_among fill values first (take k rows)) part sum
    → (pos 0 ≤ℤ part) × (part ≤ℤ pos (1099511627775 * k)) × (unsigned_abs sum ≤ 19807040628566084398385987584)
present_size fill values first rows k part sum few all h =
    let xs = present_among fill values first (take k rows) in
    let measures = All-filter (is_present_at fill values first) HasMeasure (take k rows) (All-take HasMeasure k rows all) in
    let size = measures_most xs measures in
    let least = shorter (is_present_at fill values first) (take k rows) in (
      omega (arith, ints, h.measure, size.0),
      omega (arith, ints, h.measure, size.1, least, length-take k rows),
      sum_size (carried values first) xs sum (omega (arith, least, length-take k rows, few)) measures h.products,
    )
