-- The masses, the constants and the bounds of what is present, and where nothing is absent.
use Rattle.std.proofs.Common.{◌≡◌, ℕ, zero, suc, ◌+◌, ◌-◌, ◌*◌, ◌<◌, ◌≤◌, inl, inr, ◌⊎◌, ℤ, pos, ◌+ℤ◌, ◌-ℤ◌, ◌*ℤ◌, ◌≤ℤ◌, Bool, true, false, not, cond, eqb, int_eq, List, [], ◌∷◌, ◌++◌, length, map, get_or, ap, ap₂, subst, sym, ◌∙◌, refl, arith, Option}
use Rattle.std.specs.List.{All, filter, range_with_len, flat_map}
use Rattle.std.specs.Bool.{Decides}
use Rattle.std.proofs.lemmas.Int.{ints}
use Rattle.std.proofs.lemmas.Bool.Decides.{Decides-int_eq}
use Rattle.std.proofs.lemmas.List.{length-map, get_or-map, map-append}
use Rattle.std.proofs.lemmas.List.Elements.{All-head, All-tail, All-weaker, All-filter}
use Rattle.std.proofs.lemmas.List.FromFn.{length-map-range_with_len, get_or-map-range_with_len}
use Rattle.vec_exact.proofs.Ranges.{length_even}
use Rattle.map_rows.specs.declared.rows.MapRow.{MapRow}
use Rattle.map_rows.specs.Maps.{MapParts, IsSoundMap, IsSoundRow, HasMeasure, total, measure_of, source_of, target_of, rows_of, sum_at}
use Rattle.map_rows.specs.Application.{value_at, area_at, product_of, divided, share_at, slice_of, application_of, whole_of, rest_of}
use Rattle.map_rows.specs.Laws.{IsPlace}
use Rattle.map_rows.proofs.Products.{times_zero, zero_times}
use Rattle.map_rows.proofs.FaceSums.{get_or-sums_of}
use Rattle.map_rows.proofs.Exchange.{exchange, measures, sources_among, targets_among}
use Rattle.map_rows.proofs.Masses.{sum_over_same, area_times, get_or-blocks, place_within}
use Rattle.map_rows.proofs.Bounds.{target_area, target_covered, sum_at_least, sum_at_most, of_rows, rest_within, whole_at_least, whole_at_most}
use Rattle.field_mask.specs.Masked.{is_absent, is_present, present_rows, fill_or_zero, MaskedShare, masked_share, masked_share_at, masked_slice_of, masked_application_of, masked_whole, masked_rest, masked_part, masked_field_of, present_mass_of, part_mass_of}
use Rattle.map_rows.specs.Places.{IsPut}
use Rattle.map_rows.proofs.Places.{all_put}
use Rattle.field_mask.specs.Present.{masked_number}
use Rattle.field_mask.specs.Laws.{EachPresentSource, present_sources, IsRestOf, IsMaskedFieldOf, KeepsPresentConstants, KeepsPresentBounds, IsPlainWithoutAbsent}
use Rattle.field_mask.proofs.MaskedSlices.{no_share}

-- ---- the share at a place
length-masked_slice_of : (m : MapParts) (fill : Option ℤ) (values : List ℤ) (slice : ℕ) → length (masked_slice_of m fill values slice) ≡ m.n_b
length-masked_slice_of m fill values slice = length-map-range_with_len (masked_share_at m fill values slice) 1 m.n_b

length-masked : (m : MapParts) (slices : ℕ) (fill : Option ℤ) (values : List ℤ) → length (masked_application_of m slices fill values) ≡ slices * m.n_b
unfolding masked_application_of
length-masked m slices fill values = length_even (masked_slice_of m fill values) m.n_b 0 slices (λ i l h. length-masked_slice_of m fill values i)

masked_at : (m : MapParts) (slices : ℕ) (fill : Option ℤ) (values : List ℤ) (slice j : ℕ) → slice < slices → 1 ≤ j → j ≤ m.n_b
    → get_or (masked_application_of m slices fill values) (slice * m.n_b + (j - 1)) no_share ≡ masked_share_at m fill values slice j
unfolding masked_application_of
masked_at m slices fill values slice j l p q =
    get_or-blocks (masked_slice_of m fill values) m.n_b 0 slices slice (j - 1) no_share (length-masked_slice_of m fill values) l (omega (arith, p, q))
    ∙ ap (λ (s : ℕ). get_or (masked_slice_of m fill values s) (j - 1) no_share) (let e : 0 + slice ≡ slice = omega arith in e)
    ∙ get_or-map-range_with_len (masked_share_at m fill values slice) 1 m.n_b (j - 1) j no_share (omega (arith, p, q)) (omega (arith, p))

share_in : (m : MapParts) (slices : ℕ) (fill : Option ℤ) (values : List ℤ) (slice j : ℕ) (f : MaskedShare → ℤ) → slice < slices → 1 ≤ j → j ≤ m.n_b
    → value_at (map f (masked_application_of m slices fill values)) m.n_b slice j ≡ f (masked_share_at m fill values slice j)
share_in m slices fill values slice j f l p q =
    get_or-map f (masked_application_of m slices fill values) (slice * m.n_b + (j - 1)) no_share (pos 0)
    (omega (arith, length-masked m slices fill values, place_within slices m.n_b slice (j - 1) l (omega (arith, p, q))))
    ∙ ap f (masked_at m slices fill values slice j l p q)

-- ---- a part that is 0, or not
test_by : {P : Type 0} (b : Bool) → Decides b P → P ⊎ (b ≡ false)
test_by true h = inl (h.0 refl)
test_by false h = inr refl

none_or_some : (part : ℤ) → (part ≡ pos 0) ⊎ (int_eq part (pos 0) ≡ false)
none_or_some part = test_by (int_eq part (pos 0)) (Decides-int_eq part (pos 0))

share_of_none : (fill : Option ℤ) (sum part : ℤ) → part ≡ pos 0 → masked_share fill sum part ≡ record { whole = fill_or_zero fill; rest = pos 0; part = pos 0 }
share_of_none fill sum part e =
    ap (λ (b : Bool). cond b (record { whole = fill_or_zero fill; rest = pos 0; part = pos 0 }) (record { whole = (divided sum part).whole; rest = (divided sum part).rest; part = part }))
    ((Decides-int_eq part (pos 0)).1 e)

share_of_some : (fill : Option ℤ) (sum part : ℤ) → int_eq part (pos 0) ≡ false → masked_share fill sum part ≡ record { whole = (divided sum part).whole; rest = (divided sum part).rest; part = part }
share_of_some fill sum part e =
    ap (λ (b : Bool). cond b (record { whole = fill_or_zero fill; rest = pos 0; part = pos 0 }) (record { whole = (divided sum part).whole; rest = (divided sum part).rest; part = part })) e

zero_share : (x : ℤ) → (pos 0 *ℤ x) +ℤ pos 0 ≡ pos 0
zero_share x = omega (arith, ints, zero_times x)

whole_and_rest : (a q n : ℤ) → (a *ℤ q) +ℤ (n -ℤ (a *ℤ q)) ≡ n
whole_and_rest a q n = omega (arith, ints)

zero_is : (part : ℤ) → part ≡ pos 0 → int_eq part (pos 0) ≡ false → ⊥
zero_is part e f = let t = (Decides-int_eq part (pos 0)).1 e in cc

at_least_one : (part : ℤ) → pos 0 ≤ℤ part → (part ≡ pos 0 → ⊥) → pos 1 ≤ℤ part
at_least_one part p n = omega (arith, ints, p, n)

above_zero : (part : ℤ) → pos 0 ≤ℤ part → int_eq part (pos 0) ≡ false → pos 1 ≤ℤ part
above_zero part p e = at_least_one part p (λ z. zero_is part z e)

-- ---- the measures of rows
measures_least : (rows : List MapRow) → All HasMeasure rows → (pos 0 ≤ℤ total (map measure_of rows)) × (1 ≤ length rows → pos 1 ≤ℤ total (map measure_of rows))
unfolding total
measures_least [] h = (omega (arith, ints), λ l. absurd (omega (arith, l)))
measures_least (r ∷ rows) h =
    let here = All-head HasMeasure r rows h in
    let rest = measures_least rows (All-tail HasMeasure r rows h) in
    (omega (arith, ints, here.0, rest.0), λ l. omega (arith, ints, here.0, rest.0))

nothing : (x : MapRow → ℤ) (rows : List MapRow) → All HasMeasure rows → total (map measure_of rows) ≡ pos 0 → total (map x rows) ≡ pos 0
unfolding total
nothing x [] h e = refl
nothing x (r ∷ rows) h e =
    absurd (omega (arith, ints, e, (All-head HasMeasure r rows h).0, (measures_least rows (All-tail HasMeasure r rows h)).0))

part_of_sum : (b : Bool) (r : MapRow) (f : MapRow → ℤ) (rows : List MapRow) → total (map f (cond b (r ∷ rows) rows)) ≡ cond b (f r) (pos 0) +ℤ total (map f rows)
unfolding total
part_of_sum true r f rows = refl
part_of_sum false r f rows = omega (arith, ints)

some_measure : (b : Bool) (s : ℤ) → pos 1 ≤ℤ s → cond b s (pos 0) ≤ℤ s
some_measure true s h = omega (arith, ints)
some_measure false s h = omega (arith, ints, h)

fewer : (p : MapRow → Bool) (rows : List MapRow) → All HasMeasure rows → total (map measure_of (filter p rows)) ≤ℤ total (map measure_of rows)
unfolding total
fewer p [] h = omega (arith, ints)
fewer p (r ∷ rows) h =
    let here = All-head HasMeasure r rows h in
    omega (arith, ints, part_of_sum (p r) r measure_of (filter p rows), some_measure (p r) r.s here.0, fewer p rows (All-tail HasMeasure r rows h))

measures_of : (m : MapParts) (j : ℕ) → IsSoundMap m → All HasMeasure (rows_of target_of m.rows j)
measures_of m j s = All-filter (λ (r : MapRow). eqb r.row j) HasMeasure m.rows (measures m s)

present_measures : (m : MapParts) (fill : Option ℤ) (values : List ℤ) (slice j : ℕ) → IsSoundMap m → All HasMeasure (present_rows m fill values slice j)
present_measures m fill values slice j s = All-filter (is_present fill values m.n_a slice) HasMeasure (rows_of target_of m.rows j) (measures_of m j s)

-- ---- equal masses: an absent value counts as 0
value_or_zero : Option ℤ → ℤ → ℤ
value_or_zero fill x = cond (is_absent fill x) (pos 0) x

present_step : (b : Bool) (x : ℤ) (r : MapRow) (f : MapRow → ℤ) (rows : List MapRow) (rest : ℤ) → f r ≡ r.s *ℤ x → total (map f rows) ≡ rest
    → total (map f (cond (not b) (r ∷ rows) rows)) ≡ (r.s *ℤ cond b (pos 0) x) +ℤ rest
unfolding total
present_step true x r f rows rest e h = omega (arith, ints, h, times_zero r.s)
present_step false x r f rows rest e h = ap₂ ◌+ℤ◌ e h

present_total : (fill : Option ℤ) (values : List ℤ) (n slice : ℕ) (rows : List MapRow)
    → total (map (product_of values n slice) (filter (is_present fill values n slice) rows)) ≡ total (map (λ (r : MapRow). r.s *ℤ value_or_zero fill (value_at values n slice r.col)) rows)
unfolding total value_or_zero
present_total fill values n slice [] = refl
present_total fill values n slice (r ∷ rows) =
    present_step (is_absent fill (value_at values n slice r.col)) (value_at values n slice r.col) r (product_of values n slice) (filter (is_present fill values n slice) rows) _ refl
    (present_total fill values n slice rows)

absent_product : (b : Bool) (a x : ℤ) → cond b (pos 0) (a *ℤ x) ≡ a *ℤ cond b (pos 0) x
absent_product true a x = sym (times_zero a)
absent_product false a x = refl

share_total : (fill : Option ℤ) (sum part : ℤ) → (part ≡ pos 0 → sum ≡ pos 0) → ((masked_share fill sum part).part *ℤ (masked_share fill sum part).whole) +ℤ (masked_share fill sum part).rest ≡ sum
share_total fill sum part h =
    elim (none_or_some part) [
      | inl e ↦
          ap (λ (s : MaskedShare). (s.part *ℤ s.whole) +ℤ s.rest) (share_of_none fill sum part e) ∙ zero_share (fill_or_zero fill) ∙ sym (h e)
      | inr e ↦ ap (λ (s : MaskedShare). (s.part *ℤ s.whole) +ℤ s.rest) (share_of_some fill sum part e) ∙ whole_and_rest part (divided sum part).whole sum
    ]

pub masked_masses : (m : MapParts) (slices : ℕ) (fill : Option ℤ) (values : List ℤ) → IsSoundMap m → part_mass_of m slices (masked_field_of (masked_application_of m slices fill values)) ≡ present_mass_of m slices fill values
unfolding part_mass_of present_mass_of value_or_zero
masked_masses m slices fill values s =
    let field = masked_field_of (masked_application_of m slices fill values) in
    sum_over_same 0 slices _ _
    (λ slice l h.
    let here : slice < slices = omega (arith, h) in
    let y : ℕ → ℤ = λ i. value_or_zero fill (value_at values m.n_a slice i) in
    let f : MapRow → ℤ = λ r. r.s *ℤ y r.col in
    sum_over_same 1 m.n_b _ (sum_at target_of f m.rows)
    (λ j p q.
    let last : j ≤ m.n_b = omega (arith, q) in
    let share = masked_share_at m fill values slice j in
    ap (λ (x : ℤ). (x *ℤ value_at field.whole m.n_b slice j) +ℤ value_at field.rest m.n_b slice j) (share_in m slices fill values slice j masked_part here p last)
    ∙ ap₂ (λ (x z : ℤ). (share.part *ℤ x) +ℤ z) (share_in m slices fill values slice j masked_whole here p last) (share_in m slices fill values slice j masked_rest here p last)
    ∙ share_total fill _ _ (nothing (product_of values m.n_a slice) (present_rows m fill values slice j) (present_measures m fill values slice j s))
    ∙ present_total fill values m.n_a slice (rows_of target_of m.rows j))
    ∙ exchange target_of f m.n_b m.rows (targets_among m s) ∙ sym (exchange source_of f m.n_a m.rows (sources_among m s))
    ∙ sum_over_same 1 m.n_a (sum_at source_of f m.rows) _
    (λ i p q.
    let area : area_at m.area_a i ≡ sum_at source_of measure_of m.rows i =
    ap (λ (areas : List ℤ). get_or areas (i - 1) (pos 0)) s.source_areas ∙ get_or-sums_of source_of measure_of m.n_a m.rows (i - 1) i (pos 0) (omega (arith, p, q)) (omega (arith, p))
    in
    sym (area_times source_of y m.rows i) ∙ ap (λ (a : ℤ). a *ℤ y i) (sym area)
    ∙ sym (absent_product (is_absent fill (value_at values m.n_a slice i)) (area_at m.area_a i) (value_at values m.n_a slice i))))

-- ---- bounds and constants
record IsShare (sum part : ℤ) (share : MaskedShare) : Type 0 where
  whole : share.whole ≡ (divided sum part).whole
  rest : share.rest ≡ (divided sum part).rest
  part_is : share.part ≡ part

is_share : (fill : Option ℤ) (sum part : ℤ) → pos 1 ≤ℤ part → IsShare sum part (masked_share fill sum part)
is_share fill sum part one =
    elim (none_or_some part) [
      | inl e ↦ absurd (omega (arith, ints, one, e))
      | inr e ↦ let same = share_of_some fill sum part e in record { whole = ap masked_whole same; rest = ap masked_rest same; part_is = ap masked_part same }
    ]

part_above : (fill : Option ℤ) (sum part : ℤ) → pos 1 ≤ℤ (masked_share fill sum part).part → pos 1 ≤ℤ part
part_above fill sum part h =
    elim (none_or_some part) [
      | inl e ↦ absurd (omega (arith, ints, h, ap masked_part (share_of_none fill sum part e)))
      | inr e ↦ subst (λ (x : ℤ). pos 1 ≤ℤ x) (ap masked_part (share_of_some fill sum part e)) h
    ]

-- the sum and the part of target j
abbrev sum_of : MapParts → Option ℤ → List ℤ → ℕ → ℕ → ℤ
sum_of m fill values slice j = total (map (product_of values m.n_a slice) (present_rows m fill values slice j))

abbrev part_of : MapParts → Option ℤ → List ℤ → ℕ → ℕ → ℤ
part_of m fill values slice j = total (map measure_of (present_rows m fill values slice j))

sum_least : (m : MapParts) (fill : Option ℤ) (values : List ℤ) (slice j : ℕ) (least : ℤ) → IsSoundMap m → EachPresentSource m fill values slice j (λ (x : ℤ). least ≤ℤ x)
    → (part_of m fill values slice j *ℤ least) ≤ℤ sum_of m fill values slice j
sum_least m fill values slice j least s k =
    sum_at_least (λ (r : MapRow). value_at values m.n_a slice r.col) least (present_rows m fill values slice j) (present_measures m fill values slice j s)
    (of_rows (λ (i : ℕ). least ≤ℤ value_at values m.n_a slice i) source_of (present_rows m fill values slice j) k)

sum_greatest : (m : MapParts) (fill : Option ℤ) (values : List ℤ) (slice j : ℕ) (greatest : ℤ) → IsSoundMap m → EachPresentSource m fill values slice j (λ (x : ℤ). x ≤ℤ greatest)
    → sum_of m fill values slice j ≤ℤ (part_of m fill values slice j *ℤ greatest)
sum_greatest m fill values slice j greatest s k =
    sum_at_most (λ (r : MapRow). value_at values m.n_a slice r.col) greatest (present_rows m fill values slice j) (present_measures m fill values slice j s)
    (of_rows (λ (i : ℕ). value_at values m.n_a slice i ≤ℤ greatest) source_of (present_rows m fill values slice j) k)

pub masked_bounds : (m : MapParts) (slices : ℕ) (fill : Option ℤ) (values : List ℤ) → IsSoundMap m → KeepsPresentBounds m slices fill values (masked_field_of (masked_application_of m slices fill values))
masked_bounds m slices fill values s slice j least greatest p some low high =
    let whole = share_in m slices fill values slice j masked_whole p.0 p.1 p.2 in
    let rest = share_in m slices fill values slice j masked_rest p.0 p.1 p.2 in
    let part = share_in m slices fill values slice j masked_part p.0 p.1 p.2 in
    let n = sum_of m fill values slice j in
    let a = part_of m fill values slice j in
    let one = part_above fill n a (subst (λ (x : ℤ). pos 1 ≤ℤ x) part some) in
    let is = is_share fill n a one in
    let whole_is = whole ∙ is.whole in
    let rest_is = rest ∙ is.rest in
    let part_is = part ∙ is.part_is in (
      subst (λ (x : ℤ). least ≤ℤ x) (sym whole_is) (whole_at_least n a least one (sum_least m fill values slice j least s low)),
      subst (λ (x : ℤ). ((x *ℤ value_at (masked_field_of (masked_application_of m slices fill values)).whole m.n_b slice j) +ℤ value_at (masked_field_of (masked_application_of m slices fill values)).rest m.n_b slice j) ≤ℤ (x *ℤ greatest))
          (sym part_is)
          (subst (λ (x : ℤ). x ≤ℤ (a *ℤ greatest)) (sym (ap₂ (λ (w r : ℤ). (a *ℤ w) +ℤ r) whole_is rest_is ∙ whole_and_rest a (divided n a).whole n)) (sum_greatest m fill values slice j greatest s high)),
    )

same_order : (x y : ℤ) → x ≤ℤ y → y ≤ℤ x → x ≡ y
same_order x y p q = omega (arith, ints, p, q)

constant_rest : (n a c q : ℤ) → n ≡ a *ℤ c → q ≡ c → n -ℤ (a *ℤ q) ≡ pos 0
constant_rest n a c q e f = ap (λ (x : ℤ). n -ℤ (a *ℤ x)) f ∙ omega (arith, ints, e)

pub masked_constants : (m : MapParts) (slices : ℕ) (fill : Option ℤ) (values : List ℤ) → IsSoundMap m → KeepsPresentConstants m slices fill values (masked_field_of (masked_application_of m slices fill values))
masked_constants m slices fill values s slice j c p some k =
    let rows = present_rows m fill values slice j in
    let n = sum_of m fill values slice j in
    let a = part_of m fill values slice j in
    let one = (measures_least rows (present_measures m fill values slice j s)).1 (omega (arith, some, length-map rows source_of)) in
    let is = is_share fill n a one in
    let sources = present_sources m fill values slice j in
    let low = sum_least m fill values slice j c s (All-weaker (λ (i : ℕ). value_at values m.n_a slice i ≡ c) (λ (i : ℕ). c ≤ℤ value_at values m.n_a slice i) (λ i e. omega (arith, ints, e)) sources k) in
    let high = sum_greatest m fill values slice j c s (All-weaker (λ (i : ℕ). value_at values m.n_a slice i ≡ c) (λ (i : ℕ). value_at values m.n_a slice i ≤ℤ c) (λ i e. omega (arith, ints, e)) sources k) in
    let same : (divided n a).whole ≡ c = same_order (divided n a).whole c (whole_at_most n a c one high) (whole_at_least n a c one low) in (
      share_in m slices fill values slice j masked_whole p.0 p.1 p.2 ∙ is.whole ∙ same,
      share_in m slices fill values slice j masked_rest p.0 p.1 p.2 ∙ is.rest ∙ constant_rest n a c (divided n a).whole (same_order n (a *ℤ c) high low) same,
    )

-- ---- parts and rests
rest_of_share : (fill : Option ℤ) (sum part : ℤ) → pos 0 ≤ℤ part → IsRestOf (masked_share fill sum part).part (masked_share fill sum part).rest
rest_of_share fill sum part nonneg =
    elim (none_or_some part) [
      | inl e ↦
          let same = share_of_none fill sum part e in
          subst (λ (s : MaskedShare). IsRestOf s.part s.rest) (sym same) (record { none = λ z. refl; some = λ n. absurd (n refl) })
      | inr e ↦
          let same = share_of_some fill sum part e in
          let one : pos 1 ≤ℤ part = above_zero part nonneg e in
          let within = rest_within sum part one in
          subst (λ (s : MaskedShare). IsRestOf s.part s.rest) (sym same) (record { none = λ z. absurd (omega (arith, ints, one, z)); some = λ n. within })
    ]

part_is_kept : (fill : Option ℤ) (sum part : ℤ) → (masked_share fill sum part).part ≡ part
part_is_kept fill sum part =
    elim (none_or_some part) [
      | inl e ↦ ap masked_part (share_of_none fill sum part e) ∙ sym e
      | inr e ↦ ap masked_part (share_of_some fill sum part e)
    ]

pub masked_parts : (m : MapParts) (slices : ℕ) (fill : Option ℤ) (values : List ℤ) → IsSoundMap m → IsMaskedFieldOf m slices (masked_field_of (masked_application_of m slices fill values))
masked_parts m slices fill values s =
    let shares = masked_application_of m slices fill values in
    let size = length-masked m slices fill values in
    record {
      whole_count = length-map shares masked_whole ∙ size;
      rest_count = length-map shares masked_rest ∙ size;
      part_count = length-map shares masked_part ∙ size;
      parts = λ slice j p.
          let a = part_of m fill values slice j in
          let is = share_in m slices fill values slice j masked_part p.0 p.1 p.2 ∙ part_is_kept fill (sum_of m fill values slice j) a in
          let least = (measures_least (present_rows m fill values slice j) (present_measures m fill values slice j s)).0 in
          let most = fewer (is_present fill values m.n_a slice) (rows_of target_of m.rows j) (measures_of m j s) in
          let area = target_area m j s p.1 p.2 in
          (subst (λ (x : ℤ). pos 0 ≤ℤ x) (sym is) least, subst (λ (x : ℤ). x ≤ℤ area_at m.area_b j) (sym is) (subst (λ (x : ℤ). a ≤ℤ x) (sym area) most));
      rests = λ slice j p.
          let part = share_in m slices fill values slice j masked_part p.0 p.1 p.2 in
          let rest = share_in m slices fill values slice j masked_rest p.0 p.1 p.2 in
          let least = (measures_least (present_rows m fill values slice j) (present_measures m fill values slice j s)).0 in
          subst (λ (x : ℤ). IsRestOf x (value_at (map masked_rest shares) m.n_b slice j)) (sym part)
          (subst (IsRestOf (masked_share_at m fill values slice j).part) (sym rest) (rest_of_share fill (sum_of m fill values slice j) (part_of m fill values slice j) least));
    }

-- ---- where nothing is absent
all_kept : (p : MapRow → Bool) (rows : List MapRow) → All (λ (r : MapRow). p r ≡ true) rows → filter p rows ≡ rows
all_kept p [] h = refl
all_kept p (r ∷ rows) h =
    ap (λ (b : Bool). cond b (r ∷ filter p rows) (filter p rows)) (All-head (λ (q : MapRow). p q ≡ true) r rows h)
    ∙ ap (λ (xs : List MapRow). r ∷ xs) (all_kept p rows (All-tail (λ (q : MapRow). p q ≡ true) r rows h))

all_present : (m : MapParts) (slices : ℕ) (fill : Option ℤ) (values : List ℤ) (slice j : ℕ) → IsSoundMap m → length values ≡ slices * m.n_a → All (λ (x : ℤ). is_absent fill x ≡ false) values → slice < slices
    → present_rows m fill values slice j ≡ rows_of target_of m.rows j
all_present m slices fill values slice j s count h l =
    let mine = rows_of target_of m.rows j in
    let sound = All-filter (λ (r : MapRow). eqb r.row j) (IsSoundRow m.n_a m.n_b) m.rows s.rows in
    all_kept (is_present fill values m.n_a slice) mine
    (All-weaker (IsSoundRow m.n_a m.n_b) (λ (r : MapRow). is_present fill values m.n_a slice r ≡ true)
    (λ r q. ap not (h (slice * m.n_a + (r.col - 1)) (pos 0) (omega (arith, count, place_within slices m.n_a slice (r.col - 1) l (omega (arith, q.source.0, q.source.1))))))
    mine sound)

plain_share : (m : MapParts) (slices : ℕ) (fill : Option ℤ) (values : List ℤ) (slice j : ℕ) → IsSoundMap m → length values ≡ slices * m.n_a → All (λ (x : ℤ). is_absent fill x ≡ false) values → IsPlace m slices slice j
    → masked_share_at m fill values slice j ≡ record { whole = (share_at m values slice j).whole; rest = (share_at m values slice j).rest; part = area_at m.area_b j }
plain_share m slices fill values slice j s count h p =
    let rows = all_present m slices fill values slice j s count h p.0 in
    let area = target_area m j s p.1 p.2 in
    let n = total (map (product_of values m.n_a slice) (rows_of target_of m.rows j)) in
    let is = is_share fill n (area_at m.area_b j) (target_covered m j s p.1 p.2) in
    ap₂ (masked_share fill) (ap (λ (xs : List MapRow). total (map (product_of values m.n_a slice) xs)) rows) (ap (λ (xs : List MapRow). total (map measure_of xs)) rows ∙ sym area)
    ∙ (λ i. record { whole = is.whole i; rest = is.rest i; part = is.part_is i })

same_slice : {S T : Type 0} (u : S → ℤ) (v : T → ℤ) (f : ℕ → S) (g : ℕ → T) (first count : ℕ) → ((j : ℕ) → first ≤ j → j < first + count → u (f j) ≡ v (g j))
    → map u (map f (range_with_len first count)) ≡ map v (map g (range_with_len first count))
same_slice u v f g first zero h = refl
same_slice u v f g first (suc n) h =
    ap₂ (λ (x : ℤ) (xs : List ℤ). x ∷ xs) (h first (omega arith) (omega arith)) (same_slice u v f g (first + 1) n (λ j l m. h j (omega (arith, l)) (omega (arith, m))))

same_slices : {S T : Type 0} (u : S → ℤ) (v : T → ℤ) (f : ℕ → List S) (g : ℕ → List T) (first count : ℕ) → ((i : ℕ) → first ≤ i → i < first + count → map u (f i) ≡ map v (g i))
    → map u (flat_map f (range_with_len first count)) ≡ map v (flat_map g (range_with_len first count))
same_slices u v f g first zero h = refl
same_slices u v f g first (suc n) h =
    map-append u (f first) (flat_map f (range_with_len (first + 1) n))
    ∙ ap₂ (λ (xs ys : List ℤ). xs ++ ys) (h first (omega arith) (omega arith)) (same_slices u v f g (first + 1) n (λ i l m. h i (omega (arith, l)) (omega (arith, m))))
    ∙ sym (map-append v (g first) (flat_map g (range_with_len (first + 1) n)))

pub masked_plain : (m : MapParts) (slices : ℕ) (fill : Option ℤ) (values : List ℤ) → IsSoundMap m → length values ≡ slices * m.n_a
    → IsPlainWithoutAbsent m slices fill values (masked_field_of (masked_application_of m slices fill values))
unfolding masked_application_of application_of
masked_plain m slices fill values s count h =
    let place : (slice j : ℕ) → slice < 0 + slices → 1 ≤ j → j < 1 + m.n_b → IsPlace m slices slice j = λ slice j l p q. (omega (arith, l), p, omega (arith, q)) in
    record {
      whole = same_slices masked_whole whole_of (masked_slice_of m fill values) (slice_of m values) 0 slices
          (λ slice k l. same_slice masked_whole whole_of (masked_share_at m fill values slice) (share_at m values slice) 1 m.n_b (λ j p q. ap masked_whole (plain_share m slices fill values slice j s count h (place slice j l p q))));
      rest = same_slices masked_rest rest_of (masked_slice_of m fill values) (slice_of m values) 0 slices
          (λ slice k l. same_slice masked_rest rest_of (masked_share_at m fill values slice) (share_at m values slice) 1 m.n_b (λ j p q. ap masked_rest (plain_share m slices fill values slice j s count h (place slice j l p q))));
      parts = λ slice j p. share_in m slices fill values slice j masked_part p.0 p.1 p.2 ∙ ap masked_part (plain_share m slices fill values slice j s count h p);
    }

-- ---- the numbers that were put in all places are those of the application
pub all_masked : (m : MapParts) (slices : ℕ) (fill : Option ℤ) (values : List ℤ) (f : MaskedShare → ℤ) (old new : List ℤ) → IsSoundMap m → length old ≡ slices * m.n_b
    → IsPut m.n_b (masked_number f m fill values) 0 slices 0 m.n_b old new → new ≡ map f (masked_application_of m slices fill values)
all_masked m slices fill values f old new s size h =
    let all = map f (masked_application_of m slices fill values) in
    all_put m.n_b (masked_number f m fill values) slices old new all s.target_faces.0 size (length-map (masked_application_of m slices fill values) f ∙ length-masked m slices fill values)
    (λ slice k l below.
    let place : k ≡ 1 + k - 1 = omega arith in
    ap (λ (i : ℕ). get_or all (slice * m.n_b + i) (pos 0)) place ∙ share_in m slices fill values slice (1 + k) f l (omega arith) (omega (arith, below))) h
