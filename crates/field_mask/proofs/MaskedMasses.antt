-- A step of the mass of what is present.
use Rattle.std.proofs.Common.{zero, suc, [], ◌∷◌, drop, ◌<◌, ◌≤◌, ◌<ℤ◌, ◌≡◌, ℕ, ◌+◌, ◌-◌, ◌*◌, ℤ, pos, negsuc, ◌+ℤ◌, ◌*ℤ◌, ◌≤ℤ◌, Bool, true, false, cond, List, length, get_or, ap, ap₂, subst, sym, ◌∙◌, refl, arith, Option}
use Rattle.std.specs.List.{All, slice_range}
use Rattle.std.proofs.lemmas.Int.{ints, to_z-of_z}
use Rattle.std.proofs.lemmas.List.{length-take-le, length-drop, get_or-take, get_or-drop, get_or_default}
use borrow.Author.Differences.{product_is}
use mir.Syntax.{w32, w64}
use mir.Val.{SFits, to_z, of_z}
use Rattle.map_rows.specs.Maps.{MapParts, IsSoundMap, total}
use Rattle.map_rows.specs.Application.{sum_over, area_at, value_at}
use Rattle.apply_map.specs.Values.{IsInt32, HasRestsWithin}
use Rattle.apply_map.proofs.MassSteps.{part_bounds, sum_over_more, counts_fit, target_areas}
use Rattle.map_rows.proofs.Masses.{sum_over_same}
use Rattle.field_mask.specs.Masked.{is_absent, present_product, present_mass_of, part_mass_of}
use Rattle.field_mask.specs.Laws.{IsRestOf, IsMaskedFieldOf}
use Rattle.field_mask.specs.declared.fields.MaskedField.{MaskedField}

-- area times value where it is present, of a value that fits 32 bits
absent_bounds : (a x : ℤ) (b : Bool) → pos 0 ≤ℤ a → IsInt32 x → ((a *ℤ negsuc 2147483647) ≤ℤ cond b (pos 0) (a *ℤ x)) × (cond b (pos 0) (a *ℤ x) ≤ℤ (a *ℤ pos 2147483648))
absent_bounds a x true p h = (omega (arith, ints, p, product_is a (negsuc 2147483647)), omega (arith, ints, p, product_is a (pos 2147483648)))
absent_bounds a x false p h = part_bounds a x p h

-- as it was read
pub read_present : (areas values : List ℤ) (fill : Option ℤ) (slice i : ℕ) (part : ℤ) → pos 0 ≤ℤ get_or areas i (pos 0) → SFits w64 (get_or areas i (pos 0)) → IsInt32 (get_or values (slice * length areas + i) (pos 0))
    → part ≡ present_product fill (to_z w64 (of_z w64 (get_or areas i (pos 0)))) (to_z w32 (of_z w32 (get_or values (slice * length areas + i) (pos 0))))
    → (part ≡ present_product fill (area_at areas (1 + i)) (value_at values (length areas) slice (1 + i))) × ((get_or areas i (pos 0) *ℤ negsuc 2147483647) ≤ℤ part) × (part ≤ℤ (get_or areas i (pos 0) *ℤ pos 2147483648))
read_present areas values fill slice i part p f h e =
    let x = get_or values (slice * length areas + i) (pos 0) in
    let a = get_or areas i (pos 0) in
    let kept : to_z w32 (of_z w32 x) ≡ x = omega (arith, ints, h.0, h.1) in
    let is : part ≡ present_product fill a x = e ∙ ap₂ (present_product fill) (to_z-of_z w64 a f) kept in
    let place : i ≡ 1 + i - 1 = omega arith in
    let bounds = absent_bounds a x (is_absent fill x) p h in (
      is ∙ ap (λ (k : ℕ). present_product fill (get_or areas k (pos 0)) (get_or values (slice * length areas + k) (pos 0))) place,
      subst (λ (y : ℤ). (a *ℤ negsuc 2147483647) ≤ℤ y) (sym is) bounds.0,
      subst (λ (y : ℤ). y ≤ℤ (a *ℤ pos 2147483648)) (sym is) bounds.1,
    )

pub no_present_mass : (m : MapParts) (fill : Option ℤ) (values : List ℤ) → pos 0 ≡ present_mass_of m 0 fill values
unfolding present_mass_of total
no_present_mass m fill values = refl

pub present_mass_more : (m : MapParts) (fill : Option ℤ) (values : List ℤ) (slice : ℕ)
    → present_mass_of m (slice + 1) fill values
    ≡ present_mass_of m slice fill values +ℤ sum_over 1 m.n_a (λ (i : ℕ). present_product fill (area_at m.area_a i) (value_at values m.n_a slice i))
unfolding present_mass_of
present_mass_more m fill values slice =
    let g : ℕ → ℤ = λ s. sum_over 1 m.n_a (λ (i : ℕ). present_product fill (area_at m.area_a i) (value_at values m.n_a s i)) in
    let next : 0 + slice ≡ slice = omega arith in
    sum_over_more 0 slice g ∙ ap (λ (s : ℕ). sum_over 0 slice g +ℤ g s) next

-- ---- the parts of a slice
pub no_part_mass : (m : MapParts) (field : MaskedField) → pos 0 ≡ part_mass_of m 0 field
unfolding part_mass_of total
no_part_mass m field = refl

pub part_mass_more : (m : MapParts) (field : MaskedField) (slice : ℕ)
    → part_mass_of m (slice + 1) field
    ≡ part_mass_of m slice field
    +ℤ sum_over 1 m.n_b (λ (j : ℕ). (value_at field.part m.n_b slice j *ℤ value_at field.whole m.n_b slice j) +ℤ value_at field.rest m.n_b slice j)
unfolding part_mass_of
part_mass_more m field slice =
    let g : ℕ → ℤ = λ s. sum_over 1 m.n_b (λ (j : ℕ). (value_at field.part m.n_b s j *ℤ value_at field.whole m.n_b s j) +ℤ value_at field.rest m.n_b s j) in
    let next : 0 + slice ≡ slice = omega arith in
    sum_over_more 0 slice g ∙ ap (λ (s : ℕ). sum_over 0 slice g +ℤ g s) next

total_most : (xs ys : List ℤ) → length xs ≡ length ys → ((k : ℕ) → k < length xs → get_or xs k (pos 0) ≤ℤ get_or ys k (pos 0)) → total xs ≤ℤ total ys
unfolding total
total_most [] [] e h = omega (arith, ints)
total_most [] (y ∷ ys) e h = absurd (omega (arith, e))
total_most (x ∷ xs) [] e h = absurd (omega (arith, e))
total_most (x ∷ xs) (y ∷ ys) e h = omega (arith, ints, h 0 (omega arith), total_most xs ys (omega (arith, e)) (λ k l. h (suc k) (omega (arith, l))))

-- the parts of one slice of a field
pub record ArePartsOf (m : MapParts) (field : MaskedField) (slice : ℕ) (parts : List ℤ) : Type 0 where
  pub size : length parts ≡ m.n_b
  pub wholes : (slice + 1) * length parts ≤ length field.whole
  pub rest_count : (slice + 1) * length parts ≤ length field.rest
  pub nonneg : All (λ (part : ℤ). pos 0 ≤ℤ part) parts
  pub fit : total parts <ℤ pos 9223372036854775808
  pub rests : HasRestsWithin parts slice field.rest
  pub same : (j : ℕ) → 1 ≤ j → j < 1 + m.n_b → area_at parts j ≡ value_at field.part m.n_b slice j

rest_within : (part rest : ℤ) → pos 0 ≤ℤ part → IsRestOf part rest → (pos 0 ≤ℤ rest) × (rest ≤ℤ part)
rest_within (pos zero) rest p h = let e = h.none refl in (omega (arith, ints, e), omega (arith, ints, e))
rest_within (pos (suc n)) rest p h = let s = h.some (λ z. omega (arith, ints, z)) in (s.0, omega (arith, ints, s.1))
rest_within (negsuc n) rest p h = absurd (omega (arith, ints, p))

one_slice_more : (slice n : ℕ) → (slice + 1) * n ≡ slice * n + n
one_slice_more slice n = grind arith

pub room_for_parts : (slices slice n count : ℕ) → count ≡ slices * n → slice < slices → slice * n + n ≤ count
room_for_parts slices slice n count e l = omega (arith, e, one_slice_more slice n, counts_fit slice slices n l)

pub are_parts : (m : MapParts) (slices slice first : ℕ) (field : MaskedField) (parts : List ℤ) → IsSoundMap m → IsMaskedFieldOf m slices field → slice < slices → first ≡ slice * m.n_b
    → parts ≡ slice_range field.part first (first + m.n_b) → ArePartsOf m field slice parts
are_parts m slices slice first field parts s h l e is =
    let n = m.n_b in
    let room = room_for_parts slices slice n (length field.part) h.part_count l in
    let width : first + n - first ≡ n = omega arith in
    let size : length parts ≡ n =
    ap (length {A = ℤ}) is ∙ length-take-le (first + n - first) (drop first field.part) (omega (arith, length-drop first field.part, room, e)) ∙ width
    in
    let at : (k : ℕ) → k < n → get_or parts k (pos 0) ≡ get_or field.part (slice * n + k) (pos 0) =
    λ k q. ap (λ (xs : List ℤ). get_or xs k (pos 0)) is ∙ get_or-take (first + n - first) (drop first field.part) k (pos 0) (omega (arith, q)) ∙ get_or-drop first field.part k (pos 0)
    ∙ ap (λ (f : ℕ). get_or field.part (f + k) (pos 0)) e
    in
    let place : (k : ℕ) → k ≡ 1 + k - 1 = λ k. omega arith in
    let value : (k : ℕ) → k < n → get_or parts k (pos 0) ≡ value_at field.part n slice (1 + k) = λ k q. at k q ∙ ap (λ (i : ℕ). get_or field.part (slice * n + i) (pos 0)) (place k) in
    let within : (k : ℕ) → k < n → (pos 0 ≤ℤ get_or parts k (pos 0)) × (get_or parts k (pos 0) ≤ℤ get_or m.area_b k (pos 0)) =
    λ k q.
    let b = h.parts slice (1 + k) (l, omega arith, omega (arith, q)) in (
      subst (λ (x : ℤ). pos 0 ≤ℤ x) (sym (value k q)) b.0,
      subst (λ (i : ℕ). get_or parts k (pos 0) ≤ℤ get_or m.area_b i (pos 0)) (sym (place k)) (subst (λ (x : ℤ). x ≤ℤ area_at m.area_b (1 + k)) (sym (value k q)) b.1),
    )
    in
    let areas = target_areas m s in
    let counts = counts_fit slice slices n l in
    record {
      size = size;
      wholes = subst (λ (k : ℕ). (slice + 1) * k ≤ length field.whole) (sym size) (omega (arith, counts, h.whole_count));
      rest_count = subst (λ (k : ℕ). (slice + 1) * k ≤ length field.rest) (sym size) (omega (arith, counts, h.rest_count));
      nonneg = λ k d q. subst (λ (x : ℤ). pos 0 ≤ℤ x) (get_or_default parts k (pos 0) d q) (within k (omega (arith, q, size))).0;
      fit = omega (arith, ints, areas.1, total_most parts m.area_b (size ∙ sym areas.0) (λ k q. (within k (omega (arith, q, size))).1));
      rests = λ k q.
          let inside : k < n = omega (arith, q, size) in
          let r = rest_within (value_at field.part n slice (1 + k)) (value_at field.rest n slice (1 + k)) (subst (λ (x : ℤ). pos 0 ≤ℤ x) (value k inside) (within k inside).0)
          (h.rests slice (1 + k) (l, omega arith, omega (arith, inside)))
          in
          let kept : value_at field.rest n slice (1 + k) ≡ get_or field.rest (slice * length parts + k) (pos 0) =
          ap₂ (λ (w i : ℕ). get_or field.rest (slice * w + i) (pos 0)) (sym size) (sym (place k))
          in
          (subst (λ (x : ℤ). pos 0 ≤ℤ x) kept r.0, subst (λ (x : ℤ). get_or field.rest (slice * length parts + k) (pos 0) ≤ℤ x) (sym (value k inside)) (subst (λ (x : ℤ). x ≤ℤ value_at field.part n slice (1 + k)) kept r.1));
      same = λ j p q. at (j - 1) (omega (arith, p, q));
    }

-- and what they come to
pub parts_mass : (m : MapParts) (field : MaskedField) (slice : ℕ) (parts : List ℤ) → ArePartsOf m field slice parts
    → sum_over 1 (length parts) (λ (j : ℕ). (area_at parts j *ℤ value_at field.whole (length parts) slice j) +ℤ value_at field.rest (length parts) slice j)
    ≡ sum_over 1 m.n_b (λ (j : ℕ). (value_at field.part m.n_b slice j *ℤ value_at field.whole m.n_b slice j) +ℤ value_at field.rest m.n_b slice j)
parts_mass m field slice parts h =
    ap (λ (n : ℕ). sum_over 1 n (λ (j : ℕ). (area_at parts j *ℤ value_at field.whole n slice j) +ℤ value_at field.rest n slice j)) h.size
    ∙ sum_over_same 1 m.n_b _ _ (λ j p q. ap (λ (x : ℤ). (x *ℤ value_at field.whole m.n_b slice j) +ℤ value_at field.rest m.n_b slice j) (h.same j p q))
