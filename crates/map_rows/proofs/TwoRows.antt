-- The map of two rows that tests make: two sources, with measures 1 and 2, in one target.
use Rattle.std.proofs.Common.{◌≡◌, ℤ, pos, ◌≤ℤ◌, [], List, ◌∷◌, refl, sym, subst, arith, inl}
use Rattle.std.proofs.lemmas.Int.{ints}
use Rattle.std.proofs.lemmas.List.Elements.{All-cons, All-nil}
use Rattle.std.proofs.lemmas.List.Kept.{AllPairs-cons}
use Rattle.map_rows.specs.declared.rows.MapRow.{MapRow}
use Rattle.map_rows.specs.Maps.{MapParts, IsSoundMap, IsSoundRow, ComesBefore, areas_of, sums_of, total, source_of, target_of}

abbrev pub first : MapRow
first = record { col = 1; row = 1; s = pos 1 }

abbrev pub second : MapRow
second = record { col = 2; row = 1; s = pos 2 }

abbrev pub two_rows : MapParts
two_rows = record { n_a = 2; n_b = 1; rows = first ∷ second ∷ []; area_a = pos 1 ∷ pos 2 ∷ []; area_b = pos 3 ∷ [] }

first_sound : IsSoundRow 2 1 first
first_sound = record { source = (omega arith, omega arith); target = (omega arith, omega arith); least = omega (arith, ints); greatest = omega (arith, ints) }

second_sound : IsSoundRow 2 1 second
second_sound = record { source = (omega arith, omega arith); target = (omega arith, omega arith); least = omega (arith, ints); greatest = omega (arith, ints) }

sources : two_rows.area_a ≡ areas_of source_of 2 two_rows.rows
unfolding sums_of total
sources = refl

targets : two_rows.area_b ≡ areas_of target_of 1 two_rows.rows
unfolding sums_of total
targets = refl

pub two_rows_sound : IsSoundMap two_rows
two_rows_sound = record {
  source_faces = (omega arith, omega arith);
  target_faces = (omega arith, omega arith);
  count = omega arith;
  ascending = AllPairs-cons ComesBefore first (second ∷ []) (All-cons (ComesBefore first) second [] (inl (omega arith)) (All-nil (ComesBefore first)))
      (AllPairs-cons ComesBefore second [] (All-nil (ComesBefore second)) (λ i j d l m. absurd (omega (arith, m))));
  rows = All-cons (IsSoundRow 2 1) first (second ∷ []) first_sound (All-cons (IsSoundRow 2 1) second [] second_sound (All-nil (IsSoundRow 2 1)));
  source_areas = sources;
  target_areas = targets;
  covered = All-cons (λ (area : ℤ). pos 1 ≤ℤ area) (pos 3) [] (omega (arith, ints)) (All-nil (λ (area : ℤ). pos 1 ≤ℤ area));
}

-- the parts of a map with these rows and areas
pub two_rows_of : (rows : List MapRow) (area_a area_b : List ℤ) → rows ≡ two_rows.rows → area_a ≡ two_rows.area_a → area_b ≡ two_rows.area_b
    → IsSoundMap (record { n_a = 2; n_b = 1; rows = rows; area_a = area_a; area_b = area_b })
two_rows_of rows area_a area_b e f g =
    let same : record { n_a = 2; n_b = 1; rows = rows; area_a = area_a; area_b = area_b } ≡ two_rows = λ i. record { n_a = 2; n_b = 1; rows = e i; area_a = f i; area_b = g i } in
    subst IsSoundMap (sym same) two_rows_sound
