-- A map made ready for many slices. Source: our own.
use Rattle.std.specs.Prelude.{◌≡◌, ℤ, List, map}
use Rattle.map_rows.specs.declared.rows.MapRow.{MapRow}
use Rattle.map_rows.specs.declared.shares.Divisor.{Divisor}
use Rattle.map_rows.specs.Maps.{MapParts, IsSoundMap}
use Rattle.map_rows.specs.Targets.{groups_of}

-- the areas that the divisors stand for
abbrev pub area_of : Divisor → ℤ
area_of d = d.area

abbrev pub areas_of : List Divisor → List ℤ
areas_of divisors = map area_of divisors

-- the rows of the map by target, and the areas of its targets as divisors
pub record AreTargetsOf (m : MapParts) (groups : List (List MapRow)) (divisors : List Divisor) : Type 0 where
  pub sound : IsSoundMap m
  pub groups_are : groups ≡ groups_of m.n_b m.rows
  pub areas_are : areas_of divisors ≡ m.area_b
