-- What holds of every map and every field over its sources. Source: Ullrich and Taylor (2015), "Arbitrary-order conservative and consistent remapping and a theory of linear maps"; the form in whole numbers is our own.
use Rattle.std.specs.Prelude.{◌≡◌, ℕ, ◌<◌, ◌≤◌, ℤ, pos, ◌+ℤ◌, ◌*ℤ◌, ◌≤ℤ◌, ◌<ℤ◌, List, length, ◌*◌, All}
use Rattle.map_rows.specs.Maps.{MapParts, IsSoundMap, sources_of}
use Rattle.map_rows.specs.Application.{value_at, area_at, application_of, wholes_of, rests_of, source_mass_of, target_mass_of}

-- no mass is lost: that of the application is that of the field
abbrev pub EqualMasses : Type 0
EqualMasses =
    (m : MapParts) (slices : ℕ) (values : List ℤ) → IsSoundMap m
    → target_mass_of m slices (wholes_of (application_of m slices values)) (rests_of (application_of m slices values)) ≡ source_mass_of m slices values

-- in this slice each source of target j has a value that meets the test
abbrev pub EachSource : MapParts → List ℤ → ℕ → ℕ → (ℤ → Type 0) → Type 0
EachSource m values slice j P = All (λ (i : ℕ). P (value_at values m.n_a slice i)) (sources_of m.rows j)

-- target j is one of a field of so many slices
abbrev pub IsPlace : MapParts → ℕ → ℕ → ℕ → Type 0
IsPlace m slices slice j = (slice < slices) × (1 ≤ j) × (j ≤ m.n_b)

-- a whole part and a rest for each target of each slice, where each rest is from 0 to below the area of its target
pub record IsFieldOf (m : MapParts) (slices : ℕ) (whole rest : List ℤ) : Type 0 where
  pub whole_count : length whole ≡ slices * m.n_b
  pub rest_count : length rest ≡ slices * m.n_b
  pub rests : (slice j : ℕ) → IsPlace m slices slice j → (pos 0 ≤ℤ value_at rest m.n_b slice j) × (value_at rest m.n_b slice j <ℤ area_at m.area_b j)

-- where all sources of a target hold c, so does the target, with rest 0
abbrev pub KeepsConstants : MapParts → ℕ → List ℤ → List ℤ → List ℤ → Type 0
KeepsConstants m slices values whole rest =
    (slice j : ℕ) (c : ℤ) → IsPlace m slices slice j → EachSource m values slice j (λ (x : ℤ). x ≡ c) → (value_at whole m.n_b slice j ≡ c) × (value_at rest m.n_b slice j ≡ pos 0)

-- what a target gets is no less than the least of its sources, and with its rest over its area no more than the greatest
abbrev pub KeepsBounds : MapParts → ℕ → List ℤ → List ℤ → List ℤ → Type 0
KeepsBounds m slices values whole rest =
    (slice j : ℕ) (least greatest : ℤ) → IsPlace m slices slice j → EachSource m values slice j (λ (x : ℤ). least ≤ℤ x) → EachSource m values slice j (λ (x : ℤ). x ≤ℤ greatest)
    → (least ≤ℤ value_at whole m.n_b slice j) × (((area_at m.area_b j *ℤ value_at whole m.n_b slice j) +ℤ value_at rest m.n_b slice j) ≤ℤ (area_at m.area_b j *ℤ greatest))

-- that of every application
abbrev pub EachApplication : (MapParts → ℕ → List ℤ → List ℤ → List ℤ → Type 0) → Type 0
EachApplication P =
    (m : MapParts) (slices : ℕ) (values : List ℤ) → IsSoundMap m → P m slices values (wholes_of (application_of m slices values)) (rests_of (application_of m slices values))

abbrev pub RestsBelow : Type 0
RestsBelow = EachApplication (λ m slices values whole rest. IsFieldOf m slices whole rest)

abbrev pub ConstantsKept : Type 0
ConstantsKept = EachApplication KeepsConstants

abbrev pub BoundsKept : Type 0
BoundsKept = EachApplication KeepsBounds
