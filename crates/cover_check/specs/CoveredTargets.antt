-- How many target faces the faces of a mesh cover. Source: our own.
use Rattle.std.specs.Prelude.{◌≡◌, ℕ, ◌+◌, ◌<◌, ◌≤◌, ◌⊎◌, List, length, All, AllPairs, Contains}
use Rattle.vec_exact.specs.declared.RawMesh.{RawMesh}
use Rattle.mesh_check.specs.Mesh.{corners_of}
use Rattle.cover_cells.specs.Coverage.{IsCovered}
use Rattle.cover_check.specs.declared.counting.CoverCount.{CoverCount}

-- target j, which counts from 1, is covered
abbrev pub IsCoveredTarget : RawMesh → RawMesh → ℕ → Type 0
IsCoveredTarget sources targets j = IsCovered sources (corners_of targets j)

-- target j is one of those from number `from` on that come before number `end`, and it is covered
pub record IsCoveredWithin (sources targets : RawMesh) (from end j : ℕ) : Type 0 where
  pub low : from ≤ j
  pub high : j < end
  pub covered : IsCoveredTarget sources targets j

-- the list has exactly the covered ones of these targets, ascending
pub record AreCoveredWithin (sources targets : RawMesh) (from end : ℕ) (list : List ℕ) : Type 0 where
  pub ascending : AllPairs (λ i j. i < j) list
  pub each : All (IsCoveredWithin sources targets from end) list
  pub complete : (j : ℕ) → IsCoveredWithin sources targets from end j → Contains list j

-- all targets from number `from` on that come before number `end` are covered
abbrev pub AreAllCovered : RawMesh → RawMesh → ℕ → ℕ → Type 0
AreAllCovered sources targets from end = (j : ℕ) → from ≤ j → j < end → IsCoveredTarget sources targets j

-- `first` is the least of these targets that isn't covered
pub record IsLeastUncovered (sources targets : RawMesh) (from end first : ℕ) : Type 0 where
  pub low : from ≤ first
  pub high : first < end
  pub uncovered : ¬ IsCoveredTarget sources targets first
  pub before : AreAllCovered sources targets from first

-- `first` is the least of these targets that isn't covered, or 0 where all are covered
abbrev pub IsFirstUncovered : RawMesh → RawMesh → ℕ → ℕ → ℕ → Type 0
IsFirstUncovered sources targets from end first = ((first ≡ 0) × AreAllCovered sources targets from end) ⊎ IsLeastUncovered sources targets from end first

-- the count of the targets from number `from` on that come before number `end`
pub record IsCountWithin (sources targets : RawMesh) (from end : ℕ) (count : CoverCount) : Type 0 where
  pub covered : (list : List ℕ) × AreCoveredWithin sources targets from end list × (length list ≡ count.covered)
  pub first : IsFirstUncovered sources targets from end count.first

-- the count of all targets
abbrev pub IsCoverCount : RawMesh → RawMesh → CoverCount → Type 0
IsCoverCount sources targets count = IsCountWithin sources targets 1 (length targets.faces + 1) count

-- there is at most one such count
abbrev pub OneCoverCount : Type 0
OneCoverCount = (sources targets : RawMesh) (count other : CoverCount) → IsCoverCount sources targets count → IsCoverCount sources targets other → count ≡ other
