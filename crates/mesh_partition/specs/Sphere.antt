-- Meshes that cover the sphere, and meshes that tile it. Source: our own.
use Rattle.std.specs.Prelude.{◌≢◌, ◌↔◌, ℕ, ◌≤◌, length}
use Rattle.vec_exact.specs.declared.RawMesh.{RawMesh}
use Rattle.vec_exact.specs.declared.Vec3.{Vec3}
use Rattle.vec_exact.specs.Vector.{zero_triple}
use Rattle.cone_laws.specs.Inside.{IsInside}
use Rattle.mesh_check.specs.Mesh.{corners_of}
use Rattle.cover_cells.specs.Coverage.{IsInSomeClosure, IsCovered}
use Rattle.gen_cs.specs.CubedSphere.{cubed_sphere}

-- every direction but zero is in the closure of some face
abbrev pub CoversSphere : RawMesh → Type 0
CoversSphere mesh = (d : Vec3) → d ≢ zero_triple → IsInSomeClosure mesh d

-- no direction is inside two faces, and every direction but zero is in the closure of some face
pub record TilesSphere (mesh : RawMesh) : Type 0 where
  pub apart : (i j : ℕ) (d : Vec3) → 1 ≤ i → i ≤ length mesh.faces → 1 ≤ j → j ≤ length mesh.faces → i ≢ j
      → IsInside (corners_of mesh i) d → ¬ IsInside (corners_of mesh j) d
  pub closed : CoversSphere mesh

-- a mesh covers the sphere exactly where it covers the six faces of the smallest cubed sphere
abbrev pub SixFacesDecide : Type 0
SixFacesDecide = (mesh : RawMesh) → CoversSphere mesh ↔ ((p : ℕ) → 1 ≤ p → p ≤ 6 → IsCovered mesh (corners_of (cubed_sphere 1) p))
