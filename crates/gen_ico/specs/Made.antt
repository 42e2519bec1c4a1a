-- What is made for a resolution: the icosahedral mesh, or its dual. Source: our own.
use Rattle.std.specs.Prelude.{◌≡◌, ℕ, Bool, if◌then◌else◌}
use Rattle.vec_exact.specs.declared.RawMesh.{RawMesh}
use Rattle.gen_ico.specs.Icosahedral.{IsIcosahedral}
use Rattle.gen_ico.specs.Dual.{dual_of}

-- this is the icosahedral mesh of resolution n, or its dual
pub record IsMade (n : ℕ) (dual : Bool) (raw : RawMesh) : Type 0 where
  pub base : RawMesh
  pub icosahedral : IsIcosahedral n base
  pub is : raw ≡ (if dual then dual_of base else base)

-- at most one raw mesh is made for a resolution, and at most one as the dual
abbrev pub OneMade : Type 0
OneMade = (n : ℕ) (dual : Bool) (a b : RawMesh) → IsMade n dual a → IsMade n dual b → a ≡ b
