-- The fineness of a mesh. Source: our own. About as many cells as faces: at the fineness k the six panels have 24 k² cells.
use Rattle.std.specs.Prelude.{ℕ, ◌/◌, ℤ, pos, min, max}
use Rattle.vec_exact.specs.Root.{root_of}

-- the fineness of a mesh with this many faces
abbrev pub fineness_of : ℕ → ℤ
fineness_of faces = pos (max 1 (min (root_of (faces / 24)) 256))
