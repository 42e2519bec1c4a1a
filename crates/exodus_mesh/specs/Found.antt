-- What a look-up of names has found.
use Rattle.std.specs.Prelude.{ℕ, List, [], ◌∷◌}
use Rattle.nc_format.specs.declared.NcFile.{NcFile}
use Rattle.exodus_mesh.specs.declared.kinds.NumberKind.TheVariants.{Int, Long}
use Rattle.exodus_mesh.specs.declared.vars.CoordVars.{CoordVars}
use Rattle.exodus_mesh.specs.declared.vars.CoordVars.TheVariants.{Whole, Split}
use Rattle.exodus_mesh.specs.declared.vars.BlockVar.{BlockVar}
use Rattle.exodus_mesh.specs.VarLens.{IsNumberVar}

-- at this place stands a variable of type BYTE, SHORT or INT with these lengths, none of which is 0
abbrev pub IsIntVar : NcFile → List ℕ → ℕ → Type 0
IsIntVar file lens place = IsNumberVar Int file lens place

-- the same, of some lengths
abbrev pub IsSomeIntVar : NcFile → ℕ → Type 0
IsSomeIntVar file place = (lens : List ℕ) × IsIntVar file lens place

-- at this place stands a variable of type BYTE, SHORT, INT or INT64 with some lengths, none of which is 0
abbrev pub IsSomeLongVar : NcFile → ℕ → Type 0
IsSomeLongVar file place = (lens : List ℕ) × IsNumberVar Long file lens place

abbrev pub AreCoordVars : NcFile → ℕ → CoordVars → Type 0
AreCoordVars file nodes (Whole coord) = IsIntVar file (3 ∷ nodes ∷ []) coord
AreCoordVars file nodes (Split x y z) = IsIntVar file (nodes ∷ []) x × IsIntVar file (nodes ∷ []) y × IsIntVar file (nodes ∷ []) z

abbrev pub IsBlockVar : NcFile → BlockVar → Type 0
IsBlockVar file block = IsIntVar file (block.faces ∷ block.width ∷ []) block.var
