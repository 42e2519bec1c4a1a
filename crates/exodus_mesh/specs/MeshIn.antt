-- The mesh in a file, by its header and all of its bytes; the faults of names and of counts come first.
use Rattle.std.specs.Prelude.{◌≡◌, ℕ, ℤ, List, [], ◌∷◌, length, map, All, min, Option, Some, None, Result, Ok, Err, slice_get}
use Rattle.vec_exact.specs.declared.RawMesh.{RawMesh}
use Rattle.nc_format.specs.declared.NcFile.{NcFile}
use Rattle.nc_format.specs.declared.NcVar.{NcVar}
use Rattle.nc_format.specs.Numbers.{numbers_in, gathered}
use Rattle.mesh_check.specs.declared.faults.MeshFault.{MeshFault}
use Rattle.mesh_check.specs.FirstFault.{count_fault}
use Rattle.exodus_mesh.specs.declared.ids.NameFault.{NameFault}
use Rattle.exodus_mesh.specs.declared.vars.CoordVars.{CoordVars}
use Rattle.exodus_mesh.specs.declared.vars.CoordVars.TheVariants.{Whole, Split}
use Rattle.exodus_mesh.specs.declared.vars.BlockVar.{BlockVar}
use Rattle.exodus_mesh.specs.declared.vars.MeshVars.{MeshVars}
use Rattle.exodus_mesh.specs.MeshNames.{mesh_vars_in}
use Rattle.exodus_mesh.specs.MeshValues.{mesh_of}

-- the numbers that a variable has in a file
abbrev pub numbers_of_var : List ℕ → Option NcVar → List ℤ
numbers_of_var bytes None = []
numbers_of_var bytes (Some v) = numbers_in v.kind (gathered v bytes)

-- the numbers of the variable at a place
abbrev pub values_in : NcFile → List ℕ → ℕ → List ℤ
values_in file bytes place = numbers_of_var bytes (slice_get file.vars place)

-- the places of the variables of the coordinates, and of those of the blocks
abbrev pub coord_places : CoordVars → List ℕ
coord_places (Whole coord) = coord ∷ []
coord_places (Split x y z) = x ∷ y ∷ z ∷ []

abbrev pub block_places : List BlockVar → List ℕ
block_places blocks = map (λ (b : BlockVar). b.var) blocks

abbrev pub coords_in : NcFile → List ℕ → CoordVars → List (List ℤ)
coords_in file bytes (Whole coord) = values_in file bytes coord ∷ []
coords_in file bytes (Split x y z) = values_in file bytes x ∷ values_in file bytes y ∷ values_in file bytes z ∷ []

abbrev pub rows_in : NcFile → List ℕ → List BlockVar → List (List ℤ)
rows_in file bytes blocks = map (λ (b : BlockVar). values_in file bytes b.var) blocks

-- the mesh of some variables of a file
abbrev pub mesh_at : NcFile → List ℕ → MeshVars → RawMesh
mesh_at file bytes vars = mesh_of vars (coords_in file bytes vars.coord) (rows_in file bytes vars.blocks)

-- why a file has no raw mesh: its names, or its counts
pub data MeshInFault : Type 0 where
  Names : NameFault → MeshInFault
  Counts : MeshFault → MeshInFault

-- a sum of faces past the greatest number of 32 bits counts as that number
abbrev pub mesh_count_fault : MeshVars → Option MeshFault
mesh_count_fault vars = count_fault vars.nodes (min vars.faces 4294967295)

abbrev pub if_counted : Option MeshFault → RawMesh → Result RawMesh MeshInFault
if_counted None raw = Ok raw
if_counted (Some fault) raw = Err (Counts fault)

abbrev pub if_named : NcFile → List ℕ → Result MeshVars NameFault → Result RawMesh MeshInFault
if_named file bytes (Ok vars) = if_counted (mesh_count_fault vars) (mesh_at file bytes vars)
if_named file bytes (Err fault) = Err (Names fault)

-- The raw mesh in a file of this header and these bytes, or the first fault of names, or else the fault of its counts.
unfoldable pub mesh_in : NcFile → List ℕ → Result RawMesh MeshInFault
mesh_in file bytes = if_named file bytes (mesh_vars_in file)

-- each node of a raw mesh has three numbers, as it does in every raw mesh of a program
abbrev pub HasTriples : RawMesh → Type 0
HasTriples raw = All (λ node. length node ≡ 3) raw.nodes
