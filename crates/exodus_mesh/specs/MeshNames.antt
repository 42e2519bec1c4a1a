-- The variables of a mesh in a file, or the first fault of names, in the order in which names and shapes are tested.
-- Source: Exodus II for the names; the integer types and the order of faults are this project's own.
use Rattle.std.specs.Prelude.{ℕ, suc, zero, List, [], ◌∷◌, ◌++◌, Option, Some, None, Result, Ok, Err, slice_index}
use Rattle.std.specs.List.{sum_by}
use Rattle.nc_format.specs.declared.NcFile.{NcFile}
use Rattle.nc_write.specs.Extents.{lens_of}
use Rattle.nc_format.specs.Numbers.{dim_named, var_named}
use Rattle.exodus_mesh.specs.declared.kinds.NumberKind.TheVariants.{Int}
use Rattle.exodus_mesh.specs.declared.ids.NameId.{NameId}
use Rattle.exodus_mesh.specs.declared.ids.NameId.TheVariants.{Coord, CoordX, CoordY, CoordZ, NumElBlk, Connect}
use Rattle.exodus_mesh.specs.declared.ids.NameFault.{NameFault}
use Rattle.exodus_mesh.specs.declared.ids.NameFault.TheVariants.{Missing}
use Rattle.exodus_mesh.specs.declared.vars.CoordVars.{CoordVars}
use Rattle.exodus_mesh.specs.declared.vars.CoordVars.TheVariants.{Whole, Split}
use Rattle.exodus_mesh.specs.declared.vars.BlockVar.{BlockVar}
use Rattle.exodus_mesh.specs.declared.vars.MeshVars.{MeshVars}
use Rattle.exodus_mesh.specs.Names.{◌>>=◌, name_of, found_or}
use Rattle.exodus_mesh.specs.VarLens.{one_len, same_len, var_len, var_lens}

-- the place of the first variable of a name, from 0
abbrev pub place_of : NcFile → NameId → Option ℕ
place_of file id = var_named file.vars (name_of [] id)

-- 1. A file with `coord` is read by it, and any other by `coordx`, `coordy` and `coordz`.
abbrev pub coord_by : Option ℕ → Option ℕ → Option ℕ → Option ℕ → Result CoordVars NameFault
coord_by (Some coord) x y z = Ok (Whole coord)
coord_by None None y z = Err (Missing Coord)
coord_by None (Some x) None z = Err (Missing CoordY)
coord_by None (Some x) (Some y) None = Err (Missing CoordZ)
coord_by None (Some x) (Some y) (Some z) = Ok (Split x y z)

unfoldable pub coord_in : NcFile → Result CoordVars NameFault
coord_in file = coord_by (place_of file Coord) (place_of file CoordX) (place_of file CoordY) (place_of file CoordZ)

-- 2. `coord` has two lengths: 3, and the node count.
unfoldable pub whole_nodes : NcFile → ℕ → Result ℕ NameFault
whole_nodes file coord = do
  both ← var_lens file Int Coord coord
  three ← same_len Coord 3 both.0
  Ok both.1

-- 3. `coordx`, `coordy` and `coordz` each have one length, the node count.
unfoldable pub split_nodes : NcFile → ℕ → ℕ → ℕ → Result ℕ NameFault
split_nodes file x y z = do
  nodes ← var_len file Int CoordX x
  along_y ← var_len file Int CoordY y
  same_y ← same_len CoordY nodes along_y
  along_z ← var_len file Int CoordZ z
  same_len CoordZ nodes along_z

abbrev pub nodes_in : NcFile → CoordVars → Result ℕ NameFault
nodes_in file (Whole coord) = whole_nodes file coord
nodes_in file (Split x y z) = split_nodes file x y z

-- 4. The length of the dimension `num_el_blk`, which is not the record dimension, is the number of blocks.
unfoldable pub block_count_in : NcFile → Result ℕ NameFault
block_count_in file = do
  place ← found_or (Missing NumElBlk) (dim_named file.dims (name_of [] NumElBlk))
  one_len NumElBlk (slice_index (lens_of file.dims) place ∷ [])

-- 5. The variable `connectN` of block N has two lengths: how many faces the block has, and the width of its rows.
unfoldable pub block_in : NcFile → ℕ → Result BlockVar NameFault
block_in file n = do
  place ← found_or (Missing (Connect n)) (place_of file (Connect n))
  both ← var_lens file Int (Connect n) place
  Ok (record { var = place; faces = both.0; width = both.1 })

-- the first n blocks
abbrev pub blocks_in : NcFile → ℕ → Result (List BlockVar) NameFault
blocks_in file zero = Ok []
blocks_in file (suc n) = do
  before ← blocks_in file n
  block ← block_in file (suc n)
  Ok (before ++ block ∷ [])

-- The variables of a mesh, or the first fault of names.
unfoldable pub mesh_vars_in : NcFile → Result MeshVars NameFault
mesh_vars_in file = do
  coord ← coord_in file
  nodes ← nodes_in file coord
  count ← block_count_in file
  blocks ← blocks_in file count
  Ok (record { coord = coord; nodes = nodes; blocks = blocks; faces = sum_by (λ (b : BlockVar). b.faces) blocks })
