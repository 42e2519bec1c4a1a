-- The lists of numbers of a mesh, by the places of its variables.
use Rattle.std.proofs.Common.{◌≡◌, ℕ, ℤ, List, [], ◌∷◌, map, All, refl, ap}
use Rattle.std.proofs.lemmas.List.Elements.{All-nil, All-cons, All-head, All-tail}
use Rattle.nc_format.specs.declared.NcFile.{NcFile}
use Rattle.exodus_mesh.specs.declared.vars.BlockVar.{BlockVar}
use Rattle.exodus_mesh.specs.declared.vars.CoordVars.{CoordVars}
use Rattle.exodus_mesh.specs.declared.vars.CoordVars.TheVariants.{Whole, Split}
use Rattle.exodus_mesh.specs.Found.{IsSomeIntVar, AreCoordVars, IsBlockVar}
use Rattle.exodus_mesh.specs.MeshIn.{values_in, coord_places, block_places, coords_in, rows_in}

pub coords_ints : (file : NcFile) (nodes : ℕ) (coord : CoordVars) → AreCoordVars file nodes coord → All (IsSomeIntVar file) (coord_places coord)
coords_ints file nodes (Whole c) h = All-cons (IsSomeIntVar file) c [] (3 ∷ nodes ∷ [], h) (All-nil (IsSomeIntVar file))
coords_ints file nodes (Split x y z) h =
    All-cons (IsSomeIntVar file) x (y ∷ z ∷ []) (nodes ∷ [], h.0)
    (All-cons (IsSomeIntVar file) y (z ∷ []) (nodes ∷ [], h.1) (All-cons (IsSomeIntVar file) z [] (nodes ∷ [], h.2) (All-nil (IsSomeIntVar file))))

pub blocks_ints : (file : NcFile) (blocks : List BlockVar) → All (IsBlockVar file) blocks → All (IsSomeIntVar file) (block_places blocks)
blocks_ints file [] all = All-nil (IsSomeIntVar file)
blocks_ints file (b ∷ bs) all = All-cons (IsSomeIntVar file) b.var (block_places bs) (b.faces ∷ b.width ∷ [], All-head (IsBlockVar file) b bs all) (blocks_ints file bs (All-tail (IsBlockVar file) b bs all))

pub coords_are : (file : NcFile) (bytes : List ℕ) (coord : CoordVars) → map (values_in file bytes) (coord_places coord) ≡ coords_in file bytes coord
coords_are file bytes (Whole c) = refl
coords_are file bytes (Split x y z) = refl

pub rows_are : (file : NcFile) (bytes : List ℕ) (blocks : List BlockVar) → map (values_in file bytes) (block_places blocks) ≡ rows_in file bytes blocks
rows_are file bytes [] = refl
rows_are file bytes (b ∷ bs) = ap (λ (l : List (List ℤ)). values_in file bytes b.var ∷ l) (rows_are file bytes bs)
