-- The numbers of a raw mesh, as they were loaded.
use Rattle.std.proofs.Common.{◌≡◌, ℕ, ℤ, true, List, [], ◌∷◌, map, All, length, Option, IsSomeAnd, slice_get, refl, sym, ap, ap₂, subst, ◌∙◌, arith}
use Rattle.std.specs.List.{sum_by}
use Rattle.std.proofs.lemmas.List.Elements.{All-nil, All-cons, All-head, All-tail}
use Rattle.std.proofs.lemmas.List.Sums.{sum_by-cons}
use Rattle.nc_format.specs.declared.NcFile.{NcFile}
use Rattle.nc_format.specs.declared.NcVar.{NcVar}
use Rattle.nc_format.specs.Header.{IsHeader}
use Rattle.nc_format.specs.Numbers.{is_int, gathered}
use Rattle.exodus_mesh.specs.declared.vars.BlockVar.{BlockVar}
use Rattle.exodus_mesh.specs.declared.vars.CoordVars.{CoordVars}
use Rattle.exodus_mesh.specs.declared.vars.CoordVars.TheVariants.{Whole, Split}
use Rattle.exodus_mesh.specs.Found.{IsIntVar, AreCoordVars, IsBlockVar}
use Rattle.exodus_mesh.specs.MeshIn.{values_in, coords_in, rows_in}
use Rattle.exodus_mesh.specs.MeshIn.{mesh_at}
use Rattle.exodus_mesh.specs.MeshValues.{coord_lens, row_lens, mesh_of}
use Rattle.exodus_mesh.specs.declared.vars.MeshVars.{MeshVars}
use Rattle.exodus_mesh.proofs.VarValues.{bytes_len, has_pieces, coords_len, rows_len}
use Rattle.vec_exact.specs.declared.RawMesh.{RawMesh}
use Rattle.remap_io.specs.Folder.{Folder, OnFile}
use Rattle.remap_io.specs.Outside.{FilesSeen}
use Rattle.remap_load.specs.Loading.{ReadsAtMost}
use Rattle.remap_load.proofs.Fronts.{on_file}
use Rattle.remap_load.proofs.Reading.{asks_on}
use Rattle.remap_load.specs.Pieces.{numbers_of, numbers_at, count_of, count_at, bytes_at}
use Rattle.remap_load.proofs.Costs.{numbers_len}
use Rattle.exodus_mesh.specs.MeshIn.{coord_places}
use Rattle.mesh_load.specs.MeshFile.{coord_bytes, block_bytes, mesh_bytes}

-- a variable of a type of whole numbers stands at the place
abbrev pub HasInts : NcFile → ℕ → Type 0
HasInts file place = IsSomeAnd (slice_get file.vars place) (λ v. is_int v.kind ≡ true)

has_ints : (file : NcFile) (lens : List ℕ) (place : ℕ) → IsIntVar file lens place → HasInts file place
has_ints file lens place i = subst (λ (o : Option NcVar). IsSomeAnd o (λ v. is_int v.kind ≡ true)) (sym i.there) i.whole

pub coords_ints : (file : NcFile) (nodes : ℕ) (coord : CoordVars) → AreCoordVars file nodes coord → All (HasInts file) (coord_places coord)
coords_ints file nodes (Whole c) h = All-cons (HasInts file) c [] (has_ints file _ c h) (All-nil (HasInts file))
coords_ints file nodes (Split x y z) h =
    All-cons (HasInts file) x (y ∷ z ∷ []) (has_ints file _ x h.0) (All-cons (HasInts file) y (z ∷ []) (has_ints file _ y h.1) (All-cons (HasInts file) z [] (has_ints file _ z h.2) (All-nil (HasInts file))))

abbrev pub place_of : BlockVar → ℕ
place_of block = block.var

pub blocks_ints : (file : NcFile) (blocks : List BlockVar) → All (IsBlockVar file) blocks → All (HasInts file) (map place_of blocks)
blocks_ints file [] all = All-nil (HasInts file)
blocks_ints file (b ∷ bs) all = All-cons (HasInts file) b.var (map place_of bs) (has_ints file _ b.var (All-head (IsBlockVar file) b bs all)) (blocks_ints file bs (All-tail (IsBlockVar file) b bs all))

-- the lists of numbers are those of the mesh

same_lists : (lists : List (List ℤ)) → map (λ (l : List ℤ). l) lists ≡ lists
same_lists [] = refl
same_lists (l ∷ ls) = ap (λ (r : List (List ℤ)). l ∷ r) (same_lists ls)

coords_at : (file : NcFile) (bytes : List ℕ) (coord : CoordVars) → map (numbers_at file bytes) (coord_places coord) ≡ coords_in file bytes coord
coords_at file bytes (Whole c) = refl
coords_at file bytes (Split x y z) = refl

rows_at : (file : NcFile) (bytes : List ℕ) (blocks : List BlockVar) → map (numbers_at file bytes) (map place_of blocks) ≡ rows_in file bytes blocks
rows_at file bytes [] = refl
rows_at file bytes (b ∷ bs) = ap (λ (r : List (List ℤ)). values_in file bytes b.var ∷ r) (rows_at file bytes bs)

pub coords_are : (file : NcFile) (bytes : List ℕ) (coord : CoordVars) (lists : List (List ℤ)) → map (λ (l : List ℤ). l) lists ≡ map (numbers_at file bytes) (coord_places coord) → lists ≡ coords_in file bytes coord
coords_are file bytes coord lists h = sym (same_lists lists) ∙ h ∙ coords_at file bytes coord

pub rows_are : (file : NcFile) (bytes : List ℕ) (blocks : List BlockVar) (lists : List (List ℤ)) → map (λ (l : List ℤ). l) lists ≡ map (numbers_at file bytes) (map place_of blocks) → lists ≡ rows_in file bytes blocks
rows_are file bytes blocks lists h = sym (same_lists lists) ∙ h ∙ rows_at file bytes blocks

-- and they are as long

count_is : (file : NcFile) (bytes : List ℕ) (lens : List ℕ) (place : ℕ) → IsIntVar file lens place → IsHeader bytes (length bytes) file → count_at file place ≡ length (values_in file bytes place)
count_is file bytes lens place i h =
    ap count_of i.there ∙ sym (numbers_len i.var (gathered i.var bytes) (bytes_len i.var bytes (has_pieces bytes file place i.var h i.there))) ∙ ap (λ (o : Option NcVar). length (numbers_of bytes o)) (sym i.there)

pub coord_counts : (file : NcFile) (bytes : List ℕ) (nodes : ℕ) (coord : CoordVars) → AreCoordVars file nodes coord → IsHeader bytes (length bytes) file → map (count_at file) (coord_places coord) ≡ map length (coords_in file bytes coord)
coord_counts file bytes nodes (Whole c) i h = ap (λ (n : ℕ). n ∷ []) (count_is file bytes _ c i h)
coord_counts file bytes nodes (Split x y z) i h =
    ap₂ (λ (n : ℕ) (l : List ℕ). n ∷ l) (count_is file bytes _ x i.0 h) (ap₂ (λ (n : ℕ) (l : List ℕ). n ∷ l) (count_is file bytes _ y i.1 h) (ap (λ (n : ℕ). n ∷ []) (count_is file bytes _ z i.2 h)))

pub row_counts : (file : NcFile) (bytes : List ℕ) (blocks : List BlockVar) → All (IsBlockVar file) blocks → IsHeader bytes (length bytes) file → map (count_at file) (map place_of blocks) ≡ map length (rows_in file bytes blocks)
row_counts file bytes [] all h = refl
row_counts file bytes (b ∷ bs) all h =
    ap₂ (λ (n : ℕ) (l : List ℕ). n ∷ l) (count_is file bytes _ b.var (All-head (IsBlockVar file) b bs all) h) (row_counts file bytes bs (All-tail (IsBlockVar file) b bs all) h)

-- How many bytes are asked for.

pub coords_cost : (file : NcFile) (coord : CoordVars) → sum_by (bytes_at file) (coord_places coord) ≡ coord_bytes file coord
coords_cost file (Whole c) = sum_by-cons (bytes_at file) c [] ∙ omega arith
coords_cost file (Split x y z) =
    omega (arith, sum_by-cons (bytes_at file) x (y ∷ z ∷ []), sum_by-cons (bytes_at file) y (z ∷ []), sum_by-cons (bytes_at file) z [])

pub blocks_cost : (file : NcFile) (blocks : List BlockVar) → sum_by (bytes_at file) (map place_of blocks) ≡ block_bytes file blocks
blocks_cost file [] = refl
blocks_cost file (b ∷ bs) =
    omega (arith, sum_by-cons (bytes_at file) b.var (map place_of bs), sum_by-cons (λ (c : BlockVar). bytes_at file c.var) b bs, blocks_cost file bs)

pub raw_reads : (file : NcFile) (vars : MeshVars) (old mid new : FilesSeen) (coords rows : List ℕ) → coords ≡ coord_places vars.coord → rows ≡ map place_of vars.blocks
    → ReadsAtMost old mid (sum_by (bytes_at file) coords) → ReadsAtMost mid new (sum_by (bytes_at file) rows) → ReadsAtMost old new (mesh_bytes file vars)
raw_reads file vars old mid new coords rows of_coords of_rows h k =
    let cost = sum_by (bytes_at file) in
    asks_on old mid new (cost coords) (cost rows) (mesh_bytes file vars) (omega (arith, ap cost of_coords, coords_cost file vars.coord, ap cost of_rows, blocks_cost file vars.blocks)) h k

-- The lists of a file give its raw mesh.

pub coords_long : (file : NcFile) (bytes : List ℕ) (nodes : ℕ) (coord : CoordVars) (places : List ℕ) (lists : List (List ℤ)) → IsHeader bytes (length bytes) file → AreCoordVars file nodes coord → places ≡ coord_places coord
    → map length lists ≡ map (count_at file) places → map length lists ≡ coord_lens coord nodes
coords_long file bytes nodes coord places lists h are placed long =
    long ∙ ap (map (count_at file)) placed ∙ coord_counts file bytes nodes coord are h ∙ coords_len bytes file nodes coord h are

pub rows_long : (file : NcFile) (bytes : List ℕ) (blocks : List BlockVar) (places : List ℕ) (lists : List (List ℤ)) → IsHeader bytes (length bytes) file → All (IsBlockVar file) blocks → places ≡ map place_of blocks
    → map length lists ≡ map (count_at file) places → map length lists ≡ row_lens blocks
rows_long file bytes blocks places lists h are placed long =
    long ∙ ap (map (count_at file)) placed ∙ row_counts file bytes blocks are h ∙ rows_len bytes file blocks h are

-- the lists are those of the variables at these places
abbrev AreAt : NcFile → List ℕ → List (List ℤ) → List ℕ → Type 0
AreAt file places lists bytes = map (λ (l : List ℤ). l) lists ≡ map (numbers_at file bytes) places

pub raw_is : (file : NcFile) (vars : MeshVars) (folder : Option Folder) (name : List ℕ) (coord_at row_at : List ℕ) (coords rows : List (List ℤ)) (raw : RawMesh) → coord_at ≡ coord_places vars.coord → row_at ≡ map place_of vars.blocks
    → OnFile folder name (AreAt file coord_at coords) → OnFile folder name (AreAt file row_at rows) → raw ≡ mesh_of vars coords rows → OnFile folder name (λ bytes. raw ≡ mesh_at file bytes vars)
raw_is file vars folder name coord_at row_at coords rows raw of_coords of_rows h k is =
    on_file folder name (AreAt file coord_at coords) (AreAt file row_at rows) (λ bytes. raw ≡ mesh_at file bytes vars)
    (λ bytes c r.
    is
    ∙ ap₂ (mesh_of vars) (coords_are file bytes vars.coord coords (c ∙ ap (map (numbers_at file bytes)) of_coords)) (rows_are file bytes vars.blocks rows (r ∙ ap (map (numbers_at file bytes)) of_rows)))
    h k
