-- The mesh that the numbers of a file say. Source: Exodus II; that repeated neighbours count once is this project's own.
use Rattle.std.specs.Prelude.{ℕ, suc, zero, ◌-◌, ◌*◌, ℤ, pos, List, [], ◌∷◌, ◌++◌, length, map, take, drop, Bool, nat_lt, ◌&&◌, if◌then◌else◌, slice_index_or}
use Rattle.std.specs.List.{range_with_len}
use Rattle.std.specs.Ordering.{int_eq}
use Rattle.vec_exact.specs.declared.RawMesh.{RawMesh}
use Rattle.exodus_mesh.specs.declared.vars.CoordVars.{CoordVars}
use Rattle.exodus_mesh.specs.declared.vars.CoordVars.TheVariants.{Whole, Split}
use Rattle.exodus_mesh.specs.declared.vars.BlockVar.{BlockVar}
use Rattle.exodus_mesh.specs.declared.vars.MeshVars.{MeshVars}

-- How many numbers each variable has.

-- `coord` has three numbers a node; `coordx`, `coordy` and `coordz` have one each
abbrev pub coord_lens : CoordVars → ℕ → List ℕ
coord_lens (Whole coord) nodes = 3 * nodes ∷ []
coord_lens (Split x y z) nodes = nodes ∷ nodes ∷ nodes ∷ []

-- each block has as many numbers as faces times width
abbrev pub row_lens : List BlockVar → List ℕ
row_lens blocks = map (λ (b : BlockVar). b.faces * b.width) blocks

-- Nodes.

-- the row of the x, y or z of all nodes, for k from 0 to 2
abbrev pub axis : CoordVars → ℕ → List (List ℤ) → ℕ → List ℤ
axis (Whole coord) nodes coords k = take nodes (drop (k * nodes) (slice_index_or coords 0 []))
axis (Split x y z) nodes coords k = slice_index_or coords k []

-- node p, from 0, has the value at p of each row
abbrev pub node_at : List ℤ → List ℤ → List ℤ → ℕ → List ℤ
node_at x y z p = slice_index_or x p (pos 0) ∷ slice_index_or y p (pos 0) ∷ slice_index_or z p (pos 0) ∷ []

abbrev pub nodes_of : CoordVars → ℕ → List (List ℤ) → List (List ℤ)
nodes_of coord nodes coords = map (node_at (axis coord nodes coords 0) (axis coord nodes coords 1) (axis coord nodes coords 2)) (range_with_len 0 nodes)

-- Faces.

-- what is left behind a number, where each number that equals the one before it is dropped
abbrev pub kept_behind : ℤ → List ℤ → List ℤ
kept_behind before [] = []
kept_behind before (x ∷ xs) = if int_eq before x then kept_behind x xs else x ∷ kept_behind x xs

abbrev pub without_repeats : List ℤ → List ℤ
without_repeats [] = []
without_repeats (x ∷ xs) = x ∷ kept_behind x xs

-- the last number equals the first and is not the only one
abbrev pub closes : List ℤ → Bool
closes xs = nat_lt 1 (length xs) && int_eq (slice_index_or xs 0 (pos 0)) (slice_index_or xs (length xs - 1) (pos 0))

-- such a last number is dropped
abbrev pub opened : List ℤ → List ℤ
opened xs = if closes xs then take (length xs - 1) xs else xs

-- the face of a row
unfoldable pub face_of_row : List ℤ → List ℤ
face_of_row row = opened (without_repeats row)

-- so many rows of a width, one after another
abbrev pub rows_of : ℕ → ℕ → List ℤ → List (List ℤ)
rows_of zero width numbers = []
rows_of (suc n) width numbers = take width numbers ∷ rows_of n width (drop width numbers)

-- the faces of a block
abbrev pub block_faces : BlockVar → List ℤ → List (List ℤ)
block_faces block numbers = map face_of_row (rows_of block.faces block.width numbers)

-- the faces of all blocks, in order
abbrev pub faces_of : List BlockVar → List (List ℤ) → List (List ℤ)
faces_of [] rows = []
faces_of (block ∷ blocks) [] = []
faces_of (block ∷ blocks) (numbers ∷ rows) = block_faces block numbers ++ faces_of blocks rows

-- The mesh of some variables whose numbers are these, by variable.
unfoldable pub mesh_of : MeshVars → List (List ℤ) → List (List ℤ) → RawMesh
mesh_of vars coords rows = record { nodes = nodes_of vars.coord vars.nodes coords; faces = faces_of vars.blocks rows }
