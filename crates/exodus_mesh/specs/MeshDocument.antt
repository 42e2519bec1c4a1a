-- The document of a mesh. Source: Exodus II for the names; that coordinates are whole numbers is our own.
use Rattle.std.specs.Prelude.{ℕ, ◌-◌, ℤ, pos, List, [], ◌∷◌, ◌++◌, length, map, flat_map, fold, max, replicate, slice_index_or, codes}
use Rattle.vec_exact.specs.declared.RawMesh.{RawMesh}
use Rattle.nc_write.specs.declared.NcDoc.{NcDoc}
use Rattle.nc_write.specs.declared.DocDim.{DocDim}
use Rattle.nc_write.specs.declared.DocVar.{DocVar}
use Rattle.nc_write.specs.declared.Values.TheVariants.{Int}

abbrev pub dimension_of : List ℕ → ℕ → DocDim
dimension_of name len = record { name = name; len = len }

-- the greatest number of nodes of a face
abbrev pub width_of : List (List ℤ) → ℕ
width_of faces = fold max 0 (map length faces)

-- a face with fewer nodes than the width repeats its last one
abbrev pub filled : ℕ → List ℤ → List ℤ
filled width face = face ++ replicate (width - length face) (slice_index_or face (length face - 1) (pos 0))

-- the k-th components of all nodes, k from 0 to 2
abbrev pub component : ℕ → List (List ℤ) → List ℤ
component k nodes = map (λ t. slice_index_or t k (pos 0)) nodes

abbrev pub dimensions_of : ℕ → ℕ → ℕ → List DocDim
dimensions_of nodes faces width =
    dimension_of (codes "num_dim") 3
    ∷ dimension_of (codes "num_nodes") nodes
    ∷ dimension_of (codes "num_elem") faces
    ∷ dimension_of (codes "num_el_blk") 1
    ∷ dimension_of (codes "num_el_in_blk1") faces
    ∷ dimension_of (codes "num_nod_per_el1") width
    ∷ []

-- coord(num_dim, num_nodes): first all x, then all y, then all z
abbrev pub coord_of : List (List ℤ) → DocVar
coord_of nodes = record { name = codes "coord"; dims = 0 ∷ 1 ∷ []; values = Int (component 0 nodes ++ component 1 nodes ++ component 2 nodes) }

-- connect1(num_el_in_blk1, num_nod_per_el1): face by face
abbrev pub connect_of : List (List ℤ) → ℕ → DocVar
connect_of faces width = record { name = codes "connect1"; dims = 4 ∷ 5 ∷ []; values = Int (flat_map (filled width) faces) }

unfoldable pub mesh_document : RawMesh → NcDoc
mesh_document raw = record {
  records = 0;
  dims = dimensions_of (length raw.nodes) (length raw.faces) (width_of raw.faces);
  atts = [];
  vars = coord_of raw.nodes ∷ connect_of raw.faces (width_of raw.faces) ∷ [];
}
