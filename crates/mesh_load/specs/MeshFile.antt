-- The mesh in a file of a folder, or why there is none. Source: Exodus II and the netCDF classic format, as the crates below
-- define them; the limit on the length and the order of refusals are our own.
use Rattle.std.specs.Prelude.{◌≡◌, ◌≢◌, ◌⊎◌, ◌+◌, ℕ, List, Result, Ok, Err, ⊤}
use Rattle.std.specs.List.{sum_by}
use Rattle.vec_exact.specs.declared.RawMesh.{RawMesh}
use Rattle.remap_io.specs.Folder.{Folder}
use Rattle.nc_format.specs.declared.NcFile.{NcFile}
use Rattle.mesh_check.specs.declared.faults.MeshFault.{MeshFault}
use Rattle.mesh_check.specs.declared.faults.MeshFault.TheVariants as of_mesh
use Rattle.mesh_check.specs.Mesh.{IsAcceptedMesh}
use Rattle.mesh_check.specs.FirstFault.{IsFirstMeshFault}
use Rattle.exodus_mesh.specs.declared.ids.NameFault.{NameFault}
use Rattle.exodus_mesh.specs.declared.ids.NameFault.TheVariants as of_names
use Rattle.exodus_mesh.specs.declared.vars.CoordVars.{CoordVars}
use Rattle.exodus_mesh.specs.declared.vars.CoordVars.TheVariants.{Whole, Split}
use Rattle.exodus_mesh.specs.declared.vars.BlockVar.{BlockVar}
use Rattle.exodus_mesh.specs.declared.vars.MeshVars.{MeshVars}
use Rattle.exodus_mesh.specs.MeshNames.{mesh_vars_in}
use Rattle.exodus_mesh.specs.MeshIn as mesh
use Rattle.exodus_mesh.specs.MeshIn.{mesh_in}
use Rattle.remap_load.specs.declared.refusal.FileRefusal.{FileRefusal}
use Rattle.remap_load.specs.declared.refusal.FileRefusal.TheVariants.{Load, Content}
use Rattle.remap_load.specs.Pieces.{bytes_at}
use Rattle.remap_load.specs.Kinds.{FileKind, IsFile, IsRefusedFile, file_cost}
use Rattle.mesh_load.specs.declared.MeshFileFault.{MeshFileFault}
use Rattle.mesh_load.specs.declared.MeshFileFault.TheVariants.{Names, Mesh}

-- a file of this header and these bytes has this mesh, and it is accepted
pub record HoldsMesh (file : NcFile) (bytes : List ℕ) (raw : RawMesh) : Type 0 where
  pub mesh : mesh_in file bytes ≡ Ok raw
  pub accepted : IsAcceptedMesh raw

-- no fault of names and counts, and this first one of the mesh
pub record HasMeshFault (file : NcFile) (bytes : List ℕ) (fault : MeshFault) : Type 0 where
  pub raw : RawMesh
  pub mesh : mesh_in file bytes ≡ Ok raw
  pub first : IsFirstMeshFault raw fault

-- the first fault of the names in the header; or no such one, and this one of the counts; or else the first fault of the mesh
abbrev pub FailsMesh : NcFile → List ℕ → MeshFileFault → Type 0
FailsMesh file bytes (Names fault) = mesh_in file bytes ≡ Err (mesh.Names fault)
FailsMesh file bytes (Mesh fault) = (mesh_in file bytes ≡ Err (mesh.Counts fault)) ⊎ HasMeshFault file bytes fault

-- want of memory is no fault of a file
abbrev pub IsMeshFileFault : MeshFileFault → Type 0
IsMeshFileFault (Names fault) = fault ≢ of_names.NoMemory
IsMeshFileFault (Mesh fault) = fault ≢ of_mesh.NoMemory

-- the bytes of the coordinates
abbrev pub coord_bytes : NcFile → CoordVars → ℕ
coord_bytes file (Whole coord) = bytes_at file coord
coord_bytes file (Split x y z) = bytes_at file x + bytes_at file y + bytes_at file z

-- those of the blocks
abbrev pub block_bytes : NcFile → List BlockVar → ℕ
block_bytes file blocks = sum_by (λ (b : BlockVar). bytes_at file b.var) blocks

-- those of all variables that the mesh needs
abbrev pub mesh_bytes : NcFile → MeshVars → ℕ
mesh_bytes file vars = coord_bytes file vars.coord + block_bytes file vars.blocks

abbrev pub named_bytes : NcFile → Result MeshVars NameFault → ℕ
named_bytes file (Ok vars) = mesh_bytes file vars
named_bytes file (Err fault) = 0

-- mesh files
abbrev pub mesh_kind : FileKind RawMesh MeshFileFault
mesh_kind = record {
  Holds = HoldsMesh;
  Fails = FailsMesh;
  IsFault = IsMeshFileFault;
  needed = λ file. named_bytes file (mesh_vars_in file);
}

-- The name holds this mesh, and it is accepted.
abbrev pub IsMeshFile : Folder → List ℕ → RawMesh → Type 0
IsMeshFile m name raw = IsFile mesh_kind m name raw

-- The name holds no accepted mesh, for this reason. It is never a failed read or want of memory.
abbrev pub IsRefusedMesh : Folder → List ℕ → FileRefusal MeshFileFault → Type 0
IsRefusedMesh m name refusal = IsRefusedFile mesh_kind m name refusal

-- How many bytes are asked for: for the header, and for the variables that the mesh needs.
abbrev pub mesh_cost : Folder → List ℕ → ℕ
mesh_cost m name = file_cost mesh_kind m name

-- the header alone has this fault: one of names or of counts
abbrev pub IsOfHead : FileRefusal MeshFileFault → Type 0
IsOfHead (Load fault) = ⊥
IsOfHead (Content (Names fault)) = ⊤
IsOfHead (Content (Mesh (of_mesh.TooManyNodes n))) = ⊤
IsOfHead (Content (Mesh (of_mesh.TooManyFaces n))) = ⊤
IsOfHead (Content (Mesh fault)) = ⊥
