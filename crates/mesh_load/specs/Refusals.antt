-- Refusals by the faults that they come from, and which of them the parts of a call answer. No public contract cites this file.
use Rattle.std.specs.Prelude.{◌≡◌, Some, Ok, Err, ⊤}
use Rattle.vec_exact.specs.declared.RawMesh.{RawMesh}
use Rattle.nc_format.specs.declared.NcFile.{NcFile}
use Rattle.mesh_check.specs.declared.faults.MeshFault.{MeshFault}
use Rattle.mesh_check.specs.declared.faults.MeshFault.TheVariants as of_mesh
use Rattle.mesh_check.specs.FirstFault.{IsFirstMeshFault}
use Rattle.exodus_mesh.specs.declared.ids.NameFault.{NameFault}
use Rattle.exodus_mesh.specs.declared.ids.NameFault.TheVariants as of_names
use Rattle.exodus_mesh.specs.declared.vars.MeshVars.{MeshVars}
use Rattle.exodus_mesh.specs.MeshNames.{mesh_vars_in}
use Rattle.exodus_mesh.specs.MeshIn.{mesh_count_fault}
use Rattle.remap_load.specs.declared.fault.LoadFault.TheVariants as load
use Rattle.remap_load.specs.declared.refusal.FileRefusal.{FileRefusal}
use Rattle.remap_load.specs.declared.refusal.FileRefusal.TheVariants.{Load, Content}
use Rattle.mesh_load.specs.declared.MeshFileFault.{MeshFileFault}
use Rattle.mesh_load.specs.declared.MeshFileFault.TheVariants.{Names, Mesh}
use Rattle.mesh_load.specs.MeshFile.{IsMeshFileFault}

-- the refusal of a fault of names, or of a mesh; want of memory stays want of memory
abbrev pub refusal_of_names : NameFault → FileRefusal MeshFileFault
refusal_of_names of_names.NoMemory = Load load.NoMemory
refusal_of_names fault = Content (Names fault)

abbrev pub refusal_of_mesh : MeshFault → FileRefusal MeshFileFault
refusal_of_mesh of_mesh.NoMemory = Load load.NoMemory
refusal_of_mesh fault = Content (Mesh fault)

-- the faults that a header alone has
abbrev pub HasHeadFault : NcFile → MeshFileFault → Type 0
HasHeadFault file (Names fault) = mesh_vars_in file ≡ Err fault
HasHeadFault file (Mesh fault) = (vars : MeshVars) × (mesh_vars_in file ≡ Ok vars) × (mesh_count_fault vars ≡ Some fault)

-- those of a raw mesh
abbrev pub HasRawFault : RawMesh → MeshFileFault → Type 0
HasRawFault raw (Names fault) = ⊥
HasRawFault raw (Mesh fault) = IsFirstMeshFault raw fault

-- it is want of memory, or a fault of which this holds
abbrev pub IsOwn : (MeshFileFault → Type 0) → FileRefusal MeshFileFault → Type 0
IsOwn P (Load load.NoMemory) = ⊤
IsOwn P (Load fault) = ⊥
IsOwn P (Content fault) = IsMeshFileFault fault × P fault
