-- The texts of faults. Source: our own.
use Rattle.std.specs.Prelude.{ℕ, List, [], ◌++◌, codes, decimal}
use Rattle.nc_format.specs.declared.fault.NcFault.{NcFault}
use Rattle.nc_format.specs.declared.fault.NcFault.TheVariants.{NotNetcdf, Truncated, BadField, Streaming, DataOutside, NoMemory as NoHeaderMemory}
use Rattle.mesh_check.specs.declared.faults.GenFault.{GenFault}
use Rattle.mesh_check.specs.declared.faults.GenFault.TheVariants.{Mesh as FaultOfMade, NoMemory as NoMadeMemory}
use Rattle.mesh_check.specs.declared.faults.MeshFault.{MeshFault}
use Rattle.mesh_check.specs.declared.faults.MeshFault.TheVariants.{TooManyNodes, TooManyFaces, CoordRange, ZeroNode, NodeNumber, FaceSize, NotConvex, NoMemory as NoMeshMemory}
use Rattle.exodus_mesh.specs.declared.ids.NameFault.{NameFault}
use Rattle.exodus_mesh.specs.declared.ids.NameFault.TheVariants.{Missing, Shape, Kind, NoMemory as NoNameMemory}
use Rattle.exodus_mesh.specs.Names.{name_of}
use Rattle.vec_exact.specs.declared.RawMesh.{RawMesh}
use Rattle.remap_load.specs.declared.fault.LoadFault.{LoadFault}
use Rattle.remap_load.specs.declared.fault.LoadFault.TheVariants.{Absent, Failed, TooLong, Format as BadHeader, NoMemory as NoFileMemory}
use Rattle.remap_load.specs.declared.refusal.FileRefusal.{FileRefusal}
use Rattle.remap_load.specs.declared.refusal.FileRefusal.TheVariants.{Load, Content}
use Rattle.remap_load.specs.Kinds.{FileKind}
use Rattle.mesh_load.specs.declared.MeshFileFault.{MeshFileFault}
use Rattle.mesh_load.specs.declared.MeshFileFault.TheVariants.{Names as BadNames, Mesh as BadMesh}
use Rattle.mesh_load.specs.MeshFile.{mesh_kind}
use Rattle.overlap_run.specs.declared.faults.RunFault.{RunFault}
use Rattle.overlap_run.specs.declared.faults.RunFault.TheVariants.{TooManyPieces, NoMemory as NoRunMemory}
use Rattle.fault_lines.specs.declared.status.Status.{Status}
use Rattle.fault_lines.specs.declared.status.Status.TheVariants.{NoFile, Format, Names, Mesh, Limit, ReadFault, NoMemory}

-- what is wrong with the header of a file: at an offset, or with a variable, which is named by its number
abbrev pub header_fault_text : List ℕ → NcFault → List ℕ
header_fault_text file NotNetcdf = file ++ codes ": not netCDF"
header_fault_text file (Truncated n) = file ++ codes ": truncated at " ++ decimal n
header_fault_text file (BadField n) = file ++ codes ": bad field at " ++ decimal n
header_fault_text file Streaming = file ++ codes ": streaming"
header_fault_text file (DataOutside n) = file ++ codes ": data of variable " ++ decimal n ++ codes " outside file"
header_fault_text file NoHeaderMemory = codes "no memory"

-- which needed name of a file is at fault, where `--var` gave the name `var`
abbrev pub name_fault_text : List ℕ → List ℕ → NameFault → List ℕ
name_fault_text file var (Missing id) = file ++ codes ": missing " ++ name_of var id
name_fault_text file var (Shape id) = file ++ codes ": shape of " ++ name_of var id
name_fault_text file var (Kind id) = file ++ codes ": kind of " ++ name_of var id
name_fault_text file var NoNameMemory = codes "no memory"

-- what is wrong with the mesh of a file: the node or the face is named by its number
abbrev pub mesh_fault_text : List ℕ → MeshFault → List ℕ
mesh_fault_text file (TooManyNodes n) = file ++ codes ": too many nodes " ++ decimal n
mesh_fault_text file (TooManyFaces n) = file ++ codes ": too many faces " ++ decimal n
mesh_fault_text file (CoordRange n) = file ++ codes ": coordinate range at node " ++ decimal n
mesh_fault_text file (ZeroNode n) = file ++ codes ": zero node " ++ decimal n
mesh_fault_text file (NodeNumber n) = file ++ codes ": node number in face " ++ decimal n
mesh_fault_text file (FaceSize n) = file ++ codes ": size of face " ++ decimal n
mesh_fault_text file (NotConvex n) = file ++ codes ": face " ++ decimal n ++ codes " not convex"
mesh_fault_text file NoMeshMemory = codes "no memory"

-- a file has, or would have, too many bytes: so many
abbrev pub length_text : List ℕ → ℕ → List ℕ
length_text file n = file ++ codes ": " ++ decimal n ++ codes " bytes"

-- too many pairs of faces meet: so many
abbrev pub too_many_pieces_text : ℕ → List ℕ
too_many_pieces_text n = codes "too many pieces " ++ decimal n

abbrev pub read_fault_text : List ℕ → List ℕ
read_fault_text file = codes "read fault on " ++ file

-- what a generator answers in place of a mesh: the file is called `generated`
abbrev pub made_text : GenFault → List ℕ
made_text (FaultOfMade fault) = mesh_fault_text (codes "generated") fault
made_text NoMadeMemory = codes "no memory"

abbrev pub status_of_made : GenFault → Status
status_of_made (FaultOfMade fault) = Mesh
status_of_made NoMadeMemory = NoMemory

-- what is answered in place of an overlap
abbrev pub run_text : RunFault → List ℕ
run_text (TooManyPieces n) = too_many_pieces_text n
run_text NoRunMemory = codes "no memory"

abbrev pub status_of_run : RunFault → Status
status_of_run (TooManyPieces n) = Limit
status_of_run NoRunMemory = NoMemory

-- why a file wasn't loaded
abbrev pub load_text : List ℕ → LoadFault → List ℕ
load_text file Absent = codes "no file " ++ file
load_text file Failed = read_fault_text file
load_text file (TooLong n) = length_text file n
load_text file (BadHeader fault) = header_fault_text file fault
load_text file NoFileMemory = codes "no memory"

abbrev pub status_of_load : LoadFault → Status
status_of_load Absent = NoFile
status_of_load Failed = ReadFault
status_of_load (TooLong n) = Limit
status_of_load (BadHeader fault) = Format
status_of_load NoFileMemory = NoMemory

-- A kind of file, and the status and the text of its own faults.
pub record FileWords (A C : Type 0) : Type 1 where
  pub kind : FileKind A C
  pub status : C → Status
  pub text : List ℕ → C → List ℕ

-- the status of the refusal of a file, and its text
abbrev pub status_of : {A C : Type 0} → FileWords A C → FileRefusal C → Status
status_of words (Load fault) = status_of_load fault
status_of words (Content fault) = words.status fault

abbrev pub text_of : {A C : Type 0} → FileWords A C → List ℕ → FileRefusal C → List ℕ
text_of words file (Load fault) = load_text file fault
text_of words file (Content fault) = words.text file fault

-- why a file holds no mesh
abbrev pub status_of_mesh_file : MeshFileFault → Status
status_of_mesh_file (BadNames fault) = Names
status_of_mesh_file (BadMesh fault) = Mesh

abbrev pub mesh_file_text : List ℕ → MeshFileFault → List ℕ
mesh_file_text file (BadNames fault) = name_fault_text file [] fault
mesh_file_text file (BadMesh fault) = mesh_fault_text file fault

abbrev pub mesh_words : FileWords RawMesh MeshFileFault
mesh_words = record { kind = mesh_kind; status = status_of_mesh_file; text = mesh_file_text }
