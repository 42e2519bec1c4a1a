-- The texts of faults of files of rows, and of overlaps that are none of two meshes. Source: our own.
use Rattle.std.specs.Prelude.{◌≡◌, ◌≢◌, ℕ, List, [], ◌++◌, codes, decimal}
use Rattle.exodus_mesh.specs.declared.faults.FileFault.{FileFault}
use Rattle.exodus_mesh.specs.declared.faults.FileFault.TheVariants.{Name, Row, AreaA, AreaB, NoMemory}
use Rattle.offline_map.specs.declared.faults.MapFault.{MapFault}
use Rattle.offline_map.specs.declared.faults.MapFault.TheVariants.{CountsA, CountsB, Row as WrongPiece, Uncovered as WithoutRow, NoMemory as NoMapMemory}
use Rattle.fault_lines.specs.declared.status.Status.{Status}
use Rattle.fault_lines.specs.declared.status.Status.TheVariants.{Names, Rows, Uncovered, NoMemory as WantOfMemory}
use Rattle.fault_lines.specs.Faults.{name_fault_text}

-- a row of a file is at fault: it is named by its number
abbrev pub row_text : List ℕ → ℕ → List ℕ
row_text file n = file ++ codes ": row " ++ decimal n

-- what is wrong with a file of rows: a name, a row, or the area of a face
abbrev pub file_fault_text : List ℕ → FileFault → List ℕ
file_fault_text file (Name fault) = name_fault_text file [] fault
file_fault_text file (Row n) = row_text file n
file_fault_text file (AreaA n) = file ++ codes ": area_a " ++ decimal n
file_fault_text file (AreaB n) = file ++ codes ": area_b " ++ decimal n
file_fault_text file NoMemory = codes "no memory"

abbrev pub status_of_file_fault : FileFault → Status
status_of_file_fault (Name fault) = Names
status_of_file_fault (Row n) = Rows
status_of_file_fault (AreaA n) = Rows
status_of_file_fault (AreaB n) = Rows
status_of_file_fault NoMemory = Rows

-- a count of faces in a file is not that of the mesh
abbrev pub counts_text : List ℕ → List ℕ → ℕ → ℕ → List ℕ
counts_text file name in_file of_mesh = file ++ name ++ decimal in_file ++ codes " mesh " ++ decimal of_mesh

-- a target face has no row: it is named by its number
abbrev pub uncovered_text : ℕ → List ℕ
uncovered_text n = codes "target " ++ decimal n ++ codes " uncovered"

-- why the overlap of a file is none of two meshes
abbrev pub map_fault_text : List ℕ → MapFault → List ℕ
map_fault_text file (CountsA in_file of_mesh) = counts_text file (codes ": faces_a ") in_file of_mesh
map_fault_text file (CountsB in_file of_mesh) = counts_text file (codes ": faces_b ") in_file of_mesh
map_fault_text file (WrongPiece n) = row_text file n
map_fault_text file (WithoutRow n) = uncovered_text n
map_fault_text file NoMapMemory = codes "no memory"

abbrev pub status_of_map_fault : MapFault → Status
status_of_map_fault (CountsA in_file of_mesh) = Rows
status_of_map_fault (CountsB in_file of_mesh) = Rows
status_of_map_fault (WrongPiece n) = Rows
status_of_map_fault (WithoutRow n) = Uncovered
status_of_map_fault NoMapMemory = WantOfMemory

-- what is said where the overlap of a file has no map
abbrev pub IsMapText : List ℕ → List ℕ → Status → Type 0
IsMapText file text status = (fault : MapFault) × (fault ≢ NoMapMemory) × (status ≡ status_of_map_fault fault) × (text ≡ map_fault_text file fault)
