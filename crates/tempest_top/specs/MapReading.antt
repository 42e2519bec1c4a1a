-- The map of the overlap of a file, whose pieces are read one after another. No public contract cites this file.
use Rattle.std.specs.Prelude.{◌≡◌, ◌≢◌, ◌<◌, ◌+◌, ℕ, Bool, true, false, List, length, map, Option, Result, Ok, Err, All, ⊤}
use Rattle.vec_exact.specs.declared.RawMesh.{RawMesh}
use Rattle.clip.specs.declared.pieces.Piece.{Piece}
use Rattle.clip.specs.Overlaps.{OverlapParts}
use Rattle.map_rows.specs.Maps.{MapParts}
use Rattle.remap_io.specs.Folder.{Folder, OnFile}
use Rattle.remap_io.specs.Outside.{FilesSeen}
use Rattle.remap_load.specs.Kinds.{HasContent, IsFileRefusal}
use Rattle.overlap_load.specs.Windows.{Reading, IsRead}
use Rattle.offline_map.specs.declared.faults.MapFault.{MapFault}
use Rattle.offline_map.specs.declared.faults.MapFault.TheVariants.{NoMemory}
use Rattle.offline_map.specs.Maps.{row_of, map_of}
use Rattle.offline_map.specs.MapFaults.{IsRightPiece, IsMapFaultOf, IsMappable}
use Rattle.offline_map.specs.Making.{Making, IsMadeOf}
use Rattle.fault_lines.specs.declared.status.Status.{Status}
use Rattle.fault_lines.specs.Faults.{status_of, text_of}
use Rattle.fault_lines.specs.RowFaults.{status_of_map_fault, map_fault_text}
use Rattle.tempest_top.specs.MapFaults.{overlap_words}
use Rattle.tempest_top.specs.declared.map.NoMap.{NoMap}
use Rattle.tempest_top.specs.declared.map.NoMap.TheVariants.{File, Fault}

-- a map in the making has the rows of the pieces that were read so far, and all of them are right
pub record IsMaking (folder : Option Folder) (name : List ℕ) (a b : RawMesh) (reader : Reading) (maker : Making) : Type 0 where
  pub pieces : List Piece
  pub read : IsRead folder name reader pieces
  pub source : reader.vars.faces_a ≡ length a.faces
  pub target : reader.vars.faces_b ≡ length b.faces
  pub made : maker ≡ record { a = a; b = b; rows = map row_of pieces }
  pub right : All (IsRightPiece a b) pieces

-- all pieces of an overlap that the file has, where the folder is told, were put to a map of these two meshes, and all are right
pub record IsWhole (folder : Option Folder) (name : List ℕ) (a b : RawMesh) (maker : Making) : Type 0 where
  pub overlap : OverlapParts
  pub of_file : OnFile folder name (λ bytes. HasContent overlap_words.kind bytes overlap)
  pub source : maker.a ≡ a
  pub target : maker.b ≡ b
  pub made : IsMadeOf maker overlap
  pub right : All (IsRightPiece maker.a maker.b) overlap.pieces

-- one more piece was put, and the reader stands behind it; where none was left, all were put
abbrev pub IsPut : Option Folder → List ℕ → RawMesh → RawMesh → Reading → Reading → Making → Bool → Type 0
IsPut folder name a b old new maker true = IsMaking folder name a b new maker × (new.vars ≡ old.vars) × (new.at ≡ old.at + 1) × (old.at < old.vars.pieces)
IsPut folder name a b old new maker false = IsWhole folder name a b maker

-- this is the map of an overlap that the file has, where the folder is told
pub record IsMapOfFile (folder : Option Folder) (name : List ℕ) (a b : RawMesh) (made : MapParts) : Type 0 where
  pub overlap : OverlapParts
  pub of_file : OnFile folder name (λ bytes. HasContent overlap_words.kind bytes overlap)
  pub mappable : IsMappable a b overlap
  pub is : made ≡ map_of overlap

-- such an overlap has this fault as one of the two meshes, unless memory ran out
pub record IsFaultOfFile (folder : Option Folder) (name : List ℕ) (a b : RawMesh) (fault : MapFault) : Type 0 where
  pub overlap : OverlapParts
  pub of_file : OnFile folder name (λ bytes. HasContent overlap_words.kind bytes overlap)
  pub is : fault ≢ NoMemory → IsMapFaultOf a b overlap fault

-- why there is no map: the file is refused, or its overlap has a fault
abbrev pub IsNoMap : FilesSeen → FilesSeen → List ℕ → RawMesh → RawMesh → NoMap → Type 0
IsNoMap old new name a b (File why) = IsFileRefusal overlap_words.kind old new name why
IsNoMap old new name a b (Fault fault) = IsFaultOfFile old.folder name a b fault

-- this holds, unless the file was refused
abbrev pub UnlessRefused : {A : Type 0} → Result A NoMap → Type 0 → Type 0
UnlessRefused (Ok x) P = P
UnlessRefused (Err (File why)) P = ⊤
UnlessRefused (Err (Fault fault)) P = P

-- what is said then, and the status
abbrev pub status_of_no_map : NoMap → Status
status_of_no_map (File why) = status_of overlap_words why
status_of_no_map (Fault fault) = status_of_map_fault fault

abbrev pub no_map_text : List ℕ → NoMap → List ℕ
no_map_text file (File why) = text_of overlap_words file why
no_map_text file (Fault fault) = map_fault_text file fault
