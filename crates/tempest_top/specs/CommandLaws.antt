-- What holds where one command is run on the file that another one wrote. Source: our own.
use Rattle.std.specs.Prelude.{◌≡◌, ◌≢◌, ◌⊎◌, ℕ, ℤ, List, Bool, true, false, Some, Ok}
use Rattle.vec_exact.specs.declared.RawMesh.{RawMesh}
use Rattle.remap_io.specs.Folder.{Folder, file_at}
use Rattle.nc_write.specs.File.{file_of}
use Rattle.mesh_load.specs.MeshFile.{IsMeshFile}
use Rattle.clip.specs.Overlaps.{OverlapParts}
use Rattle.overlap_run.specs.Whole.{IsOverlapOf}
use Rattle.offline_map.specs.Maps.{map_of}
use Rattle.map_files.specs.MapDocument.{map_document}
use Rattle.map_load.specs.MapFile.{IsMapFile}
use Rattle.map_rows.specs.Maps.{MapParts}
use Rattle.map_rows.specs.Application.{source_mass_of, target_mass_of}
use Rattle.field_mask.specs.Masked.{present_mass_of, part_mass_of}
use Rattle.nc_write.specs.declared.NcDoc.{NcDoc}
use Rattle.exodus_mesh.specs.declared.ids.NameFault.{NameFault}
use Rattle.field_files.specs.declared.FieldVar.{FieldVar}
use Rattle.field_files.specs.FieldShapes.{field_over}
use Rattle.remap_load.specs.declared.refusal.FileRefusal.{FileRefusal}
use Rattle.remap_load.specs.Kinds.{IsRefusedFile}
use Rattle.data_load.specs.declared.DataVar.{DataVar}
use Rattle.data_load.specs.DataFile.{IsDataFile, data_kind}
use Rattle.command_line.specs.Words.{options_of}
use Rattle.command_line.specs.declared.choices.Chosen.TheVariants.{Overlap, OfflineMap, Apply}
use Rattle.fault_lines.specs.declared.status.Status.TheVariants.{Done, Uncovered, Limit, Field}
use Rattle.fault_lines.specs.Faults.{status_of}
use Rattle.tempest_top.specs.FieldFaults.{data_words}
use Rattle.tempest_top.specs.Fields.{plain_of, plain_document, plain_text, masked_of, masked_document, masked_text}
use Rattle.tempest_top.specs.Outcome.{Outcome, IsOutcome, IsOutcomeOfField}

-- These words find the overlap of the meshes a and b, and write it to a file that neither of them is.
pub record AsksOverlap (words : List (List ℕ)) (a b ov : List ℕ) (workers : ℕ) : Type 0 where
  pub chosen : options_of words ≡ Some (Overlap a b ov workers)
  pub not_source : ov ≢ a
  pub not_target : ov ≢ b

-- The folder holds the two meshes by these names.
pub record HoldsMeshes (m : Folder) (a b : List ℕ) (source target : RawMesh) : Type 0 where
  pub source_file : IsMeshFile m a source
  pub target_file : IsMeshFile m b target

-- These words are done in the folder m, and leave the folder n.
pub record IsDone (words : List (List ℕ)) (m n : Folder) : Type 0 where
  pub outcome : Outcome
  pub is : IsOutcome (options_of words) (Some m) outcome
  pub done : outcome.status ≡ Done
  pub folder : outcome.folder ≡ Some n

-- By this name the folder holds the map of the overlap o of the two meshes: the file is that of its document, and reading it gives the map.
pub record HoldsMapOf (m : Folder) (name : List ℕ) (source target : RawMesh) (o : OverlapParts) : Type 0 where
  pub overlap : IsOverlapOf source target o
  pub bytes : file_at m name ≡ Some (file_of (map_document (map_of o)))
  pub read : IsMapFile m name (map_of o)

-- The command is done, and its file is the map of the overlap of the two meshes; or a target face has no row. It has no other outcome.
abbrev pub MakesMap : RawMesh → RawMesh → List ℕ → Outcome → Type 0
MakesMap source target name outcome =
    ((outcome.status ≡ Done) × ((n : Folder) × ((o : OverlapParts) × (outcome.folder ≡ Some n) × HoldsMapOf n name source target o)))
    ⊎ (outcome.status ≡ Uncovered)

-- After GenerateOverlapMesh on two meshes, GenerateOfflineMap on these and on the file that was written makes the map of the overlap of the two meshes, or a target face has no row.
abbrev pub MapAfterOverlap : Type 0
MapAfterOverlap =
    (m n : Folder) (words next : List (List ℕ)) (a b ov map : List ℕ) (workers : ℕ) (source target : RawMesh) (outcome : Outcome)
    → HoldsMeshes m a b source target → AsksOverlap words a b ov workers → IsDone words m n → options_of next ≡ Some (OfflineMap a b ov map) → IsOutcome (options_of next) (Some n) outcome
    → MakesMap source target map outcome

-- These words apply the map of a file to the variable of a data file that is neither this file nor the overlap file.
pub record AsksField (words : List (List ℕ)) (ov map var in_data out : List ℕ) (masked : Bool) : Type 0 where
  pub chosen : options_of words ≡ Some (Apply map var in_data out masked)
  pub not_overlap : in_data ≢ ov
  pub not_map : in_data ≢ map

-- What is made of a variable by a map, with a mask or without: the document, the text, and the masses before and after.
abbrev pub carried_document : Bool → MapParts → DataVar → FieldVar → NcDoc
carried_document true m found field = masked_document m found field
carried_document false m found field = plain_document m found field

abbrev pub carried_text : Bool → MapParts → DataVar → FieldVar → List ℕ
carried_text true m found field = masked_text m found field
carried_text false m found field = plain_text m found field

abbrev pub mass_before : Bool → MapParts → DataVar → FieldVar → ℤ
mass_before true m found field = present_mass_of m field.slices found.fill found.values
mass_before false m found field = source_mass_of m field.slices found.values

abbrev pub mass_after : Bool → MapParts → DataVar → FieldVar → ℤ
mass_after true m found field = part_mass_of m field.slices (masked_of m found field)
mass_after false m found field = let made = plain_of m found field in target_mass_of m field.slices made.whole made.rest

-- By this name the folder holds what the map of the overlap o makes of the variable, the text tells its masses, and these are equal.
pub record IsCarried (masked : Bool) (o : OverlapParts) (name : List ℕ) (found : DataVar) (field : FieldVar) (m : Folder) (outcome : Outcome) : Type 0 where
  pub lies : field_over found.file found.var o.faces_a ≡ Ok field
  pub folder : outcome.folder ≡ Some m
  pub bytes : file_at m name ≡ Some (file_of (carried_document masked (map_of o) found field))
  pub text : outcome.text ≡ carried_text masked (map_of o) found field
  pub masses : mass_after masked (map_of o) found field ≡ mass_before masked (map_of o) found field

-- The command is done with the map of the overlap o.
abbrev pub IsDoneField : Bool → OverlapParts → List ℕ → DataVar → Outcome → Type 0
IsDoneField masked o name found outcome = (outcome.status ≡ Done) × ((field : FieldVar) × ((m : Folder) × IsCarried masked o name found field m outcome))

-- It is done so, or the variable fits no map with so many sources or holds its fill value (Field), or the file would be too long (Limit).
abbrev pub MakesField : Bool → OverlapParts → List ℕ → DataVar → Outcome → Type 0
MakesField masked o name found outcome = IsDoneField masked o name found outcome ⊎ ((outcome.status ≡ Field) ⊎ (outcome.status ≡ Limit))

-- It comes to what the map of the overlap of the two meshes makes of the variable, over the folder p.
pub record MakesFieldOf (masked : Bool) (p : Folder) (source target : RawMesh) (in_data name : List ℕ) (found : DataVar) (outcome : Outcome) : Type 0 where
  pub o : OverlapParts
  pub overlap : IsOverlapOf source target o
  pub outcome_of : IsOutcomeOfField masked (map_of o) found in_data name (Some p) outcome
  pub makes : MakesField masked o name found outcome

-- The data file holds no such variable in the folder at the start, and this is refused; or it holds one there, and the command makes a field of it.
abbrev pub CarriesField : Bool → Folder → Folder → RawMesh → RawMesh → List ℕ → List ℕ → List ℕ → Outcome → Type 0
CarriesField masked m p source target var in_data name outcome =
    ((why : FileRefusal NameFault) × IsRefusedFile (data_kind var) m in_data why × (outcome.status ≡ status_of (data_words var) why))
    ⊎ ((found : DataVar) × IsDataFile m in_data var found × MakesFieldOf masked p source target in_data name found outcome)

-- After GenerateOverlapMesh on two meshes and GenerateOfflineMap on these and on the file that was written, ApplyOfflineMap on the map file carries a variable over by the map of the overlap of the two meshes.
abbrev pub FieldAfterMap : Type 0
FieldAfterMap =
    (m n p : Folder) (words next last : List (List ℕ)) (a b ov map var in_data out : List ℕ) (workers : ℕ) (masked : Bool) (source target : RawMesh) (outcome : Outcome)
    → HoldsMeshes m a b source target → AsksOverlap words a b ov workers → IsDone words m n → options_of next ≡ Some (OfflineMap a b ov map) → IsDone next n p
    → AsksField last ov map var in_data out masked → IsOutcome (options_of last) (Some p) outcome
    → CarriesField masked m p source target var in_data out outcome
