-- What a command comes to, apart from faults of devices and want of memory.
use Rattle.std.specs.Prelude.{◌≡◌, ◌⊎◌, ℕ, ◌*◌, ◌<◌, ◌≤◌, ℤ, List, [], length, Bool, true, false, codes, Option, Some, None, option_map, Result, Ok, Err}
use Rattle.vec_exact.specs.declared.limits.TheConstants.{MAX_FILE_LEN, MAX_PIECES}
use Rattle.vec_exact.specs.declared.RawMesh.{RawMesh}
use Rattle.remap_io.specs.Folder.{Folder, with_file}
use Rattle.nc_write.specs.File.{file_of}
use Rattle.nc_write.specs.declared.NcDoc.{NcDoc}
use Rattle.mesh_check.specs.declared.faults.MeshFault.{MeshFault}
use Rattle.mesh_check.specs.FirstFault.{IsFirstMeshFault}
use Rattle.gen_cs.specs.CubedSphere.{cubed_sphere}
use Rattle.gen_rll.specs.LatitudeLongitude.{latitude_longitude}
use Rattle.gen_ico.specs.Made.{IsMade}
use Rattle.exodus_mesh.specs.MeshDocument.{mesh_document}
use Rattle.remap_load.specs.declared.refusal.FileRefusal.{FileRefusal}
use Rattle.remap_load.specs.Kinds.{IsFile, IsRefusedFile}
use Rattle.clip.specs.Overlaps.{OverlapParts}
use Rattle.overlap_run.specs.Pairs.{IsPairCount}
use Rattle.overlap_run.specs.Whole.{IsOverlapOf}
use Rattle.remap_files.specs.OverlapDocument.{overlap_document}
use Rattle.map_files.specs.MapDocument.{map_document}
use Rattle.offline_map.specs.declared.faults.MapFault.{MapFault}
use Rattle.offline_map.specs.Maps.{map_of}
use Rattle.offline_map.specs.MapFaults.{IsMapFaultOf, IsMappable}
use Rattle.map_rows.specs.Maps.{MapParts}
use Rattle.field_files.specs.declared.FieldVar.{FieldVar}
use Rattle.field_files.specs.declared.NoFit.{NoFit}
use Rattle.field_files.specs.FieldShapes.{field_over}
use Rattle.data_load.specs.declared.DataVar.{DataVar}
use Rattle.cover_check.specs.declared.counting.CoverCount.{CoverCount}
use Rattle.cover_check.specs.CoveredTargets.{IsCoverCount}
use Rattle.mesh_partition.specs.declared.reporting.MeshReport.{MeshReport}
use Rattle.mesh_partition.specs.MeshReport.{IsMeshReportOf}
use Rattle.remap_chain.specs.declared.whole.ChainOut.{ChainOut}
use Rattle.remap_chain.specs.declared.faults.ChainFault.TheVariants as of_chain
use Rattle.remap_chain.specs.Chains.{IsChainOf, IsChainFaultOf}
use Rattle.command_line.specs.declared.choices.Chosen.{Chosen}
use Rattle.command_line.specs.declared.choices.Chosen.TheVariants.{Cs, Rll, Ico, Overlap, OfflineMap, Apply, SelfRun, Coverage, Check}
use Rattle.fault_lines.specs.declared.status.Status.{Status}
use Rattle.fault_lines.specs.declared.status.Status.TheVariants.{Done, Usage, Mesh, Uncovered, Limit, Field}
use Rattle.fault_lines.specs.Lines.{line_of}
use Rattle.tempest_top.specs.Texts.{mesh_text, pieces_text, map_text, coverage_text, report_text}
use Rattle.tempest_top.specs.SelfRuns.{values_of_faces, chain_text}
use Rattle.fault_lines.specs.Faults.{FileWords, status_of, text_of, mesh_words, mesh_fault_text, length_text, too_many_pieces_text}
use Rattle.fault_lines.specs.RowFaults.{status_of_map_fault, map_fault_text, uncovered_text}
use Rattle.tempest_top.specs.MapFaults.{overlap_words}
use Rattle.tempest_top.specs.FieldFaults.{map_words, data_words, no_fit_text, fill_text}
use Rattle.tempest_top.specs.Fields.{IsFilledAt, HasNoFill, plain_document, plain_text, masked_document, masked_text}
use Rattle.tempest_top.specs.Inputs.{inputs_of, AreTold}

-- The output file of a command: its name and its new bytes.
pub record Output : Type 0 where
  pub name : List ℕ
  pub bytes : List ℕ

-- A status, the output file if the command writes one, the new folder, the text for the output and the line for the refusal.
pub record Outcome : Type 0 where
  pub status : Status
  pub output : Option Output
  pub folder : Option Folder
  pub text : List ℕ
  pub line : List ℕ

-- a refusal leaves the folder as it was, puts no text, and has a line
abbrev pub refusal : Status → List ℕ → Option Folder → Outcome
refusal status text m = record { status = status; output = None; folder = m; text = []; line = line_of text }

-- The command is done: in the new folder the output file has its new bytes. What isn't told of the folder stays untold.
abbrev pub written : Output → List ℕ → Option Folder → Outcome
written output text m = record { status = Done; output = Some output; folder = option_map (λ f. with_file f output.name output.bytes) m; text = text; line = [] }

-- The command is done, and writes no file: its text is all.
abbrev pub text_alone : List ℕ → Option Folder → Outcome
text_alone text m = record { status = Done; output = None; folder = m; text = text; line = [] }

-- the file of a mesh
unfoldable pub mesh_output : RawMesh → List ℕ → Output
mesh_output raw name = record { name = name; bytes = file_of (mesh_document raw) }

-- The mesh is written to this file.
abbrev pub mesh_written : RawMesh → List ℕ → Option Folder → Outcome
mesh_written raw file m = written (mesh_output raw file) (mesh_text raw) m

-- a mesh that was made has a fault
abbrev pub fault_of_made : MeshFault → Option Folder → Outcome
fault_of_made fault m = refusal Mesh (mesh_fault_text (codes "generated") fault) m

-- A mesh that was made is tested: its first fault is refused, and a mesh without one is written.
abbrev pub IsOutcomeOfMade : RawMesh → List ℕ → Option Folder → Outcome → Type 0
IsOutcomeOfMade raw file m o =
    ((fault : MeshFault) × IsFirstMeshFault raw fault × (o ≡ fault_of_made fault m))
    ⊎ (((fault : MeshFault) → IsFirstMeshFault raw fault → ⊥) × (o ≡ mesh_written raw file m))

-- A file is dealt with: its refusal is told, or else it is gone on with what it holds. Of a folder that isn't told there is no
-- outcome.
abbrev pub AfterFile : {A C : Type 0} → FileWords A C → Option Folder → List ℕ → (A → Outcome → Type 0) → Outcome → Type 0
AfterFile words None file next o = ⊥
AfterFile {A = A} {C = C} words (Some m) file next o =
    ((why : FileRefusal C) × IsRefusedFile words.kind m file why × (o ≡ refusal (status_of words why) (text_of words file why) (Some m)))
    ⊎ ((content : A) × IsFile words.kind m file content × next content o)

-- A document is written to a file, unless that would have more than 2,147,483,647 bytes.
abbrev pub IsOutcomeOfDocument : NcDoc → List ℕ → List ℕ → Option Folder → Outcome → Type 0
IsOutcomeOfDocument doc text file m o =
    ((MAX_FILE_LEN < length (file_of doc)) × (o ≡ refusal Limit (length_text file (length (file_of doc))) m))
    ⊎ ((length (file_of doc) ≤ MAX_FILE_LEN) × (o ≡ written (record { name = file; bytes = file_of doc }) text m))

-- The overlap of two meshes is written to a file, unless more than 8,388,608 pairs of faces meet.
abbrev pub IsOutcomeOfPair : RawMesh → RawMesh → List ℕ → Option Folder → Outcome → Type 0
IsOutcomeOfPair source target file m o =
    ((n : ℕ) × IsPairCount source target n × (MAX_PIECES < n) × (o ≡ refusal Limit (too_many_pieces_text n) m))
    ⊎ ((overlap : OverlapParts) × IsOverlapOf source target overlap × (length overlap.pieces ≤ MAX_PIECES) × IsOutcomeOfDocument (overlap_document overlap) (pieces_text (length overlap.pieces)) file m o)

-- The map of the overlap of a file is written to another, unless the overlap has a fault as one of the two meshes, which is told.
abbrev pub IsOutcomeOfMap : RawMesh → RawMesh → OverlapParts → List ℕ → List ℕ → Option Folder → Outcome → Type 0
IsOutcomeOfMap source target overlap ov_file file m o =
    ((fault : MapFault) × IsMapFaultOf source target overlap fault × (o ≡ refusal (status_of_map_fault fault) (map_fault_text ov_file fault) m))
    ⊎ (IsMappable source target overlap × IsOutcomeOfDocument (map_document (map_of overlap)) (map_text (map_of overlap)) file m o)

-- The field that a map makes of a variable is written to a file, unless a value is the fill value: the first one is told.
abbrev pub IsOutcomeOfPlain : MapParts → DataVar → FieldVar → List ℕ → List ℕ → Option Folder → Outcome → Type 0
IsOutcomeOfPlain map found field in_data file m o =
    ((place : ℕ) × IsFilledAt found place × (o ≡ refusal Field (fill_text in_data place) m))
    ⊎ (HasNoFill found × IsOutcomeOfDocument (plain_document map found field) (plain_text map found field) file m o)

-- With a mask such values are absent.
abbrev pub IsOutcomeOfMasked : MapParts → DataVar → FieldVar → List ℕ → Option Folder → Outcome → Type 0
IsOutcomeOfMasked map found field file m o = IsOutcomeOfDocument (masked_document map found field) (masked_text map found field) file m o

-- Where no trailing dimensions of the variable fit the map, the length of the last one is told.
abbrev pub IsOutcomeOfFit : Result FieldVar NoFit → Bool → MapParts → DataVar → List ℕ → List ℕ → Option Folder → Outcome → Type 0
IsOutcomeOfFit (Err no_fit) masked map found in_data file m o = o ≡ refusal Field (no_fit_text in_data no_fit.last_len map.n_a) m
IsOutcomeOfFit (Ok field) true map found in_data file m o = IsOutcomeOfMasked map found field file m o
IsOutcomeOfFit (Ok field) false map found in_data file m o = IsOutcomeOfPlain map found field in_data file m o

-- The variable is laid over the sources of the map.
abbrev pub IsOutcomeOfField : Bool → MapParts → DataVar → List ℕ → List ℕ → Option Folder → Outcome → Type 0
IsOutcomeOfField masked map found in_data file m o = IsOutcomeOfFit (field_over found.file found.var map.n_a) masked map found in_data file m o

-- What the source mesh covers of the target mesh is told.
abbrev pub IsOutcomeOfCoverage : RawMesh → RawMesh → Option Folder → Outcome → Type 0
IsOutcomeOfCoverage source target m o = (count : CoverCount) × IsCoverCount source target count × (o ≡ text_alone (coverage_text (length target.faces) count) m)

-- The report on a mesh is told, unless more than 8,388,608 pairs of its faces meet.
abbrev pub IsOutcomeOfReport : RawMesh → Option Folder → Outcome → Type 0
IsOutcomeOfReport mesh m o =
    ((n : ℕ) × IsPairCount mesh mesh n × (8388608 < n) × (o ≡ refusal Limit (too_many_pieces_text n) m))
    ⊎ (((n : ℕ) → IsPairCount mesh mesh n → n ≤ 8388608) × ((report : MeshReport) × IsMeshReportOf mesh report × (o ≡ text_alone (report_text (length mesh.faces) report) m)))

-- What the chain gives of two meshes and the values at the source faces is told, unless more than 8,388,608 pairs of faces meet or a target face meets none.
abbrev pub IsOutcomeOfChain : RawMesh → RawMesh → List ℤ → Option Folder → Outcome → Type 0
IsOutcomeOfChain source target values m o =
    ((n : ℕ) × IsChainFaultOf source target values (of_chain.TooManyPieces n) × (o ≡ refusal Limit (too_many_pieces_text n) m))
    ⊎ (((j : ℕ) × IsChainFaultOf source target values (of_chain.Uncovered j) × (o ≡ refusal Uncovered (uncovered_text j) m))
    ⊎ ((out : ChainOut) × IsChainOf source target values out × (o ≡ text_alone (chain_text source target values out) m)))

-- The target mesh was made and is tested: its first fault is refused. Where it has none, the chain is run over the values that belong to the source faces.
abbrev pub IsOutcomeOfSelfRun : RawMesh → RawMesh → Option Folder → Outcome → Type 0
IsOutcomeOfSelfRun source target m o =
    ((fault : MeshFault) × IsFirstMeshFault target fault × (o ≡ fault_of_made fault m))
    ⊎ (((fault : MeshFault) → IsFirstMeshFault target fault → ⊥) × IsOutcomeOfChain source target (values_of_faces (length source.faces)) m o)

-- the words are out of the grammar
abbrev pub is_usage : Option Chosen → Bool
is_usage None = true
is_usage (Some (Cs res file)) = false
is_usage (Some (Rll lon lat file)) = false
is_usage (Some (Ico res dual file)) = false
is_usage (Some (Overlap a b out workers)) = false
is_usage (Some (OfflineMap in_mesh out_mesh ov_mesh out_map)) = false
is_usage (Some (Apply map var in_data out_data masked)) = false
is_usage (Some (SelfRun n workers)) = false
is_usage (Some (Coverage a b)) = false
is_usage (Some (Check file workers)) = false

-- they are refused
abbrev pub usage : Option Folder → Outcome
usage m = refusal Usage (codes "usage") m

-- From this command and this folder the program comes to this: the first refusal that stands, else Done. Every cubed sphere is
-- accepted, so that it isn't tested.
abbrev pub IsOutcome : Option Chosen → Option Folder → Outcome → Type 0
IsOutcome None m o = o ≡ usage m
IsOutcome (Some (Cs res file)) m o = o ≡ mesh_written (cubed_sphere res) file m
IsOutcome (Some (Rll lon lat file)) m o = IsOutcomeOfMade (latitude_longitude lon lat) file m o
IsOutcome (Some (Ico res dual file)) m o = (raw : RawMesh) × IsMade res dual raw × IsOutcomeOfMade raw file m o
IsOutcome (Some (Overlap a b out workers)) m o = AfterFile mesh_words m a (λ source. AfterFile mesh_words m b (λ target. IsOutcomeOfPair source target out m)) o
IsOutcome (Some (OfflineMap in_mesh out_mesh ov_mesh out_map)) m o =
    AfterFile mesh_words m in_mesh (λ source. AfterFile mesh_words m out_mesh (λ target. AfterFile overlap_words m ov_mesh (λ overlap. IsOutcomeOfMap source target overlap ov_mesh out_map m))) o
IsOutcome (Some (Apply map var in_data out_data masked)) m o =
    AfterFile map_words m map (λ parts. AfterFile (data_words var) m in_data (λ found. IsOutcomeOfField masked parts found in_data out_data m)) o
IsOutcome (Some (SelfRun n workers)) m o = IsOutcomeOfSelfRun (cubed_sphere n) (latitude_longitude (4 * n) (2 * n)) m o
IsOutcome (Some (Coverage a b)) m o = AfterFile mesh_words m a (λ source. AfterFile mesh_words m b (λ target. IsOutcomeOfCoverage source target m)) o
IsOutcome (Some (Check file workers)) m o = AfterFile mesh_words m file (λ mesh. IsOutcomeOfReport mesh m) o

-- There is an outcome with this, and no other outcome. Of a command with input files it is said only where the folder is told.
abbrev pub TheOutcome : Option Chosen → Option Folder → (Outcome → Type 0) → Type 0
TheOutcome chosen m P = AreTold (inputs_of chosen) m → (o : Outcome) × IsOutcome chosen m o × ((p : Outcome) → IsOutcome chosen m p → p ≡ o) × P o
