-- The files of a command. Source: our own.
use Rattle.std.specs.Prelude.{◌≡◌, ◌⊎◌, ℕ, List, [], ◌∷◌, Option, Some, None, IfSome, ⊤}
use Rattle.std.specs.List.{sum_by}
use Rattle.vec_exact.specs.declared.RawMesh.{RawMesh}
use Rattle.clip.specs.Overlaps.{OverlapParts}
use Rattle.map_rows.specs.Maps.{MapParts}
use Rattle.data_load.specs.declared.DataVar.{DataVar}
use Rattle.remap_io.specs.Folder.{Folder}
use Rattle.remap_load.specs.declared.refusal.FileRefusal.{FileRefusal}
use Rattle.remap_load.specs.Kinds.{IsFile, IsToldRefusal, file_cost}
use Rattle.command_line.specs.declared.choices.Chosen.{Chosen}
use Rattle.command_line.specs.declared.choices.Chosen.TheVariants.{Cs, Rll, Ico, Overlap, OfflineMap, Apply, SelfRun, Coverage, Check}
use Rattle.fault_lines.specs.declared.status.Status.{Status}
use Rattle.fault_lines.specs.Faults.{FileWords, status_of, text_of, mesh_words}
use Rattle.tempest_top.specs.MapFaults.{overlap_words}
use Rattle.tempest_top.specs.FieldFaults.{map_words, data_words}

-- an input file, by what it is to hold
pub data Input : Type 0 where
  MeshFile : List ℕ → Input
  OverlapFile : List ℕ → Input
  MapFile : List ℕ → Input
  -- a data file with a variable of the first name
  DataFile : List ℕ → List ℕ → Input

-- its name
abbrev pub name_of_input : Input → List ℕ
name_of_input (MeshFile name) = name
name_of_input (OverlapFile name) = name
name_of_input (MapFile name) = name
name_of_input (DataFile var name) = name

-- the file holds it
abbrev pub IsGood : Folder → Input → Type 0
IsGood m (MeshFile name) = (mesh : RawMesh) × IsFile mesh_words.kind m name mesh
IsGood m (OverlapFile name) = (overlap : OverlapParts) × IsFile overlap_words.kind m name overlap
IsGood m (MapFile name) = (map : MapParts) × IsFile map_words.kind m name map
IsGood m (DataFile var name) = (found : DataVar) × IsFile (data_words var).kind m name found

-- how many bytes are asked for at most where it does
abbrev pub cost_of : Folder → Input → ℕ
cost_of m (MeshFile name) = file_cost mesh_words.kind m name
cost_of m (OverlapFile name) = file_cost overlap_words.kind m name
cost_of m (MapFile name) = file_cost map_words.kind m name
cost_of m (DataFile var name) = file_cost (data_words var).kind m name

-- the text and the status of a refusal of a file of a kind
abbrev pub IsFileText : {A C : Type 0} → FileWords A C → List ℕ → List ℕ → Status → Type 0
IsFileText {C = C} words name text status =
    (why : FileRefusal C) × IsToldRefusal words.kind why × (status ≡ status_of words why) × (text ≡ text_of words name why)

-- the same of an input file
abbrev pub IsInputText : Input → List ℕ → Status → Type 0
IsInputText (MeshFile name) text status = IsFileText mesh_words name text status
IsInputText (OverlapFile name) text status = IsFileText overlap_words name text status
IsInputText (MapFile name) text status = IsFileText map_words name text status
IsInputText (DataFile var name) text status = IsFileText (data_words var) name text status

-- the input files of a command, in the order in which they are dealt with
abbrev pub inputs_of : Option Chosen → List Input
inputs_of None = []
inputs_of (Some (Cs res file)) = []
inputs_of (Some (Rll lon lat file)) = []
inputs_of (Some (Ico res dual file)) = []
inputs_of (Some (Overlap a b out workers)) = MeshFile a ∷ MeshFile b ∷ []
inputs_of (Some (OfflineMap in_mesh out_mesh ov_mesh out_map)) = MeshFile in_mesh ∷ MeshFile out_mesh ∷ OverlapFile ov_mesh ∷ []
inputs_of (Some (Apply map var in_data out_data masked)) = MapFile map ∷ DataFile var in_data ∷ []
inputs_of (Some (SelfRun n workers)) = []
inputs_of (Some (Coverage a b)) = MeshFile a ∷ MeshFile b ∷ []
inputs_of (Some (Check file workers)) = MeshFile file ∷ []

-- the name of the output file of a command that has one
abbrev pub output_of : Option Chosen → Option (List ℕ)
output_of None = None
output_of (Some (Cs res file)) = Some file
output_of (Some (Rll lon lat file)) = Some file
output_of (Some (Ico res dual file)) = Some file
output_of (Some (Overlap a b out workers)) = Some out
output_of (Some (OfflineMap in_mesh out_mesh ov_mesh out_map)) = Some out_map
output_of (Some (Apply map var in_data out_data masked)) = Some out_data
output_of (Some (SelfRun n workers)) = None
output_of (Some (Coverage a b)) = None
output_of (Some (Check file workers)) = None

-- What these files hold is told: the folder is told, or there are none of them.
abbrev pub AreTold : List Input → Option Folder → Type 0
AreTold [] m = ⊤
AreTold (input ∷ inputs) None = ⊥
AreTold (input ∷ inputs) (Some m) = ⊤

-- An input file is dealt with: it is the first one, or the first one isn't at fault, where the folder is told, and it is dealt
-- with among the others.
abbrev pub IsReached : List Input → Option Folder → Input → Type 0
IsReached [] m input = ⊥
IsReached (first ∷ inputs) m input = (first ≡ input) ⊎ (IfSome m (λ f. IsGood f first) × IsReached inputs m input)

-- how many bytes are asked for at most where no input file is at fault
abbrev pub reading_cost : Folder → List Input → ℕ
reading_cost m inputs = sum_by (cost_of m) inputs
