-- What a command comes to that reads a map file and a data file, by which of them is at fault.
use Rattle.std.proofs.Common.{ℕ, List, [], ◌∷◌, Option, refl}
use Rattle.map_rows.specs.Maps.{MapParts}
use Rattle.exodus_mesh.specs.declared.ids.NameFault.{NameFault}
use Rattle.exodus_mesh.specs.declared.faults.FileFault.{FileFault}
use Rattle.data_load.specs.declared.DataVar.{DataVar}
use Rattle.remap_io.specs.Outside.{FilesSeen}
use Rattle.remap_load.specs.declared.refusal.FileRefusal.{FileRefusal}
use Rattle.fault_lines.specs.declared.status.Status.{Status}
use Rattle.tempest_top.specs.Scene.{Scene}
use Rattle.tempest_top.specs.FieldFaults.{map_words, data_words}
use Rattle.tempest_top.specs.Inputs.{Input, MapFile, DataFile}
use Rattle.tempest_top.specs.Outcome.{AfterFile}
use Rattle.tempest_top.specs.Ends.{Comes}
use Rattle.tempest_top.proofs.Coming.{Goal, IsInput, read_scene, comes_refused, comes_behind}
use Rattle.tempest_top.proofs.Keeping.{map_spoken, data_spoken}
use Rattle.tempest_top.proofs.ThreeFiles.{IsRead, IsRefusedRead}

-- the two files as inputs
map_input : (name : List ℕ) → IsInput map_words name (MapFile name)
map_input name = record { spoken = map_spoken; name_is = refl; text = λ t s h. h; good = λ m map h. (map, h); cost = λ m. refl }

data_input : (var name : List ℕ) → IsInput (data_words var) name (DataFile var name)
data_input var name = record { spoken = data_spoken var; name_is = refl; text = λ t s h. h; good = λ m in_data h. (in_data, h); cost = λ m. refl }

-- both is what the map and the variable come to, own has the texts of the command, and output the name of its file
module _ (both : MapParts → DataVar → Goal) (own : List ℕ → Status → Type 0) (output : Option (List ℕ)) (map var in_data : List ℕ) where
  -- what follows the map, and both files
  abbrev behind_map : MapParts → Goal
  behind_map parts m o = AfterFile (data_words var) m in_data (λ found. both parts found m) o

  abbrev pub after_map_and_data : Goal
  after_map_and_data m o = AfterFile map_words m map (λ parts. behind_map parts m) o

  abbrev files : List Input
  files = MapFile map ∷ DataFile var in_data ∷ []

  -- the map file is refused
  pub comes_of_map : (before after : Scene) (why : FileRefusal FileFault) (status : Status) → IsRefusedRead map_words map before.files before after why status → Comes files own output after_map_and_data before after status
  comes_of_map before after why status r =
      comes_refused map_words map behind_map (MapFile map) (DataFile var in_data ∷ []) own output before after why status (map_input map) r.refused r.reads r.out r.answer r.line

  -- the data file is
  pub comes_of_data : (before : Scene) (mid : FilesSeen) (after : Scene) (parts : MapParts) (why : FileRefusal NameFault) (status : Status)
      → IsRead map_words map before.files mid parts → IsRefusedRead (data_words var) in_data mid before after why status → Comes files own output after_map_and_data before after status
  comes_of_data before mid after parts why status first r =
      comes_behind map_words map behind_map (MapFile map) (DataFile var in_data ∷ []) own output before mid after parts status (map_input map) first.holds first.reads first.asked
      (comes_refused (data_words var) in_data (both parts) (DataFile var in_data) [] own output (read_scene before mid) after why status (data_input var in_data) r.refused r.reads r.out r.answer r.line)

  -- and none is
  pub comes_of_map_and_data : (before : Scene) (mid last : FilesSeen) (after : Scene) (parts : MapParts) (found : DataVar) (status : Status)
      → IsRead map_words map before.files mid parts → IsRead (data_words var) in_data mid last found → Comes [] own output (both parts found) (read_scene before last) after status
      → Comes files own output after_map_and_data before after status
  comes_of_map_and_data before mid last after parts found status first second comes =
      comes_behind map_words map behind_map (MapFile map) (DataFile var in_data ∷ []) own output before mid after parts status (map_input map) first.holds first.reads first.asked
      (comes_behind (data_words var) in_data (both parts) (DataFile var in_data) [] own output (read_scene before mid) last after found status (data_input var in_data) second.holds second.reads second.asked comes)
