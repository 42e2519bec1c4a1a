-- What a command comes to that reads a source mesh and a target mesh, by which of its input files is at fault.
use Rattle.std.proofs.Common.{◌≡◌, ◌≤◌, ◌+◌, ℕ, List, [], ◌∷◌, Option, IfSome, refl}
use Rattle.vec_exact.specs.declared.RawMesh.{RawMesh}
use Rattle.remap_io.specs.Folder.{OnFile}
use Rattle.remap_io.specs.Outside.{FilesSeen, OnlyReads}
use Rattle.remap_load.specs.declared.refusal.FileRefusal.{FileRefusal}
use Rattle.remap_load.specs.Kinds.{HasContent, IsFileRefusal, file_cost}
use Rattle.mesh_load.specs.declared.MeshFileFault.{MeshFileFault}
use Rattle.fault_lines.specs.declared.status.Status.{Status}
use Rattle.tempest_top.specs.Scene.{Scene}
use Rattle.fault_lines.specs.Lines.{PutsText}
use Rattle.fault_lines.specs.Faults.{mesh_words, status_of, text_of}
use Rattle.tempest_top.specs.Inputs.{MeshFile}
use Rattle.tempest_top.specs.Outcome.{AfterFile}
use Rattle.tempest_top.specs.Ends.{Comes}
use Rattle.tempest_top.proofs.Coming.{Goal, IsInput, read_scene, comes_refused, comes_behind}
use Rattle.tempest_top.proofs.Keeping.{mesh_spoken}

-- a mesh file as an input
pub mesh_input : (name : List ℕ) → IsInput mesh_words name (MeshFile name)
mesh_input name = record { spoken = mesh_spoken; name_is = refl; text = λ t s h. h; good = λ m mesh h. (mesh, h); cost = λ m. refl }

-- pair is what the two meshes come to, own has the texts of the command, and output the name of its file
module _ (pair : RawMesh → RawMesh → Goal) (own : List ℕ → Status → Type 0) (output : Option (List ℕ)) (a b : List ℕ) where
  -- what follows the first mesh, and both files
  abbrev behind_first : RawMesh → Goal
  behind_first source m o = AfterFile mesh_words m b (λ target. pair source target m) o

  abbrev pub after_both : Goal
  after_both m o = AfterFile mesh_words m a (λ source. behind_first source m) o

  -- the first file is refused
  pub comes_first : (before after : Scene) (why : FileRefusal MeshFileFault) (status : Status) → IsFileRefusal mesh_words.kind before.files after.files a why → OnlyReads before.files after.files → after.out ≡ before.out
      → status ≡ status_of mesh_words why → PutsText before.err after.err (text_of mesh_words a why) → Comes (MeshFile a ∷ MeshFile b ∷ []) own output after_both before after status
  comes_first before after why status refused reads same is put =
      comes_refused mesh_words a behind_first (MeshFile a) (MeshFile b ∷ []) own output before after why status (mesh_input a) refused reads same is put

  -- the second one is
  pub comes_second : (before : Scene) (mid : FilesSeen) (after : Scene) (source : RawMesh) (why : FileRefusal MeshFileFault) (status : Status)
      → OnFile before.files.folder a (λ bytes. HasContent mesh_words.kind bytes source) → OnlyReads before.files mid → IfSome before.files.folder (λ m. mid.taken ≤ before.files.taken + file_cost mesh_words.kind m a)
      → IsFileRefusal mesh_words.kind mid after.files b why → OnlyReads mid after.files → after.out ≡ before.out → status ≡ status_of mesh_words why → PutsText before.err after.err (text_of mesh_words b why)
      → Comes (MeshFile a ∷ MeshFile b ∷ []) own output after_both before after status
  comes_second before mid after source why status first reads asked refused more same is put =
      comes_behind mesh_words a behind_first (MeshFile a) (MeshFile b ∷ []) own output before mid after source status (mesh_input a) first reads asked
      (comes_refused mesh_words b (pair source) (MeshFile b) [] own output (read_scene before mid) after why status (mesh_input b) refused more same is put)

  -- and none is
  pub comes_both : (before : Scene) (mid last : FilesSeen) (after : Scene) (source target : RawMesh) (status : Status)
      → OnFile before.files.folder a (λ bytes. HasContent mesh_words.kind bytes source) → OnlyReads before.files mid → IfSome before.files.folder (λ m. mid.taken ≤ before.files.taken + file_cost mesh_words.kind m a)
      → OnFile mid.folder b (λ bytes. HasContent mesh_words.kind bytes target) → OnlyReads mid last → IfSome mid.folder (λ m. last.taken ≤ mid.taken + file_cost mesh_words.kind m b)
      → Comes [] own output (pair source target) (read_scene before last) after status → Comes (MeshFile a ∷ MeshFile b ∷ []) own output after_both before after status
  comes_both before mid last after source target status first reads asked second more again comes =
      comes_behind mesh_words a behind_first (MeshFile a) (MeshFile b ∷ []) own output before mid after source status (mesh_input a) first reads asked
      (comes_behind mesh_words b (pair source) (MeshFile b) [] own output (read_scene before mid) last after target status (mesh_input b) second more again comes)
