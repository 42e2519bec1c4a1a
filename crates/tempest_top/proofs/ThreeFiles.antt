-- What a command comes to that reads a source mesh, a target mesh and a third file, by which of its input files is at fault.
use Rattle.std.proofs.Common.{◌≡◌, ◌≤◌, ◌+◌, ℕ, List, [], ◌∷◌, Option, IfSome}
use Rattle.vec_exact.specs.declared.RawMesh.{RawMesh}
use Rattle.remap_io.specs.Folder.{OnFile}
use Rattle.remap_io.specs.Outside.{FilesSeen, OnlyReads}
use Rattle.remap_load.specs.declared.refusal.FileRefusal.{FileRefusal}
use Rattle.remap_load.specs.Kinds.{HasContent, IsFileRefusal, file_cost}
use Rattle.mesh_load.specs.declared.MeshFileFault.{MeshFileFault}
use Rattle.fault_lines.specs.declared.status.Status.{Status}
use Rattle.tempest_top.specs.Scene.{Scene}
use Rattle.fault_lines.specs.Lines.{PutsText}
use Rattle.fault_lines.specs.Faults.{FileWords, mesh_words, status_of, text_of}
use Rattle.tempest_top.specs.Inputs.{Input, MeshFile}
use Rattle.tempest_top.specs.Outcome.{AfterFile}
use Rattle.tempest_top.specs.Ends.{Comes}
use Rattle.tempest_top.proofs.Coming.{Goal, IsInput, read_scene, comes_refused, comes_behind}
use Rattle.tempest_top.proofs.TwoMeshes.{mesh_input}

-- a file was read and holds this, and so much was asked for
pub record IsRead {A C : Type 0} (words : FileWords A C) (name : List ℕ) (old new : FilesSeen) (content : A) : Type 0 where
  pub holds : OnFile old.folder name (λ bytes. HasContent words.kind bytes content)
  pub reads : OnlyReads old new
  pub asked : IfSome old.folder (λ m. new.taken ≤ old.taken + file_cost words.kind m name)

-- a file was read and is refused, and its line was put
pub record IsRefusedRead {A C : Type 0} (words : FileWords A C) (name : List ℕ) (old : FilesSeen) (before after : Scene) (why : FileRefusal C) (status : Status) : Type 0 where
  pub refused : IsFileRefusal words.kind old after.files name why
  pub reads : OnlyReads old after.files
  pub out : after.out ≡ before.out
  pub answer : status ≡ status_of words why
  pub line : PutsText before.err after.err (text_of words name why)

-- all is what the two meshes and the third file come to, own has the texts of the command, and output the name of its file
module _ {A C : Type 0} (words : FileWords A C) (third : Input) (name : List ℕ) (is_third : IsInput words name third) (all : RawMesh → RawMesh → A → Goal) (own : List ℕ → Status → Type 0) (output : Option (List ℕ)) (a b : List ℕ) where
  -- what follows both meshes, the first mesh, and all files
  abbrev behind_both : RawMesh → RawMesh → Goal
  behind_both source target m o = AfterFile words m name (λ content. all source target content m) o

  abbrev behind_first : RawMesh → Goal
  behind_first source m o = AfterFile mesh_words m b (λ target. behind_both source target m) o

  abbrev pub after_all : Goal
  after_all m o = AfterFile mesh_words m a (λ source. behind_first source m) o

  abbrev files : List Input
  files = MeshFile a ∷ MeshFile b ∷ third ∷ []

  -- the source mesh is refused
  pub comes_of_first : (before after : Scene) (why : FileRefusal MeshFileFault) (status : Status) → IsRefusedRead mesh_words a before.files before after why status → Comes files own output after_all before after status
  comes_of_first before after why status r =
      comes_refused mesh_words a behind_first (MeshFile a) (MeshFile b ∷ third ∷ []) own output before after why status (mesh_input a) r.refused r.reads r.out r.answer r.line

  -- the target mesh is
  pub comes_of_second : (before : Scene) (mid : FilesSeen) (after : Scene) (source : RawMesh) (why : FileRefusal MeshFileFault) (status : Status)
      → IsRead mesh_words a before.files mid source → IsRefusedRead mesh_words b mid before after why status → Comes files own output after_all before after status
  comes_of_second before mid after source why status first r =
      comes_behind mesh_words a behind_first (MeshFile a) (MeshFile b ∷ third ∷ []) own output before mid after source status (mesh_input a) first.holds first.reads first.asked
      (comes_refused mesh_words b (behind_both source) (MeshFile b) (third ∷ []) own output (read_scene before mid) after why status (mesh_input b) r.refused r.reads r.out r.answer r.line)

  -- the third file is
  pub comes_of_third : (before : Scene) (mid last : FilesSeen) (after : Scene) (source target : RawMesh) (why : FileRefusal C) (status : Status)
      → IsRead mesh_words a before.files mid source → IsRead mesh_words b mid last target → IsRefusedRead words name last before after why status → Comes files own output after_all before after status
  comes_of_third before mid last after source target why status first second r =
      comes_behind mesh_words a behind_first (MeshFile a) (MeshFile b ∷ third ∷ []) own output before mid after source status (mesh_input a) first.holds first.reads first.asked
      (comes_behind mesh_words b (behind_both source) (MeshFile b) (third ∷ []) own output (read_scene before mid) last after target status (mesh_input b) second.holds second.reads second.asked
      (comes_refused words name (all source target) third [] own output (read_scene before last) after why status is_third r.refused r.reads r.out r.answer r.line))

  -- and none is
  pub comes_of_all : (before : Scene) (mid last end : FilesSeen) (after : Scene) (source target : RawMesh) (content : A) (status : Status)
      → IsRead mesh_words a before.files mid source → IsRead mesh_words b mid last target → IsRead words name last end content
      → Comes [] own output (all source target content) (read_scene before end) after status → Comes files own output after_all before after status
  comes_of_all before mid last end after source target content status first second more comes =
      comes_behind mesh_words a behind_first (MeshFile a) (MeshFile b ∷ third ∷ []) own output before mid after source status (mesh_input a) first.holds first.reads first.asked
      (comes_behind mesh_words b (behind_both source) (MeshFile b) (third ∷ []) own output (read_scene before mid) last after target status (mesh_input b) second.holds second.reads second.asked
      (comes_behind words name (all source target) third [] own output (read_scene before last) end after content status is_third more.holds more.reads more.asked comes))
