-- How a call ends that comes to an outcome. No public contract cites this file.
use Rattle.std.specs.Prelude.{◌≡◌, ◌≢◌, ◌⊎◌, ◌+◌, ◌≤◌, ℕ, List, [], codes, Option, Some, None, IfSome, ⊤}
use Rattle.remap_io.specs.Causes.{Rose}
use Rattle.remap_io.specs.Folder.{Folder}
use Rattle.remap_io.specs.Held.{Gains, GainsPart}
use Rattle.fault_lines.specs.declared.status.Status.{Status}
use Rattle.fault_lines.specs.declared.status.Status.TheVariants.{Done, NoFile, ReadFault, WriteFault, NoMemory}
use Rattle.tempest_top.specs.Scene.{Scene}
use Rattle.fault_lines.specs.Lines.{line_of, PutsText}
use Rattle.fault_lines.specs.Faults.{read_fault_text}
use Rattle.tempest_top.specs.Inputs.{Input, name_of_input, AreTold, IsReached, reading_cost}
use Rattle.tempest_top.specs.Outcome.{Outcome, Output}
use Rattle.tempest_top.specs.Promises.{IsLate, IsPartlyWritten, IsWriteFaultText, IsTextOf}

-- the status of a call that comes to an outcome, unless a write fails or memory runs out
abbrev pub IsEnd : Outcome → Status → Type 0
IsEnd o ReadFault = ⊥
IsEnd o WriteFault = o.status ≡ Done
IsEnd o NoMemory = ⊤
IsEnd o status = o.status ≡ status

-- the text of its line, where that isn't one of a write
abbrev pub IsEndText : Outcome → List ℕ → Status → Type 0
IsEndText o text NoMemory = text ≡ codes "no memory"
IsEndText o text status = o.line ≡ line_of text

-- the name of the output file of an outcome that has one
abbrev pub written_name : Option Output → Option (List ℕ)
written_name None = None
written_name (Some output) = Some output.name

-- A call that comes to this outcome ends so.
pub record Ends (o : Outcome) (before after : Scene) (status : Status) : Type 0 where
  pub answer : IsEnd o status
  pub done_folder : status ≡ Done → after.files.folder ≡ o.folder
  pub done_text : status ≡ Done → Gains before.out.contents after.out.contents o.text
  pub refused_folder : status ≢ Done → (after.files.folder ≡ before.files.folder) ⊎ (IsLate status × (o.status ≡ Done) × IsPartlyWritten o.output before.files.folder after.files.folder)
  pub refused_text : status ≢ Done → (after.out.contents ≡ before.out.contents) ⊎ (IsLate status × (o.status ≡ Done) × GainsPart before.out.contents after.out.contents o.text)
  pub text_after_file : (after.out.contents ≡ before.out.contents) ⊎ (after.files.folder ≡ o.folder)
  pub fault_after_file : status ≡ WriteFault → Rose before.files.write_faults after.files.write_faults ⊎ (after.files.folder ≡ o.folder)
  pub refused_line : status ≢ Done → status ≢ WriteFault → (text : List ℕ) × IsEndText o text status × PutsText before.err after.err text
  pub fault_line : status ≡ WriteFault → (text : List ℕ) × IsWriteFaultText (written_name o.output) before after text × PutsText before.err after.err text

-- An outcome of a call whose outcomes are those of P where its input files are told: with the output file of that name, and with
-- a text of its status.
pub record Belongs (inputs : List Input) (own : List ℕ → Status → Type 0) (output : Option (List ℕ)) (P : Option Folder → Outcome → Type 0) (m : Option Folder) (o : Outcome) : Type 0 where
  pub outcome : AreTold inputs m → P m o
  pub named : (file : Output) → o.output ≡ Some file → output ≡ Some file.name
  pub told : (o.status ≡ Done) ⊎ ((text : List ℕ) × IsTextOf inputs own m text o.status × (o.line ≡ line_of text))

-- nothing changed but for counts of reads
pub record IsUntouched (before after : Scene) : Type 0 where
  pub folder : after.files.folder ≡ before.files.folder
  pub out : after.out.contents ≡ before.out.contents

-- memory ran out before a device was called that writes, and the line says so
pub record IsStopped (before after : Scene) (status : Status) : Type 0 where
  pub is_memory : status ≡ NoMemory
  pub untouched : IsUntouched before after
  pub line : PutsText before.err after.err (codes "no memory")

-- a read failed, and the line names its file
pub record IsCutShort (inputs : List Input) (before after : Scene) (status : Status) : Type 0 where
  pub is_fault : status ≡ ReadFault
  pub input : Input
  pub reached : IsReached inputs before.files.folder input
  pub failed : Rose before.files.faults after.files.faults
  pub untouched : IsUntouched before after
  pub line : PutsText before.err after.err (read_fault_text (name_of_input input))

-- a call comes to one of these outcomes and ends so
abbrev pub IsEnded : List Input → (List ℕ → Status → Type 0) → Option (List ℕ) → (Option Folder → Outcome → Type 0) → Scene → Scene → Status → Type 0
IsEnded inputs own output P before after status = (o : Outcome) × Belongs inputs own output P before.files.folder o × Ends o before after status

-- A call with these input files comes to one of these outcomes and ends so, or memory runs out before, or a read fails.
pub record Comes (inputs : List Input) (own : List ℕ → Status → Type 0) (output : Option (List ℕ)) (P : Option Folder → Outcome → Type 0) (before after : Scene) (status : Status) : Type 0 where
  pub ends : IsEnded inputs own output P before after status ⊎ (IsStopped before after status ⊎ IsCutShort inputs before after status)
  pub missed : status ≡ NoFile → Rose before.files.misses after.files.misses
  pub asked : status ≡ Done → IfSome before.files.folder (λ m. after.files.taken ≤ before.files.taken + reading_cost m inputs)
  pub unasked : inputs ≡ [] → after.files.taken ≡ before.files.taken
