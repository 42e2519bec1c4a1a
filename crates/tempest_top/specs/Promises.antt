-- What the program promises of a call, against the outcome of its words. In each word the last argument is the status of the call.
use Rattle.std.specs.Prelude.{◌≡◌, ◌≢◌, ◌⊎◌, ◌+◌, ◌<◌, ◌≤◌, ℕ, List, [], ◌++◌, codes, true, Option, Some, None, IfSome, ⊤}
use Rattle.vec_exact.specs.declared.limits.TheConstants.{MAX_FILE_LEN, MAX_PIECES}
use Rattle.remap_io.specs.Causes.{Rose}
use Rattle.remap_io.specs.Folder.{Folder, IsPartlyReplaced}
use Rattle.remap_io.specs.Held.{Gains, GainsPart}
use Rattle.mesh_check.specs.declared.faults.MeshFault.{MeshFault}
use Rattle.mesh_check.specs.declared.faults.MeshFault.TheVariants.{NoMemory as NoMeshMemory}
use Rattle.command_line.specs.declared.choices.Chosen.{Chosen}
use Rattle.command_line.specs.declared.choices.Chosen.TheVariants.{Cs, Rll, Ico, Overlap, OfflineMap, Apply, SelfRun, Coverage, Check}
use Rattle.fault_lines.specs.declared.status.Status.{Status}
use Rattle.fault_lines.specs.declared.status.Status.TheVariants.{Done, Usage, NoFile, Mesh, Uncovered, Limit, ReadFault, WriteFault, NoMemory}
use Rattle.tempest_top.specs.Scene.{Scene}
use Rattle.fault_lines.specs.Lines.{line_of, PutsText}
use Rattle.fault_lines.specs.Faults.{mesh_fault_text, length_text, too_many_pieces_text, read_fault_text}
use Rattle.fault_lines.specs.RowFaults.{IsMapText, uncovered_text}
use Rattle.tempest_top.specs.FieldFaults.{IsFieldFaultText}
use Rattle.tempest_top.specs.Inputs.{Input, name_of_input, inputs_of, output_of, IsReached, IsInputText, reading_cost}
use Rattle.tempest_top.specs.Outcome.{Output, TheOutcome, is_usage}

-- a write failed, of the output file or of the output
abbrev pub IsWriteFailed : Scene → Scene → Type 0
IsWriteFailed before after = Rose before.files.write_faults after.files.write_faults ⊎ Rose before.out.faults after.out.faults

-- The status is that of the outcome, or a fault that was counted, or want of memory.
abbrev pub IsAnswer : Option Chosen → Scene → Scene → Status → Type 0
IsAnswer chosen before after ReadFault = Rose before.files.faults after.files.faults
IsAnswer chosen before after WriteFault = TheOutcome chosen before.files.folder (λ o. o.status ≡ Done) × IsWriteFailed before after
IsAnswer chosen before after NoMemory = ⊤
IsAnswer chosen before after status = TheOutcome chosen before.files.folder (λ o. o.status ≡ status)

-- a refusal that may come after a write was begun
abbrev pub IsLate : Status → Type 0
IsLate WriteFault = ⊤
IsLate NoMemory = ⊤
IsLate status = ⊥

-- the output name is as it was, or holds a prefix of its new bytes or all of them; every other name is as it was
abbrev pub IsPartlyWritten : Option Output → Option Folder → Option Folder → Type 0
IsPartlyWritten None old new = new ≡ old
IsPartlyWritten (Some output) old new = IsPartlyReplaced old output.name output.bytes new

-- After a refusal the folder is as it was. After a late one, where the outcome is Done, the output name may hold some of its new bytes.
abbrev pub FolderAfterRefusal : Option Chosen → Option Folder → Option Folder → Status → Type 0
FolderAfterRefusal chosen old new status = (new ≡ old) ⊎ (IsLate status × TheOutcome chosen old (λ o. (o.status ≡ Done) × IsPartlyWritten o.output old new))

-- After a refusal nothing was put. After a late one, where the outcome is Done, a prefix of the text may have been.
abbrev pub TextAfterRefusal : Option Chosen → Option Folder → Option (List ℕ) → Option (List ℕ) → Status → Type 0
TextAfterRefusal chosen m old new status = (new ≡ old) ⊎ (IsLate status × TheOutcome chosen m (λ o. (o.status ≡ Done) × GainsPart old new o.text))

-- the output failed
abbrev pub IsOutputFaultText : Scene → Scene → List ℕ → Type 0
IsOutputFaultText before after text = (text ≡ codes "write fault on output") × Rose before.out.faults after.out.faults

-- A write fault names what failed: the output file, if there is one, or the output.
abbrev pub IsWriteFaultText : Option (List ℕ) → Scene → Scene → List ℕ → Type 0
IsWriteFaultText None before after text = IsOutputFaultText before after text
IsWriteFaultText (Some name) before after text =
    ((text ≡ codes "write fault on " ++ name) × Rose before.files.write_faults after.files.write_faults) ⊎ IsOutputFaultText before after text

-- the words ask for nothing that the program has
abbrev pub IsUsageText : List ℕ → Status → Type 0
IsUsageText text status = (status ≡ Usage) × (text ≡ codes "usage")

-- a mesh that was made has a fault
abbrev pub IsMadeText : List ℕ → Status → Type 0
IsMadeText text status = (status ≡ Mesh) × ((fault : MeshFault) × (fault ≢ NoMeshMemory) × (text ≡ mesh_fault_text (codes "generated") fault))

-- a file would have more than 2,147,483,647 bytes
abbrev pub IsLengthText : List ℕ → List ℕ → Status → Type 0
IsLengthText file text status = (status ≡ Limit) × ((n : ℕ) × (MAX_FILE_LEN < n) × (text ≡ length_text file n))

-- more than 8,388,608 pairs meet
abbrev pub IsPiecesText : List ℕ → Status → Type 0
IsPiecesText text status = (status ≡ Limit) × ((n : ℕ) × (MAX_PIECES < n) × (text ≡ too_many_pieces_text n))

abbrev pub IsOverlapText : List ℕ → List ℕ → Status → Type 0
IsOverlapText file text status = IsPiecesText text status ⊎ IsLengthText file text status

-- a target face meets no source face
abbrev pub IsUncoveredText : List ℕ → Status → Type 0
IsUncoveredText text status = (status ≡ Uncovered) × ((j : ℕ) × (text ≡ uncovered_text j))

-- a mesh of a self-run has a fault, too many pairs of faces meet, or a target face meets none
abbrev pub IsSelfRunText : List ℕ → Status → Type 0
IsSelfRunText text status = IsMadeText text status ⊎ (IsPiecesText text status ⊎ IsUncoveredText text status)

-- a map makes no field of a variable, or its file would be too long
abbrev pub IsFieldText : List ℕ → List ℕ → List ℕ → Status → Type 0
IsFieldText in_data file text status = IsFieldFaultText in_data text status ⊎ IsLengthText file text status

-- nothing
abbrev pub NoText : List ℕ → Status → Type 0
NoText text status = ⊥

-- what a command says besides the refusals of its input files
abbrev pub IsOwnText : Option Chosen → List ℕ → Status → Type 0
IsOwnText None text status = IsUsageText text status
IsOwnText (Some (Cs res file)) text status = ⊥
IsOwnText (Some (Rll lon lat file)) text status = IsMadeText text status
IsOwnText (Some (Ico res dual file)) text status = IsMadeText text status
IsOwnText (Some (Overlap a b out workers)) text status = IsOverlapText out text status
IsOwnText (Some (OfflineMap in_mesh out_mesh ov_mesh out_map)) text status = IsMapText ov_mesh text status
IsOwnText (Some (Apply map var in_data out_data masked)) text status = IsFieldText in_data out_data text status
IsOwnText (Some (SelfRun n workers)) text status = IsSelfRunText text status
IsOwnText (Some (Coverage a b)) text status = ⊥
IsOwnText (Some (Check file workers)) text status = IsPiecesText text status

-- a text of this status: the refusal of an input file that is dealt with, or one of these texts
abbrev pub IsTextOf : List Input → (List ℕ → Status → Type 0) → Option Folder → List ℕ → Status → Type 0
IsTextOf inputs own m text status = ((input : Input) × IsReached inputs m input × IsInputText input text status) ⊎ own text status

-- the texts of each status that an outcome can have
abbrev pub IsText : Option Chosen → Option Folder → List ℕ → Status → Type 0
IsText chosen m text status = IsTextOf (inputs_of chosen) (IsOwnText chosen) m text status

-- The text of a refusal is that of the outcome and of its status, or that of a fault or of want of memory. The file of a read fault
-- is one before which no input file is at fault.
abbrev pub IsLineText : Option Chosen → Scene → Scene → List ℕ → Status → Type 0
IsLineText chosen before after text ReadFault = (input : Input) × IsReached (inputs_of chosen) before.files.folder input × (text ≡ read_fault_text (name_of_input input))
IsLineText chosen before after text WriteFault = IsWriteFaultText (output_of chosen) before after text
IsLineText chosen before after text NoMemory = text ≡ codes "no memory"
IsLineText chosen before after text status = IsText chosen before.files.folder text status × TheOutcome chosen before.files.folder (λ o. o.line ≡ line_of text)

-- The line of the status went out, or a prefix of it and then a refused put is counted.
abbrev pub PutsLine : Option Chosen → Scene → Scene → Status → Type 0
PutsLine chosen before after status = (text : List ℕ) × IsLineText chosen before after text status × PutsText before.err after.err text

-- A call keeps what is promised of the words.
pub record Keeps (chosen : Option Chosen) (before after : Scene) (status : Status) : Type 0 where
  pub answer : IsAnswer chosen before after status
  pub done_folder : status ≡ Done → TheOutcome chosen before.files.folder (λ o. after.files.folder ≡ o.folder)
  pub done_text : status ≡ Done → TheOutcome chosen before.files.folder (λ o. Gains before.out.contents after.out.contents o.text)
  pub refused_folder : status ≢ Done → FolderAfterRefusal chosen before.files.folder after.files.folder status
  pub refused_text : status ≢ Done → TextAfterRefusal chosen before.files.folder before.out.contents after.out.contents status
  -- where something of the text went out, the output file has all its new bytes
  pub text_after_file : (after.out.contents ≡ before.out.contents) ⊎ TheOutcome chosen before.files.folder (λ o. after.files.folder ≡ o.folder)
  -- and so it has after a write fault that isn't one of the file
  pub fault_after_file : status ≡ WriteFault → Rose before.files.write_faults after.files.write_faults ⊎ TheOutcome chosen before.files.folder (λ o. after.files.folder ≡ o.folder)
  pub refused_line : status ≢ Done → PutsLine chosen before after status
  pub usage : status ≡ Usage → is_usage chosen ≡ true
  pub usage_only : is_usage chosen ≡ true → (status ≡ Usage) ⊎ (status ≡ NoMemory)
  pub no_file : status ≡ NoFile → Rose before.files.misses after.files.misses
  pub no_reads : inputs_of chosen ≡ [] → (status ≢ NoFile) × (status ≢ ReadFault)
  pub bytes_read : status ≡ Done → IfSome before.files.folder (λ m. after.files.taken ≤ before.files.taken + reading_cost m (inputs_of chosen))
  pub no_bytes : inputs_of chosen ≡ [] → after.files.taken ≡ before.files.taken
