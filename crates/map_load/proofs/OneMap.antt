-- A header and bytes hold one map or have one fault, and what refusals say of a file.
use Rattle.std.proofs.Common.{◌≡◌, ◌+◌, ℕ, List, length, Option, Some, Result, Ok, Err, sym, ap, ◌∙◌, inl, inr}
use Rattle.std.specs.Prelude.{IfOk}
use Rattle.map_rows.specs.Maps.{MapParts}
use Rattle.remap_io.specs.Folder.{Folder, file_at, OnFile}
use Rattle.remap_io.specs.Outside.{FilesSeen}
use Rattle.nc_format.specs.declared.NcFile.{NcFile}
use Rattle.nc_format.specs.Header.{IsHeader}
use Rattle.nc_format.specs.Answers.{IsFaultOf}
use Rattle.exodus_mesh.specs.declared.ids.NameFault.{NameFault}
use Rattle.exodus_mesh.specs.declared.ids.NameFault.TheVariants as of_names
use Rattle.exodus_mesh.specs.declared.faults.FileFault.{FileFault}
use Rattle.exodus_mesh.specs.declared.faults.FileFault.TheVariants.{Name, Row, AreaA, AreaB, NoMemory}
use Rattle.map_files.specs.declared.vars.MapVars.{MapVars}
use Rattle.exodus_mesh.specs.Answers.{IsOfRowsOrAreas}
use Rattle.map_files.specs.MapNames.{map_vars_in}
use Rattle.map_files.specs.MapIn.{if_map_named, map_in}
use Rattle.map_files.proofs.ReadMaps.{map_in_is}
use Rattle.remap_load.specs.declared.Head.{Head}
use Rattle.remap_load.specs.declared.refusal.FileRefusal.{FileRefusal}
use Rattle.remap_load.specs.declared.refusal.FileRefusal.TheVariants.{Load, Content}
use Rattle.remap_load.specs.declared.fault.LoadFault.TheVariants as load
use Rattle.remap_load.specs.Heads.{IsHead, IsHeadOfBytes, header_cost}
use Rattle.remap_load.specs.Kinds.{HasContent, IsFileRefusal}
use Rattle.remap_load.proofs.Fronts.{on_this_file}
use Rattle.remap_load.proofs.Contents.{IsLawful, content_of_head, fault_of_head, file_cost_is}
use Rattle.map_load.specs.MapFile.{map_kind, HoldsMap, FailsMap, IsOfHead, map_bytes, named_bytes, map_cost}
use Rattle.map_load.specs.declared.values.MapNumbers.{MapNumbers}
use Rattle.map_load.specs.Numbers.{numbers_in, map_of_numbers}
use Rattle.map_load.specs.Refusals.{refusal_of_names, refusal_of_rows, HasHeadFault, HasRowFault, IsOwn}

-- Of two answers of one function there is one.

one_map : (r : Result MapParts FileFault) (a b : MapParts) → r ≡ Ok a → r ≡ Ok b → a ≡ b
one_map r a b h k = cc

one_fault : (r : Result MapParts FileFault) (e f : FileFault) → r ≡ Err e → r ≡ Err f → e ≡ f
one_fault r e f h k = cc

not_both : (r : Result MapParts FileFault) (a : MapParts) (e : FileFault) → r ≡ Ok a → r ≡ Err e → ⊥
not_both r a e h k = absurd cc

pub map_law : IsLawful map_kind
map_law = record {
  one_content = λ file bytes a b h k. one_map (map_in file bytes) a b h k;
  one_fault = λ file bytes e f h k. one_fault (map_in file bytes) e f h k;
  either = λ file bytes a e h k. not_both (map_in file bytes) a e h k;
}

pub cost_is : (m : Folder) (name bytes : List ℕ) (file : NcFile) (vars : MapVars) (h : IsHeader bytes (length bytes) file) → file_at m name ≡ Some bytes → map_vars_in file ≡ Ok vars → map_cost m name ≡ header_cost (length h.header) + map_bytes file vars
cost_is m name bytes file vars h there found =
    file_cost_is map_kind m name bytes file h there ∙ ap (λ (r : Result MapVars NameFault). header_cost (length h.header) + named_bytes file r) found

pub needed_is : (file : NcFile) (vars : MapVars) → map_vars_in file ≡ Ok vars → map_kind.needed file ≡ map_bytes file vars
needed_is file vars found = ap (named_bytes file) found

-- Faults of names and of rows.

pub names_refusal : (file : NcFile) (e : NameFault) → IsFaultOf of_names.NoMemory (map_vars_in file) e → IsOwn (HasHeadFault file) (refusal_of_names e)
names_refusal file of_names.NoMemory h = tt
names_refusal file (of_names.Missing id) (inl h) = absurd cc
names_refusal file (of_names.Missing id) (inr h) = (λ k. absurd cc, h)
names_refusal file (of_names.Shape id) (inl h) = absurd cc
names_refusal file (of_names.Shape id) (inr h) = (λ k. absurd cc, h)
names_refusal file (of_names.Kind id) (inl h) = absurd cc
names_refusal file (of_names.Kind id) (inr h) = (λ k. absurd cc, h)

pub rows_refusal : (vars : MapVars) (n : MapNumbers) (e : FileFault) → IsFaultOf NoMemory (map_of_numbers vars n) e → IsOfRowsOrAreas e → IsOwn (HasRowFault vars n) (refusal_of_rows e)
rows_refusal vars n (Name fault) h own = absurd own
rows_refusal vars n (Row r) (inl h) own = absurd cc
rows_refusal vars n (Row r) (inr h) own = (tt, h)
rows_refusal vars n (AreaA i) (inl h) own = absurd cc
rows_refusal vars n (AreaA i) (inr h) own = (tt, h)
rows_refusal vars n (AreaB j) (inl h) own = absurd cc
rows_refusal vars n (AreaB j) (inr h) own = (tt, h)
rows_refusal vars n NoMemory h own = tt

-- What they say of the file.

head_fails : (file : NcFile) (bytes : List ℕ) (e : FileFault) → HasHeadFault file e → FailsMap file bytes e
unfolding map_in
head_fails file bytes (Name fault) h = ap (if_map_named file bytes) h
head_fails file bytes (Row r) h = absurd h
head_fails file bytes (AreaA i) h = absurd h
head_fails file bytes (AreaB j) h = absurd h
head_fails file bytes NoMemory h = absurd h

abbrev FailsHere : NcFile → FileFault → List ℕ → Type 0
FailsHere file e bytes = FailsMap file bytes e

pub header_refusal : (old new : FilesSeen) (name : List ℕ) (head : Head) (why : FileRefusal FileFault) → IsHead head → OnFile old.folder name (IsHeadOfBytes head) → IsOwn (HasHeadFault head.file) why → IsFileRefusal map_kind old new name why
header_refusal old new name head (Load load.Absent) is here h = absurd h
header_refusal old new name head (Load load.Failed) is here h = absurd h
header_refusal old new name head (Load (load.TooLong n)) is here h = absurd h
header_refusal old new name head (Load (load.Format e)) is here h = absurd h
header_refusal old new name head (Load load.NoMemory) is here h = tt
header_refusal old new name head (Content c) is here h =
    (h.0, fault_of_head map_kind old.folder name head c is here (on_this_file old.folder name (IsHeadOfBytes head) (FailsHere head.file c) (λ bytes _. head_fails head.file bytes c h.1) here))

-- the numbers are those of the variables in these bytes
abbrev pub AreOf : NcFile → MapVars → MapNumbers → List ℕ → Type 0
AreOf file vars n bytes = n ≡ numbers_in file bytes vars

in_bytes : (file : NcFile) (bytes : List ℕ) (vars : MapVars) (n : MapNumbers) → map_vars_in file ≡ Ok vars → n ≡ numbers_in file bytes vars → map_in file bytes ≡ map_of_numbers vars n
in_bytes file bytes vars n found same = map_in_is file bytes vars found ∙ ap (map_of_numbers vars) (sym same)

row_fails : (file : NcFile) (bytes : List ℕ) (vars : MapVars) (n : MapNumbers) (e : FileFault) → map_in file bytes ≡ map_of_numbers vars n → HasRowFault vars n e → FailsMap file bytes e
row_fails file bytes vars n (Name fault) is h = absurd h
row_fails file bytes vars n (Row r) is h = is ∙ h
row_fails file bytes vars n (AreaA i) is h = is ∙ h
row_fails file bytes vars n (AreaB j) is h = is ∙ h
row_fails file bytes vars n NoMemory is h = absurd h

pub row_refusal : (old new : FilesSeen) (name : List ℕ) (head : Head) (vars : MapVars) (n : MapNumbers) (why : FileRefusal FileFault) → IsHead head → OnFile old.folder name (IsHeadOfBytes head) → map_vars_in head.file ≡ Ok vars
    → OnFile old.folder name (AreOf head.file vars n) → IsOwn (HasRowFault vars n) why → IsFileRefusal map_kind old new name why
row_refusal old new name head vars n (Load load.Absent) is here found same h = absurd h
row_refusal old new name head vars n (Load load.Failed) is here found same h = absurd h
row_refusal old new name head vars n (Load (load.TooLong len)) is here found same h = absurd h
row_refusal old new name head vars n (Load (load.Format e)) is here found same h = absurd h
row_refusal old new name head vars n (Load load.NoMemory) is here found same h = tt
row_refusal old new name head vars n (Content c) is here found same h =
    (h.0, fault_of_head map_kind old.folder name head c is here (on_this_file old.folder name (AreOf head.file vars n) (FailsHere head.file c) (λ bytes k. row_fails head.file bytes vars n c (in_bytes head.file bytes vars n found k) h.1) same))

pub row_map : (folder : Option Folder) (name : List ℕ) (head : Head) (vars : MapVars) (n : MapNumbers) (r : Result MapParts (FileRefusal FileFault)) → IsHead head → OnFile folder name (IsHeadOfBytes head) → map_vars_in head.file ≡ Ok vars
    → OnFile folder name (AreOf head.file vars n) → IfOk r (λ m. map_of_numbers vars n ≡ Ok m) → IfOk r (λ m. OnFile folder name (λ bytes. HasContent map_kind bytes m))
row_map folder name head vars n (Ok m) is here found same e =
    content_of_head map_kind folder name head m is here
    (on_this_file folder name (AreOf head.file vars n) (λ bytes. HoldsMap head.file bytes m) (λ bytes k. in_bytes head.file bytes vars n found k ∙ e) same)
row_map folder name head vars n (Err why) is here found same e = tt

-- Only names are of the header.

pub row_not_head : (vars : MapVars) (n : MapNumbers) (why : FileRefusal FileFault) → IsOwn (HasRowFault vars n) why → IsOfHead why → ⊥
row_not_head vars n (Load fault) is h = h
row_not_head vars n (Content (Name e)) is h = is.1
row_not_head vars n (Content (Row r)) is h = h
row_not_head vars n (Content (AreaA i)) is h = h
row_not_head vars n (Content (AreaB j)) is h = h
row_not_head vars n (Content NoMemory) is h = h
