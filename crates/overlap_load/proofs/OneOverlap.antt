-- A header and bytes hold one overlap or have one fault, and what refusals say of a file.
use Rattle.std.proofs.Common.{◌≡◌, ◌+◌, ℕ, ℤ, List, length, Option, Some, Result, Ok, Err, sym, ap, ◌∙◌, inl, inr}
use Rattle.std.specs.Prelude.{IfOk}
use Rattle.clip.specs.Overlaps.{OverlapParts}
use Rattle.remap_io.specs.Folder.{Folder, file_at, OnFile}
use Rattle.remap_io.specs.Outside.{FilesSeen}
use Rattle.nc_format.specs.declared.NcFile.{NcFile}
use Rattle.nc_format.specs.Header.{IsHeader}
use Rattle.nc_format.specs.Answers.{IsFaultOf}
use Rattle.exodus_mesh.specs.declared.ids.NameFault.{NameFault}
use Rattle.exodus_mesh.specs.declared.ids.NameFault.TheVariants as of_names
use Rattle.exodus_mesh.specs.declared.faults.FileFault.{FileFault}
use Rattle.exodus_mesh.specs.declared.faults.FileFault.TheVariants.{Name, Row, AreaA, AreaB, NoMemory}
use Rattle.remap_files.specs.declared.vars.OverlapVars.{OverlapVars}
use Rattle.exodus_mesh.specs.Answers.{IsOfRows}
use Rattle.remap_files.specs.OverlapNames.{overlap_vars_in}
use Rattle.remap_files.specs.OverlapRows.{overlap_of}
use Rattle.remap_files.specs.OverlapIn.{lists_in, if_named, overlap_in}
use Rattle.remap_files.proofs.ReadOverlaps.{overlap_in_is}
use Rattle.remap_load.specs.declared.Head.{Head}
use Rattle.remap_load.specs.declared.refusal.FileRefusal.{FileRefusal}
use Rattle.remap_load.specs.declared.refusal.FileRefusal.TheVariants.{Load, Content}
use Rattle.remap_load.specs.declared.fault.LoadFault.TheVariants as load
use Rattle.remap_load.specs.Heads.{IsHead, IsHeadOfBytes, header_cost}
use Rattle.remap_load.specs.Kinds.{HasContent, IsFileRefusal}
use Rattle.remap_load.proofs.Fronts.{on_this_file}
use Rattle.remap_load.proofs.Contents.{IsLawful, content_of_head, fault_of_head, file_cost_is}
use Rattle.overlap_load.specs.OverlapFile.{overlap_kind, HoldsOverlap, FailsOverlap, IsOfHead, overlap_bytes, named_bytes, overlap_cost}
use Rattle.overlap_load.specs.Refusals.{refusal_of_names, refusal_of_rows, HasHeadFault, HasRowFault, IsOwn}

-- Of two answers of one function there is one.

one_overlap : (r : Result OverlapParts FileFault) (a b : OverlapParts) → r ≡ Ok a → r ≡ Ok b → a ≡ b
one_overlap r a b h k = cc

one_fault : (r : Result OverlapParts FileFault) (e f : FileFault) → r ≡ Err e → r ≡ Err f → e ≡ f
one_fault r e f h k = cc

not_both : (r : Result OverlapParts FileFault) (a : OverlapParts) (e : FileFault) → r ≡ Ok a → r ≡ Err e → ⊥
not_both r a e h k = absurd cc

pub overlap_law : IsLawful overlap_kind
overlap_law = record {
  one_content = λ file bytes a b h k. one_overlap (overlap_in file bytes) a b h k;
  one_fault = λ file bytes e f h k. one_fault (overlap_in file bytes) e f h k;
  either = λ file bytes a e h k. not_both (overlap_in file bytes) a e h k;
}

pub cost_is : (m : Folder) (name bytes : List ℕ) (file : NcFile) (vars : OverlapVars) (h : IsHeader bytes (length bytes) file) → file_at m name ≡ Some bytes → overlap_vars_in file ≡ Ok vars → overlap_cost m name ≡ header_cost (length h.header) + overlap_bytes file vars
cost_is m name bytes file vars h there found =
    file_cost_is overlap_kind m name bytes file h there ∙ ap (λ (r : Result OverlapVars NameFault). header_cost (length h.header) + named_bytes file r) found

pub needed_is : (file : NcFile) (vars : OverlapVars) → overlap_vars_in file ≡ Ok vars → overlap_kind.needed file ≡ overlap_bytes file vars
needed_is file vars found = ap (named_bytes file) found

-- Faults of names and of rows.

pub names_refusal : (file : NcFile) (e : NameFault) → IsFaultOf of_names.NoMemory (overlap_vars_in file) e → IsOwn (HasHeadFault file) (refusal_of_names e)
names_refusal file of_names.NoMemory h = tt
names_refusal file (of_names.Missing id) (inl h) = absurd cc
names_refusal file (of_names.Missing id) (inr h) = (λ k. absurd cc, h)
names_refusal file (of_names.Shape id) (inl h) = absurd cc
names_refusal file (of_names.Shape id) (inr h) = (λ k. absurd cc, h)
names_refusal file (of_names.Kind id) (inl h) = absurd cc
names_refusal file (of_names.Kind id) (inr h) = (λ k. absurd cc, h)

pub rows_refusal : (vars : OverlapVars) (values : List (List ℤ)) (e : FileFault) → IsFaultOf NoMemory (overlap_of vars values) e → IsOfRows e → IsOwn (HasRowFault vars values) (refusal_of_rows e)
rows_refusal vars values (Name fault) h own = absurd own
rows_refusal vars values (Row r) (inl h) own = absurd cc
rows_refusal vars values (Row r) (inr h) own = (tt, h)
rows_refusal vars values (AreaA i) h own = absurd own
rows_refusal vars values (AreaB j) h own = absurd own
rows_refusal vars values NoMemory h own = tt

-- What they say of the file.

head_fails : (file : NcFile) (bytes : List ℕ) (e : FileFault) → HasHeadFault file e → FailsOverlap file bytes e
unfolding overlap_in
head_fails file bytes (Name fault) h = ap (if_named file bytes) h
head_fails file bytes (Row r) h = absurd h
head_fails file bytes (AreaA i) h = absurd h
head_fails file bytes (AreaB j) h = absurd h
head_fails file bytes NoMemory h = absurd h

abbrev FailsHere : NcFile → FileFault → List ℕ → Type 0
FailsHere file e bytes = FailsOverlap file bytes e

pub header_refusal : (old new : FilesSeen) (name : List ℕ) (head : Head) (why : FileRefusal FileFault) → IsHead head → OnFile old.folder name (IsHeadOfBytes head) → IsOwn (HasHeadFault head.file) why → IsFileRefusal overlap_kind old new name why
header_refusal old new name head (Load load.Absent) is here h = absurd h
header_refusal old new name head (Load load.Failed) is here h = absurd h
header_refusal old new name head (Load (load.TooLong n)) is here h = absurd h
header_refusal old new name head (Load (load.Format e)) is here h = absurd h
header_refusal old new name head (Load load.NoMemory) is here h = tt
header_refusal old new name head (Content c) is here h =
    (h.0, fault_of_head overlap_kind old.folder name head c is here (on_this_file old.folder name (IsHeadOfBytes head) (FailsHere head.file c) (λ bytes _. head_fails head.file bytes c h.1) here))

-- the numbers are those of the variables in these bytes
abbrev pub AreOf : NcFile → OverlapVars → List (List ℤ) → List ℕ → Type 0
AreOf file vars values bytes = values ≡ lists_in file bytes vars.vars

in_bytes : (file : NcFile) (bytes : List ℕ) (vars : OverlapVars) (values : List (List ℤ)) → overlap_vars_in file ≡ Ok vars → values ≡ lists_in file bytes vars.vars → overlap_in file bytes ≡ overlap_of vars values
in_bytes file bytes vars values found same = overlap_in_is file bytes vars found ∙ ap (overlap_of vars) (sym same)

row_fails : (file : NcFile) (bytes : List ℕ) (vars : OverlapVars) (values : List (List ℤ)) (e : FileFault) → overlap_in file bytes ≡ overlap_of vars values → HasRowFault vars values e → FailsOverlap file bytes e
row_fails file bytes vars values (Name fault) is h = absurd h
row_fails file bytes vars values (Row r) is h = is ∙ h
row_fails file bytes vars values (AreaA i) is h = absurd h
row_fails file bytes vars values (AreaB j) is h = absurd h
row_fails file bytes vars values NoMemory is h = absurd h

pub row_refusal : (old new : FilesSeen) (name : List ℕ) (head : Head) (vars : OverlapVars) (values : List (List ℤ)) (why : FileRefusal FileFault) → IsHead head → OnFile old.folder name (IsHeadOfBytes head) → overlap_vars_in head.file ≡ Ok vars
    → OnFile old.folder name (AreOf head.file vars values) → IsOwn (HasRowFault vars values) why → IsFileRefusal overlap_kind old new name why
row_refusal old new name head vars values (Load load.Absent) is here found same h = absurd h
row_refusal old new name head vars values (Load load.Failed) is here found same h = absurd h
row_refusal old new name head vars values (Load (load.TooLong n)) is here found same h = absurd h
row_refusal old new name head vars values (Load (load.Format e)) is here found same h = absurd h
row_refusal old new name head vars values (Load load.NoMemory) is here found same h = tt
row_refusal old new name head vars values (Content c) is here found same h =
    (h.0, fault_of_head overlap_kind old.folder name head c is here (on_this_file old.folder name (AreOf head.file vars values) (FailsHere head.file c) (λ bytes k. row_fails head.file bytes vars values c (in_bytes head.file bytes vars values found k) h.1) same))

pub row_overlap : (folder : Option Folder) (name : List ℕ) (head : Head) (vars : OverlapVars) (values : List (List ℤ)) (r : Result OverlapParts (FileRefusal FileFault)) → IsHead head → OnFile folder name (IsHeadOfBytes head) → overlap_vars_in head.file ≡ Ok vars
    → OnFile folder name (AreOf head.file vars values) → IfOk r (λ o. overlap_of vars values ≡ Ok o) → IfOk r (λ o. OnFile folder name (λ bytes. HasContent overlap_kind bytes o))
row_overlap folder name head vars values (Ok o) is here found same e =
    content_of_head overlap_kind folder name head o is here
    (on_this_file folder name (AreOf head.file vars values) (λ bytes. HoldsOverlap head.file bytes o) (λ bytes k. in_bytes head.file bytes vars values found k ∙ e) same)
row_overlap folder name head vars values (Err why) is here found same e = tt

-- Only names are of the header.

pub row_not_head : (vars : OverlapVars) (values : List (List ℤ)) (why : FileRefusal FileFault) → IsOwn (HasRowFault vars values) why → IsOfHead why → ⊥
row_not_head vars values (Load fault) is h = h
row_not_head vars values (Content (Name e)) is h = is.1
row_not_head vars values (Content (Row r)) is h = h
row_not_head vars values (Content (AreaA i)) is h = h
row_not_head vars values (Content (AreaB j)) is h = h
row_not_head vars values (Content NoMemory) is h = h
