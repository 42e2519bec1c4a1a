-- A header and bytes hold one variable of a name or have one fault, and what refusals say of a file.
use Rattle.std.proofs.Common.{◌≡◌, ◌+◌, ℕ, ℤ, List, length, Option, Some, Result, Ok, Err, refl, sym, ap, ◌∙◌}
use Rattle.remap_io.specs.Folder.{Folder, file_at, OnFile}
use Rattle.remap_io.specs.Outside.{FilesSeen}
use Rattle.nc_format.specs.declared.NcFile.{NcFile}
use Rattle.nc_format.specs.Header.{IsHeader}
use Rattle.exodus_mesh.specs.declared.ids.NameFault.{NameFault}
use Rattle.exodus_mesh.specs.declared.ids.NameFault.TheVariants as of_names
use Rattle.exodus_mesh.specs.MeshIn.{values_in}
use Rattle.field_files.specs.declared.FieldVar.{FieldVar}
use Rattle.field_files.specs.declared.NoFit.{NoFit}
use Rattle.field_files.specs.FileHeader.{IsFileHeader}
use Rattle.field_files.specs.FieldNames.{field_var}
use Rattle.field_files.specs.FieldShapes.{field_over}
use Rattle.field_files.specs.FieldIn.{field_in, if_fitting, if_named as if_field_named}
use Rattle.field_files.specs.FillValues.{fill_at}
use Rattle.remap_load.specs.declared.Head.{Head}
use Rattle.remap_load.specs.declared.refusal.FileRefusal.{FileRefusal}
use Rattle.remap_load.specs.declared.refusal.FileRefusal.TheVariants.{Load, Content}
use Rattle.remap_load.specs.declared.fault.LoadFault.TheVariants as load
use Rattle.remap_load.specs.Heads.{IsHead, IsHeadOfBytes, header_cost}
use Rattle.remap_load.specs.Pieces.{bytes_at, numbers_at}
use Rattle.remap_load.specs.Kinds.{HasContent, IsFileRefusal}
use Rattle.remap_load.proofs.Fronts.{on_this_file}
use Rattle.remap_load.proofs.Contents.{IsLawful, content_of_head, fault_of_head, file_cost_is}
use Rattle.data_load.specs.declared.DataVar.{DataVar}
use Rattle.data_load.specs.DataFile.{data_at, if_named, data_in, laid, laid_over, data_kind, HoldsData, FailsData, named_bytes, data_cost}
use Rattle.data_load.specs.Refusals.{refusal_of_names, HasNameFault, IsOwn}

-- Of two answers of one function there is one.

one_data : (r : Result DataVar NameFault) (a b : DataVar) → r ≡ Ok a → r ≡ Ok b → a ≡ b
one_data r a b h k = cc

one_fault : (r : Result DataVar NameFault) (e f : NameFault) → r ≡ Err e → r ≡ Err f → e ≡ f
one_fault r e f h k = cc

not_both : (r : Result DataVar NameFault) (a : DataVar) (e : NameFault) → r ≡ Ok a → r ≡ Err e → ⊥
not_both r a e h k = absurd cc

pub data_law : (var : List ℕ) → IsLawful (data_kind var)
data_law var = record {
  one_content = λ file bytes a b h k. one_data (data_in file bytes var) a b h k;
  one_fault = λ file bytes e f h k. one_fault (data_in file bytes var) e f h k;
  either = λ file bytes a e h k. not_both (data_in file bytes var) a e h k;
}

pub cost_is : (m : Folder) (name var bytes : List ℕ) (file : NcFile) (place : ℕ) (h : IsHeader bytes (length bytes) file) → file_at m name ≡ Some bytes → field_var file var ≡ Ok place → data_cost m name var ≡ header_cost (length h.header) + bytes_at file place
cost_is m name var bytes file place h there found =
    file_cost_is (data_kind var) m name bytes file h there ∙ ap (λ (r : Result ℕ NameFault). header_cost (length h.header) + named_bytes file r) found

pub needed_is : (file : NcFile) (var : List ℕ) (place : ℕ) → field_var file var ≡ Ok place → (data_kind var).needed file ≡ bytes_at file place
needed_is file var place found = ap (named_bytes file) found

-- A variable that is laid over a map is the field for it.

fits : (file : NcFile) (bytes : List ℕ) (place : ℕ) (r : Result FieldVar NoFit) → if_fitting file bytes place r ≡ laid (data_at file bytes place) r
fits file bytes place (Ok field) = refl
fits file bytes place (Err no_fit) = refl

field_named : (file : NcFile) (bytes : List ℕ) (n_a : ℕ) (r : Result ℕ NameFault) (found : DataVar) → if_named file bytes r ≡ Ok found → if_field_named file bytes n_a r ≡ laid_over found n_a
field_named file bytes n_a (Ok place) found h =
    let is : data_at file bytes place ≡ found = cc in
    fits file bytes place (field_over file place n_a) ∙ ap (λ (d : DataVar). laid_over d n_a) is
field_named file bytes n_a (Err fault) found h = absurd cc

pub field_of_data : (file : NcFile) (bytes var : List ℕ) (found : DataVar) (n_a : ℕ) → data_in file bytes var ≡ Ok found → field_in file bytes var n_a ≡ laid_over found n_a
unfolding data_in field_in
field_of_data file bytes var found n_a h = field_named file bytes n_a (field_var file var) found h

-- A fault of the variable.

pub names_refusal : (file : NcFile) (var : List ℕ) (e : NameFault) → field_var file var ≡ Err e → IsOwn (HasNameFault file var) (refusal_of_names e)
names_refusal file var (of_names.Missing id) h = (λ k. absurd cc, h)
names_refusal file var (of_names.Shape id) h = (λ k. absurd cc, h)
names_refusal file var (of_names.Kind id) h = (λ k. absurd cc, h)
names_refusal file var of_names.NoMemory h = tt

name_fails : (file : NcFile) (bytes var : List ℕ) (e : NameFault) → field_var file var ≡ Err e → FailsData var file bytes e
unfolding data_in
name_fails file bytes var e h = ap (if_named file bytes) h

abbrev FailsHere : List ℕ → NcFile → NameFault → List ℕ → Type 0
FailsHere var file e bytes = FailsData var file bytes e

pub header_refusal : (old new : FilesSeen) (name var : List ℕ) (head : Head) (why : FileRefusal NameFault) → IsHead head → OnFile old.folder name (IsHeadOfBytes head) → IsOwn (HasNameFault head.file var) why → IsFileRefusal (data_kind var) old new name why
header_refusal old new name var head (Load load.Absent) is here h = absurd h
header_refusal old new name var head (Load load.Failed) is here h = absurd h
header_refusal old new name var head (Load (load.TooLong n)) is here h = absurd h
header_refusal old new name var head (Load (load.Format e)) is here h = absurd h
header_refusal old new name var head (Load load.NoMemory) is here h = tt
header_refusal old new name var head (Content e) is here h =
    (h.0, fault_of_head (data_kind var) old.folder name head e is here (on_this_file old.folder name (IsHeadOfBytes head) (FailsHere var head.file e) (λ bytes _. name_fails head.file bytes var e h.1) here))

-- The variable that was loaded is the one in the file.

-- the values are those of the variable in these bytes
abbrev pub AreValues : NcFile → ℕ → List ℤ → List ℕ → Type 0
AreValues file place values bytes = values ≡ numbers_at file bytes place

abbrev pub loaded : NcFile → ℕ → List ℤ → Option ℤ → DataVar
loaded file place values fill = record { file = file; var = place; values = values; fill = fill }

in_bytes : (file : NcFile) (bytes var : List ℕ) (place : ℕ) (values : List ℤ) (fill : Option ℤ) → field_var file var ≡ Ok place → fill ≡ fill_at file place → AreValues file place values bytes → HoldsData var file bytes (loaded file place values fill)
unfolding data_in
in_bytes file bytes var place values fill found filled same =
    ap (if_named file bytes) found ∙ sym (ap (λ (v : List ℤ). Ok (loaded file place v fill)) same ∙ ap (λ (o : Option ℤ). Ok (loaded file place (values_in file bytes place) o)) filled)

pub data_of_head : (folder : Option Folder) (name var : List ℕ) (head : Head) (place : ℕ) (values : List ℤ) (fill : Option ℤ) → IsHead head → OnFile folder name (IsHeadOfBytes head) → field_var head.file var ≡ Ok place → fill ≡ fill_at head.file place
    → OnFile folder name (AreValues head.file place values) → OnFile folder name (λ bytes. HasContent (data_kind var) bytes (loaded head.file place values fill))
data_of_head folder name var head place values fill is here found filled same =
    content_of_head (data_kind var) folder name head (loaded head.file place values fill) is here
    (on_this_file folder name (AreValues head.file place values) (λ bytes. HoldsData var head.file bytes (loaded head.file place values fill)) (λ bytes k. in_bytes head.file bytes var place values fill found filled k) same)

-- the header of a head is one of a file that isn't too long
pub file_header : (head : Head) → IsHead head → IsFileHeader head.file
file_header head is = record { front = head.prefix; len = head.len; within = is.within; short = is.short; header = is.header }
