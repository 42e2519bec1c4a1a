-- A map that is read is the map in the file, and a fault is its first one.
use Rattle.std.proofs.Common.{◌≡◌, ◌∙◌, ℕ, ℤ, List, [], ◌∷◌, length, Ok, Err, refl, ap, ap₂, sym, inl, inr, slice_index}
use Rattle.nc_format.specs.declared.NcFile.{NcFile}
use Rattle.nc_format.specs.Header.{IsHeader}
use Rattle.nc_format.specs.Answers.{IsFaultOf}
use Rattle.exodus_mesh.specs.declared.kinds.NumberKind.{NumberKind}
use Rattle.exodus_mesh.specs.VarLens.{IsNumberVar}
use Rattle.exodus_mesh.proofs.VarValues.{len_values}
use Rattle.exodus_mesh.specs.declared.ids.NameFault.{NameFault}
use Rattle.exodus_mesh.specs.declared.ids.NameFault.TheVariants as names
use Rattle.map_files.specs.declared.vars.MapVars.{MapVars}
use Rattle.exodus_mesh.specs.declared.faults.FileFault.TheVariants.{Name, NoMemory}
use Rattle.exodus_mesh.specs.Answers.{file_fault_of}
use Rattle.map_files.specs.MapNames.{map_vars_in}
use Rattle.map_files.specs.MapValues.{map_of}
use Rattle.map_files.specs.MapIn.{row_columns_in, map_list_in, if_map_named, map_in}

pub map_in_is : (file : NcFile) (bytes : List ℕ) (v : MapVars) → map_vars_in file ≡ Ok v → map_in file bytes ≡ map_of v (row_columns_in file bytes v) (map_list_in file bytes v 3) (map_list_in file bytes v 4)
unfolding map_in
map_in_is file bytes v h = ap (λ r. if_map_named file bytes r) h

-- the same, of five lists that are those of the file
pub map_of_lists : (file : NcFile) (bytes : List ℕ) (v : MapVars) (col row s area_a area_b : List ℤ) → map_vars_in file ≡ Ok v → col ≡ map_list_in file bytes v 0 → row ≡ map_list_in file bytes v 1 → s ≡ map_list_in file bytes v 2
    → area_a ≡ map_list_in file bytes v 3 → area_b ≡ map_list_in file bytes v 4 → map_of v (record { col = col; row = row; s = s }) area_a area_b ≡ map_in file bytes
map_of_lists file bytes v col row s area_a area_b h first second third fourth fifth =
    ap (λ (l : List ℤ). map_of v (record { col = l; row = row; s = s }) area_a area_b) first
    ∙ ap (λ (l : List ℤ). map_of v (record { col = map_list_in file bytes v 0; row = l; s = s }) area_a area_b) second
    ∙ ap (λ (l : List ℤ). map_of v (record { col = map_list_in file bytes v 0; row = map_list_in file bytes v 1; s = l }) area_a area_b) third
    ∙ ap₂ (λ (a b : List ℤ). map_of v (row_columns_in file bytes v) a b) fourth fifth
    ∙ sym (map_in_is file bytes v h)

-- how many numbers such a list has
pub list_len : {kind : NumberKind} (file : NcFile) (bytes : List ℕ) (v : MapVars) (k n : ℕ) (l : List ℤ) → IsHeader bytes (length bytes) file → IsNumberVar kind file (n ∷ []) (slice_index v.vars k) → l ≡ map_list_in file bytes v k → length l ≡ n
list_len file bytes v k n l header var is = ap (length {A = ℤ}) is ∙ len_values bytes file n (slice_index v.vars k) header var

name_fault_is : (file : NcFile) (bytes : List ℕ) (fault : NameFault) → map_vars_in file ≡ Err fault → map_in file bytes ≡ Err (Name fault)
unfolding map_in
name_fault_is file bytes fault h = ap (λ r. if_map_named file bytes r) h

pub map_names_refused : (file : NcFile) (bytes : List ℕ) (fault : NameFault) → IsFaultOf names.NoMemory (map_vars_in file) fault → IsFaultOf NoMemory (map_in file bytes) (file_fault_of fault)
map_names_refused file bytes names.NoMemory h = inl refl
map_names_refused file bytes (names.Missing id) (inl h) = absurd cc
map_names_refused file bytes (names.Missing id) (inr h) = inr (name_fault_is file bytes (names.Missing id) h)
map_names_refused file bytes (names.Shape id) (inl h) = absurd cc
map_names_refused file bytes (names.Shape id) (inr h) = inr (name_fault_is file bytes (names.Shape id) h)
map_names_refused file bytes (names.Kind id) (inl h) = absurd cc
map_names_refused file bytes (names.Kind id) (inr h) = inr (name_fault_is file bytes (names.Kind id) h)
