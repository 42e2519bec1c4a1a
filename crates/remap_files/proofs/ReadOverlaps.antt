-- An overlap that is read is the overlap in the file, and a fault is its first one.
use Rattle.std.proofs.Common.{◌≡◌, ℕ, List, Ok, Err, refl, ap, inl, inr}
use Rattle.nc_format.specs.declared.NcFile.{NcFile}
use Rattle.nc_format.specs.Answers.{IsFaultOf}
use Rattle.exodus_mesh.specs.declared.ids.NameFault.{NameFault}
use Rattle.exodus_mesh.specs.declared.ids.NameFault.TheVariants as names
use Rattle.remap_files.specs.declared.vars.OverlapVars.{OverlapVars}
use Rattle.exodus_mesh.specs.declared.faults.FileFault.TheVariants.{Name, NoMemory}
use Rattle.exodus_mesh.specs.Answers.{file_fault_of}
use Rattle.remap_files.specs.OverlapNames.{overlap_vars_in}
use Rattle.remap_files.specs.OverlapRows.{overlap_of}
use Rattle.remap_files.specs.OverlapIn.{lists_in, if_named, overlap_in}

pub overlap_in_is : (file : NcFile) (bytes : List ℕ) (v : OverlapVars) → overlap_vars_in file ≡ Ok v → overlap_in file bytes ≡ overlap_of v (lists_in file bytes v.vars)
unfolding overlap_in
overlap_in_is file bytes v h = ap (λ r. if_named file bytes r) h

name_fault_is : (file : NcFile) (bytes : List ℕ) (fault : NameFault) → overlap_vars_in file ≡ Err fault → overlap_in file bytes ≡ Err (Name fault)
unfolding overlap_in
name_fault_is file bytes fault h = ap (λ r. if_named file bytes r) h

pub names_refused : (file : NcFile) (bytes : List ℕ) (fault : NameFault) → IsFaultOf names.NoMemory (overlap_vars_in file) fault → IsFaultOf NoMemory (overlap_in file bytes) (file_fault_of fault)
names_refused file bytes names.NoMemory h = inl refl
names_refused file bytes (names.Missing id) (inl h) = absurd cc
names_refused file bytes (names.Missing id) (inr h) = inr (name_fault_is file bytes (names.Missing id) h)
names_refused file bytes (names.Shape id) (inl h) = absurd cc
names_refused file bytes (names.Shape id) (inr h) = inr (name_fault_is file bytes (names.Shape id) h)
names_refused file bytes (names.Kind id) (inl h) = absurd cc
names_refused file bytes (names.Kind id) (inr h) = inr (name_fault_is file bytes (names.Kind id) h)
