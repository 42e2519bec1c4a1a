-- A header and bytes hold one mesh or have one fault, and what refusals say of a file.
use Rattle.std.proofs.Common.{◌≡◌, ◌≢◌, inl, inr, ◌+◌, ℕ, List, length, Option, Some, Result, Ok, Err, sym, ap, subst, ◌∙◌}
use Rattle.std.specs.Prelude.{IfOk, OnOk}
use Rattle.vec_exact.specs.declared.RawMesh.{RawMesh}
use Rattle.vec_exact.specs.Counts.{AreAllowedCounts}
use Rattle.remap_io.specs.Folder.{Folder, file_at, OnFile}
use Rattle.remap_io.specs.Outside.{FilesSeen}
use Rattle.nc_format.specs.declared.NcFile.{NcFile}
use Rattle.nc_format.specs.Header.{IsHeader}
use Rattle.mesh_check.specs.declared.faults.MeshFault.{MeshFault}
use Rattle.mesh_check.specs.declared.faults.MeshFault.TheVariants as of_mesh
use Rattle.mesh_check.specs.Mesh.{IsAcceptedMesh}
use Rattle.mesh_check.specs.FirstFault.{IsFirstMeshFault}
use Rattle.mesh_check.proofs.FirstFaults.{same_first_fault, no_first_fault}
use Rattle.nc_format.specs.Answers.{IsFaultOf}
use Rattle.exodus_mesh.specs.declared.ids.NameFault.{NameFault}
use Rattle.exodus_mesh.specs.declared.ids.NameFault.TheVariants as of_names
use Rattle.exodus_mesh.specs.declared.vars.MeshVars.{MeshVars}
use Rattle.exodus_mesh.specs.MeshNames.{mesh_vars_in}
use Rattle.exodus_mesh.specs.MeshIn as mesh
use Rattle.exodus_mesh.specs.MeshIn.{MeshInFault, mesh_in, mesh_at, mesh_count_fault, if_named, if_counted}
use Rattle.exodus_mesh.proofs.ReadValues.{mesh_in_is}
use Rattle.remap_load.specs.declared.Head.{Head}
use Rattle.remap_load.specs.declared.refusal.FileRefusal.{FileRefusal}
use Rattle.remap_load.specs.declared.refusal.FileRefusal.TheVariants.{Load, Content}
use Rattle.remap_load.specs.declared.fault.LoadFault.TheVariants as load
use Rattle.remap_load.specs.Heads.{IsHead, IsHeadOfBytes, header_cost}
use Rattle.remap_load.specs.Kinds.{HasContent, IsFileRefusal}
use Rattle.remap_load.proofs.Fronts.{on_this_file}
use Rattle.remap_load.proofs.Contents.{IsLawful, content_of_head, fault_of_head, file_cost_is}
use Rattle.mesh_load.specs.declared.MeshFileFault.{MeshFileFault}
use Rattle.mesh_load.specs.declared.MeshFileFault.TheVariants.{Names, Mesh}
use Rattle.mesh_load.specs.MeshFile.{mesh_kind, HoldsMesh, FailsMesh, IsOfHead, mesh_bytes, named_bytes, mesh_cost}
use Rattle.mesh_load.specs.Refusals.{refusal_of_names, refusal_of_mesh, HasHeadFault, HasRawFault, IsOwn}

-- Of two answers of one function there is one.

one_raw : (r : Result RawMesh MeshInFault) (a b : RawMesh) → r ≡ Ok a → r ≡ Ok b → a ≡ b
one_raw r a b h k = cc

raw_or_fault : (r : Result RawMesh MeshInFault) (a : RawMesh) (e : MeshInFault) → r ≡ Ok a → r ≡ Err e → ⊥
raw_or_fault r a e h k = absurd cc

one_names : (r : Result RawMesh MeshInFault) (e f : NameFault) → r ≡ Err (mesh.Names e) → r ≡ Err (mesh.Names f) → e ≡ f
one_names r e f h k = cc

one_counts : (r : Result RawMesh MeshInFault) (e f : MeshFault) → r ≡ Err (mesh.Counts e) → r ≡ Err (mesh.Counts f) → e ≡ f
one_counts r e f h k = cc

names_or_counts : (r : Result RawMesh MeshInFault) (e : NameFault) (f : MeshFault) → r ≡ Err (mesh.Names e) → r ≡ Err (mesh.Counts f) → ⊥
names_or_counts r e f h k = absurd cc

not_held : (file : NcFile) (bytes : List ℕ) (a : RawMesh) (c : MeshFileFault) → HoldsMesh file bytes a → FailsMesh file bytes c → ⊥
not_held file bytes a (Names e) h k = raw_or_fault (mesh_in file bytes) a (mesh.Names e) h.mesh k
not_held file bytes a (Mesh e) h (inl k) = raw_or_fault (mesh_in file bytes) a (mesh.Counts e) h.mesh k
not_held file bytes a (Mesh e) h (inr k) = no_first_fault k.raw e (subst IsAcceptedMesh (one_raw (mesh_in file bytes) a k.raw h.mesh k.mesh) h.accepted) k.first

one_fail : (file : NcFile) (bytes : List ℕ) (c d : MeshFileFault) → FailsMesh file bytes c → FailsMesh file bytes d → c ≡ d
one_fail file bytes (Names e) (Names f) h k = ap (λ (x : NameFault). Names x) (one_names (mesh_in file bytes) e f h k)
one_fail file bytes (Names e) (Mesh f) h (inl k) = absurd (names_or_counts (mesh_in file bytes) e f h k)
one_fail file bytes (Names e) (Mesh f) h (inr k) = absurd (raw_or_fault (mesh_in file bytes) k.raw (mesh.Names e) k.mesh h)
one_fail file bytes (Mesh e) (Names f) (inl h) k = absurd (names_or_counts (mesh_in file bytes) f e k h)
one_fail file bytes (Mesh e) (Names f) (inr h) k = absurd (raw_or_fault (mesh_in file bytes) h.raw (mesh.Names f) h.mesh k)
one_fail file bytes (Mesh e) (Mesh f) (inl h) (inl k) = ap (λ (x : MeshFault). Mesh x) (one_counts (mesh_in file bytes) e f h k)
one_fail file bytes (Mesh e) (Mesh f) (inl h) (inr k) = absurd (raw_or_fault (mesh_in file bytes) k.raw (mesh.Counts e) k.mesh h)
one_fail file bytes (Mesh e) (Mesh f) (inr h) (inl k) = absurd (raw_or_fault (mesh_in file bytes) h.raw (mesh.Counts f) h.mesh k)
one_fail file bytes (Mesh e) (Mesh f) (inr h) (inr k) =
    let same : k.raw ≡ h.raw = one_raw (mesh_in file bytes) k.raw h.raw k.mesh h.mesh in
    ap (λ (x : MeshFault). Mesh x) (same_first_fault h.raw e f h.first (subst (λ (r : RawMesh). IsFirstMeshFault r f) same k.first))

pub mesh_law : IsLawful mesh_kind
mesh_law = record {
  one_content = λ file bytes a b h k. one_raw (mesh_in file bytes) a b h.mesh k.mesh;
  one_fault = one_fail;
  either = not_held;
}

pub cost_is : (m : Folder) (name bytes : List ℕ) (file : NcFile) (vars : MeshVars) (h : IsHeader bytes (length bytes) file) → file_at m name ≡ Some bytes → mesh_vars_in file ≡ Ok vars → mesh_cost m name ≡ header_cost (length h.header) + mesh_bytes file vars
cost_is m name bytes file vars h there found =
    file_cost_is mesh_kind m name bytes file h there ∙ ap (λ (r : Result MeshVars NameFault). header_cost (length h.header) + named_bytes file r) found

pub needed_is : (file : NcFile) (vars : MeshVars) → mesh_vars_in file ≡ Ok vars → mesh_kind.needed file ≡ mesh_bytes file vars
needed_is file vars found = ap (named_bytes file) found

-- Faults of names, of counts and of meshes.

pub names_refusal : (file : NcFile) (e : NameFault) → IsFaultOf of_names.NoMemory (mesh_vars_in file) e → IsOwn (HasHeadFault file) (refusal_of_names e)
names_refusal file of_names.NoMemory h = tt
names_refusal file (of_names.Missing id) (inl h) = absurd cc
names_refusal file (of_names.Missing id) (inr h) = (λ k. absurd cc, h)
names_refusal file (of_names.Shape id) (inl h) = absurd cc
names_refusal file (of_names.Shape id) (inr h) = (λ k. absurd cc, h)
names_refusal file (of_names.Kind id) (inl h) = absurd cc
names_refusal file (of_names.Kind id) (inr h) = (λ k. absurd cc, h)

own_mesh : (Q : MeshFileFault → Type 0) (e : MeshFault) → ((e ≢ of_mesh.NoMemory) → Q (Mesh e)) → IsOwn Q (refusal_of_mesh e)
own_mesh Q (of_mesh.TooManyNodes n) h = (λ k. absurd cc, h (λ k. absurd cc))
own_mesh Q (of_mesh.TooManyFaces n) h = (λ k. absurd cc, h (λ k. absurd cc))
own_mesh Q (of_mesh.CoordRange n) h = (λ k. absurd cc, h (λ k. absurd cc))
own_mesh Q (of_mesh.ZeroNode n) h = (λ k. absurd cc, h (λ k. absurd cc))
own_mesh Q (of_mesh.NodeNumber n) h = (λ k. absurd cc, h (λ k. absurd cc))
own_mesh Q (of_mesh.FaceSize n) h = (λ k. absurd cc, h (λ k. absurd cc))
own_mesh Q (of_mesh.NotConvex n) h = (λ k. absurd cc, h (λ k. absurd cc))
own_mesh Q of_mesh.NoMemory h = tt

pub counts_refusal : (file : NcFile) (vars : MeshVars) (e : MeshFault) → mesh_vars_in file ≡ Ok vars → mesh_count_fault vars ≡ Some e → IsOwn (HasHeadFault file) (refusal_of_mesh e)
counts_refusal file vars e found h = own_mesh (HasHeadFault file) e (λ _. (vars, found, h))

pub mesh_refusal : (raw : RawMesh) (e : MeshFault) → (e ≢ of_mesh.NoMemory → IsFirstMeshFault raw e) → IsOwn (HasRawFault raw) (refusal_of_mesh e)
mesh_refusal raw e h = own_mesh (HasRawFault raw) e h

-- What they say of the file.

head_fails : (file : NcFile) (bytes : List ℕ) (c : MeshFileFault) → HasHeadFault file c → FailsMesh file bytes c
unfolding mesh_in
head_fails file bytes (Names e) h = ap (if_named file bytes) h
head_fails file bytes (Mesh e) h = inl (ap (if_named file bytes) h.1 ∙ ap (λ (o : Option MeshFault). if_counted o (mesh_at file bytes h.0)) h.2)

abbrev FailsHere : NcFile → MeshFileFault → List ℕ → Type 0
FailsHere file c bytes = FailsMesh file bytes c

pub header_refusal : (old new : FilesSeen) (name : List ℕ) (head : Head) (why : FileRefusal MeshFileFault) → IsHead head → OnFile old.folder name (IsHeadOfBytes head) → IsOwn (HasHeadFault head.file) why → IsFileRefusal mesh_kind old new name why
header_refusal old new name head (Load load.Absent) is here h = absurd h
header_refusal old new name head (Load load.Failed) is here h = absurd h
header_refusal old new name head (Load (load.TooLong n)) is here h = absurd h
header_refusal old new name head (Load (load.Format e)) is here h = absurd h
header_refusal old new name head (Load load.NoMemory) is here h = tt
header_refusal old new name head (Content c) is here h =
    (h.0, fault_of_head mesh_kind old.folder name head c is here (on_this_file old.folder name (IsHeadOfBytes head) (FailsHere head.file c) (λ bytes _. head_fails head.file bytes c h.1) here))

abbrev pub IsRawOf : NcFile → MeshVars → RawMesh → List ℕ → Type 0
IsRawOf file vars raw bytes = raw ≡ mesh_at file bytes vars

in_bytes : (file : NcFile) (bytes : List ℕ) (vars : MeshVars) (raw : RawMesh) → mesh_vars_in file ≡ Ok vars → AreAllowedCounts vars.nodes vars.faces → raw ≡ mesh_at file bytes vars → mesh_in file bytes ≡ Ok raw
in_bytes file bytes vars raw found counts same = mesh_in_is file bytes vars found counts ∙ ap (λ (m : RawMesh). Ok m) (sym same)

raw_fails : (file : NcFile) (bytes : List ℕ) (raw : RawMesh) (c : MeshFileFault) → mesh_in file bytes ≡ Ok raw → HasRawFault raw c → FailsMesh file bytes c
raw_fails file bytes raw (Names e) is h = absurd h
raw_fails file bytes raw (Mesh e) is h = inr (record { raw = raw; mesh = is; first = h })

pub raw_refusal : (old new : FilesSeen) (name : List ℕ) (head : Head) (vars : MeshVars) (raw : RawMesh) (why : FileRefusal MeshFileFault) → IsHead head → OnFile old.folder name (IsHeadOfBytes head) → mesh_vars_in head.file ≡ Ok vars → AreAllowedCounts vars.nodes vars.faces
    → OnFile old.folder name (IsRawOf head.file vars raw) → IsOwn (HasRawFault raw) why → IsFileRefusal mesh_kind old new name why
raw_refusal old new name head vars raw (Load load.Absent) is here found counts same h = absurd h
raw_refusal old new name head vars raw (Load load.Failed) is here found counts same h = absurd h
raw_refusal old new name head vars raw (Load (load.TooLong n)) is here found counts same h = absurd h
raw_refusal old new name head vars raw (Load (load.Format e)) is here found counts same h = absurd h
raw_refusal old new name head vars raw (Load load.NoMemory) is here found counts same h = tt
raw_refusal old new name head vars raw (Content c) is here found counts same h =
    (h.0, fault_of_head mesh_kind old.folder name head c is here (on_this_file old.folder name (IsRawOf head.file vars raw) (FailsHere head.file c) (λ bytes k. raw_fails head.file bytes raw c (in_bytes head.file bytes vars raw found counts k) h.1) same))

pub raw_mesh : (folder : Option Folder) (name : List ℕ) (head : Head) (vars : MeshVars) (raw : RawMesh) (r : Result RawMesh (FileRefusal MeshFileFault)) → IsHead head → OnFile folder name (IsHeadOfBytes head) → mesh_vars_in head.file ≡ Ok vars → AreAllowedCounts vars.nodes vars.faces
    → OnFile folder name (IsRawOf head.file vars raw) → IfOk r (λ m. m ≡ raw) → OnOk r (IsAcceptedMesh raw) → IfOk r (λ m. OnFile folder name (λ bytes. HasContent mesh_kind bytes m))
raw_mesh folder name head vars raw (Ok m) is here found counts same e accepted =
    content_of_head mesh_kind folder name head m is here
    (on_this_file folder name (IsRawOf head.file vars raw) (λ bytes. HoldsMesh head.file bytes m) (λ bytes k. record { mesh = in_bytes head.file bytes vars m found counts (e ∙ k); accepted = subst IsAcceptedMesh (sym e) accepted }) same)
raw_mesh folder name head vars raw (Err why) is here found counts same e accepted = tt

-- Only names and counts are of the header.

never_count : (raw : RawMesh) (e : MeshFault) → IsFirstMeshFault raw e → IsOfHead (Content (Mesh e)) → ⊥
never_count raw (of_mesh.TooManyNodes n) (inl f) h = f.here
never_count raw (of_mesh.TooManyNodes n) (inr f) h = f.1.here
never_count raw (of_mesh.TooManyFaces n) (inl f) h = f.here
never_count raw (of_mesh.TooManyFaces n) (inr f) h = f.1.here
never_count raw (of_mesh.CoordRange n) f h = h
never_count raw (of_mesh.ZeroNode n) f h = h
never_count raw (of_mesh.NodeNumber n) f h = h
never_count raw (of_mesh.FaceSize n) f h = h
never_count raw (of_mesh.NotConvex n) f h = h
never_count raw of_mesh.NoMemory f h = h

pub mesh_not_head : (raw : RawMesh) (why : FileRefusal MeshFileFault) → IsOwn (HasRawFault raw) why → IsOfHead why → ⊥
mesh_not_head raw (Load fault) is h = h
mesh_not_head raw (Content (Names e)) is h = is.1
mesh_not_head raw (Content (Mesh e)) is h = never_count raw e is.1 h
