-- What the ends of commands come to.
use Rattle.std.proofs.Common.{◌≡◌, ◌<◌, ◌≤◌, ℕ, List, [], length, Option, Some, codes, refl, ap, ap₂, subst, inl, inr}
use Rattle.vec_exact.specs.declared.RawMesh.{RawMesh}
use Rattle.nc_write.specs.File.{file_of}
use Rattle.nc_write.specs.declared.NcDoc.{NcDoc}
use Rattle.mesh_check.specs.declared.faults.MeshFault.{MeshFault}
use Rattle.mesh_check.specs.declared.faults.MeshFault.TheVariants.{NoMemory as NoMeshMemory}
use Rattle.mesh_check.specs.declared.faults.GenFault.{GenFault}
use Rattle.mesh_check.specs.declared.faults.GenFault.TheVariants.{Mesh as FaultOfMade, NoMemory as NoMadeMemory}
use Rattle.clip.specs.Overlaps.{OverlapParts}
use Rattle.overlap_run.specs.declared.faults.RunFault.{RunFault}
use Rattle.overlap_run.specs.declared.faults.RunFault.TheVariants.{TooManyPieces, NoMemory as NoRunMemory}
use Rattle.overlap_run.specs.Whole.{IsOverlapOf, IsRefusalOf}
use Rattle.remap_files.specs.OverlapDocument.{overlap_document}
use Rattle.fault_lines.specs.declared.status.Status.{Status}
use Rattle.fault_lines.specs.declared.status.Status.TheVariants.{Mesh, Limit}
use Rattle.tempest_top.specs.Scene.{Scene}
use Rattle.fault_lines.specs.Lines.{PutsText}
use Rattle.tempest_top.specs.Texts.{pieces_text}
use Rattle.fault_lines.specs.Faults.{length_text, too_many_pieces_text, mesh_fault_text, run_text, status_of_run, made_text, status_of_made}
use Rattle.tempest_top.specs.Outcome.{IsOutcomeOfDocument, IsOutcomeOfPair, refusal, fault_of_made, mesh_output, mesh_written, written}
use Rattle.tempest_top.specs.Promises.{IsMadeText, IsOverlapText}
use Rattle.tempest_top.specs.Ends.{written_name, Ends, Comes}
use Rattle.tempest_top.proofs.Coming.{Goal, comes_own, comes_stopped, comes_done, comes_as}

-- a mesh is written
pub comes_mesh : (own : List ℕ → Status → Type 0) (file : List ℕ) (P : Goal) (before after : Scene) (raw : RawMesh) (status : Status) → P before.files.folder (mesh_written raw file before.files.folder)
    → after.files.taken ≡ before.files.taken → Ends (mesh_written raw file before.files.folder) before after status → Comes [] own (Some file) P before after status
unfolding mesh_output
comes_mesh own file P before after raw status outcome same ends =
    comes_done own (Some file) P before after (mesh_written raw file before.files.folder) status outcome refl (λ f e. ap written_name e) same ends

-- a generator gave no mesh
pub comes_unmade : (output : Option (List ℕ)) (P : Goal) (before after : Scene) (refused : GenFault) (status : Status) → (refused ≡ FaultOfMade NoMeshMemory → ⊥)
    → ((fault : MeshFault) → refused ≡ FaultOfMade fault → P before.files.folder (fault_of_made fault before.files.folder)) → after.files ≡ before.files → after.out ≡ before.out
    → status ≡ status_of_made refused → PutsText before.err after.err (made_text refused) → Comes [] IsMadeText output P before after status
comes_unmade output P before after (FaultOfMade fault) status outer outcome files out is put =
    comes_own [] IsMadeText output P before after (mesh_fault_text (codes "generated") fault) Mesh status (outcome fault refl) (refl, (fault, (λ e. outer (ap FaultOfMade e)), refl)) tt (λ e. cc) files out is put
comes_unmade output P before after NoMadeMemory status outer outcome files out is put = comes_stopped [] IsMadeText output P before after status files out is put

-- the file of a document is too long
pub comes_long : (doc : NcDoc) (text file : List ℕ) (before after : Scene) (n : ℕ) (status : Status) → n ≡ length (file_of doc) → 2147483647 < n → after.files ≡ before.files → after.out ≡ before.out
    → status ≡ Limit → PutsText before.err after.err (length_text file n) → Comes [] (IsOverlapText file) (Some file) (IsOutcomeOfDocument doc text file) before after status
comes_long doc text file before after n status same long files out is put =
    comes_own [] (IsOverlapText file) (Some file) (IsOutcomeOfDocument doc text file) before after (length_text file n) Limit status
    (inl (subst (λ (k : ℕ). 2147483647 < k) same long, ap (λ (k : ℕ). refusal Limit (length_text file k) before.files.folder) same)) (inr (refl, (n, long, refl))) tt (λ e. cc) files out is put

-- it is written
pub comes_written : (doc : NcDoc) (text file : List ℕ) (before after : Scene) (bytes put : List ℕ) (status : Status) → length (file_of doc) ≤ 2147483647 → bytes ≡ file_of doc → put ≡ text → after.files.taken ≡ before.files.taken
    → Ends (written (record { name = file; bytes = bytes }) put before.files.folder) before after status → Comes [] (IsOverlapText file) (Some file) (IsOutcomeOfDocument doc text file) before after status
comes_written doc text file before after bytes put status short same same_text taken ends =
    comes_done (IsOverlapText file) (Some file) (IsOutcomeOfDocument doc text file) before after (written (record { name = file; bytes = bytes }) put before.files.folder) status
    (inr (short, ap₂ (λ (b t : List ℕ). written (record { name = file; bytes = b }) t before.files.folder) same same_text)) refl (λ f e. ap written_name e) taken ends

-- there is no overlap: more pairs meet than it may have, or memory ran out
pub comes_unmet : (source target : RawMesh) (file : List ℕ) (before after : Scene) (fault : RunFault) (status : Status) → IsRefusalOf source target fault → after.files ≡ before.files → after.out ≡ before.out
    → status ≡ status_of_run fault → PutsText before.err after.err (run_text fault) → Comes [] (IsOverlapText file) (Some file) (IsOutcomeOfPair source target file) before after status
comes_unmet source target file before after (TooManyPieces n) status refused files out is put =
    comes_own [] (IsOverlapText file) (Some file) (IsOutcomeOfPair source target file) before after (too_many_pieces_text n) Limit status
    (inl (n, refused.0, refused.1, refl)) (inl (refl, (n, refused.1, refl))) tt (λ e. cc) files out is put
comes_unmet source target file before after NoRunMemory status refused files out is put = comes_stopped [] (IsOverlapText file) (Some file) (IsOutcomeOfPair source target file) before after status files out is put

-- an overlap was found
pub comes_of_overlap : (source target : RawMesh) (overlap : OverlapParts) (file : List ℕ) (before after : Scene) (status : Status) → IsOverlapOf source target overlap → length overlap.pieces ≤ 8388608
    → Comes [] (IsOverlapText file) (Some file) (IsOutcomeOfDocument (overlap_document overlap) (pieces_text (length overlap.pieces)) file) before after status
    → Comes [] (IsOverlapText file) (Some file) (IsOutcomeOfPair source target file) before after status
comes_of_overlap source target overlap file before after status is few c =
    comes_as [] (IsOverlapText file) (Some file) (IsOutcomeOfDocument (overlap_document overlap) (pieces_text (length overlap.pieces)) file) (IsOutcomeOfPair source target file) before after status (λ o h. inr (overlap, is, few, h)) c
