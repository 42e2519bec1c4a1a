-- What one command comes to over the folder that another one left.
use Rattle.std.proofs.Common.{◌≡◌, ◌≢◌, ◌∙◌, ◌≤◌, ℕ, List, length, Option, Some, None, IsSomeAnd, refl, sym, ap, subst, inl, inr, arith}
use Rattle.vec_exact.specs.declared.RawMesh.{RawMesh}
use Rattle.mesh_check.specs.Mesh.{IsAcceptedMesh}
use Rattle.remap_io.specs.Folder.{Folder, file_at, with_file}
use Rattle.remap_io.proofs.FolderLaws.{file_at-same, file_at-other}
use Rattle.remap_load.specs.Kinds.{FileKind, HasContent, IsFile}
use Rattle.remap_load.proofs.Contents.{IsLawful, one_content, not_both}
use Rattle.nc_write.specs.File.{file_of}
use Rattle.nc_write.specs.declared.NcDoc.{NcDoc}
use Rattle.mesh_load.specs.MeshFile.{IsMeshFile, mesh_kind}
use Rattle.mesh_load.proofs.OneMesh.{mesh_law}
use Rattle.clip.specs.Overlaps.{OverlapParts, IsSoundOverlap}
use Rattle.overlap_run.specs.Whole.{IsOverlapOf}
use Rattle.overlap_run.proofs.SoundWhole.{overlap_is_sound}
use Rattle.overlap_load.specs.OverlapFile.{IsOverlapFile, overlap_kind}
use Rattle.overlap_load.proofs.OneOverlap.{overlap_law}
use Rattle.map_load.specs.MapFile.{map_kind}
use Rattle.map_rows.specs.Maps.{IsSoundMap}
use Rattle.offline_map.specs.declared.faults.MapFault.{MapFault}
use Rattle.offline_map.specs.declared.faults.MapFault.TheVariants.{CountsA, CountsB, Row, Uncovered as WithoutRow, NoMemory as NoMapMemory}
use Rattle.offline_map.specs.Maps.{map_of}
use Rattle.offline_map.specs.MapFaults.{IsMapFaultOf}
use Rattle.offline_map.proofs.Made.{map_is_sound}
use Rattle.remap_files.specs.OverlapDocument.{overlap_document}
use Rattle.map_files.specs.MapDocument.{map_document}
use Rattle.remap_chain.proofs.OneField.{no_counts_a, no_counts_b, no_row}
use Rattle.command_line.specs.Words.{options_of}
use Rattle.command_line.specs.declared.choices.Chosen.{Chosen}
use Rattle.command_line.specs.declared.choices.Chosen.TheVariants.{OfflineMap}
use Rattle.fault_lines.specs.declared.status.Status.TheVariants.{Done, Uncovered, Limit}
use Rattle.fault_lines.specs.Faults.{FileWords, mesh_words}
use Rattle.fault_lines.specs.RowFaults.{status_of_map_fault}
use Rattle.tempest_top.specs.MapFaults.{overlap_words}
use Rattle.tempest_top.specs.Outcome.{Outcome, AfterFile, IsOutcome, IsOutcomeOfPair, IsOutcomeOfMap, IsOutcomeOfDocument}
use Rattle.tempest_top.specs.CommandLaws.{HoldsMeshes, AsksOverlap, IsDone, MakesMap, MapAfterOverlap}
use Rattle.tempest_top.proofs.MapEnds.{short_map_file}
use Rattle.tempest_top.proofs.OwnOverlaps.{overlap_content, map_content}

-- where the folder holds this by the name, one goes on with it
pub goes_on : {A C : Type 0} (words : FileWords A C) → IsLawful words.kind → (m : Folder) (name : List ℕ) (content : A) (next : A → Outcome → Type 0) (o : Outcome) → IsFile words.kind m name content → AfterFile words (Some m) name next o → next content o
goes_on words law m name content next o held (inl a) = absurd (not_both words.kind law m name content a.0 held a.1)
goes_on {A = A} words law m name content next o held (inr a) = subst (λ (x : A). next x o) (one_content words.kind law m name a.0 content a.1 held) a.2

-- what another name holds stays
pub stays : {A C : Type 0} (kind : FileKind A C) (m : Folder) (name bytes other : List ℕ) (content : A) → other ≢ name → IsFile kind m other content → IsFile kind (with_file m name bytes) other content
stays kind m name bytes other content apart held =
    subst (λ (file : Option (List ℕ)). IsSomeAnd file (λ b. HasContent kind b content)) (sym (file_at-other m name bytes other apart)) held

-- what was written is held
pub held_there : {A C : Type 0} (kind : FileKind A C) (m : Folder) (name bytes : List ℕ) (content : A) → HasContent kind bytes content → IsFile kind (with_file m name bytes) name content
held_there kind m name bytes content holds =
    subst (λ (file : Option (List ℕ)). IsSomeAnd file (λ b. HasContent kind b content)) (sym (file_at-same m name bytes)) holds

accepted_in : (file : Option (List ℕ)) (mesh : RawMesh) → IsSomeAnd file (λ b. HasContent mesh_kind b mesh) → IsAcceptedMesh mesh
accepted_in None mesh held = absurd held
accepted_in (Some b) mesh held = held.holds.accepted

accepted_file : (m : Folder) (name : List ℕ) (mesh : RawMesh) → IsMeshFile m name mesh → IsAcceptedMesh mesh
accepted_file m name mesh held = accepted_in (file_at m name) mesh held

-- the folder n is m with the file of a document
pub record IsWritten (doc : NcDoc) (file : List ℕ) (m n : Folder) : Type 0 where
  pub short : length (file_of doc) ≤ 2147483647
  pub folder : n ≡ with_file m file (file_of doc)

-- a document that was dealt with and is done was written
pub done_document : (doc : NcDoc) (text file : List ℕ) (m n : Folder) (o : Outcome) → IsOutcomeOfDocument doc text file (Some m) o → o.status ≡ Done → o.folder ≡ Some n → IsWritten doc file m n
done_document doc text file m n o (inl a) done folder = absurd (let limit : o.status ≡ Limit = ap (λ (x : Outcome). x.status) a.1 in cc)
done_document doc text file m n o (inr a) done folder =
    let left : o.folder ≡ Some (with_file m file (file_of doc)) = ap (λ (x : Outcome). x.folder) a.1 in record { short = a.0; folder = cc }

-- the overlap of the two meshes was written, and is read again
pub record WroteOverlap (m n : Folder) (ov : List ℕ) (source target : RawMesh) (overlap : OverlapParts) : Type 0 where
  pub is : IsOverlapOf source target overlap
  pub sound : IsSoundOverlap overlap
  pub folder : n ≡ with_file m ov (file_of (overlap_document overlap))
  pub read : IsOverlapFile n ov overlap

wrote : (m n : Folder) (ov : List ℕ) (source target : RawMesh) (o : Outcome) → IsAcceptedMesh source → IsAcceptedMesh target → IsOutcomeOfPair source target ov (Some m) o → o.status ≡ Done → o.folder ≡ Some n
    → (overlap : OverlapParts) × WroteOverlap m n ov source target overlap
wrote m n ov source target o x y (inl a) done folder = absurd (let limit : o.status ≡ Limit = ap (λ (x : Outcome). x.status) a.3 in cc)
wrote m n ov source target o x y (inr a) done folder =
    let overlap = a.0 in
    let sound = overlap_is_sound source target overlap x y a.1 a.2 in
    let written = done_document _ _ ov m n o a.3 done folder in
    let content = overlap_content source target overlap sound a.1 written.short in (
      overlap,
      record {
        is = a.1;
        sound = sound;
        folder = written.folder;
        read = subst (λ (f : Folder). IsOverlapFile f ov overlap) (sym written.folder) (held_there overlap_kind m ov (file_of (overlap_document overlap)) overlap content);
      },
    )

-- after the first command: the overlap file is that of the two meshes
pub after_overlap : (m n : Folder) (words : List (List ℕ)) (a b ov : List ℕ) (workers : ℕ) (source target : RawMesh) → HoldsMeshes m a b source target → AsksOverlap words a b ov workers → IsDone words m n
    → (overlap : OverlapParts) × WroteOverlap m n ov source target overlap
after_overlap m n words a b ov workers source target held asks d =
    let outcome = subst (λ (chosen : Option Chosen). IsOutcome chosen (Some m) d.outcome) asks.chosen d.is in
    let first = goes_on mesh_words mesh_law m a source (λ s. AfterFile mesh_words (Some m) b (λ t. IsOutcomeOfPair s t ov (Some m))) d.outcome held.source_file outcome in
    let second = goes_on mesh_words mesh_law m b target (λ t. IsOutcomeOfPair source t ov (Some m)) d.outcome held.target_file first in
    wrote m n ov source target d.outcome (accepted_file m a source held.source_file) (accepted_file m b target held.target_file) second d.done d.folder

-- the meshes are still there
pub meshes_stay : (m n : Folder) (a b ov bytes : List ℕ) (source target : RawMesh) → HoldsMeshes m a b source target → ov ≢ a → ov ≢ b → n ≡ with_file m ov bytes → HoldsMeshes n a b source target
meshes_stay m n a b ov bytes source target held not_a not_b e =
    subst (λ (f : Folder). HoldsMeshes f a b source target) (sym e)
    (record { source_file = stays mesh_kind m ov bytes a source (λ h. not_a (sym h)) held.source_file; target_file = stays mesh_kind m ov bytes b target (λ h. not_b (sym h)) held.target_file })

-- a fault of the map of its overlap is a target face without a row
pub own_fault : (source target : RawMesh) (overlap : OverlapParts) (fault : MapFault) → IsOverlapOf source target overlap → IsMapFaultOf source target overlap fault → status_of_map_fault fault ≡ Uncovered
own_fault source target overlap (CountsA in_file of_mesh) is h = absurd (no_counts_a source target overlap in_file of_mesh is h)
own_fault source target overlap (CountsB in_file of_mesh) is h = absurd (no_counts_b source target overlap in_file of_mesh is h)
own_fault source target overlap (Row r) is h = absurd (no_row source target overlap r is h)
own_fault source target overlap (WithoutRow j) is h = refl
own_fault source target overlap NoMapMemory is h = absurd h

-- the map is never too long, so that it is written
map_written : (n : Folder) (source target : RawMesh) (overlap : OverlapParts) (text name : List ℕ) (o : Outcome) → IsOverlapOf source target overlap → IsSoundMap (map_of overlap)
    → IsOutcomeOfDocument (map_document (map_of overlap)) text name (Some n) o → MakesMap source target name o
map_written n source target overlap text name o is sound (inl a) = absurd (omega (arith, a.0, short_map_file (map_of overlap) sound))
map_written n source target overlap text name o is sound (inr a) =
    let bytes = file_of (map_document (map_of overlap)) in
    let done : o.status ≡ Done = ap (λ (x : Outcome). x.status) a.1 in
    let folder : o.folder ≡ Some (with_file n name bytes) = ap (λ (x : Outcome). x.folder) a.1 in
    inl (
      done,
      (
        with_file n name bytes,
        (
          overlap,
          folder,
          record {
            overlap = is;
            bytes = file_at-same n name bytes;
            read = held_there map_kind n name bytes (map_of overlap) (map_content (map_of overlap) sound a.0);
          },
        ),
      ),
    )

made : (n : Folder) (source target : RawMesh) (overlap : OverlapParts) (ov name : List ℕ) (o : Outcome) → IsOverlapOf source target overlap → IsSoundOverlap overlap → IsOutcomeOfMap source target overlap ov name (Some n) o → MakesMap source target name o
made n source target overlap ov name o is sound (inl a) = inr (ap (λ (x : Outcome). x.status) a.2 ∙ own_fault source target overlap a.0 is a.1)
made n source target overlap ov name o is sound (inr a) = map_written n source target overlap _ name o is (map_is_sound overlap sound a.0.covered) a.1

-- what is left of the second command over a folder with the overlap file of the two meshes
pub of_map_after : (n : Folder) (next : List (List ℕ)) (a b ov name : List ℕ) (source target : RawMesh) (overlap : OverlapParts) (o : Outcome) → HoldsMeshes n a b source target → IsOverlapFile n ov overlap
    → options_of next ≡ Some (OfflineMap a b ov name) → IsOutcome (options_of next) (Some n) o → IsOutcomeOfMap source target overlap ov name (Some n) o
of_map_after n next a b ov name source target overlap o held read asks outcome =
    let of_map = λ (s t : RawMesh) (x : OverlapParts). IsOutcomeOfMap s t x ov name (Some n) in
    let all = subst (λ (chosen : Option Chosen). IsOutcome chosen (Some n) o) asks outcome in
    let first = goes_on mesh_words mesh_law n a source (λ s. AfterFile mesh_words (Some n) b (λ t. AfterFile overlap_words (Some n) ov (of_map s t))) o held.source_file all in
    let second = goes_on mesh_words mesh_law n b target (λ t. AfterFile overlap_words (Some n) ov (of_map source t)) o held.target_file first in
    goes_on overlap_words overlap_law n ov overlap (of_map source target) o read second

pub map_after_overlap : MapAfterOverlap
map_after_overlap m n words next a b ov name workers source target outcome held asks d chosen is =
    let (overlap, wrote) = after_overlap m n words a b ov workers source target held asks d in
    let there = meshes_stay m n a b ov (file_of (overlap_document overlap)) source target held asks.not_source asks.not_target wrote.folder in
    made n source target overlap ov name outcome wrote.is wrote.sound (of_map_after n next a b ov name source target overlap outcome there wrote.read chosen is)
