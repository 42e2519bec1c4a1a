-- What the end of the command that makes a map comes to.
use Rattle.std.proofs.Common.{◌≡◌, ◌≢◌, ◌∙◌, ◌≤◌, ◌+◌, ℕ, List, [], ◌∷◌, length, Some, IfSome, Result, Err, refl, ap, ap₂, subst, inl, inr, arith}
use Rattle.vec_exact.specs.declared.RawMesh.{RawMesh}
use Rattle.remap_io.specs.Outside.{FilesSeen, OnlyReads}
use Rattle.remap_load.specs.Kinds.{file_cost}
use Rattle.nc_write.specs.File.{file_of}
use Rattle.clip.specs.Overlaps.{OverlapParts}
use Rattle.map_rows.specs.Maps.{MapParts, IsSoundMap}
use Rattle.offline_map.specs.declared.faults.MapFault.{MapFault}
use Rattle.offline_map.specs.declared.faults.MapFault.TheVariants.{CountsA, CountsB, Row, Uncovered, NoMemory}
use Rattle.offline_map.specs.Maps.{map_of}
use Rattle.offline_map.specs.MapFaults.{IsMapFaultOf, IsMappable}
use Rattle.map_files.specs.MapDocument.{map_document}
use Rattle.map_files.proofs.MapLength.{length_map_file}
use Rattle.fault_lines.specs.declared.status.Status.{Status}
use Rattle.fault_lines.specs.declared.status.Status.TheVariants.{NoFile}
use Rattle.tempest_top.specs.Scene.{Scene}
use Rattle.fault_lines.specs.Lines.{PutsText}
use Rattle.tempest_top.specs.Texts.{map_text}
use Rattle.fault_lines.specs.RowFaults.{status_of_map_fault, map_fault_text, IsMapText}
use Rattle.tempest_top.specs.MapFaults.{overlap_words}
use Rattle.fault_lines.specs.Faults.{mesh_words}
use Rattle.tempest_top.specs.Inputs.{MeshFile, OverlapFile}
use Rattle.tempest_top.specs.Outcome.{IsOutcomeOfMap, written}
use Rattle.tempest_top.specs.Ends.{written_name, Ends, Comes}
use Rattle.tempest_top.specs.MapReading.{IsNoMap, UnlessRefused, status_of_no_map, no_map_text}
use Rattle.tempest_top.specs.declared.map.NoMap.{NoMap}
use Rattle.tempest_top.specs.declared.map.NoMap.TheVariants.{File, Fault}
use Rattle.tempest_top.proofs.Coming.{Goal, IsInput, IsPlain, read_scene, comes_own, comes_stopped, comes_done}
use Rattle.tempest_top.proofs.Keeping.{overlap_spoken}
use Rattle.tempest_top.proofs.ThreeFiles.{IsRead, after_all, comes_of_third, comes_of_all}

-- an overlap file as an input
pub overlap_input : (name : List ℕ) → IsInput overlap_words name (OverlapFile name)
overlap_input name = record { spoken = overlap_spoken; name_is = refl; text = λ t s h. h; good = λ m overlap h. (overlap, h); cost = λ m. refl }

-- the file of a map is never too long
pub short_map_file : (m : MapParts) → IsSoundMap m → length (file_of (map_document m)) ≤ 2147483647
short_map_file m sound = omega (arith, length_map_file m sound, sound.count, sound.source_faces.1, sound.target_faces.1)

-- the overlap has a fault as one of the two meshes, or memory ran out

plain_fault : (fault : MapFault) → fault ≢ NoMemory → IsPlain (status_of_map_fault fault) × (status_of_map_fault fault ≢ NoFile)
plain_fault (CountsA in_file of_mesh) h = (tt, λ e. cc)
plain_fault (CountsB in_file of_mesh) h = (tt, λ e. cc)
plain_fault (Row n) h = (tt, λ e. cc)
plain_fault (Uncovered n) h = (tt, λ e. cc)
plain_fault NoMemory h = absurd (h refl)

comes_fault : (source target : RawMesh) (overlap : OverlapParts) (ov_file file : List ℕ) (before after : Scene) (fault : MapFault) (status : Status) → fault ≢ NoMemory → (fault ≢ NoMemory → IsMapFaultOf source target overlap fault)
    → after.files ≡ before.files → after.out ≡ before.out → status ≡ status_of_map_fault fault → PutsText before.err after.err (map_fault_text ov_file fault)
    → Comes [] (IsMapText ov_file) (Some file) (IsOutcomeOfMap source target overlap ov_file file) before after status
comes_fault source target overlap ov_file file before after fault status some is files out answer put =
    let plain = plain_fault fault some in
    comes_own [] (IsMapText ov_file) (Some file) (IsOutcomeOfMap source target overlap ov_file file) before after (map_fault_text ov_file fault) (status_of_map_fault fault) status
    (inl (fault, is some, refl)) (fault, some, refl, refl) plain.0 plain.1 files out answer put

pub comes_unmapped : (source target : RawMesh) (overlap : OverlapParts) (ov_file file : List ℕ) (before after : Scene) (fault : MapFault) (status : Status) → (fault ≢ NoMemory → IsMapFaultOf source target overlap fault)
    → after.files ≡ before.files → after.out ≡ before.out → status ≡ status_of_map_fault fault → PutsText before.err after.err (map_fault_text ov_file fault)
    → Comes [] (IsMapText ov_file) (Some file) (IsOutcomeOfMap source target overlap ov_file file) before after status
comes_unmapped source target overlap ov_file file before after (CountsA n m) status is files out answer put = comes_fault source target overlap ov_file file before after (CountsA n m) status (λ e. cc) is files out answer put
comes_unmapped source target overlap ov_file file before after (CountsB n m) status is files out answer put = comes_fault source target overlap ov_file file before after (CountsB n m) status (λ e. cc) is files out answer put
comes_unmapped source target overlap ov_file file before after (Row n) status is files out answer put = comes_fault source target overlap ov_file file before after (Row n) status (λ e. cc) is files out answer put
comes_unmapped source target overlap ov_file file before after (Uncovered n) status is files out answer put = comes_fault source target overlap ov_file file before after (Uncovered n) status (λ e. cc) is files out answer put
comes_unmapped source target overlap ov_file file before after NoMemory status is files out answer put = comes_stopped [] (IsMapText ov_file) (Some file) (IsOutcomeOfMap source target overlap ov_file file) before after status files out answer put

-- its map is written
pub comes_mapped : (source target : RawMesh) (overlap : OverlapParts) (made : MapParts) (ov_file file : List ℕ) (before after : Scene) (bytes put : List ℕ) (status : Status) → IsMappable source target overlap → made ≡ map_of overlap
    → length (file_of (map_document made)) ≤ 2147483647 → bytes ≡ file_of (map_document made) → put ≡ map_text made → after.files.taken ≡ before.files.taken
    → Ends (written (record { name = file; bytes = bytes }) put before.files.folder) before after status → Comes [] (IsMapText ov_file) (Some file) (IsOutcomeOfMap source target overlap ov_file file) before after status
comes_mapped source target overlap made ov_file file before after bytes put status mappable is short same same_text taken ends =
    let right : length (file_of (map_document (map_of overlap))) ≤ 2147483647 = subst (λ (m : MapParts). length (file_of (map_document m)) ≤ 2147483647) is short in
    let all = ap₂ (λ (b t : List ℕ). written (record { name = file; bytes = b }) t before.files.folder) (same ∙ ap (λ (m : MapParts). file_of (map_document m)) is) (same_text ∙ ap map_text is) in
    comes_done (IsMapText ov_file) (Some file) (IsOutcomeOfMap source target overlap ov_file file) before after (written (record { name = file; bytes = bytes }) put before.files.folder) status
    (inr (mappable, inr (right, all))) refl (λ f e. ap written_name e) taken ends

-- no more was asked for than the overlap of this file costs
abbrev pub Asked : FilesSeen → FilesSeen → List ℕ → Type 0
Asked old new name = IfSome old.folder (λ m. new.taken ≤ old.taken + file_cost overlap_words.kind m name)

abbrev pub AskedUnlessRefused : FilesSeen → FilesSeen → List ℕ → NoMap → Type 0
AskedUnlessRefused old new name why = let none : Result MapParts NoMap = Err why in UnlessRefused none (Asked old new name)

-- no map was made: the overlap file is refused, or its overlap has a fault
module _ (a b ov file : List ℕ) where
  abbrev all : RawMesh → RawMesh → OverlapParts → Goal
  all source target overlap = IsOutcomeOfMap source target overlap ov file

  pub comes_of_no_map : (before : Scene) (mid last : FilesSeen) (after : Scene) (source target : RawMesh) (why : NoMap) (status : Status) → IsRead mesh_words a before.files mid source → IsRead mesh_words b mid last target
      → IsNoMap last after.files ov source target why → OnlyReads last after.files → AskedUnlessRefused last after.files ov why → after.out ≡ before.out → status ≡ status_of_no_map why → PutsText before.err after.err (no_map_text ov why)
      → Comes (MeshFile a ∷ MeshFile b ∷ OverlapFile ov ∷ []) (IsMapText ov) (Some file) (after_all overlap_words (OverlapFile ov) ov (overlap_input ov) all (IsMapText ov) (Some file) a b) before after status
  comes_of_no_map before mid last after source target (File why) status first second is reads asked out answer line =
      comes_of_third overlap_words (OverlapFile ov) ov (overlap_input ov) all (IsMapText ov) (Some file) a b before mid last after source target why status first second
      (record { refused = is; reads = reads; out = out; answer = answer; line = line })
  comes_of_no_map before mid last after source target (Fault fault) status first second is reads asked out answer line =
      comes_of_all overlap_words (OverlapFile ov) ov (overlap_input ov) all (IsMapText ov) (Some file) a b before mid last after.files after source target is.overlap status first second
      (record { holds = is.of_file; reads = reads; asked = asked })
      (comes_unmapped source target is.overlap ov file (read_scene before after.files) after fault status is.is refl out answer line)
