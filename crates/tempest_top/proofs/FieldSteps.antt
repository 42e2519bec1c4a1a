-- What the command that carries a field over comes to over the folder that the one before left.
use Rattle.std.proofs.Common.{◌≡◌, ◌≢◌, ◌∙◌, ℕ, List, Bool, true, false, Option, Some, Result, Ok, Err, IsSomeAnd, refl, sym, ap, subst, inl, inr}
use Rattle.vec_exact.specs.declared.RawMesh.{RawMesh}
use Rattle.remap_io.specs.Folder.{Folder, file_at, with_file}
use Rattle.remap_io.proofs.FolderLaws.{file_at-same, file_at-other}
use Rattle.remap_load.specs.Kinds.{HasContent, IsRefusedName}
use Rattle.nc_write.specs.File.{file_of}
use Rattle.clip.specs.Overlaps.{OverlapParts, IsSoundOverlap}
use Rattle.overlap_run.specs.Whole.{IsOverlapOf}
use Rattle.map_rows.specs.Maps.{MapParts, IsSoundMap}
use Rattle.map_rows.proofs.Masses.{equal_masses}
use Rattle.field_mask.proofs.MaskedLaws.{masked_masses}
use Rattle.offline_map.specs.Maps.{map_of}
use Rattle.offline_map.proofs.Made.{map_is_sound}
use Rattle.remap_files.specs.OverlapDocument.{overlap_document}
use Rattle.map_files.specs.MapDocument.{map_document}
use Rattle.map_load.specs.MapFile.{IsMapFile, map_kind}
use Rattle.map_load.proofs.OneMap.{map_law}
use Rattle.field_files.specs.declared.FieldVar.{FieldVar}
use Rattle.field_files.specs.declared.NoFit.{NoFit}
use Rattle.field_files.specs.FieldShapes.{field_over}
use Rattle.data_load.specs.declared.DataVar.{DataVar}
use Rattle.data_load.specs.DataFile.{data_kind}
use Rattle.command_line.specs.declared.choices.Chosen.{Chosen}
use Rattle.fault_lines.specs.declared.status.Status.TheVariants.{Done, Uncovered, Limit, Field}
use Rattle.tempest_top.specs.FieldFaults.{map_words, data_words}
use Rattle.tempest_top.specs.Outcome.{Outcome, AfterFile, IsOutcome, IsOutcomeOfMap, IsOutcomeOfDocument, IsOutcomeOfFit, IsOutcomeOfField}
use Rattle.tempest_top.specs.CommandLaws.{carried_document, carried_text, mass_before, mass_after, MakesField, CarriesField, FieldAfterMap}
use Rattle.tempest_top.proofs.OwnOverlaps.{map_content}
use Rattle.tempest_top.proofs.CommandSteps.{goes_on, held_there, done_document, own_fault, after_overlap, meshes_stay, of_map_after}

-- the map of the overlap was written, and is read again
record WroteMap (n p : Folder) (name : List ℕ) (overlap : OverlapParts) : Type 0 where
  sound : IsSoundMap (map_of overlap)
  folder : p ≡ with_file n name (file_of (map_document (map_of overlap)))
  read : IsMapFile p name (map_of overlap)

wrote_map : (n p : Folder) (source target : RawMesh) (overlap : OverlapParts) (ov name : List ℕ) (o : Outcome) → IsOverlapOf source target overlap → IsSoundOverlap overlap → IsOutcomeOfMap source target overlap ov name (Some n) o
    → o.status ≡ Done → o.folder ≡ Some p → WroteMap n p name overlap
wrote_map n p source target overlap ov name o is sound (inl a) done folder =
    absurd (let bare : o.status ≡ Uncovered = ap (λ (x : Outcome). x.status) a.2 ∙ own_fault source target overlap a.0 is a.1 in cc)
wrote_map n p source target overlap ov name o is sound (inr a) done folder =
    let m = map_of overlap in
    let kept : IsSoundMap m = map_is_sound overlap sound a.0.covered in
    let written = done_document (map_document m) _ name n p o a.1 done folder in
    let read = held_there map_kind n name (file_of (map_document m)) m (map_content m kept written.short) in
    record { sound = kept; folder = written.folder; read = subst (λ (f : Folder). IsMapFile f name m) (sym written.folder) read }

-- the data file is as it was at the start
same_data : (m n p : Folder) (ov name first second in_data : List ℕ) → n ≡ with_file m ov first → p ≡ with_file n name second → in_data ≢ ov → in_data ≢ name → file_at p in_data ≡ file_at m in_data
same_data m n p ov name first second in_data e f not_overlap not_map =
    ap (λ (x : Folder). file_at x in_data) f ∙ file_at-other n name second in_data not_map ∙ ap (λ (x : Folder). file_at x in_data) e ∙ file_at-other m ov first in_data not_overlap

same_masses : (masked : Bool) (m : MapParts) (found : DataVar) (field : FieldVar) → IsSoundMap m → mass_after masked m found field ≡ mass_before masked m found field
same_masses true m found field sound = masked_masses m field.slices found.fill found.values sound
same_masses false m found field sound = equal_masses m field.slices found.values sound

-- what becomes of the document of the field
carried : (masked : Bool) (p : Folder) (overlap : OverlapParts) (name : List ℕ) (found : DataVar) (field : FieldVar) (o : Outcome) → IsSoundMap (map_of overlap)
    → field_over found.file found.var overlap.faces_a ≡ Ok field
    → IsOutcomeOfDocument (carried_document masked (map_of overlap) found field) (carried_text masked (map_of overlap) found field) name (Some p) o → MakesField masked overlap name found o
carried masked p overlap name found field o sound lies (inl a) = let limit : o.status ≡ Limit = ap (λ (x : Outcome). x.status) a.1 in inr (inr limit)
carried masked p overlap name found field o sound lies (inr a) =
    let bytes = file_of (carried_document masked (map_of overlap) found field) in
    let done : o.status ≡ Done = ap (λ (x : Outcome). x.status) a.1 in
    let folder : o.folder ≡ Some (with_file p name bytes) = ap (λ (x : Outcome). x.folder) a.1 in
    let text : o.text ≡ carried_text masked (map_of overlap) found field = ap (λ (x : Outcome). x.text) a.1 in
    inl (
      done,
      (
        field,
        (
          with_file p name bytes,
          record {
            lies = lies;
            folder = folder;
            bytes = file_at-same p name bytes;
            text = text;
            masses = same_masses masked (map_of overlap) found field sound;
          },
        ),
      ),
    )

-- what becomes of the variable
fitted : (fit : Result FieldVar NoFit) (masked : Bool) (p : Folder) (overlap : OverlapParts) (in_data name : List ℕ) (found : DataVar) (o : Outcome) → IsSoundMap (map_of overlap)
    → field_over found.file found.var overlap.faces_a ≡ fit → IsOutcomeOfFit fit masked (map_of overlap) found in_data name (Some p) o → MakesField masked overlap name found o
fitted (Err no_fit) masked p overlap in_data name found o sound lies h = let told : o.status ≡ Field = ap (λ (x : Outcome). x.status) h in inr (inl told)
fitted (Ok field) true p overlap in_data name found o sound lies h = carried true p overlap name found field o sound lies h
fitted (Ok field) false p overlap in_data name found o sound lies (inl a) = let told : o.status ≡ Field = ap (λ (x : Outcome). x.status) a.2 in inr (inl told)
fitted (Ok field) false p overlap in_data name found o sound lies (inr a) = carried false p overlap name found field o sound lies a.1

-- what the third command comes to behind the map file
behind : (masked : Bool) (m p : Folder) (source target : RawMesh) (overlap : OverlapParts) (var in_data name : List ℕ) (o : Outcome) → IsOverlapOf source target overlap → IsSoundMap (map_of overlap) → file_at p in_data ≡ file_at m in_data
    → AfterFile (data_words var) (Some p) in_data (λ found. IsOutcomeOfField masked (map_of overlap) found in_data name (Some p)) o → CarriesField masked m p source target var in_data name o
behind masked m p source target overlap var in_data name o is sound same (inl a) =
    inl (a.0, subst (λ (file : Option (List ℕ)). IsRefusedName (data_kind var) file a.0) same a.1, ap (λ (x : Outcome). x.status) a.2)
behind masked m p source target overlap var in_data name o is sound same (inr a) =
    inr (
      a.0,
      subst (λ (file : Option (List ℕ)). IsSomeAnd file (λ b. HasContent (data_kind var) b a.0)) same a.1,
      record {
        o = overlap;
        overlap = is;
        outcome_of = a.2;
        makes = fitted (field_over a.0.file a.0.var overlap.faces_a) masked p overlap in_data name a.0 o sound refl a.2;
      },
    )

pub field_after_map : FieldAfterMap
field_after_map m n p words next last a b ov name var in_data out workers masked source target outcome held asks d chosen e asks_field is =
    let (overlap, wrote) = after_overlap m n words a b ov workers source target held asks d in
    let there = meshes_stay m n a b ov (file_of (overlap_document overlap)) source target held asks.not_source asks.not_target wrote.folder in
    let second = of_map_after n next a b ov name source target overlap e.outcome there wrote.read chosen e.is in
    let map_there = wrote_map n p source target overlap ov name e.outcome wrote.is wrote.sound second e.done e.folder in
    let same = same_data m n p ov name (file_of (overlap_document overlap)) (file_of (map_document (map_of overlap))) in_data wrote.folder map_there.folder asks_field.not_overlap asks_field.not_map in
    let all = subst (λ (c : Option Chosen). IsOutcome c (Some p) outcome) asks_field.chosen is in
    let third = goes_on map_words map_law p name (map_of overlap) (λ parts. AfterFile (data_words var) (Some p) in_data (λ found. IsOutcomeOfField masked parts found in_data out (Some p))) outcome map_there.read all in
    behind masked m p source target overlap var in_data out outcome wrote.is map_there.sound same third
