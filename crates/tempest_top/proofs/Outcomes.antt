-- A command has at most one outcome, and which outcomes there are.
use Rattle.std.proofs.Common.{◌≡◌, ◌∙◌, ℕ, ℤ, List, length, true, Option, Some, None, refl, sym, ap, subst, inl, inr, arith, ◌-◌, ◌<◌, Bool, false, Result, Ok, Err, IsSomeAnd}
use Rattle.std.specs.Prelude.{IfSome}
use Rattle.std.proofs.lemmas.Bool.{cases_lt}
use Rattle.vec_exact.specs.declared.RawMesh.{RawMesh}
use Rattle.remap_io.specs.Folder.{Folder}
use Rattle.nc_write.specs.declared.NcDoc.{NcDoc}
use Rattle.mesh_check.specs.declared.faults.MeshFault.{MeshFault}
use Rattle.mesh_check.specs.Mesh.{IsAcceptedMesh}
use Rattle.mesh_check.proofs.FirstFaults.{same_first_fault, no_first_fault}
use Rattle.remap_load.specs.declared.refusal.FileRefusal.{FileRefusal}
use Rattle.remap_load.proofs.Contents.{IsLawful, one_content, one_refusal, not_both}
use Rattle.mesh_load.proofs.OneMesh.{mesh_law}
use Rattle.clip.specs.Overlaps.{OverlapParts}
use Rattle.remap_files.specs.OverlapDocument.{overlap_document}
use Rattle.offline_map.specs.declared.faults.MapFault.{MapFault}
use Rattle.offline_map.proofs.FirstFaults.{same_map_fault, no_map_fault}
use Rattle.overlap_load.proofs.OneOverlap.{overlap_law}
use Rattle.map_rows.specs.Maps.{MapParts}
use Rattle.map_load.proofs.OneMap.{map_law}
use Rattle.apply_map.specs.Values.{HasNoneBefore, IsFirstAt}
use Rattle.field_files.specs.declared.FieldVar.{FieldVar}
use Rattle.field_files.specs.declared.NoFit.{NoFit}
use Rattle.field_files.specs.FieldShapes.{field_over}
use Rattle.data_load.specs.declared.DataVar.{DataVar}
use Rattle.data_load.proofs.OneData.{data_law}
use Rattle.gen_ico.proofs.One.{one_made as one_icosahedral}
use Rattle.cover_check.specs.declared.counting.CoverCount.{CoverCount}
use Rattle.cover_check.proofs.OneCount.{one_cover_count}
use Rattle.mesh_partition.specs.declared.reporting.MeshReport.{MeshReport}
use Rattle.mesh_partition.proofs.OneReport.{one_mesh_report}
use Rattle.remap_chain.specs.declared.whole.ChainOut.{ChainOut}
use Rattle.remap_chain.specs.declared.faults.ChainFault.TheVariants as of_chain
use Rattle.remap_chain.proofs.OnePair.{one_count, one_overlap, count_of_overlap}
use Rattle.remap_chain.proofs.OneField.{same_chain, same_fault, no_fault}
use Rattle.command_line.specs.declared.choices.Chosen.{Chosen}
use Rattle.command_line.specs.declared.choices.Chosen.TheVariants.{Cs, Rll, Ico, Overlap, OfflineMap, Apply, SelfRun, Coverage, Check}
use Rattle.fault_lines.specs.declared.status.Status.TheVariants.{Uncovered, Limit, Field}
use Rattle.tempest_top.specs.Texts.{pieces_text, coverage_text, report_text}
use Rattle.tempest_top.specs.SelfRuns.{values_of_faces, chain_text}
use Rattle.fault_lines.specs.Faults.{FileWords, status_of, text_of, mesh_words, too_many_pieces_text}
use Rattle.fault_lines.specs.RowFaults.{status_of_map_fault, map_fault_text, uncovered_text}
use Rattle.tempest_top.specs.MapFaults.{overlap_words}
use Rattle.tempest_top.specs.Outcome.{Outcome, IsOutcome, IsOutcomeOfMade, IsOutcomeOfDocument, IsOutcomeOfPair, IsOutcomeOfMap, IsOutcomeOfCoverage, IsOutcomeOfReport, IsOutcomeOfChain, IsOutcomeOfSelfRun, AfterFile, text_alone, refusal, fault_of_made, mesh_written, is_usage, usage, IsOutcomeOfPlain, IsOutcomeOfFit, IsOutcomeOfField}
use Rattle.tempest_top.specs.FieldFaults.{map_words, data_words, fill_text}

-- what two outcomes are equal to
same : (o p q : Outcome) → o ≡ q → p ≡ q → o ≡ p
same o p q e f = e ∙ sym f

-- a mesh that was made has one outcome
one_made : (raw : RawMesh) (file : List ℕ) (m : Option Folder) (o p : Outcome) → IsOutcomeOfMade raw file m o → IsOutcomeOfMade raw file m p → o ≡ p
one_made raw file m o p (inl a) (inl b) = a.2 ∙ ap (λ (fault : MeshFault). fault_of_made fault m) (same_first_fault raw a.0 b.0 a.1 b.1) ∙ sym b.2
one_made raw file m o p (inl a) (inr b) = absurd (b.0 a.0 a.1)
one_made raw file m o p (inr a) (inl b) = absurd (a.0 b.0 b.1)
one_made raw file m o p (inr a) (inr b) = same o p _ a.1 b.1

-- and so has a document
one_document : (doc : NcDoc) (text file : List ℕ) (m : Option Folder) (o p : Outcome) → IsOutcomeOfDocument doc text file m o → IsOutcomeOfDocument doc text file m p → o ≡ p
one_document doc text file m o p (inl a) (inl b) = same o p _ a.1 b.1
one_document doc text file m o p (inl a) (inr b) = absurd (omega (arith, a.0, b.0))
one_document doc text file m o p (inr a) (inl b) = absurd (omega (arith, a.0, b.0))
one_document doc text file m o p (inr a) (inr b) = same o p _ a.1 b.1

-- what becomes of an overlap
abbrev of_overlap : List ℕ → Option Folder → Outcome → OverlapParts → Type 0
of_overlap file m o overlap = IsOutcomeOfDocument (overlap_document overlap) (pieces_text (length overlap.pieces)) file m o

-- and so have two meshes
one_pair : (source target : RawMesh) (file : List ℕ) (m : Option Folder) (o p : Outcome) → IsOutcomeOfPair source target file m o → IsOutcomeOfPair source target file m p → o ≡ p
one_pair source target file m o p (inl a) (inl b) = a.3 ∙ ap (λ (n : ℕ). refusal Limit (too_many_pieces_text n) m) (one_count source target a.0 b.0 a.1 b.1) ∙ sym b.3
one_pair source target file m o p (inl a) (inr b) = absurd (omega (arith, a.2, b.2, count_of_overlap source target b.0 a.0 b.1 a.1))
one_pair source target file m o p (inr a) (inl b) = absurd (omega (arith, a.2, b.2, count_of_overlap source target a.0 b.0 a.1 b.1))
one_pair source target file m o p (inr a) (inr b) = one_document _ _ file m o p a.3 (subst (of_overlap file m p) (one_overlap source target b.0 a.0 b.1 a.1) b.3)

-- and so has an overlap of two meshes whose map is asked for
one_map : (source target : RawMesh) (overlap : OverlapParts) (ov_file file : List ℕ) (m : Option Folder) (o p : Outcome) → IsOutcomeOfMap source target overlap ov_file file m o → IsOutcomeOfMap source target overlap ov_file file m p → o ≡ p
one_map source target overlap ov_file file m o p (inl a) (inl b) =
    a.2 ∙ ap (λ (fault : MapFault). refusal (status_of_map_fault fault) (map_fault_text ov_file fault) m) (same_map_fault source target overlap a.0 b.0 a.1 b.1) ∙ sym b.2
one_map source target overlap ov_file file m o p (inl a) (inr b) = absurd (no_map_fault source target overlap a.0 b.0 a.1)
one_map source target overlap ov_file file m o p (inr a) (inl b) = absurd (no_map_fault source target overlap b.0 a.0 b.1)
one_map source target overlap ov_file file m o p (inr a) (inr b) = one_document _ _ file m o p a.1 b.1

-- and so has a variable that a map is applied to

first_below : (values : List ℤ) (x : ℤ) (p q : ℕ) → IsFirstAt values x p → IsFirstAt values x q → p < q → ⊥
first_below values x p q a b lt = b.before (p - 1) (omega (arith, a.least)) a.here

one_first : (values : List ℤ) (x : ℤ) (p q : ℕ) → IsFirstAt values x p → IsFirstAt values x q → p ≡ q
one_first values x p q a b =
    elim (cases_lt p q) [
      | inl lt ↦ absurd (first_below values x p q a b lt)
      | inr le ↦ elim (cases_lt q p) [ inl lt ↦ absurd (first_below values x q p b a lt) | inr also ↦ omega arith ]
    ]

no_first : (values : List ℤ) (x : ℤ) (p : ℕ) → HasNoneBefore values x (length values) → IsFirstAt values x p → ⊥
no_first values x p none a = none (p - 1) (omega (arith, a.least, a.greatest)) a.here

one_filled : (fill : Option ℤ) (values : List ℤ) (p q : ℕ) → IsSomeAnd fill (λ x. IsFirstAt values x p) → IsSomeAnd fill (λ x. IsFirstAt values x q) → p ≡ q
one_filled None values p q a b = absurd a
one_filled (Some x) values p q a b = one_first values x p q a b

no_filled : (fill : Option ℤ) (values : List ℤ) (p : ℕ) → IfSome fill (λ x. HasNoneBefore values x (length values)) → IsSomeAnd fill (λ x. IsFirstAt values x p) → ⊥
no_filled None values p none a = a
no_filled (Some x) values p none a = no_first values x p none a

one_plain : (map : MapParts) (found : DataVar) (field : FieldVar) (in_data file : List ℕ) (m : Option Folder) (o p : Outcome) → IsOutcomeOfPlain map found field in_data file m o → IsOutcomeOfPlain map found field in_data file m p → o ≡ p
one_plain map found field in_data file m o p (inl a) (inl b) =
    a.2 ∙ ap (λ (place : ℕ). refusal Field (fill_text in_data place) m) (one_filled found.fill found.values a.0 b.0 a.1 b.1) ∙ sym b.2
one_plain map found field in_data file m o p (inl a) (inr b) = absurd (no_filled found.fill found.values a.0 b.0 a.1)
one_plain map found field in_data file m o p (inr a) (inl b) = absurd (no_filled found.fill found.values b.0 a.0 b.1)
one_plain map found field in_data file m o p (inr a) (inr b) = one_document _ _ file m o p a.1 b.1

one_fit : (fit : Result FieldVar NoFit) (masked : Bool) (map : MapParts) (found : DataVar) (in_data file : List ℕ) (m : Option Folder) (o p : Outcome) → IsOutcomeOfFit fit masked map found in_data file m o → IsOutcomeOfFit fit masked map found in_data file m p → o ≡ p
one_fit (Err no_fit) masked map found in_data file m o p a b = same o p _ a b
one_fit (Ok field) true map found in_data file m o p a b = one_document _ _ file m o p a b
one_fit (Ok field) false map found in_data file m o p a b = one_plain map found field in_data file m o p a b

-- what a mesh covers of another is told in one way
one_coverage : (source target : RawMesh) (m : Option Folder) (o p : Outcome) → IsOutcomeOfCoverage source target m o → IsOutcomeOfCoverage source target m p → o ≡ p
one_coverage source target m o p a b =
    a.2 ∙ ap (λ (count : CoverCount). text_alone (coverage_text (length target.faces) count) m) (one_cover_count source target a.0 b.0 a.1 b.1) ∙ sym b.2

-- and so is what there is to tell of a mesh
one_report : (mesh : RawMesh) (m : Option Folder) (o p : Outcome) → IsOutcomeOfReport mesh m o → IsOutcomeOfReport mesh m p → o ≡ p
one_report mesh m o p (inl a) (inl b) = a.3 ∙ ap (λ (n : ℕ). refusal Limit (too_many_pieces_text n) m) (one_count mesh mesh a.0 b.0 a.1 b.1) ∙ sym b.3
one_report mesh m o p (inl a) (inr b) = absurd (omega (arith, a.2, b.0 a.0 a.1))
one_report mesh m o p (inr a) (inl b) = absurd (omega (arith, b.2, a.0 b.0 b.1))
one_report mesh m o p (inr a) (inr b) =
    let (r, is, e) = a.1 in
    let (s, right, f) = b.1 in
    e ∙ ap (λ (report : MeshReport). text_alone (report_text (length mesh.faces) report) m) (one_mesh_report mesh r s is right) ∙ sym f

-- and so has the whole chain
one_chain : (source target : RawMesh) (values : List ℤ) (m : Option Folder) (o p : Outcome) → IsOutcomeOfChain source target values m o → IsOutcomeOfChain source target values m p → o ≡ p
one_chain source target values m o p (inl a) (inl b) = a.2 ∙ ap (λ (n : ℕ). refusal Limit (too_many_pieces_text n) m) (one_count source target a.0 b.0 a.1.0 b.1.0) ∙ sym b.2
one_chain source target values m o p (inl a) (inr (inl b)) = absurd (let e = same_fault source target values (of_chain.TooManyPieces a.0) (of_chain.Uncovered b.0) a.1 b.1 in cc)
one_chain source target values m o p (inl a) (inr (inr b)) = absurd (no_fault source target values b.0 (of_chain.TooManyPieces a.0) b.1 a.1)
one_chain source target values m o p (inr (inl a)) (inl b) = absurd (let e = same_fault source target values (of_chain.Uncovered a.0) (of_chain.TooManyPieces b.0) a.1 b.1 in cc)
one_chain source target values m o p (inr (inl a)) (inr (inl b)) =
    let same_face : a.0 ≡ b.0 = let e = same_fault source target values (of_chain.Uncovered a.0) (of_chain.Uncovered b.0) a.1 b.1 in cc in
    a.2 ∙ ap (λ (j : ℕ). refusal Uncovered (uncovered_text j) m) same_face ∙ sym b.2
one_chain source target values m o p (inr (inl a)) (inr (inr b)) = absurd (no_fault source target values b.0 (of_chain.Uncovered a.0) b.1 a.1)
one_chain source target values m o p (inr (inr a)) (inl b) = absurd (no_fault source target values a.0 (of_chain.TooManyPieces b.0) a.1 b.1)
one_chain source target values m o p (inr (inr a)) (inr (inl b)) = absurd (no_fault source target values a.0 (of_chain.Uncovered b.0) a.1 b.1)
one_chain source target values m o p (inr (inr a)) (inr (inr b)) = a.2 ∙ ap (λ (out : ChainOut). text_alone (chain_text source target values out) m) (same_chain source target values a.0 b.0 a.1 b.1) ∙ sym b.2

one_self_run : (source target : RawMesh) (m : Option Folder) (o p : Outcome) → IsOutcomeOfSelfRun source target m o → IsOutcomeOfSelfRun source target m p → o ≡ p
one_self_run source target m o p (inl a) (inl b) = a.2 ∙ ap (λ (fault : MeshFault). fault_of_made fault m) (same_first_fault target a.0 b.0 a.1 b.1) ∙ sym b.2
one_self_run source target m o p (inl a) (inr b) = absurd (b.0 a.0 a.1)
one_self_run source target m o p (inr a) (inl b) = absurd (a.0 b.0 b.1)
one_self_run source target m o p (inr a) (inr b) = one_chain source target (values_of_faces (length source.faces)) m o p a.1 b.1

-- and so has what follows a file, where what follows its content has
pub one_after : {A C : Type 0} (words : FileWords A C) → IsLawful words.kind → (m : Option Folder) (file : List ℕ) (next : A → Outcome → Type 0) → ((content : A) (o p : Outcome) → next content o → next content p → o ≡ p)
    → (o p : Outcome) → AfterFile words m file next o → AfterFile words m file next p → o ≡ p
one_after words law None file next one o p a b = absurd a
one_after {C = C} words law (Some m) file next one o p (inl a) (inl b) =
    a.2 ∙ ap (λ (why : FileRefusal C). refusal (status_of words why) (text_of words file why) (Some m)) (one_refusal words.kind law m file a.0 b.0 a.1 b.1) ∙ sym b.2
one_after words law (Some m) file next one o p (inl a) (inr b) = absurd (not_both words.kind law m file b.0 a.0 b.1 a.1)
one_after words law (Some m) file next one o p (inr a) (inl b) = absurd (not_both words.kind law m file a.0 b.0 a.1 b.1)
one_after {A = A} words law (Some m) file next one o p (inr a) (inr b) = one a.0 o p a.2 (subst (λ (content : A). next content p) (one_content words.kind law m file b.0 a.0 b.1 a.1) b.2)

pub one_outcome : (chosen : Option Chosen) (m : Option Folder) (o p : Outcome) → IsOutcome chosen m o → IsOutcome chosen m p → o ≡ p
one_outcome None m o p e f = same o p _ e f
one_outcome (Some (Cs res file)) m o p e f = same o p _ e f
one_outcome (Some (Rll lon lat file)) m o p e f = one_made _ file m o p e f
one_outcome (Some (Ico res dual file)) m o p e f = one_made e.0 file m o p e.2 (subst (λ (raw : RawMesh). IsOutcomeOfMade raw file m p) (one_icosahedral res dual f.0 e.0 f.1 e.1) f.2)
one_outcome (Some (Overlap a b out workers)) m o p e f =
    one_after mesh_words mesh_law m a (λ source. AfterFile mesh_words m b (λ target. IsOutcomeOfPair source target out m))
    (λ source. one_after mesh_words mesh_law m b (λ target. IsOutcomeOfPair source target out m) (λ target. one_pair source target out m)) o p e f
one_outcome (Some (OfflineMap in_mesh out_mesh ov_mesh out_map)) m o p e f =
    let of_map = λ (source target : RawMesh) (overlap : OverlapParts). IsOutcomeOfMap source target overlap ov_mesh out_map m in
    one_after mesh_words mesh_law m in_mesh (λ source. AfterFile mesh_words m out_mesh (λ target. AfterFile overlap_words m ov_mesh (of_map source target)))
    (λ source.
    one_after mesh_words mesh_law m out_mesh (λ target. AfterFile overlap_words m ov_mesh (of_map source target))
    (λ target. one_after overlap_words overlap_law m ov_mesh (of_map source target) (λ overlap. one_map source target overlap ov_mesh out_map m)))
    o p e f
one_outcome (Some (Apply map var in_data out_data masked)) m o p e f =
    let of_field = λ (parts : MapParts) (found : DataVar). IsOutcomeOfField masked parts found in_data out_data m in
    one_after map_words map_law m map (λ parts. AfterFile (data_words var) m in_data (of_field parts))
    (λ parts. one_after (data_words var) (data_law var) m in_data (of_field parts) (λ found. one_fit (field_over found.file found.var parts.n_a) masked parts found in_data out_data m))
    o p e f
one_outcome (Some (SelfRun n workers)) m o p e f = one_self_run _ _ m o p e f
one_outcome (Some (Coverage a b)) m o p e f =
    one_after mesh_words mesh_law m a (λ source. AfterFile mesh_words m b (λ target. IsOutcomeOfCoverage source target m))
    (λ source. one_after mesh_words mesh_law m b (λ target. IsOutcomeOfCoverage source target m) (λ target. one_coverage source target m)) o p e f
one_outcome (Some (Check file workers)) m o p e f = one_after mesh_words mesh_law m file (λ mesh. IsOutcomeOfReport mesh m) (λ mesh. one_report mesh m) o p e f

-- a mesh that is accepted is written
pub accepted_made : (raw : RawMesh) (file : List ℕ) (m : Option Folder) → IsAcceptedMesh raw → IsOutcomeOfMade raw file m (mesh_written raw file m)
accepted_made raw file m accepted = inr ((λ fault first. no_first_fault raw fault accepted first), refl)

-- the outcome of words that are out of the grammar
pub usage_outcome : (chosen : Option Chosen) (m : Option Folder) → is_usage chosen ≡ true → IsOutcome chosen m (usage m)
usage_outcome None m h = refl
usage_outcome (Some (Cs res file)) m h = cc
usage_outcome (Some (Rll lon lat file)) m h = absurd cc
usage_outcome (Some (Ico res dual file)) m h = absurd cc
usage_outcome (Some (Overlap a b out workers)) m h = absurd cc
usage_outcome (Some (OfflineMap in_mesh out_mesh ov_mesh out_map)) m h = absurd cc
usage_outcome (Some (Apply map var in_data out_data masked)) m h = absurd cc
usage_outcome (Some (SelfRun n workers)) m h = absurd cc
usage_outcome (Some (Coverage a b)) m h = absurd cc
usage_outcome (Some (Check file workers)) m h = absurd cc
