-- What the end of the command that carries a field over comes to.
use Rattle.std.proofs.Common.{◌≡◌, ◌<◌, ◌≤◌, ℕ, List, [], length, Bool, true, false, Some, Result, Ok, Err, refl, sym, ap, ap₂, subst, inl, inr}
use Rattle.map_rows.specs.Maps.{MapParts}
use Rattle.nc_write.specs.File.{file_of}
use Rattle.nc_write.specs.declared.NcDoc.{NcDoc}
use Rattle.field_files.specs.declared.FieldVar.{FieldVar}
use Rattle.field_files.specs.declared.NoFit.{NoFit}
use Rattle.field_files.specs.FieldShapes.{field_over}
use Rattle.data_load.specs.declared.DataVar.{DataVar}
use Rattle.fault_lines.specs.declared.status.Status.{Status}
use Rattle.fault_lines.specs.declared.status.Status.TheVariants.{Field, Limit}
use Rattle.tempest_top.specs.Scene.{Scene}
use Rattle.fault_lines.specs.Lines.{PutsText}
use Rattle.fault_lines.specs.Faults.{length_text}
use Rattle.tempest_top.specs.FieldFaults.{no_fit_text, fill_text}
use Rattle.tempest_top.specs.Fields.{IsFilledAt, HasNoFill, plain_document, plain_text, masked_document, masked_text}
use Rattle.tempest_top.specs.Outcome.{IsOutcomeOfDocument, IsOutcomeOfPlain, IsOutcomeOfMasked, IsOutcomeOfFit, IsOutcomeOfField, refusal, written}
use Rattle.tempest_top.specs.Promises.{IsFieldText}
use Rattle.tempest_top.specs.Ends.{written_name, Ends, Comes}
use Rattle.tempest_top.proofs.Coming.{comes_own, comes_done, comes_as}

-- The document of a field.

-- its file would be too long
pub comes_too_long : (in_data : List ℕ) (doc : NcDoc) (text file : List ℕ) (before after : Scene) (n : ℕ) (status : Status) → n ≡ length (file_of doc) → 2147483647 < n → after.files ≡ before.files → after.out ≡ before.out
    → status ≡ Limit → PutsText before.err after.err (length_text file n) → Comes [] (IsFieldText in_data file) (Some file) (IsOutcomeOfDocument doc text file) before after status
comes_too_long in_data doc text file before after n status same long files out is put =
    comes_own [] (IsFieldText in_data file) (Some file) (IsOutcomeOfDocument doc text file) before after (length_text file n) Limit status
    (inl (subst (λ (k : ℕ). 2147483647 < k) same long, ap (λ (k : ℕ). refusal Limit (length_text file k) before.files.folder) same)) (inr (refl, (n, long, refl))) tt (λ e. cc) files out is put

-- it is written
pub comes_put : (in_data : List ℕ) (doc : NcDoc) (text file : List ℕ) (before after : Scene) (bytes put : List ℕ) (status : Status) → length (file_of doc) ≤ 2147483647 → bytes ≡ file_of doc → put ≡ text
    → after.files.taken ≡ before.files.taken → Ends (written (record { name = file; bytes = bytes }) put before.files.folder) before after status
    → Comes [] (IsFieldText in_data file) (Some file) (IsOutcomeOfDocument doc text file) before after status
comes_put in_data doc text file before after bytes put status short same same_text taken ends =
    comes_done (IsFieldText in_data file) (Some file) (IsOutcomeOfDocument doc text file) before after (written (record { name = file; bytes = bytes }) put before.files.folder) status
    (inr (short, ap₂ (λ (b t : List ℕ). written (record { name = file; bytes = b }) t before.files.folder) same same_text)) refl (λ f e. ap written_name e) taken ends

-- Without a mask.

-- a value is the fill value
pub comes_filled : (map : MapParts) (found : DataVar) (field : FieldVar) (in_data file : List ℕ) (before after : Scene) (place : ℕ) (status : Status) → IsFilledAt found place → after.files ≡ before.files → after.out ≡ before.out
    → status ≡ Field → PutsText before.err after.err (fill_text in_data place) → Comes [] (IsFieldText in_data file) (Some file) (IsOutcomeOfPlain map found field in_data file) before after status
comes_filled map found field in_data file before after place status filled files out is put =
    comes_own [] (IsFieldText in_data file) (Some file) (IsOutcomeOfPlain map found field in_data file) before after (fill_text in_data place) Field status
    (inl (place, filled, refl)) (inl (refl, inr (place, refl))) tt (λ e. cc) files out is put

-- a field was made, with this document and this text
abbrev Written : List ℕ → List ℕ → Scene → Scene → Status → NcDoc → List ℕ → Type 0
Written in_data file before after status doc text = Comes [] (IsFieldText in_data file) (Some file) (IsOutcomeOfDocument doc text file) before after status

as_made : (in_data file : List ℕ) (before after : Scene) (status : Status) (doc made : NcDoc) (text put : List ℕ) → doc ≡ made → text ≡ put → Written in_data file before after status doc text → Written in_data file before after status made put
as_made in_data file before after status doc made text put same also comes = subst (Written in_data file before after status made) also (subst (λ (d : NcDoc). Written in_data file before after status d text) same comes)

pub comes_plain : (map : MapParts) (found : DataVar) (field : FieldVar) (in_data file : List ℕ) (before after : Scene) (status : Status) (doc : NcDoc) (text : List ℕ) → HasNoFill found → doc ≡ plain_document map found field → text ≡ plain_text map found field
    → Written in_data file before after status doc text → Comes [] (IsFieldText in_data file) (Some file) (IsOutcomeOfPlain map found field in_data file) before after status
comes_plain map found field in_data file before after status doc text none same also comes =
    comes_as [] (IsFieldText in_data file) (Some file) (IsOutcomeOfDocument (plain_document map found field) (plain_text map found field) file) (IsOutcomeOfPlain map found field in_data file) before after status (λ o h. inr (none, h))
    (as_made in_data file before after status doc (plain_document map found field) text (plain_text map found field) same also comes)

-- the map was made ready
pub comes_of_ready : (map ready : MapParts) (found : DataVar) (field : FieldVar) (in_data file : List ℕ) (before after : Scene) (status : Status) → ready ≡ map
    → Comes [] (IsFieldText in_data file) (Some file) (IsOutcomeOfPlain ready found field in_data file) before after status → Comes [] (IsFieldText in_data file) (Some file) (IsOutcomeOfPlain map found field in_data file) before after status
comes_of_ready map ready found field in_data file before after status same comes =
    subst (λ (m : MapParts). Comes [] (IsFieldText in_data file) (Some file) (IsOutcomeOfPlain m found field in_data file) before after status) same comes

-- With a mask.

pub comes_masked : (map : MapParts) (found : DataVar) (field : FieldVar) (in_data file : List ℕ) (before after : Scene) (status : Status) (doc : NcDoc) (text : List ℕ) → doc ≡ masked_document map found field → text ≡ masked_text map found field
    → Written in_data file before after status doc text → Comes [] (IsFieldText in_data file) (Some file) (IsOutcomeOfMasked map found field file) before after status
comes_masked map found field in_data file before after status doc text same also comes =
    as_made in_data file before after status doc (masked_document map found field) text (masked_text map found field) same also comes

-- By how the variable lies over the map.

abbrev Fitted : Bool → MapParts → DataVar → List ℕ → List ℕ → Scene → Scene → Status → Result FieldVar NoFit → Type 0
Fitted masked map found in_data file before after status fit = Comes [] (IsFieldText in_data file) (Some file) (IsOutcomeOfFit fit masked map found in_data file) before after status

pub comes_no_fit : (masked : Bool) (map : MapParts) (found : DataVar) (no_fit : NoFit) (in_data file : List ℕ) (before after : Scene) (status : Status) → Err no_fit ≡ field_over found.file found.var map.n_a → after.files ≡ before.files → after.out ≡ before.out
    → status ≡ Field → PutsText before.err after.err (no_fit_text in_data no_fit.last_len map.n_a) → Comes [] (IsFieldText in_data file) (Some file) (IsOutcomeOfField masked map found in_data file) before after status
comes_no_fit masked map found no_fit in_data file before after status fit files out is put =
    subst (Fitted masked map found in_data file before after status) fit
    (comes_own [] (IsFieldText in_data file) (Some file) (IsOutcomeOfFit (Err no_fit) masked map found in_data file) before after (no_fit_text in_data no_fit.last_len map.n_a) Field status
    refl (inl (refl, inl (no_fit.last_len, (map.n_a, refl)))) tt (λ e. cc) files out is put)

pub comes_fit_plain : (masked : Bool) (map : MapParts) (found : DataVar) (field : FieldVar) (in_data file : List ℕ) (before after : Scene) (status : Status) → masked ≡ false → Ok field ≡ field_over found.file found.var map.n_a
    → Comes [] (IsFieldText in_data file) (Some file) (IsOutcomeOfPlain map found field in_data file) before after status → Comes [] (IsFieldText in_data file) (Some file) (IsOutcomeOfField masked map found in_data file) before after status
comes_fit_plain masked map found field in_data file before after status is fit comes =
    subst (Fitted masked map found in_data file before after status) fit (subst (λ (b : Bool). Fitted b map found in_data file before after status (Ok field)) (sym is) comes)

pub comes_fit_masked : (masked : Bool) (map : MapParts) (found : DataVar) (field : FieldVar) (in_data file : List ℕ) (before after : Scene) (status : Status) → masked ≡ true → Ok field ≡ field_over found.file found.var map.n_a
    → Comes [] (IsFieldText in_data file) (Some file) (IsOutcomeOfMasked map found field file) before after status → Comes [] (IsFieldText in_data file) (Some file) (IsOutcomeOfField masked map found in_data file) before after status
comes_fit_masked masked map found field in_data file before after status is fit comes =
    subst (Fitted masked map found in_data file before after status) fit (subst (λ (b : Bool). Fitted b map found in_data file before after status (Ok field)) (sym is) comes)
