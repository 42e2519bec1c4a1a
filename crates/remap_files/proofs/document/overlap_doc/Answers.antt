use Rattle.std.proofs.Common.{◌≡◌, ◌∙◌, ap, sym, subst, length, Ok}
use Rattle.nc_write.specs.File.{file_of}
use Rattle.nc_write.specs.Form.{IsWellFormed}
use Rattle.nc_write.specs.declared.NcDoc.{NcDoc}
use Rattle.nc_format.specs.declared.NcFile.{NcFile}
use Rattle.nc_format.specs.Header.{IsHeader}
use Rattle.clip.specs.declared.columns.Columns.{Columns}
use Rattle.clip.specs.Columns.{AreColumnsOf}
use Rattle.clip.specs.Overlaps.{OverlapParts, IsSoundOverlap}
use Rattle.remap_files.specs.InColumns.{IsInColumns}
use Rattle.remap_files.specs.OverlapIn.{overlap_in}
use Rattle.remap_files.proofs.OverlapAgain.{read_again}
use Rattle.remap_files.proofs.OverlapLength.{length_overlap_file, overlap_document_form}
use Rattle.remap_files.proofs.document.overlap_doc.Goals as goal

in_columns : (o opened : OverlapParts) (columns : Columns) → opened ≡ o → IsSoundOverlap o → AreColumnsOf o.pieces columns → IsInColumns o opened.faces_a opened.faces_b columns
in_columns o opened columns same sound pieces = record { sound = sound; source_faces = sym (ap (λ (p : OverlapParts). p.faces_a) same); target_faces = sym (ap (λ (p : OverlapParts). p.faces_b) same); pieces = pieces }

pub document_of-requires : goal.document_of-requires
document_of-requires c =
    let o = c.args.overlap.now in
    record { held = (o, in_columns o _ c.in_ok-columns.columns c.overlap.view_is c.columns_of.ensures.kept c.in_ok-columns.ensures.columns) }

pub returns-clause-document : goal.returns-clause-document
returns-clause-document c =
    let o = c.args.overlap.now in
    c.in_ok-doc.ensures o (in_columns o _ c.in_ok-columns.columns c.overlap.view_is c.columns_of.ensures.kept c.in_ok-columns.ensures.columns)

pub returns-clause-well_formed : goal.returns-clause-well_formed
returns-clause-well_formed c =
    let o = c.args.overlap.now in
    let is = c.in_ok-doc.ensures o (in_columns o _ c.in_ok-columns.columns c.overlap.view_is c.columns_of.ensures.kept c.in_ok-columns.ensures.columns) in
    subst IsWellFormed (sym is) (overlap_document_form o c.columns_of.ensures.kept)

pub returns-clause-file_length : goal.returns-clause-file_length
returns-clause-file_length c =
    let o = c.args.overlap.now in
    let is = c.in_ok-doc.ensures o (in_columns o _ c.in_ok-columns.columns c.overlap.view_is c.columns_of.ensures.kept c.in_ok-columns.ensures.columns) in
    ap (λ doc. length (file_of doc)) is ∙ length_overlap_file o c.columns_of.ensures.kept

pub returns-clause-read_again : goal.returns-clause-read_again
returns-clause-read_again c =
    let o = c.args.overlap.now in
    let is = c.in_ok-doc.ensures o (in_columns o _ c.in_ok-columns.columns c.overlap.view_is c.columns_of.ensures.kept c.in_ok-columns.ensures.columns) in
    subst (λ (doc : NcDoc). (f : NcFile) → IsHeader (file_of doc) (length (file_of doc)) f → overlap_in f (file_of doc) ≡ Ok o) (sym is)
    (λ f h. read_again o f c.columns_of.ensures.kept c.in_ok-columns.ensures.typed h)
